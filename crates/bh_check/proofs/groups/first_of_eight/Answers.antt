use Rattle.std.proofs.Common.{arith, ◌*◌, length, ap, ◌∙◌, subst}
use Rattle.bh_schema.specs.Digests.{AreNamed}
use Rattle.bh_check.proofs.LaneLemmas.{lanes_long}
use Rattle.bh_check.proofs.groups.first_of_eight.Goals as goal

pub digest_eight-digests-requires : goal.digest_eight-digests-requires
digest_eight-digests-requires g c =
    let size = c.lane_size-size.result in
    let all = ap length (c.deref.ensures.value ∙ c.in_ok-gather.ensures) ∙ lanes_long size c.args.blocks.now ∙ ap (λ n. n * size) c.requires in
    record { all = omega (arith, all) }

pub returns : goal.returns
returns g c none =
    c.first_unlike.ensures none
    (subst (λ b. AreNamed g.D.Digester.digest_of c.lane_size-size.result b c.digest_eight-digests.result) (c.deref.ensures.value ∙ c.in_ok-gather.ensures) c.digest_eight-digests.ensures)
