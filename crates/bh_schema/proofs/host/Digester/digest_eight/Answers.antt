use Rattle.std.proofs.Common.{◌≡◌, ◌≢◌, ◌<◌, ◌+◌, ◌-◌, ◌*◌, length, take, drop, refl, ap, ◌∙◌, arith, get_or-set_other, length-set, get_or-set_same, below_more}
use Rattle.bh_schema.proofs.host.Digester.digest_eight.Goals as goal

pub blocks-2-init : goal.blocks-2-init
blocks-2-init g c = (refl, λ k below. absurd (omega (arith, below)))

pub blocks-2-preserved : goal.blocks-2-preserved
blocks-2-preserved g c =
    let j = c.blocks-2.j in
    let size = c.args.size in
    let one : (j + 1) * size - j * size ≡ size = omega arith in (
      length-set _ _ _ ∙ c.blocks-2.invariant.0,
      below_more _ _
          (λ k h. let ne : k ≢ j = omega arith in rw get_or-set_other (c.blocks-2.invariant.1 k h))
          (let lt : j < length c.blocks-2.digests = omega (arith, c.blocks-2.invariant.0) in rw get_or-set_same (c.digest.ensures ∙ ap (λ n. g.Self.Digester.digest_of (take n (drop (j * size) c.args.bytes.now))) one)),
    )

pub returns : goal.returns
returns g c = λ k below. c.blocks-2.invariant.1 k (omega (arith, below))
