use Rattle.std.proofs.Common.{ap, ◌∙◌}
use Rattle.std.proofs.lemmas.Result.{IfOk-weaker}
use Rattle.sqlite.specs.Held.{state}
use Rattle.bh_blocks.specs.Digests.{digest_by}
use Rattle.bh_open.specs.Versions.{schema_of}
use Rattle.bh_maintenance.specs.Checks.{IsSoundBy}
use Rattle.bh_maintenance.proofs.Verdicts.{verdict_weaker, hosts_now, sound_earlier}
use Rattle.bh_maintenance.proofs.checks.check_found.Goals as goal

pub check_present-requires-clause-schema : goal.check_present-requires-clause-schema
check_present-requires-clause-schema g c was = c.requires.schema was ∙ ap schema_of (c.is_present.ensures.0 c.if-is_present.true)

pub check_earlier-requires : goal.check_earlier-requires
check_earlier-requires g c was = hosts_now _ _ (c.requires.schema was)

pub returns-else-is_present : goal.returns-else-is_present
returns-else-is_present g c =
    IfOk-weaker c.check_earlier.result _ _
    (λ done told. verdict_weaker (IsSoundBy g.S.Store (digest_by c.args.found.digest) c.args.connection done.store) _ done.printed
    (λ sound clean live pure.
    let both = sound clean live in
    (both.0, sound_earlier (digest_by c.args.found.digest) (g.K.ClosedPacks.has c.args.closed) (state g.S.Store c.args.connection) c.args.found.version (λ is. absurd (let yes = c.is_present.ensures.1 is in let no = c.if-is_present.false in cc)) (c.requires.schema both.0) both.1)) told)
    c.check_earlier.ensures
