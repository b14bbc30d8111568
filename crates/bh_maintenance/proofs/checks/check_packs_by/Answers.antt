use Rattle.sqlite.specs.Held.{state}
use Rattle.bh_maintenance.proofs.Verdicts.{verdict_weaker, ok_none, sound_listed}
use Rattle.bh_maintenance.proofs.checks.check_packs_by.Goals as goal

pub returns : goal.returns
returns g c has listed =
    let it = c.check_with_packs-found.ensures in
    let was = c.args.packs.now in
    verdict_weaker _ _ c.in_ok-told.field-0
    (λ is clean live pure.
    let both = ok_none _ is it.listed clean live pure has (λ old typed. listed old (it.reads.clean pure) typed) in
    (both.0, sound_listed g.D.Digester.digest_of has (g.P.Shelf.seen was) (state g.S.Store c.args.connection).now (c.requires both.0) (listed both.0 (it.reads.clean pure)) both.1))
    c.in_ok-told.ensures
