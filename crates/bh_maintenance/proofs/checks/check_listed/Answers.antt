use Rattle.sqlite.specs.Held.{state}
use Rattle.bh_maintenance.proofs.Verdicts.{schema_now, listed_now}
use Rattle.bh_maintenance.proofs.checks.check_listed.Goals as goal

pub check_packs_named-requires : goal.check_packs_named-requires
check_packs_named-requires g c was = schema_now _ (c.requires.schema was)

pub returns : goal.returns
returns g c =
    let opened = c.in_ok-packs in
    c.in_ok-printed.ensures (g.K.ClosedPacks.has c.args.closed)
    (λ was pure. listed_now (state g.S.Store c.args.connection) c.args.listed.now (g.K.ClosedPacks.has c.args.closed) (g.K.Open.Shelf.kept opened.packs) (g.K.Open.Shelf.seen opened.packs) (c.requires.listed was) (opened.ensures.kept pure) (opened.ensures.seen pure))
