use Rattle.std.proofs.Common.{◌≡◌, ◌⊎◌, OnOk, OnErr, sym, subst}
use Rattle.sqlite.specs.Files.{over_files}
use Rattle.bh_tables.specs.Typed.{Tables}
use Rattle.bh_schema.specs.Storage as storage
use Rattle.bh_kept.specs.Kept as kept
use Rattle.bh_kept.proofs.storage.KeptHostStorage.commit.Goals as goal

pub returns-in-Some-clause-intact : goal.returns-in-Some-clause-intact
returns-in-Some-clause-intact g c intact = subst (λ o. kept.IsIntact g.P.Shelf o) (sym c.in-Some.is) (c.commit.ensures.intact intact)

pub returns-in-Some-clause-opened : goal.returns-in-Some-clause-opened
returns-in-Some-clause-opened g c intact up = subst (λ o. kept.IsOpen g.P.Shelf o) (sym c.in-Some.is) (c.commit.ensures.opened intact up)

pub returns-in-Some-clause-survives : goal.returns-in-Some-clause-survives
returns-in-Some-clause-survives g c =
    let new = c.commit.new.self in
    subst (λ o. OnOk c.commit.result (storage.IsIntact over_files g.P.Shelf new.host → (x : Tables) → storage.left over_files g.P.Shelf new.host x → x ≡ (kept.seen g.P.Shelf c.args.self.now.limits o).now)) (sym c.in-Some.is) c.commit.ensures.survives

pub returns-in-Some-clause-crash : goal.returns-in-Some-clause-crash
returns-in-Some-clause-crash g c =
    let new = c.commit.new.self in
    subst (λ o. OnErr c.commit.result (kept.IsOpen g.P.Shelf o → storage.IsIntact over_files g.P.Shelf new.host → (x : Tables) → storage.left over_files g.P.Shelf new.host x → kept.left g.P.Shelf o x ⊎ (x ≡ (kept.seen g.P.Shelf c.args.self.now.limits o).now))) (sym c.in-Some.is)
    c.commit.ensures.crash
