use Rattle.std.proofs.Common.{◌≡◌, [], refl, sym, subst, ◌∙◌}
use Rattle.bh_shelf.specs.Contents.{nothing}
use Rattle.bh_stored.specs.Stored.{seen}
use Rattle.bh_check.specs.Checked.{IsChecked}
use Rattle.bh_check.proofs.FilledRows.{unplaced, none_named, none_reached}
use Rattle.bh_check.proofs.check.check_rows.Goals as goal

pub returns-clause-checked : goal.returns-clause-checked
returns-clause-checked g c clean =
    let d = seen c.args.edition (g.S.Store.view c.args.store.now).trees in
    let stored = c.in_ok-stored.ensures.stored clean in
    let none : d 34 ≡ [] = sym stored.places_is ∙ c.in_ok-check_unplaced.ensures in
    subst (IsChecked c.args.edition g.D.Digester.digest_of) (unplaced nothing d none)
    (c.in_ok-check_stored.ensures.checked refl d stored (c.in_ok-stored.ensures.fit clean) (none_named (d 34) none) (none_reached nothing d none))
