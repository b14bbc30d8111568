use Rattle.std.proofs.Common.{sym, ◌∙◌}
use Rattle.bh_rows.specs.Form.{typed}
use Rattle.bh_tables.specs.Rows.{pack_form, place_form}
use Rattle.bh_check.specs.Holds.{owner, one}
use Rattle.bh_check.specs.Looked.{IsNamedAs, IsShownAs}
use Rattle.bh_check.specs.Sums.{total}
use Rattle.bh_check.proofs.OnceLemmas.{none_holds}
use Rattle.bh_check.proofs.ShownLemmas.{total_named}
use Rattle.bh_check.proofs.ZipLemmas.{zip_so}
use Rattle.bh_check.proofs.blocks.is_new.Goals as goal

pub returns-then-same-eq0-clause-new : goal.returns-then-same-eq0-clause-new
returns-then-same-eq0-clause-new g c fits clean shown its are one_is digest all has count =
    let s = c.args.stored.now in
    let names = zip_so (IsShownAs (typed pack_form s.packs.items) (g.P.Shelf.seen c.args.packs.now) (typed place_form s.places.items)) IsNamedAs (λ a b is. is.name) c.args.before.now shown are.each in
    let its_count = sym (total_named (owner its) c.args.before.now shown names) ∙ (λ i. total owner one c.args.before.now (sym one_is.each.0.name.digest i, 0)) ∙ sym count ∙ c.if-same-eq0.true in
    none_holds digest shown its all has its_count
