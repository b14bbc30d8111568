use Rattle.std.proofs.Common.{map, flat_map, refl, sym, ap, ◌∙◌}
use Rattle.bh_model.specs.Pages.{common_in, single_in}
use Rattle.bh_pages.specs.Seen.{entry_by}
use Rattle.bh_listing.proofs.RowLemmas.{take_map}
use Rattle.bh_listing.proofs.tell.tell.Goals as goal

pub returns : goal.returns
returns g c =
    let see = entry_by g.T.Told.see in
    let taken = ap (map see) c.shown_of-shown.ensures ∙ sym (take_map see c.args.asked.now.max c.args.entries.now) in
    record {
      bucket = c.in_ok-from_str.ensures.ok;
      prefix = c.in_ok-text_of.ensures;
      max = refl;
      prefixes = c.in_ok-rolled_names.ensures ∙ ap (flat_map common_in) taken;
      entries = c.in_ok-singles.ensures ∙ ap (flat_map single_in) taken;
      next = c.in_ok-next_page.ensures;
    }
