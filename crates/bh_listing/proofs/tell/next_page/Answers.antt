use Rattle.std.proofs.Common.{Some, None, option_map, sym, ap, ◌∙◌}
use Rattle.bh_pages.specs.Seen.{entry_by}
use Rattle.bh_listing.proofs.Telling.{next_told}
use Rattle.bh_listing.proofs.tell.next_page.Goals as goal

pub returns-in_default : goal.returns-in_default
returns-in_default g c =
    sym (next_told (entry_by g.T.Told.see) g.T.Told.next_of c.args.max c.args.entries.now None (sym (ap (option_map (λ x. x.now)) c.in_default.is) ∙ c.last_shown.ensures))

pub returns : goal.returns
returns g c = ap Some c.in_ok-next_after.ensures
    ∙ sym (next_told (entry_by g.T.Told.see) g.T.Told.next_of c.args.max c.args.entries.now (Some c.in-Some.last.now) (sym (ap (option_map (λ x. x.now)) c.in-Some.is) ∙ c.last_shown.ensures))
