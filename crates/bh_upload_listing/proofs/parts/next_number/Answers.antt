use Rattle.std.proofs.Common.{Some, None, option_map, ap, sym, ◌∙◌}
use Rattle.bh_model.specs.Pages.{PartItem}
use Rattle.bh_listing.proofs.Telling.{next_told}
use Rattle.bh_upload_listing.specs.Parts.{seen_part}
use Rattle.bh_upload_listing.proofs.parts.next_number.Goals as goal

pub returns-in_default : goal.returns-in_default
returns-in_default c =
    sym (next_told seen_part (λ (p : PartItem). p.number) c.args.max c.args.lines.now None (sym (ap (option_map (λ x. x.now)) c.in_default.is) ∙ c.last_shown.ensures))

pub returns : goal.returns
returns c =
    sym (next_told seen_part (λ (p : PartItem). p.number) c.args.max c.args.lines.now (Some c.in-Some.last.now) (sym (ap (option_map (λ x. x.now)) c.in-Some.is) ∙ c.last_shown.ensures))
