use Rattle.std.proofs.Common.{map, ap, sym, ◌∙◌}
use Rattle.bh_listing.proofs.RowLemmas.{take_map}
use Rattle.bh_upload_listing.specs.Parts.{seen_part}
use Rattle.bh_upload_listing.proofs.parts.told_parts.Goals as goal

pub returns : goal.returns
returns c = λ i. record {
  bucket = (c.in_ok-from_str.ensures.ok ∙ c.as_str.ensures.value) i;
  key = (c.in_ok-from_str-2.ensures.ok ∙ c.as_str-2.ensures.value) i;
  upload = record { number = c.args.number };
  max = c.args.max;
  parts = (c.in_ok-part_entries.ensures ∙ ap (map seen_part) c.shown_of-shown.ensures ∙ sym (take_map seen_part c.args.max c.args.lines.now)) i;
  next = c.next_number.ensures i;
}
