use Rattle.std.proofs.Common.{◌∙◌, subst}
use Rattle.bh_check.specs.Holds.{first_two, ref_block, number_at, one}
use Rattle.bh_check.specs.Sums.{IsSumOf}
use Rattle.bh_check.proofs.totals.Totals.of.Goals as goal

pub returns : goal.returns
returns c d stored bytes = record {
  tenants_are = c.in_ok-of.ensures d stored;
  bodies_are = c.in_ok-of-2.ensures d stored;
  dates_are = c.in_ok-of-3.ensures d stored;
  upload_bytes_is = subst (λ rows. IsSumOf first_two (number_at 4) rows c.in_ok-sums_by.field-0) (c.deref.ensures.value ∙ stored.parts_is) c.in_ok-sums_by.ensures;
  block_refs_is = subst (λ rows. IsSumOf ref_block one rows c.in_ok-sums_by-2.field-0) (c.deref-2.ensures.value ∙ stored.refs_is) c.in_ok-sums_by-2.ensures;
  block_bytes_is = bytes;
}
