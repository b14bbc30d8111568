-- Sums that were looked up are those over the rows.
use Rattle.std.proofs.Common.{◌≡◌, ℕ, List, ◌∙◌, subst, subst₂}
use Rattle.sqlite.specs.Order.{Row}
use Rattle.sqlite.specs.Tree.{Trees}
use Rattle.bh_tables.specs.Bodies.{Name}
use Rattle.bh_check.specs.Holds.{owner, first_two, part_body, next_entry, next_version, body_bytes, body_refs, body_versions, IsVersionBy, IsPartBy, IsVersionMeasured, IsPartMeasured, Holds}
use Rattle.bh_check.specs.declared.rows.PartTotals.{PartTotals}
use Rattle.bh_check.specs.declared.rows.VersionTotals.{VersionTotals}
use Rattle.bh_check.specs.declared.rows.Table.TheVariants as table

-- the name under which it was looked up is that of the row
pub at_name : (of : Name → ℕ) (n : ℕ) (text own : List ℕ) (number its : ℕ) → n ≡ of (text, number) → text ≡ own → number ≡ its → n ≡ of (own, its)
at_name of n text own number its is texts numbers = is ∙ (λ i. of (texts i, numbers i))

-- that of a tenant
pub at_tenant : (of : Name → ℕ) (n : ℕ) (text own : List ℕ) → n ≡ of (text, 0) → text ≡ own → n ≡ of (own, 0)
at_tenant of n text own is texts = is ∙ (λ i. of (texts i, 0))

pub version_measured : (d : Trees) (latest : ℕ) (r : Row) (by : VersionTotals) → IsVersionMeasured d latest r by → IsVersionBy by.latest by.next_entry by.next_version by.bytes by.refs r → Holds d latest table.Versions r
version_measured d latest r by m h =
    subst (λ n. IsVersionBy n (next_entry d (owner r)) (next_version d (owner r)) (body_bytes d (first_two r)) (body_refs d (first_two r)) r) m.latest_is
    (subst₂ (λ a b. IsVersionBy by.latest a b (body_bytes d (first_two r)) (body_refs d (first_two r)) r) m.entry_is m.version_is
    (subst₂ (λ a b. IsVersionBy by.latest by.next_entry by.next_version a b r) m.bytes_is m.refs_is h))

pub part_measured : (d : Trees) (latest : ℕ) (r : Row) (by : PartTotals) → IsPartMeasured d latest r by → IsPartBy by.latest by.next_entry by.bytes by.versions r → Holds d latest table.Parts r
part_measured d latest r by m h =
    subst₂ (λ l n. IsPartBy l n (body_bytes d (part_body r)) (body_versions d (part_body r)) r) m.latest_is m.entry_is
    (subst₂ (λ a b. IsPartBy by.latest by.next_entry a b r) m.bytes_is m.versions_is h)
