-- Sound parts stay sound when one comes, or some go.
use Rattle.std.proofs.Common.{◌≡◌, ℕ, ◌<◌, Bool, true, false, not, List, [], ◌∷◌, ◌++◌, None, refl, sym, subst}
use Rattle.std.specs.List.{AllByRecursion, list_any}
use Rattle.sqlite_keyed.specs.Lists.{delete_where}
use Rattle.sqlite_keyed.proofs.ListLemmas.{all_weaker, all_both, all-filter}
use Rattle.bh_tables.specs.Typed.{TenantRow, VersionRow, UploadRow, PartRow}
use Rattle.bh_view.specs.Grouped.{first, same_number, matching, HasUnique}
use Rattle.bh_view.specs.View.{of_upload}
use Rattle.bh_view.specs.Sound.{IsPartRow, AreParts}
use Rattle.bh_view.proofs.Keys.{numbers}
use Rattle.bh_view.proofs.FilterLemmas.{push_here, push_other, filter_swap}
use Rattle.bh_view.proofs.FactLemmas.{all_pushed, unique_pushed, unique_deleted, refers_pushed, refers_deleted}
use Rattle.bh_view.proofs.UploadLemmas.{at_number}

-- the parts of a number, and those of a body
abbrev pub at_part : ℕ → List PartRow → List PartRow
at_part = matching same_number (λ p. p.part)

abbrev pub at_body : ℕ → List PartRow → List PartRow
at_body = matching same_number (λ p. p.body)

module _ (latest : ℕ) (tenants : List TenantRow) (versions : List VersionRow) (uploads : List UploadRow) (parts : List PartRow) (all : AreParts latest tenants versions uploads parts) where
  pub parts_left : (test : PartRow → Bool) → AreParts latest tenants versions uploads (delete_where test parts)
  parts_left test = record {
    each = all-filter _ _ parts all.each;
    one = λ n. subst (HasUnique same_number (λ (p : PartRow). p.part)) (sym (filter_swap (λ (p : PartRow). same_number p.upload n) (λ p. not (test p)) parts)) (unique_deleted numbers (λ (p : PartRow). p.part) (of_upload n parts) test (all.one n));
    one_body = unique_deleted numbers (λ (p : PartRow). p.body) parts test all.one_body;
    apart = all-filter _ _ parts all.apart;
    owned = refers_deleted numbers (λ (u : UploadRow). u.upload) (λ (p : PartRow). p.upload) uploads parts test all.owned;
    given = all_weaker _ _ (λ r below. all-filter (λ (p : PartRow). p.body < r.next_entry) _ parts below) tenants all.given;
  }

  -- in another upload, or in this one with a number that no part of it has
  one_more : (p : PartRow) → at_part p.part (of_upload p.upload parts) ≡ [] → (n : ℕ) → HasUnique same_number (λ (p : PartRow). p.part) (of_upload n (parts ++ p ∷ []))
  one_more p fresh n = elim (same_number p.upload n) as (λ h. same_number p.upload n ≡ h → HasUnique same_number (λ (p : PartRow). p.part) (of_upload n (parts ++ p ∷ []))) [
    | true ↦ λ here. subst (HasUnique same_number (λ (p : PartRow). p.part)) (sym (push_here (λ (x : PartRow). same_number x.upload n) parts p here))
        (unique_pushed numbers (λ (p : PartRow). p.part) (of_upload n parts) p (all.one n) (subst (λ z. at_part p.part (of_upload z parts) ≡ []) ((numbers.decides p.upload n).0 here) fresh))
    | false ↦ λ other. subst (HasUnique same_number (λ (p : PartRow). p.part)) (sym (push_other (λ (x : PartRow). same_number x.upload n) parts p other)) (all.one n)
  ] refl

  pub parts_more : (p : PartRow) → IsPartRow latest p → at_part p.part (of_upload p.upload parts) ≡ [] → at_body p.body parts ≡ [] → list_any (λ (v : VersionRow). same_number v.seq p.body) versions ≡ false
      → (first (at_number p.upload uploads) ≡ None → ⊥) → AllByRecursion (λ (r : TenantRow). p.body < r.next_entry) tenants → AreParts latest tenants versions uploads (parts ++ p ∷ [])
  parts_more p good fresh unshared apart has below = record {
    each = all_pushed _ parts p all.each good;
    one = one_more p fresh;
    one_body = unique_pushed numbers (λ (p : PartRow). p.body) parts p all.one_body unshared;
    apart = all_pushed _ parts p all.apart apart;
    owned = refers_pushed numbers (λ (u : UploadRow). u.upload) (λ (p : PartRow). p.upload) uploads parts p all.owned has;
    given = all_both _ (λ (r : TenantRow). p.body < r.next_entry) _ (λ r before it. all_pushed (λ (x : PartRow). x.body < r.next_entry) parts p before it) tenants all.given below;
  }
