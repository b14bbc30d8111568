-- The tables after a sweep: what a tenant uses does not rise, and the last stamp and the limits stay.
use Rattle.std.proofs.Common.{◌≡◌, ◌≤◌, ◌+◌, ℕ, Bool, cond, not, List, [], ◌∷◌, map, filter, sum_by, Option, Some, None, option_map, refl, sym, ap, ap₂, ◌∙◌, subst, arith}
use Rattle.std.proofs.lemmas.List.Filters.{sum_by-filter_both}
use Rattle.sqlite_keyed.specs.Lists.{delete_where}
use Rattle.sqlite_typed.specs.Tests.{bytes_eq}
use Rattle.bh_model.specs.QuotaLaws.{IsBounded}
use Rattle.bh_model.specs.State.{Octets, State}
use Rattle.bh_tables.specs.Bodies.{resolved_again, resolved_part_again}
use Rattle.bh_tables.specs.Typed.{BlockRow, RefRow, VersionRow, UploadRow, PartRow, Tables, rebodied}
use Rattle.bh_view.specs.Blocks.{blocks_without}
use Rattle.bh_view.specs.Bodies.{AreBounded}
use Rattle.bh_view.specs.Grouped.{first, matching, same_number}
use Rattle.bh_view.specs.Sound.{IsSound}
use Rattle.bh_view.specs.Sweep.{uploads_swept, blocks_swept, without_each, swept}
use Rattle.bh_view.specs.View.{rows_of, state_of, view, latest_of, limits_in, part_goes, without_uploads}
use Rattle.bh_view.proofs.FilterLemmas.{filter_swap}
use Rattle.bh_view.proofs.TotalLemmas.{sum_filter-cons}
use Rattle.bh_view.proofs.UsedLemmas.{used_is}
use Rattle.bh_view.proofs.ViewLemmas.{view_is, own_row, same_latest, same_limits}

-- ---- lists

-- fewer rows have no greater sum
left_less : {A : Type 0} (w : A → ℕ) (p gone : A → Bool) (xs : List A) → sum_by w (filter p (delete_where gone xs)) ≤ sum_by w (filter p xs)
left_less w p gone xs =
    let swapped = ap (sum_by w) (filter_swap p (λ x. not (gone x)) xs) in
    let parted = sum_by-filter_both gone (λ x. not (gone x)) (λ _. refl) w (filter p xs) in
    omega (arith, swapped, parted)

-- a change of the rows that the test and the sizes do not see
sum_mapped : {A : Type 0} (w : A → ℕ) (p : A → Bool) (f : A → A) → ((x : A) → p (f x) ≡ p x) → ((x : A) → w (f x) ≡ w x) → (xs : List A) → sum_by w (filter p (map f xs)) ≡ sum_by w (filter p xs)
sum_mapped w p f test size [] = refl
sum_mapped w p f test size (x ∷ xs) =
    sum_filter-cons p w (f x) (map f xs)
    ∙ (λ i. cond (test x i) (size x i) 0 + sum_mapped w p f test size xs i)
    ∙ sym (sum_filter-cons p w x xs)

-- ---- the sizes of a tenant's rows, which add up to what it uses

abbrev size_of : Octets → Tables → ℕ
size_of t x = sum_by (λ (v : VersionRow). v.size) (filter (λ v. bytes_eq v.tenant t) x.versions) + sum_by (λ (p : PartRow). p.size) (filter (λ p. bytes_eq p.tenant t) x.parts)

-- where no size rises and the rows of tenants stay
bounded_less : (old new : Tables) → IsSound old → IsSound new → new.tenants ≡ old.tenants → ((t : Octets) → size_of t new ≤ size_of t old) → AreBounded old → AreBounded new
bounded_less old new before after same less bounded t = go (view new t) refl
  where
    go : (o : Option State) → view new t ≡ o → IsBounded (view new t)
    go None is = subst IsBounded (sym is) tt
    go (Some s) is =
        let row = own_row new t s is in
        let was = state_of (rows_of t old) row.0 in
        let shown : view old t ≡ Some was =
        view_is old t ∙ ap (λ rows. option_map (state_of (rows_of t old)) (first (matching bytes_eq (λ r. r.tenant) t rows))) (sym same) ∙ ap (option_map (state_of (rows_of t old))) row.1 in
        let bound : IsBounded (Some was) = subst IsBounded shown (bounded t) in
        let uses = used_is new t s after is in
        let used_before = used_is old t was before shown in
        let no_more = less t in
        let quota = ap (λ (x : State). x.quota) row.2 in
        subst IsBounded (sym is) (omega (arith, quota, bound), omega (arith, uses, used_before, no_more, bound))

-- ---- uploads go

-- a field that an upload leaves as it was when it goes, so do several
pub each_keeps : {X : Type 0} (field : Tables → X) → ((t : Octets) (gone : ℕ → Bool) (x : Tables) → field (without_uploads t gone x) ≡ field x) → (us : List UploadRow) (x : Tables) → field (without_each us x) ≡ field x
each_keeps field keeps [] x = refl
each_keeps field keeps (u ∷ us) x = each_keeps field keeps us (without_uploads u.tenant (λ n. same_number n u.upload) x) ∙ keeps u.tenant (λ n. same_number n u.upload) x

each_less : (t : Octets) (us : List UploadRow) (x : Tables) → size_of t (without_each us x) ≤ size_of t x
each_less t [] x = omega arith
each_less t (u ∷ us) x =
    let gone : ℕ → Bool = λ n. same_number n u.upload in
    let rest = each_less t us (without_uploads u.tenant gone x) in
    let parts = left_less (λ (p : PartRow). p.size) (λ p. bytes_eq p.tenant t) (part_goes u.tenant gone) x.parts in
    omega (arith, rest, parts)

-- ---- blocks go

size_rebodied : (t : Octets) (x : Tables) (refs : List RefRow) (blocks : List BlockRow) → size_of t (rebodied x refs blocks) ≡ size_of t x
size_rebodied t x refs blocks = ap₂ ◌+◌
    (sum_mapped (λ (v : VersionRow). v.size) (λ v. bytes_eq v.tenant t) (resolved_again refs blocks) (λ v. refl) (λ v. refl) x.versions)
    (sum_mapped (λ (p : PartRow). p.size) (λ p. bytes_eq p.tenant t) (resolved_part_again refs blocks) (λ p. refl) (λ p. refl) x.parts)

-- ---- a sweep

module _ (at n : ℕ) (old : Tables) where
  swept_less : (t : Octets) → size_of t (swept at n old) ≤ size_of t old
  unfolding swept
  swept_less t =
      let left = without_each (uploads_swept at n old) old in
      let blocks = size_rebodied t left left.refs (blocks_without (blocks_swept at n old) left.blocks) in
      let uploads = each_less t (uploads_swept at n old) old in
      omega (arith, blocks, uploads)

  swept_tenants : (swept at n old).tenants ≡ old.tenants
  unfolding swept
  swept_tenants = each_keeps (λ x. x.tenants) (λ t gone x. refl) (uploads_swept at n old) old

  swept_host : (swept at n old).host ≡ old.host
  unfolding swept
  swept_host = each_keeps (λ x. x.host) (λ t gone x. refl) (uploads_swept at n old) old

  pub swept_latest : latest_of (swept at n old) ≡ latest_of old
  swept_latest = same_latest old (swept at n old) swept_host

  pub swept_limits : limits_in (swept at n old) ≡ limits_in old
  swept_limits = same_limits old (swept at n old) swept_host

  pub swept_bounded : (new : Tables) → IsSound old → IsSound new → new ≡ swept at n old → AreBounded old → AreBounded new
  swept_bounded new before after is =
      bounded_less old new before after (ap (λ (x : Tables). x.tenants) is ∙ swept_tenants) (λ t. subst (λ x. size_of t x ≤ size_of t old) (sym is) (swept_less t))
