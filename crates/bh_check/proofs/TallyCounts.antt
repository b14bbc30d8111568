-- What was counted of the stored versions of each tenant is what a host tallies.
use Rattle.std.proofs.Common.{arith, ◌≡◌, ℕ, ◌+◌, pos, int_lt, Bool, true, false, ◌&&◌, not, cond, if◌then◌else◌, List, [], ◌∷◌, length, map, filter, refl, sym, ap, ap₂, ◌∙◌, sum_by}
use Rattle.std.specs.List.{AllByRecursion, list_any}
use Rattle.std.specs.Ordering.{int_eq}
use Rattle.std.proofs.lemmas.List.Sums.{sum_by-cons}
use Rattle.sqlite.specs.Order.{Row, column}
use Rattle.sqlite.specs.Tree.{Trees}
use Rattle.sqlite_typed.specs.Columns.{bytes_of}
use Rattle.sqlite_typed.specs.Tests.{bytes_eq}
use Rattle.bh_rows.specs.Form.{typed}
use Rattle.bh_tables.specs.Schema.{Octets}
use Rattle.bh_tables.specs.Bodies.{resolved}
use Rattle.bh_tables.specs.Entries.{has_marker, is_later, current_versions}
use Rattle.bh_tables.specs.Typed.{VersionRow, VersionColumns, tenant_of, version_of, ref_form, block_form, tally_form, tally_of}
use Rattle.bh_stored.specs.Cells.{is_fit}
use Rattle.bh_stored.specs.Fits.{tally_kinds}
use Rattle.bh_stored.proofs.Fitted.{tallied_is}
use Rattle.bh_check.specs.Holds.{owner, number_at}
use Rattle.bh_check.specs.Sums.{total}
use Rattle.bh_check.specs.Tallies.{entry_key, is_past, marked_one, current_one, AreTalliesOf}
use Rattle.bh_check.proofs.BucketNames.{any_same}
use Rattle.bh_check.proofs.Counted.{any_map}
use Rattle.bh_check.proofs.EntryKeys.{same_key}
use Rattle.bh_check.proofs.TotalIs.{total_twice}

pub and_true : (b : Bool) → b ≡ (b && true)
and_true true = refl
and_true false = refl

grouped : (a b c e : Bool) → (a && (b && (c && e))) ≡ ((a && (b && c)) && e)
grouped true true c e = refl
grouped true false c e = refl
grouped false b c e = refl

-- those that pass a second test too, as a sum over those that pass the first
length_both : {X : Type 0} (p m : X → Bool) (xs : List X) → length (filter (λ x. p x && m x) xs) ≡ sum_by (λ x. if m x then 1 else 0) (filter p xs)
length_both p m [] = refl
length_both {X} p m (x ∷ xs) = go (p x) (length_both p m xs)
  where
    size : X → ℕ
    size y = if m y then 1 else 0

    counted : (b : Bool) (ys : List X) (n : ℕ) → length ys ≡ n → length (cond b (x ∷ ys) ys) ≡ (if b then 1 else 0) + n
    counted true ys n is = omega (arith, is)
    counted false ys n is = omega (arith, is)

    go : (b : Bool) → length (filter (λ y. p y && m y) xs) ≡ sum_by size (filter p xs) → length (cond (b && m x) (x ∷ filter (λ y. p y && m y) xs) (filter (λ y. p y && m y) xs)) ≡ sum_by size (cond b (x ∷ filter p xs) (filter p xs))
    go true rest = counted (m x) (filter (λ y. p y && m y) xs) (sum_by size (filter p xs)) rest ∙ sym (sum_by-cons size x (filter p xs))
    go false rest = rest

module _ (d : Trees) where
  abbrev shown : VersionColumns → VersionRow
  shown = resolved (typed ref_form (d 12)) (typed block_form (d 10))

  abbrev versions : List VersionRow
  versions = map shown (map version_of (d 7))

  abbrev its : Octets → VersionRow → Bool
  its t v = bytes_eq v.tenant t

  marked : (t : Octets) (n : ℕ) → length (filter (has_marker t n) versions) ≡ total owner (marked_one n) (d 7) (t, 0)
  marked t n = length_both (its t) (λ v. int_eq (pos v.marker) (pos n)) versions
      ∙ total_twice version_of shown (its t) (λ (v : VersionRow). if int_eq (pos v.marker) (pos n) then 1 else 0) owner (marked_one n) (t, 0) (λ r. and_true (bytes_eq (bytes_of (column r 1)) t)) (λ r. refl) (d 7)

  -- an entry of the same key that is newer
  past : (r s : Row) → is_later (shown (version_of r)) (shown (version_of s)) ≡ is_past (entry_key r) (number_at 2 r) s
  past r s = grouped (bytes_eq (bytes_of (column s 1)) (bytes_of (column r 1))) (bytes_eq (bytes_of (column s 3)) (bytes_of (column r 3))) (bytes_eq (bytes_of (column s 4)) (bytes_of (column r 4))) (int_lt (pos (number_at 2 r)) (pos (number_at 2 s)))
      ∙ ap (λ b. b && int_lt (pos (number_at 2 r)) (pos (number_at 2 s)))
      (sym (same_key (bytes_of (column s 1)) (bytes_of (column s 3)) (bytes_of (column s 4)) (bytes_of (column r 1)) (bytes_of (column r 3)) (bytes_of (column r 4))))

  later_is : (r : Row) → list_any (is_later (shown (version_of r))) versions ≡ list_any (is_past (entry_key r) (number_at 2 r)) (d 7)
  later_is r = any_map shown (is_later (shown (version_of r))) (map version_of (d 7)) ∙ any_map version_of (λ c. is_later (shown (version_of r)) (shown c)) (d 7)
      ∙ any_same (λ s. is_later (shown (version_of r)) (shown (version_of s))) (is_past (entry_key r) (number_at 2 r)) (past r) (d 7)

  current : (t : Octets) → length (current_versions t versions) ≡ total owner (current_one (d 7)) (d 7) (t, 0)
  current t = length_both (its t) (λ v. int_eq (pos v.marker) (pos 0) && not (list_any (is_later v) versions)) versions
      ∙ total_twice version_of shown (its t) (λ (v : VersionRow). if int_eq (pos v.marker) (pos 0) && not (list_any (is_later v) versions) then 1 else 0) owner (current_one (d 7)) (t, 0) (λ r. and_true (bytes_eq (bytes_of (column r 1)) t))
      (λ r. ap (λ b. if int_eq (pos (number_at 6 r)) (pos 0) && not b then 1 else 0) (later_is r)) (d 7)

  pub tallies_counted : (tallies tenants : List Row) → AllByRecursion (λ r. is_fit tally_kinds r ≡ true) tallies → AreTalliesOf (d 7) tallies tenants → typed tally_form tallies ≡ map (tally_of versions) (map tenant_of tenants)
  tallies_counted [] [] fit h = refl
  tallies_counted [] (t ∷ ts) fit h = absurd h
  tallies_counted (y ∷ ys) [] fit h = absurd h
  tallies_counted (y ∷ ys) (t ∷ ts) fit h =
      let it = h.0 in
      let numbers = tallied_is y fit.0 in
      let name = bytes_of (column t 1) in
      let its_versions = numbers.versions ∙ ap pos (it.versions_is ∙ sym (marked name 0)) in
      let its_markers = numbers.markers ∙ ap pos (it.markers_is ∙ sym (marked name 1)) in
      let its_objects = numbers.objects ∙ ap pos (it.objects_is ∙ sym (current name)) in
      ap₂ ◌∷◌ (λ i. record { tenant = it.tenant_is i; versions = its_versions i; markers = its_markers i; objects = its_objects i }) (tallies_counted ys ts fit.1 h.1)
