-- The row of a pack: what was read of it, and what is set.
use Rattle.std.proofs.Common.{◌≡◌, inl, inr, ℕ, ◌-◌, ◌≤◌, pos, arith, Bool, true, false, cond, List, [], ◌∷◌, ◌++◌, map, filter, length, Some, refl, sym, ap, subst, ◌∙◌}
use Rattle.std.specs.Ordering.{int_eq}
use Rattle.std.specs.Cmp.Derive.{both_true}
use Rattle.std.proofs.lemmas.Bool.{le-leb}
use Rattle.std.proofs.lemmas.Int.{ints}
use Rattle.sqlite.specs.declared.types.Value.TheVariants.{Int}
use Rattle.sqlite.specs.Order.{Row, column}
use Rattle.sqlite_keyed.specs.Lists.{update_where}
use Rattle.sqlite_rules.specs.Lists.{Has}
use Rattle.sqlite_rules.proofs.ListLemmas.{has_filtered, has_kept, has_right, some_from}
use Rattle.bh_tables.specs.Rows.{PackRow}
use Rattle.bh_tables.specs.Packs.{is_pack, reaches, is_reached, shown_pack}
use Rattle.bh_base.proofs.Filling.{same_map}
use Rattle.bh_base.proofs.Refilling.{has_mapped}
use Rattle.bh_base.specs.Measures.{IsMeasured, AreMeasured}
use Rattle.bh_base.specs.Places.{measured_as}
use Rattle.bh_base.specs.declared.places.Measure.{Measure}

int_self : (n : ℕ) → int_eq (pos n) (pos n) ≡ true
int_self n = grind (arith, ints)

-- no row is shown of none
pub none_shown : {X : Type 0} (f : X → Row) (xs : List X) (items : List Row) → items ≡ map f xs → length items ≡ 0 → xs ≡ []
none_shown f [] items is none = refl
none_shown f (x ∷ xs) items is none = absurd (let some = sym none ∙ ap length is in omega (arith, some))

-- the numbers in a row
pub measured_row : (p : PackRow) (row : Row) (length live : ℕ) → row ≡ shown_pack p → column row 0 ≡ Int (pos length) → column row 1 ≡ Int (pos live) → (length ≡ p.length) × (live ≡ p.live)
measured_row p row length live is first second =
    let one : Int (pos p.length) ≡ Int (pos length) = ap (λ (r : Row). column r 0) (sym is) ∙ first in
    let two : Int (pos p.live) ≡ Int (pos live) = ap (λ (r : Row). column r 1) (sym is) ∙ second in
    (cc, cc)

module _ (pack : ℕ) (ks : List PackRow) (m : Measure) (are : AreMeasured (filter (is_pack pack) ks) (Some m)) where
  abbrev its : PackRow
  its = are.0

  is_there : Has ks its × (is_pack pack its ≡ true)
  is_there = has_filtered (is_pack pack) ks its (subst (λ l. Has l its) (sym are.1) (inl refl))

  is_its : (p : PackRow) → Has (its ∷ []) p → p ≡ its
  is_its p (inl is) = is
  is_its p (inr none) = absurd none

  each_measured : (p : PackRow) → Has ks p → is_pack pack p ≡ true → IsMeasured p m
  each_measured p has mine = subst (λ x. IsMeasured x m) (sym (is_its p (subst (λ l. Has l p) are.1 (has_kept (is_pack pack) ks p has mine)))) are.2

  -- no row of it says more
  pub longest : (length : ℕ) → m.length ≤ length → (p : PackRow) → Has ks p → is_pack pack p ≡ true → p.length ≤ length
  longest length low p has mine = let same = (each_measured p has mine).length in omega (arith, low, same)

  pub set_reaches : (length live end : ℕ) → end ≤ length → is_reached (update_where (is_pack pack) (measured_as length live) ks) pack end ≡ true
  set_reaches length live end low =
      some_from (reaches pack end) (update_where (is_pack pack) (measured_as length live) ks) (cond (is_pack pack its) (measured_as length live its) its)
      (has_mapped (λ k. cond (is_pack pack k) (measured_as length live k) k) ks its is_there.0)
      (ap (λ b. reaches pack end (cond b (measured_as length live its) its)) is_there.1 ∙ both_true is_there.1 (le-leb end length low))

  -- so much less of it is named
  pub lowered_same : (size : ℕ) → update_where (is_pack pack) (measured_as m.length (m.live - size)) ks ≡ update_where (is_pack pack) (λ p. measured_as p.length (p.live - size) p) ks
  lowered_same size = same_map (λ k. cond (is_pack pack k) (measured_as m.length (m.live - size) k) k) (λ k. cond (is_pack pack k) (measured_as k.length (k.live - size) k) k) ks (λ k has. go k (is_pack pack k) refl (each_measured k has))
    where
      go : (k : PackRow) (b : Bool) → is_pack pack k ≡ b → (is_pack pack k ≡ true → IsMeasured k m) → cond b (measured_as m.length (m.live - size) k) k ≡ cond b (measured_as k.length (k.live - size) k) k
      go k true mine is = let it = is mine in λ i. measured_as (it.length i) (it.live i - size) k
      go k false other is = refl

-- a pack that is added
pub added_reaches : (ks : List PackRow) (pack end live : ℕ) → is_reached (ks ++ record { pack = pack; length = end; live = live } ∷ []) pack end ≡ true
added_reaches ks pack end live =
    let k : PackRow = record { pack = pack; length = end; live = live } in
    some_from (reaches pack end) (ks ++ k ∷ []) k (has_right ks (k ∷ []) k (inl refl)) (both_true (int_self pack) (le-leb end end (omega arith)))
