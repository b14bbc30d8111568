-- A delimiter that a search finds is where a key is cut.
use Rattle.std.proofs.Common.{◌≡◌, ℕ, zero, suc, ◌+◌, ◌<◌, ◌≤◌, Bool, true, false, true≢false, cond, ◌==◌, ◌&&◌, [], ◌∷◌, ◌++◌, length, take, drop, Option, Some, None, option_map, refl, sym, ap, subst, ◌∙◌, ◌≢◌, arith}
use Rattle.std.proofs.lemmas.Bool.{eqb-true}
use Rattle.std.specs.List.{slice_range}
use Rattle.std.proofs.lemmas.Grind.{common_steps}
use Rattle.memchr.specs.Find.{IsFirst, OccursAt}
use Rattle.memchr.proofs.lemmas.MatchLemmas.{OccursAt-part, OccursAt-from_part}
use Rattle.bh_model.specs.State.{Octets}
use Rattle.bh_model.specs.Pages.{begins, up_to_delimiter, rolled}
use Rattle.bh_pages.proofs.Bytes.{both, same_number}

take_begins : (d h : Octets) → begins d h ≡ true → (take (length d) h ≡ d) × (length d ≤ length h)
take_begins [] h is = (refl, omega arith)
take_begins (c ∷ d) [] is = absurd (true≢false (sym is))
take_begins (c ∷ d) (b ∷ h) is = let more = take_begins d h (both is).1 in (λ i. sym (eqb-true c b (both is).0) i ∷ more.0 i, up more.1)
  where
    up : length d ≤ length h → length (c ∷ d) ≤ length (b ∷ h)
    up k = omega (arith, k)

begins_taken : (d h : Octets) → take (length d) h ≡ d → begins d h ≡ true
begins_taken [] h is = refl
begins_taken (c ∷ d) [] is = absurd (none_cons is)
  where
    none_cons : [] ≡ c ∷ d → ⊥
    none_cons e = cc
begins_taken (c ∷ d) (b ∷ h) is = ap (λ z. (c == z) && begins d h) (heads is) ∙ ap (λ t. t && begins d h) (same_number c) ∙ begins_taken d h (tails is)
  where
    heads : b ∷ take (length d) h ≡ c ∷ d → b ≡ c
    heads e = cc

    tails : b ∷ take (length d) h ≡ c ∷ d → take (length d) h ≡ d
    tails e = cc

zero_plus : (n : ℕ) → 0 + n ≡ n
zero_plus n = omega arith

suc_plus : (k n : ℕ) → suc k + n ≡ suc (k + n)
suc_plus k n = omega arith

module _ (c : ℕ) (ds : Octets) where
  abbrev d : Octets
  d = c ∷ ds

  shift_up : (b : ℕ) (bs : Octets) (k : ℕ) → OccursAt bs d k → OccursAt (b ∷ bs) d (suc k)
  shift_up b bs k at = OccursAt-from_part (b ∷ bs) d (suc k) (fits at.fits) (OccursAt-part bs d k at)
    where
      fits : k + length d ≤ length bs → suc k + length d ≤ length (b ∷ bs)
      fits h = omega (arith, h)

  shift_down : (b : ℕ) (bs : Octets) (k : ℕ) → OccursAt (b ∷ bs) d (suc k) → OccursAt bs d k
  shift_down b bs k at = OccursAt-from_part bs d k (fits at.fits) (OccursAt-part (b ∷ bs) d (suc k) at)
    where
      fits : suc k + length d ≤ length (b ∷ bs) → k + length d ≤ length bs
      fits h = omega (arith, h)

  here : (h : Octets) → begins d h ≡ true → OccursAt h d 0
  here h is = let it = take_begins d h is in OccursAt-from_part h d 0 (at_zero it.1) it.0
    where
      at_zero : length d ≤ length h → 0 + length d ≤ length h
      at_zero k = omega (arith, k)

  is_here : (h : Octets) → OccursAt h d 0 → begins d h ≡ true
  is_here h at = begins_taken d h (OccursAt-part h d 0 at)

  no_room : (k : ℕ) → OccursAt [] d k → ⊥
  no_room k at = go at.fits
    where
      go : k + length d ≤ 0 → ⊥
      go h = omega (arith, h)

  pub found_cut : (hay : Octets) (r : Option ℕ) → IsFirst (OccursAt hay d) 0 (length hay + 1) r → option_map (λ k. take (k + length d) hay) r ≡ up_to_delimiter d hay
  found_cut [] None h = refl
  found_cut [] (Some k) h = absurd (no_room k h.1)
  found_cut (b ∷ bs) r h = go (begins d (b ∷ bs)) refl r h (found_cut bs)
    where
      first_here : begins d (b ∷ bs) ≡ true → (r : Option ℕ) → IsFirst (OccursAt (b ∷ bs) d) 0 (length (b ∷ bs) + 1) r → option_map (λ k. take (k + length d) (b ∷ bs)) r ≡ Some d
      first_here e None h = absurd (h 0 (omega arith) (omega arith) (here (b ∷ bs) e))
      first_here e (Some zero) h = ap (λ n. Some (take n (b ∷ bs))) (zero_plus (length d)) ∙ ap Some (OccursAt-part (b ∷ bs) d 0 h.1)
      first_here e (Some (suc k)) h = absurd (h.0.before 0 (omega arith) (omega arith) (here (b ∷ bs) e))

      later : begins d (b ∷ bs) ≡ false → (r : Option ℕ) → IsFirst (OccursAt (b ∷ bs) d) 0 (length (b ∷ bs) + 1) r
          → ((s : Option ℕ) → IsFirst (OccursAt bs d) 0 (length bs + 1) s → option_map (λ k. take (k + length d) bs) s ≡ up_to_delimiter d bs)
          → option_map (λ k. take (k + length d) (b ∷ bs)) r ≡ option_map (λ (n : Octets). b ∷ n) (up_to_delimiter d bs)
      later e None h more = ap (option_map (λ (n : Octets). b ∷ n)) (more None (λ k low high at. h (suc k) (omega arith) (up k high) (shift_up b bs k at)))
        where
          up : (k : ℕ) → k < length bs + 1 → suc k < length (b ∷ bs) + 1
          up k high = omega (arith, high)
      later e (Some zero) h more = absurd (true≢false (sym (is_here (b ∷ bs) h.1) ∙ e))
      later e (Some (suc k)) h more =
          ap (λ n. Some (take n (b ∷ bs))) (suc_plus k (length d)) ∙ ap (option_map (λ (n : Octets). b ∷ n)) (more (Some k) (record { low = omega arith; high = down h.0.high; before = λ j low high at. h.0.before (suc j) (omega arith) (up j high) (shift_up b bs j at) }, shift_down b bs k h.1))
        where
          down : suc k < length (b ∷ bs) + 1 → k < length bs + 1
          down high = omega (arith, high)

          up : (j : ℕ) → j < k → suc j < suc k
          up j high = omega (arith, high)

      go : (t : Bool) → begins d (b ∷ bs) ≡ t → (r : Option ℕ) → IsFirst (OccursAt (b ∷ bs) d) 0 (length (b ∷ bs) + 1) r
          → ((s : Option ℕ) → IsFirst (OccursAt bs d) 0 (length bs + 1) s → option_map (λ k. take (k + length d) bs) s ≡ up_to_delimiter d bs)
          → option_map (λ k. take (k + length d) (b ∷ bs)) r ≡ cond t (Some d) (option_map (λ (n : Octets). b ∷ n) (up_to_delimiter d bs))
      go true e r h more = first_here e r h
      go false e r h more = later e r h more

prefix_taken : (prefix key : Octets) → begins prefix key ≡ true → (m : ℕ) → take (length prefix + m) key ≡ prefix ++ take m (drop (length prefix) key)
prefix_taken [] key is m = ap (λ n. take n key) (zero_plus m)
prefix_taken (a ∷ prefix) [] is m = absurd (true≢false (sym is))
prefix_taken (a ∷ prefix) (b ∷ key) is m = ap (λ n. take n (b ∷ key)) (suc_plus (length prefix) m) ∙ λ i. sym (eqb-true a b (both is).0) i ∷ prefix_taken prefix key (both is).1 m i

pub prefix_short : (prefix key : Octets) → begins prefix key ≡ true → length prefix ≤ length key
prefix_short prefix key is = (take_begins prefix key is).1

-- where the rolled-up name of a key ends
pub name_found : (prefix delimiter key rest : Octets) (r : Option ℕ) → begins prefix key ≡ true → length delimiter ≢ 0 → rest ≡ drop (length prefix) key → IsFirst (OccursAt rest delimiter) 0 (length rest + 1) r
    → option_map (λ n. take n key) (option_map (λ k. length prefix + k + length delimiter) r) ≡ rolled prefix delimiter key
name_found prefix [] key rest r is some at h = absurd (some refl)
name_found prefix (c ∷ ds) key rest r is some at h =
    name r ∙ ap (option_map (λ (n : Octets). prefix ++ n)) (found_cut c ds (drop (length prefix) key) r (subst (λ z. IsFirst (OccursAt z (c ∷ ds)) 0 (length z + 1) r) at h))
  where
    name : (r : Option ℕ) → option_map (λ n. take n key) (option_map (λ k. length prefix + k + length (c ∷ ds)) r) ≡ option_map (λ (n : Octets). prefix ++ n) (option_map (λ k. take (k + length (c ∷ ds)) (drop (length prefix) key)) r)
    name None = refl
    name (Some k) = ap Some (ap (λ n. take n key) (sum (length prefix) k (length (c ∷ ds))) ∙ prefix_taken prefix key is (k + length (c ∷ ds)))
      where
        sum : (x y z : ℕ) → x + y + z ≡ x + (y + z)
        sum x y z = omega arith

pub some_bytes : (delimiter : Octets) → false ≡ (length delimiter == 0) → length delimiter ≢ 0
some_bytes delimiter h e = true≢false (sym (ap (λ n. n == 0) e) ∙ sym h)

pub rest_is : (prefix key rest : Octets) → rest ≡ slice_range key (length prefix) (length key) → rest ≡ drop (length prefix) key
rest_is prefix key rest h = h ∙ slice_range_to_end key (length prefix)
  where
    slice_range_to_end : (l : Octets) (n : ℕ) → slice_range l n (length l) ≡ drop n l
    slice_range_to_end l n = grind (arith, common_steps)
