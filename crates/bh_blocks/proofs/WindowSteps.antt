-- The part of bytes that a window shows: of a plan, and of one block after the other.
use Rattle.std.proofs.Common.{◌≡◌, ℕ, zero, suc, ◌+◌, ◌-◌, ◌≤◌, ◌<◌, List, [], ◌∷◌, ◌++◌, flat_map, take, drop, length, refl, sym, ap, ap₂, ◌∙◌, arith, append_assoc, sum_by}
use Rattle.std.specs.List.{AllByRecursion}
use Rattle.std.proofs.lemmas.List.Sums.{sum_by-cons}
use Rattle.std.proofs.lemmas.List.Concat.{length-flat_map}
use Rattle.std.proofs.lemmas.List.{length-drop}
use Rattle.bh_types.specs.declared.range.RangePlan.TheVariants.{Whole, Part}
use Rattle.bh_types.specs.Ranges.{cut}
use Rattle.bh_tables.specs.Schema.{Octets}
use Rattle.bh_tables.specs.Typed.{BlockRow, RefRow}
use Rattle.bh_tables.specs.Bodies.{Name, placed}
use Rattle.bh_view.specs.Blocks.{whole}
use Rattle.bh_blocks.specs.Windows.{piece_of, IsMeasured}

take_whole : (n : ℕ) (xs : Octets) → length xs ≤ n → take n xs ≡ xs
take_whole zero [] h = refl
take_whole (suc n) [] h = refl
take_whole zero (x ∷ xs) h = absurd (omega (arith, h))
take_whole (suc n) (x ∷ xs) h = ap (λ l. x ∷ l) (take_whole n xs (omega (arith, h)))

-- ---- what a plan names

pub plan_whole : (total : ℕ) (bytes : Octets) → length bytes ≡ total → take total (drop 0 bytes) ≡ cut Whole bytes
plan_whole total bytes is = take_whole total bytes (omega (arith, is))

-- a part that ends before the last byte, or with it
pub plan_before : (first last total end left : ℕ) (bytes : Octets) → last < total → end ≡ last + 1 → left ≡ end - first → take left (drop first bytes) ≡ cut (Part first last) bytes
plan_before first last total end left bytes low e l = ap (λ n. take n (drop first bytes)) (l ∙ ap (λ n. n - first) e)

pub plan_to_end : (first last total end left : ℕ) (bytes : Octets) → length bytes ≡ total → total ≤ last → end ≡ total → left ≡ end - first → take left (drop first bytes) ≡ cut (Part first last) bytes
plan_to_end first last total end left bytes is high e l =
    let short = length-drop first bytes in
    take_whole left (drop first bytes) (omega (arith, short, is, e, l)) ∙ sym (take_whole (last + 1 - first) (drop first bytes) (omega (arith, short, is, high)))

-- ---- one block, and then the others

no_less : (n : ℕ) → n - 0 ≡ n
no_less n = omega arith

none_less : (n : ℕ) → 0 - suc n ≡ 0
none_less n = omega arith

both_less : (n m : ℕ) → suc n - suc m ≡ n - m
both_less n m = omega arith

take_none : (n : ℕ) → take {A = ℕ} n [] ≡ []
take_none zero = refl
take_none (suc n) = refl

drop_none : (n : ℕ) → drop {A = ℕ} n [] ≡ []
drop_none zero = refl
drop_none (suc n) = refl

take_both : (n : ℕ) (xs ys : Octets) → take n (xs ++ ys) ≡ take n xs ++ take (n - length xs) ys
take_both n [] ys = sym (ap₂ ◌++◌ (take_none n) (ap (λ m. take m ys) (no_less n)))
take_both zero (x ∷ xs) ys = ap (λ m. take m ys) (sym (none_less (length xs)))
take_both (suc n) (x ∷ xs) ys = ap (λ l. x ∷ l) (take_both n xs ys ∙ ap (λ m. take n xs ++ take m ys) (sym (both_less n (length xs))))

drop_both : (n : ℕ) (xs ys : Octets) → drop n (xs ++ ys) ≡ drop n xs ++ drop (n - length xs) ys
drop_both n [] ys = sym (ap₂ ◌++◌ (drop_none n) (ap (λ m. drop m ys) (no_less n)))
drop_both zero (x ∷ xs) ys = ap (λ m. (x ∷ xs) ++ drop m ys) (sym (none_less (length xs)))
drop_both (suc n) (x ∷ xs) ys = drop_both n xs ys ∙ ap (λ m. drop n xs ++ drop m ys) (sym (both_less n (length xs)))

pub window_next : (skip left : ℕ) (xs ys : Octets) → take left (drop skip (xs ++ ys)) ≡ take left (drop skip xs) ++ take (left - (length xs - skip)) (drop (skip - length xs) ys)
window_next skip left xs ys = ap (take left) (drop_both skip xs ys) ∙ take_both left (drop skip xs) (drop (skip - length xs) ys) ∙ ap (λ n. take left (drop skip xs) ++ take (left - n) (drop (skip - length xs) ys)) (length-drop skip xs)

-- a block that isn't read shows nothing
pub window_shut : (skip left : ℕ) (xs : Octets) → (skip < length xs → left ≡ 0) → take left (drop skip xs) ≡ []
window_shut zero left [] h = take_none left
window_shut zero left (x ∷ xs) h = ap (λ n. take n (x ∷ xs)) (h (omega arith))
window_shut (suc skip) left [] h = take_none left
window_shut (suc skip) left (x ∷ xs) h = window_shut skip left xs (λ low. h (omega (arith, low)))

module _ (blocks : List BlockRow) where
  -- a body is as long as its references say
  pub long_as : (rs : List RefRow) → AllByRecursion (IsMeasured blocks) rs → length (flat_map (piece_of blocks) rs) ≡ sum_by (λ (r : RefRow). r.size) rs
  long_as rs sizes = length-flat_map (piece_of blocks) rs ∙ go rs sizes
    where
      go : (rs : List RefRow) → AllByRecursion (IsMeasured blocks) rs → sum_by (λ r. length (piece_of blocks r)) rs ≡ sum_by (λ (r : RefRow). r.size) rs
      go [] h = refl
      go (r ∷ rs) h = sum_by-cons (λ r. length (piece_of blocks r)) r rs ∙ ap₂ ◌+◌ (sym h.0) (go rs h.1) ∙ sym (sum_by-cons (λ (r : RefRow). r.size) r rs)

-- ---- how many bytes, row after row

abbrev pub size_sum : List RefRow → ℕ
size_sum rs = sum_by (λ (r : RefRow). r.size) rs

pub total_next : (total more size i : ℕ) (r : RefRow) (rs : List RefRow) → size ≡ r.size → more ≡ total + size → drop i rs ≡ r ∷ drop (i + 1) rs → more + size_sum (drop (i + 1) rs) ≡ total + size_sum (drop i rs)
total_next total more size i r rs sized is here = arrange total more size (size_sum (drop (i + 1) rs)) is ∙ ap (λ n. total + (n + size_sum (drop (i + 1) rs))) sized ∙ ap (λ n. total + n) (sym (sum_by-cons (λ (r : RefRow). r.size) r (drop (i + 1) rs))) ∙ ap (λ l. total + size_sum l) (sym here)
  where
    arrange : (total more size rest : ℕ) → more ≡ total + size → more + rest ≡ total + (size + rest)
    arrange total more size rest is = omega (arith, is)

-- ---- the bytes, block after block

module _ (blocks : List BlockRow) where
  abbrev pub shown_of : ℕ → ℕ → List RefRow → Octets
  shown_of skip left rs = take left (drop skip (flat_map (piece_of blocks) rs))

  pub shown_none : (skip left : ℕ) → shown_of skip left [] ≡ []
  shown_none skip left = ap (take left) (drop_none skip) ∙ take_none left

  pub shown_next : (skip left size i : ℕ) (r : RefRow) (rs : List RefRow) (bytes more all : Octets) → size ≡ length (piece_of blocks r) → drop i rs ≡ r ∷ drop (i + 1) rs → more ≡ bytes ++ take left (drop skip (piece_of blocks r)) → bytes ++ shown_of skip left (drop i rs) ≡ all
      → more ++ shown_of (skip - size) (left - (size - skip)) (drop (i + 1) rs) ≡ all
  shown_next skip left size i r rs bytes more all sized here is so_far =
      ap (λ n. more ++ shown_of (skip - n) (left - (n - skip)) (drop (i + 1) rs)) sized
      ∙ ap (λ l. l ++ shown_of (skip - length (piece_of blocks r)) (left - (length (piece_of blocks r) - skip)) (drop (i + 1) rs)) is
      ∙ append_assoc bytes (take left (drop skip (piece_of blocks r))) (shown_of (skip - length (piece_of blocks r)) (left - (length (piece_of blocks r) - skip)) (drop (i + 1) rs))
      ∙ ap (λ l. bytes ++ l) (sym (window_next skip left (piece_of blocks r) (flat_map (piece_of blocks) (drop (i + 1) rs))))
      ∙ ap (λ l. bytes ++ shown_of skip left l) (sym here)
      ∙ so_far

-- ---- a body

pub long_whole : (refs : List RefRow) (blocks : List BlockRow) (body : Name) → AllByRecursion (IsMeasured blocks) (placed refs body) → length (whole refs blocks body) ≡ size_sum (placed refs body)
unfolding whole
long_whole refs blocks body sizes = long_as blocks (placed refs body) sizes

pub total_starts : (n : ℕ) → 0 + n ≡ n
total_starts n = omega arith

pub total_ends : (total all : ℕ) (rs : List RefRow) → rs ≡ [] → total + size_sum rs ≡ all → total ≡ all
total_ends total all rs none is = sym (no_more total) ∙ sym (ap (λ l. total + size_sum l) none) ∙ is
  where
    no_more : (n : ℕ) → n + 0 ≡ n
    no_more n = omega arith
