-- The references of a body, one place after the other, and what a plan still gives.
use Rattle.std.proofs.Common.{◌≡◌, ℕ, zero, suc, ◌+◌, ◌-◌, ◌<◌, ◌≤◌, pos, Bool, true, false, ◌&&◌, cond, List, [], ◌∷◌, ◌++◌, map, filter, flat_map, take, drop, length, length-drop, slice_get, is_gt, Option, Some, None, Ordering, refl, sym, ap, subst, ◌∙◌, arith}
use Rattle.std.specs.List.{range_with_len}
use Rattle.std.specs.Ordering.{int_eq}
use Rattle.std.specs.Cmp.{IsTotalOrder}
use Rattle.std.proofs.lemmas.Cmp.{on_total, int_cmp_total}
use Rattle.sqlite.specs.Order.{Row}
use Rattle.sqlite_keyed.specs.Lists.{insert_sorted, sort_by}
use Rattle.sqlite_keyed.proofs.ListLemmas.{filter_same}
use Rattle.bh_tables.specs.Schema.{Octets}
use Rattle.bh_tables.specs.Typed.{BlockRow, RefRow, Tables}
use Rattle.bh_tables.specs.Bodies.{placed, block_at}
use Rattle.bh_tables.specs.Shown.{Name, is_of_body, is_at_place, by_place, shown_ref}
use Rattle.bh_view.specs.Blocks.{whole}
use Rattle.bh_view.specs.Bodies.{AreBodies}
use Rattle.bh_view.proofs.BodyLemmas.{placed_measured}
use Rattle.bh_view.proofs.GroupedLemmas.{is_itself, is_other}
use Rattle.bh_view.proofs.Keys.{numbers}
use Rattle.bh_view.proofs.SortLemmas.{sort_by-filter, sorted_single}
use Rattle.bh_blocks.specs.Named.{named_by}
use Rattle.bh_blocks.specs.Plans.{IsFirst}
use Rattle.bh_blocks.specs.Windows.{seen_in, piece_of}
use Rattle.bh_blocks.specs.declared.reading.Window.{Window}
use Rattle.bh_blocks.specs.declared.refs.BlockRef.{BlockRef}
use Rattle.bh_blocks.proofs.Removing.{all_at_drop}
use Rattle.bh_blocks.proofs.WindowSteps.{window_shut, shown_of, shown_none, shown_next}

-- ---- sorted by place

by_place_total : IsTotalOrder by_place
by_place_total = on_total (λ (r : RefRow). pos r.place) int_cmp_total

length_inserted : {X : Type 0} (cmp : X → X → Ordering) (x : X) (ys : List X) → length (insert_sorted cmp x ys) ≡ suc (length ys)
length_inserted cmp x [] = refl
length_inserted cmp x (y ∷ ys) = elim (is_gt (cmp x y)) as (λ b. length (cond b (y ∷ insert_sorted cmp x ys) (x ∷ y ∷ ys)) ≡ suc (suc (length ys))) [ true ↦ ap suc (length_inserted cmp x ys) | false ↦ refl ]

length_sorted : {X : Type 0} (cmp : X → X → Ordering) (xs : List X) → length (sort_by cmp xs) ≡ length xs
length_sorted cmp [] = refl
length_sorted cmp (x ∷ xs) = length_inserted cmp x (sort_by cmp xs) ∙ ap suc (length_sorted cmp xs)

take_zero : {A : Type 0} (xs : List A) → take 0 xs ≡ []
take_zero [] = refl
take_zero (x ∷ xs) = refl

take_one : {A : Type 0} (xs : List A) → length (take 1 xs) ≤ 1
take_one [] = omega arith
take_one (x ∷ xs) = let none = ap length (take_zero xs) in omega (arith, none)

-- ---- the reference at a place

abbrev is_at : ℕ → RefRow → Bool
is_at k r = int_eq (pos r.place) (pos k)

abbrev places : List RefRow → List ℕ
places rs = map (λ (r : RefRow). r.place) rs

same_at : (a b : ℕ) → a ≡ b → int_eq (pos a) (pos b) ≡ true
same_at a b e = ap (λ n. int_eq (pos a) (pos n)) (sym e) ∙ is_itself numbers a

first_place : (y : RefRow) (ys : List RefRow) (s : ℕ) → places (y ∷ ys) ≡ range_with_len s (length (y ∷ ys)) → y.place ≡ s
first_place y ys s is = cc

other_places : (y : RefRow) (ys : List RefRow) (s : ℕ) → places (y ∷ ys) ≡ range_with_len s (length (y ∷ ys)) → places ys ≡ range_with_len (s + 1) (length ys)
other_places y ys s is = ap (drop 1) is

none_at : (ys : List RefRow) (s k : ℕ) → k < s → places ys ≡ range_with_len s (length ys) → filter (is_at k) ys ≡ []
none_at [] s k low is = refl
none_at (y ∷ ys) s k low is =
    let here = first_place y ys s is in
    ap (λ b. cond b (y ∷ filter (is_at k) ys) (filter (is_at k) ys)) (is_other numbers y.place k (λ e. omega (arith, e, here, low)))
    ∙ none_at ys (s + 1) k (omega (arith, low)) (other_places y ys s is)

at_index : (ys : List RefRow) (s k j : ℕ) → places ys ≡ range_with_len s (length ys) → j ≡ s + k → filter (is_at j) ys ≡ take 1 (drop k ys)
at_index [] s zero j is e = refl
at_index [] s (suc k) j is e = refl
at_index (y ∷ ys) s zero j is e =
    let here = first_place y ys s is in
    ap (λ b. cond b (y ∷ filter (is_at j) ys) (filter (is_at j) ys)) (same_at y.place j (omega (arith, here, e)))
    ∙ ap (λ l. y ∷ l) (none_at ys (s + 1) j (omega (arith, e)) (other_places y ys s is) ∙ sym (take_zero ys))
at_index (y ∷ ys) s (suc k) j is e =
    let here = first_place y ys s is in
    ap (λ b. cond b (y ∷ filter (is_at j) ys) (filter (is_at j) ys)) (is_other numbers y.place j (λ h. omega (arith, h, here, e)))
    ∙ at_index ys (s + 1) k j (other_places y ys s is) (omega (arith, e))

filter_both : {A : Type 0} (p q : A → Bool) (xs : List A) → filter (λ x. p x && q x) xs ≡ filter q (filter p xs)
filter_both p q [] = refl
filter_both p q (x ∷ xs) =
    elim (p x) as (λ b. cond (b && q x) (x ∷ filter (λ x. p x && q x) xs) (filter (λ x. p x && q x) xs) ≡ filter q (cond b (x ∷ filter p xs) (filter p xs))) [
      | true ↦ ap (λ l. cond (q x) (x ∷ l) l) (filter_both p q xs)
      | false ↦ filter_both p q xs
    ]

in_turn : (a b c : Bool) → (a && (b && c)) ≡ ((a && b) && c)
in_turn true b c = refl
in_turn false b c = refl

-- places are 0, 1, .. without gap: one reference at most is at a place, the one of that index
pub at_place : (bodies : List Name) (refs : List RefRow) (blocks : List BlockRow) (q : Name) (k : ℕ) → AreBodies bodies refs blocks → filter (is_at_place q k) refs ≡ take 1 (drop k (placed refs q))
at_place bodies refs blocks q k b =
    let xs = filter (is_of_body q) refs in
    let ys = sort_by by_place xs in
    let found : filter (is_at k) ys ≡ take 1 (drop k ys) = at_index ys 0 k k (b.placed q ∙ ap (range_with_len 0) (sym (length_sorted by_place xs))) (omega arith) in
    let moved : sort_by by_place (filter (is_at k) xs) ≡ take 1 (drop k ys) = sort_by-filter by_place by_place_total (is_at k) xs ∙ found in
    let long = sym (length_sorted by_place (filter (is_at k) xs)) ∙ ap length moved in
    filter_same (is_at_place q k) (λ r. is_of_body q r && is_at k r) (λ r. in_turn _ _ (is_at k r)) refs
    ∙ filter_both (is_of_body q) (is_at k) refs
    ∙ sym (sorted_single by_place (filter (is_at k) xs) (omega (arith, long, take_one (drop k ys))))
    ∙ moved

-- what is shown of at most one reference
pub first_none : (rs : List RefRow) (items : List Row) → items ≡ map shown_ref (take 1 rs) → None ≡ slice_get items 0 → rs ≡ []
first_none [] items is none = refl
first_none (r ∷ rs) items is none = absurd (let e = none ∙ ap (λ l. slice_get l 0) is in cc)

pub first_some : (rs : List RefRow) (items : List Row) (row : Row) → items ≡ map shown_ref (take 1 rs) → Some row ≡ slice_get items 0 → (r : RefRow) × (more : List RefRow) × (rs ≡ r ∷ more) × (row ≡ shown_ref r)
first_some [] items row is some = absurd (let e = some ∙ ap (λ l. slice_get l 0) is in cc)
first_some (r ∷ rs) items row is some = (r, rs, refl, (let e = some ∙ ap (λ l. slice_get l 0) is in cc))

-- ---- what a plan still gives

-- at first a part of the whole body
pub all_coming : (window : Window) (refs : List RefRow) (blocks : List BlockRow) (body : Name) → seen_in window (flat_map (piece_of blocks) (drop 0 (placed refs body))) ≡ seen_in window (whole refs blocks body)
unfolding whole
all_coming window refs blocks body = refl

drop_next : {A : Type 0} (n : ℕ) (xs : List A) (x : A) (more : List A) → drop n xs ≡ x ∷ more → drop (n + 1) xs ≡ more
drop_next {A} n xs x more is = ap (λ m. drop m xs) (one n) ∙ go n xs is
  where
    one : (n : ℕ) → n + 1 ≡ suc n
    one n = omega arith

    go : (n : ℕ) (xs : List A) → drop n xs ≡ x ∷ more → drop (suc n) xs ≡ more
    go zero [] is = absurd (cc)
    go (suc n) [] is = absurd (cc)
    go zero (y ∷ ys) is = ap (drop 1) is
    go (suc n) (y ∷ ys) is = go n ys is

taken_off : (left : ℕ) (xs : Octets) → left - length (take left xs) ≡ left - length xs
taken_off zero [] = refl
taken_off zero (x ∷ xs) = omega arith
taken_off (suc n) [] = refl
taken_off (suc n) (x ∷ xs) = let rest = taken_off n xs in omega (arith, rest)

module _ (blocks : List BlockRow) (bodies : List Name) (refs : List RefRow) (b : AreBodies bodies refs blocks) (at : Name) where
  abbrev rs : List RefRow
  rs = placed refs at

  measured : (place : ℕ) (r : RefRow) (more : List RefRow) → drop place rs ≡ r ∷ more → r.size ≡ length (piece_of blocks r)
  measured place r more is = all_at_drop (λ (r : RefRow). r.size ≡ length (piece_of blocks r)) place rs r more (placed_measured bodies refs blocks at b) is

  -- a block that ends before the window is passed over
  pub passed_over : (block : BlockRef) (skip left place next skips lefts : ℕ) → IsFirst (Some block) (drop place rs) → block.size ≤ skip → next ≡ place + 1 → skips ≡ skip - block.size → lefts ≡ left - (block.size - skip)
      → shown_of blocks skips lefts (drop next rs) ≡ shown_of blocks skip left (drop place rs)
  passed_over block skip left place next skips lefts (r, more, is, named, sized) low step s l =
      let size = sized ∙ measured place r more is in
      (λ i. shown_of blocks (s i) (l i) (drop (step i) rs))
      ∙ shown_next blocks skip left block.size place r rs [] [] (shown_of blocks skip left (drop place rs)) size (is ∙ ap (λ l. r ∷ l) (sym (drop_next place rs r more is)))
      (sym (window_shut skip left (piece_of blocks r) (λ high. absurd (omega (arith, high, low, size))))) refl

  -- the part of a block that the window shows, and the rest
  pub piece_given : (block : BlockRef) (skip left place next lefts : ℕ) (bytes : Octets) → IsFirst (Some block) (drop place rs) → skip < block.size → next ≡ place + 1
      → bytes ≡ take left (drop skip (block_at blocks (named_by block))) → lefts ≡ left - length bytes
      → shown_of blocks skip left (drop place rs) ≡ bytes ++ shown_of blocks 0 lefts (drop next rs)
  piece_given block skip left place next lefts bytes (r, more, is, named, sized) high step part l =
      let size = sized ∙ measured place r more is in
      let shows : bytes ≡ take left (drop skip (piece_of blocks r)) = part ∙ ap (λ q. take left (drop skip (block_at blocks q))) named in
      let back = sym step in
      let past : skip - block.size ≡ 0 = omega (arith, high) in
      let fewer : left - (block.size - skip) ≡ lefts =
      ap (λ n. left - (n - skip)) size ∙ ap (λ n. left - n) (sym (length-drop skip (piece_of blocks r))) ∙ sym (taken_off left (drop skip (piece_of blocks r))) ∙ ap (λ (xs : Octets). left - length xs) (sym shows) ∙ sym l in
      sym (shown_next blocks skip left block.size place r rs [] bytes (shown_of blocks skip left (drop place rs)) size (is ∙ ap (λ l. r ∷ l) (sym (drop_next place rs r more is))) shows refl)
      ∙ (λ i. bytes ++ shown_of blocks (past i) (fewer i) (drop (back i) rs))

  -- no reference is left
  pub none_left : (skip left place : ℕ) → IsFirst None (drop place rs) → shown_of blocks skip left (drop place rs) ≡ []
  none_left skip left place none = ap (shown_of blocks skip left) none ∙ shown_none blocks skip left

-- what was read of other tables that are these
pub first_in : (found : Option BlockRef) (block : BlockRef) (place : ℕ) (at : Name) (t old : Tables) → t ≡ old → found ≡ Some block → IsFirst found (drop place (placed t.refs at)) → IsFirst (Some block) (drop place (placed old.refs at))
first_in found block place at t old same is first = subst (λ o. IsFirst o (drop place (placed old.refs at))) is (subst (λ (x : Tables). IsFirst found (drop place (placed x.refs at))) same first)

pub none_in : (found : Option BlockRef) (place : ℕ) (at : Name) (t old : Tables) → t ≡ old → found ≡ None → IsFirst found (drop place (placed t.refs at)) → IsFirst None (drop place (placed old.refs at))
none_in found place at t old same is first = subst (λ o. IsFirst o (drop place (placed old.refs at))) is (subst (λ (x : Tables). IsFirst found (drop place (placed x.refs at))) same first)

-- no byte is left
pub nothing_left : (left : ℕ) (xs : Octets) → left ≡ 0 → take left xs ≡ []
nothing_left left xs none = ap (λ n. take n xs) none ∙ take_zero xs
