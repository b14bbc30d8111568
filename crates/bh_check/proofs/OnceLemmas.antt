-- A walk over blocks that hold different bytes.
use Rattle.std.proofs.Common.{arith, ◌≡◌, inl, inr, ℕ, zero, suc, ◌+◌, ◌<◌, ◌≤◌, Bool, true, false, ◌||◌, List, [], ◌∷◌, ◌++◌, length, take, get_or, refl, sym, ap, ◌∙◌, subst}
use Rattle.std.specs.List.{AllByRecursion, list_any}
use Rattle.std.proofs.lemmas.Bool.{cases_Bool}
use Rattle.sqlite.specs.Order.{Row, column}
use Rattle.sqlite_typed.specs.Columns.{bytes_of}
use Rattle.sqlite_typed.specs.Tests.{bytes_eq}
use Rattle.bh_tables.specs.Schema.{Octets}
use Rattle.bh_tables.specs.Bodies.{same_name}
use Rattle.bh_tables.proofs.TotalLemmas.{bytes_Decides, name_Decides}
use Rattle.bh_view.proofs.FactLemmas.{unique_pushed}
use Rattle.bh_view.proofs.Keys.{octets}
use Rattle.bh_check.specs.Blocks.{block_octets, HasDigest, AreOnce}
use Rattle.bh_check.specs.Holds.{owner, one}
use Rattle.bh_check.specs.Sums.{total}
use Rattle.bh_check.proofs.Counted.{none_has, filter_of_none}

abbrev holds : Octets → Row → Bool
holds bytes r = bytes_eq (block_octets r) bytes

-- none of another digest holds the bytes
pub none_holds : (digest : Octets → Octets) (rows : List Row) (row : Row) → AllByRecursion (HasDigest digest) rows → HasDigest digest row → total owner one rows (owner row) ≡ 0 → list_any (λ r. bytes_eq (block_octets r) (block_octets row)) rows ≡ false
none_holds digest rows row all its none = go rows all (none_has owner rows (owner row) none)
  where
    not_both : true ≡ false → ⊥
    not_both e = cc

    go : (rows : List Row) → AllByRecursion (HasDigest digest) rows → list_any (λ r. same_name (owner r) (owner row)) rows ≡ false → list_any (holds (block_octets row)) rows ≡ false
    go [] all none = refl
    go (r ∷ rows) all none = elim (cases_Bool (same_name (owner r) (owner row))) [
      | inl is ↦ absurd (not_both (sym (ap (λ b. b || list_any (λ r. same_name (owner r) (owner row)) rows) is) ∙ none))
      | inr not ↦ elim (cases_Bool (holds (block_octets row) r)) [
        | inl same ↦
            let digests = all.0 ∙ ap digest ((bytes_Decides (block_octets r) (block_octets row)).0 same) ∙ sym its in
            absurd (not_both (sym ((name_Decides (owner r) (owner row)).1 (λ i. (digests i, 0))) ∙ not))
        | inr other ↦ ap (λ b. b || list_any (holds (block_octets row)) rows) other ∙ go rows all.1 (sym (ap (λ b. b || list_any (λ r. same_name (owner r) (owner row)) rows) not) ∙ none)
      ]
    ]

-- bytes of other digests are others
pub other_bytes : (digest : Octets → Octets) (a b : Row) → HasDigest digest a → HasDigest digest b → bytes_eq (bytes_of (column a 1)) (bytes_of (column b 1)) ≡ false → bytes_eq (block_octets a) (block_octets b) ≡ false
other_bytes digest a b its one other = elim (cases_Bool (bytes_eq (block_octets a) (block_octets b))) [
  | inl same ↦
      let digests = its ∙ ap digest ((bytes_Decides (block_octets a) (block_octets b)).0 same) ∙ sym one in
      absurd (not_both (sym ((bytes_Decides (bytes_of (column a 1)) (bytes_of (column b 1))).1 digests) ∙ other))
  | inr not ↦ not
]
  where
    not_both : true ≡ false → ⊥
    not_both e = cc

-- none of those so far, and not the next one
pub none_more : {T : Type 0} (p : T → Bool) (rows : List T) (i : ℕ) (row : T) → i < length rows → row ≡ get_or rows i row → list_any p (take i rows) ≡ false → p row ≡ false → list_any p (take (i + 1) rows) ≡ false
none_more {T} p rows i row low is none not = subst (λ n. list_any p (take n rows) ≡ false) (next i) (go rows i low is none)
  where
    none_both : (a b : Bool) → (a || b) ≡ false → (a ≡ false) × (b ≡ false)
    none_both true b e = absurd (cc)
    none_both false b e = (refl, e)

    next : (n : ℕ) → suc n ≡ n + 1
    next n = omega arith

    go : (rows : List T) (i : ℕ) → i < length rows → row ≡ get_or rows i row → list_any p (take i rows) ≡ false → list_any p (take (suc i) rows) ≡ false
    go [] i low is none = absurd (omega (arith, low))
    go (r ∷ rows) zero low is none = ap (λ x. p x || false) (sym is) ∙ ap (λ b. b || false) not
    go (r ∷ rows) (suc i) low is none =
        let parts = none_both (p r) (list_any p (take i rows)) none in
        ap (λ b. b || list_any p (take (suc i) rows)) parts.0 ∙ go rows i (omega (arith, low)) is parts.1

pub one_more : {T : Type 0} (rows : List T) (i : ℕ) (row : T) → i < length rows → row ≡ get_or rows i row → take (i + 1) rows ≡ take i rows ++ row ∷ []
one_more {T} rows i row low is = subst (λ n. take n rows ≡ take i rows ++ row ∷ []) (next i) (go rows i low is)
  where
    next : (n : ℕ) → suc n ≡ n + 1
    next n = omega arith

    go : (rows : List T) (i : ℕ) → i < length rows → row ≡ get_or rows i row → take (suc i) rows ≡ take i rows ++ row ∷ []
    go [] i low is = absurd (omega (arith, low))
    go (r ∷ rows) zero low is = ap (λ x. x ∷ []) (sym is)
    go (r ∷ rows) (suc i) low is = ap (λ l. r ∷ l) (go rows i (omega (arith, low)) is)

-- a block more
pub once_more : (rows : List Row) (i : ℕ) (row : Row) → i < length rows → row ≡ get_or rows i row → AreOnce (take i rows) → list_any (λ r. bytes_eq (block_octets r) (block_octets row)) (take i rows) ≡ false → AreOnce (take (i + 1) rows)
once_more rows i row low is once none = subst AreOnce (sym (one_more rows i row low is)) (unique_pushed octets block_octets (take i rows) row once (filter_of_none (holds (block_octets row)) (take i rows) none))

-- what holds of all rows holds of those so far, and of each
pub all_taken : {T : Type 0} (P : T → Type 0) (rows : List T) (i : ℕ) → AllByRecursion P rows → AllByRecursion P (take i rows)
all_taken P [] zero all = tt
all_taken P [] (suc i) all = tt
all_taken P (r ∷ rows) zero all = tt
all_taken P (r ∷ rows) (suc i) all = (all.0, all_taken P rows i all.1)

pub all_got : {T : Type 0} (P : T → Type 0) (rows : List T) (i : ℕ) (row : T) → i < length rows → row ≡ get_or rows i row → AllByRecursion P rows → P row
all_got P [] i row low is all = absurd (omega (arith, low))
all_got P (r ∷ rows) zero row low is all = subst P (sym is) all.0
all_got P (r ∷ rows) (suc i) row low is all = all_got P rows i row (omega (arith, low)) is all.1

-- at the end
pub taken_whole : {T : Type 0} (rows : List T) (i : ℕ) → length rows ≤ i → take i rows ≡ rows
taken_whole [] zero high = refl
taken_whole [] (suc i) high = refl
taken_whole (r ∷ rows) zero high = absurd (omega (arith, high))
taken_whole (r ∷ rows) (suc i) high = ap (λ l. r ∷ l) (taken_whole rows i (omega (arith, high)))
