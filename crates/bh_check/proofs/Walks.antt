-- Steps of a walk over rows: what holds of the rows so far, and their sums.
use Rattle.std.proofs.Common.{arith, ◌≡◌, ℕ, zero, suc, ◌+◌, ◌<◌, List, [], ◌∷◌, length, take, get_or, refl, sym, ap, ◌∙◌, subst, if◌then◌else◌}
use Rattle.std.specs.List.{AllByRecursion}
use Rattle.std.proofs.lemmas.List.Sums.{sum_by_more}
use Rattle.bh_tables.specs.Bodies.{Name, same_name}
use Rattle.bh_check.specs.Sums.{Keeps, total}
use Rattle.bh_check.specs.declared.sums.Sums.{Sums}

-- ---- sums

pub total_more : {T : Type 0} (name : T → Name) (amount : T → ℕ) (rows : List T) (i : ℕ) (row : T) → i < length rows → row ≡ get_or rows i row → (q : Name)
    → total name amount (take i rows) q + (if same_name (name row) q then amount row else 0) ≡ total name amount (take (i + 1) rows) q
total_more name amount rows i row low is q =
    let more = sum_by_more (λ r. if same_name (name r) q then amount r else 0) rows i row low in
    sym (more ∙ ap (λ r. total name amount (take i rows) q + (if same_name (name r) q then amount r else 0)) (sym is))

pub keeps_same : (f g : Name → ℕ) (s : Sums) → ((q : Name) → f q ≡ g q) → Keeps f s → Keeps g s
keeps_same f g s same k = record { each = λ q. k.each q ∙ same _ }

-- ---- what holds of each row

pub all_more : {T : Type 0} (P : T → Type 0) (rows : List T) (i : ℕ) (row : T) → i < length rows → row ≡ get_or rows i row → AllByRecursion P (take i rows) → P row → AllByRecursion P (take (i + 1) rows)
all_more {T} P rows i row low is so_far holds = subst (λ n. AllByRecursion P (take n rows)) (one i) (go rows i low is so_far)
  where
    one : (n : ℕ) → suc n ≡ n + 1
    one n = omega arith

    go : (rows : List T) (i : ℕ) → i < length rows → row ≡ get_or rows i row → AllByRecursion P (take i rows) → AllByRecursion P (take (suc i) rows)
    go [] i low is so_far = absurd (omega (arith, low))
    go (r ∷ rows) zero low is so_far = (subst P is holds, tt)
    go (r ∷ rows) (suc i) low is so_far = (so_far.0, go rows i (omega (arith, low)) is so_far.1)

pub all_at_end : {T : Type 0} (P : T → Type 0) (rows : List T) (i : ℕ) → (i < length rows → ⊥) → AllByRecursion P (take i rows) → AllByRecursion P rows
all_at_end P [] i high all = tt
all_at_end P (r ∷ rows) zero high all = absurd (high (omega arith))
all_at_end P (r ∷ rows) (suc i) high all = (all.0, all_at_end P rows i (λ low. high (omega (arith, low))) all.1)

pub total_at_end : {T : Type 0} (name : T → Name) (amount : T → ℕ) (rows : List T) (i : ℕ) → (i < length rows → ⊥) → (q : Name) → total name amount (take i rows) q ≡ total name amount rows q
total_at_end {T} name amount rows i high q = ap (λ l. total name amount l q) (whole rows i high)
  where
    whole : (rows : List T) (i : ℕ) → (i < length rows → ⊥) → take i rows ≡ rows
    whole [] zero high = refl
    whole [] (suc i) high = refl
    whole (r ∷ rows) zero high = absurd (high (omega arith))
    whole (r ∷ rows) (suc i) high = ap (λ l. r ∷ l) (whole rows i (λ low. high (omega (arith, low))))
