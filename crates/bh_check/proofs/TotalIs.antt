-- Sums over stored rows are those over typed rows.
use Rattle.std.proofs.Common.{arith, ◌≡◌, ℕ, ◌+◌, Bool, true, false, cond, if◌then◌else◌, List, [], ◌∷◌, map, filter, refl, sym, ap, ap₂, ◌∙◌, sum_by}
use Rattle.std.proofs.lemmas.List.Sums.{sum_by-cons}
use Rattle.sqlite_keyed.proofs.ListLemmas.{map-map}
use Rattle.bh_tables.specs.Bodies.{Name, same_name}
use Rattle.bh_check.specs.Sums.{total}

zero_more : (n : ℕ) → n ≡ 0 + n
zero_more n = omega arith

module _ {R T : Type 0} (shown : R → T) (m : T → Bool) (f : T → ℕ) (name : R → Name) (amount : R → ℕ) (q : Name) (same : (r : R) → m (shown r) ≡ same_name (name r) q) (adds : (r : R) → f (shown r) ≡ amount r) where
  pub total_is : (rows : List R) → sum_by f (filter m (map shown rows)) ≡ total name amount rows q
  total_is [] = refl
  total_is (r ∷ rows) = go (m (shown r)) refl (total_is rows) ∙ sym (sum_by-cons (λ s. if same_name (name s) q then amount s else 0) r rows)
    where
      go : (b : Bool) → m (shown r) ≡ b → sum_by f (filter m (map shown rows)) ≡ total name amount rows q → sum_by f (cond b (shown r ∷ filter m (map shown rows)) (filter m (map shown rows))) ≡ (if same_name (name r) q then amount r else 0) + total name amount rows q
      go true is rest = sum_by-cons f (shown r) (filter m (map shown rows)) ∙ ap₂ ◌+◌ (adds r ∙ ap (λ b. if b then amount r else 0) (sym is ∙ same r)) rest
      go false is rest = rest ∙ zero_more (total name amount rows q) ∙ ap (λ b. (if b then amount r else 0) + total name amount rows q) (sym is ∙ same r)

-- of rows that are read in two steps
pub total_twice : {R C T : Type 0} (read : R → C) (shown : C → T) (m : T → Bool) (f : T → ℕ) (name : R → Name) (amount : R → ℕ) (q : Name) → ((r : R) → m (shown (read r)) ≡ same_name (name r) q) → ((r : R) → f (shown (read r)) ≡ amount r)
    → (rows : List R) → sum_by f (filter m (map shown (map read rows))) ≡ total name amount rows q
total_twice read shown m f name amount q same adds rows = ap (λ l. sum_by f (filter m l)) (map-map shown read rows) ∙ total_is (λ r. shown (read r)) m f name amount q same adds rows
