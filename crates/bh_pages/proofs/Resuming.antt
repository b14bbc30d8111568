-- What is left of a listing after one of its entries: the entries that follow it.
use Rattle.std.proofs.Common.{◌≡◌, ℕ, zero, suc, ◌≤◌, true, false, cond, List, [], ◌∷◌, map, take, drop, Option, Some, None, sym, ap, subst, ◌∙◌}
use Rattle.std.specs.List.{AllByRecursion}
use Rattle.bh_model.specs.State.{Octets}
use Rattle.bh_model.specs.Pages.{Listed, Listed.Single, Listed.Common, is_name, merged, last_of, paged}
use Rattle.bh_pages.specs.Laws.{total, chained}
use Rattle.bh_pages.proofs.Bytes.{none_some, some_same}
use Rattle.bh_pages.proofs.Chaining.{all_last, chain}

abbrev pub so_far : {T : Type 0} → Listed T → Option Octets
so_far (Single x) = None
so_far (Common n) = Some n

-- of items, the entries that are left after an entry
module _ {T : Type 0} (entry : T → Listed T) (left : Listed T → List T → List (Listed T)) where
  -- an item in front changes nothing of what is left
  abbrev pub Skips : T → Listed T → Type 0
  Skips x e = (l : List T) → left e (x ∷ l) ≡ left e l

  -- after the entry of an item is left what follows it, and after that of a later one as if the item weren't there
  abbrev pub Resumes : List T → Type 0
  Resumes [] = Unit {0}
  Resumes (x ∷ l) = (AllByRecursion (λ y. Skips x (entry y)) l × (merged None (left (entry x) (x ∷ l)) ≡ merged (so_far (entry x)) (map entry l))) × Resumes l

  module _ (P : Listed T → Type 0) where
    all_joined : (last : Option Octets) (es : List (Listed T)) → AllByRecursion P es → AllByRecursion P (merged last es)
    all_joined last [] all = tt
    all_joined last (Single x ∷ es) all = (all.0, all_joined None es all.1)
    all_joined last (Common n ∷ es) all = elim (is_name n last) as (λ t. AllByRecursion P (cond t (merged last es) (Common n ∷ merged (Some n) es))) [ true ↦ all_joined last es all.1 | false ↦ (all.0, all_joined (Some n) es all.1) ]

    all_entries : (l : List T) → AllByRecursion (λ y. P (entry y)) l → AllByRecursion P (map entry l)
    all_entries [] all = tt
    all_entries (x ∷ l) all = (all.0, all_entries l all.1)

  module _ (x : T) (l : List T) where
    abbrev Goes : List (Listed T) → Type 0
    Goes es = (d : ℕ) (e : Listed T) → last_of (take d es) ≡ Some e → merged None (left e l) ≡ drop d es

    step : (f : Listed T) (es : List (Listed T)) → merged None (left f (x ∷ l)) ≡ es → AllByRecursion (Skips x) es → Goes es
        → (d : ℕ) (e : Listed T) → last_of (take d (f ∷ es)) ≡ Some e → merged None (left e (x ∷ l)) ≡ drop d (f ∷ es)
    step f es here skips more zero e h = absurd (none_some h)
    step f es here skips more (suc zero) e h = subst (λ z. merged None (left z (x ∷ l)) ≡ es) (some_same h) here
    step f [] here skips more (suc (suc d)) e h = subst (λ z. merged None (left z (x ∷ l)) ≡ []) (some_same h) here
    step f (z ∷ es) here skips more (suc (suc d)) e h = ap (merged None) (all_last (Skips x) (suc d) (z ∷ es) e skips h l) ∙ more (suc d) e h

  none_first : (d : ℕ) (e : Listed T) → last_of (take d []) ≡ Some e → ⊥
  none_first zero e h = none_some h
  none_first (suc d) e h = none_some h

  pub resumes : (last : Option Octets) (l : List T) → Resumes l → (d : ℕ) (e : Listed T) → last_of (take d (merged last (map entry l))) ≡ Some e → merged None (left e l) ≡ drop d (merged last (map entry l))
  resumes last [] ok d e h = absurd (none_first d e h)
  resumes last (x ∷ l) ok d e h = go (entry x) ok.0.1 d e h (λ last. resumes last l ok.1)
    where
      skips : (last : Option Octets) → AllByRecursion (Skips x) (merged last (map entry l))
      skips last = all_joined (Skips x) last (map entry l) (all_entries (Skips x) l ok.0.0)

      go : (f : Listed T) → merged None (left f (x ∷ l)) ≡ merged (so_far f) (map entry l) → (d : ℕ) (e : Listed T) → last_of (take d (merged last (f ∷ map entry l))) ≡ Some e
          → ((last : Option Octets) → Goes x l (merged last (map entry l))) → merged None (left e (x ∷ l)) ≡ drop d (merged last (f ∷ map entry l))
      go (Single y) here d e h more = step x l (Single y) (merged None (map entry l)) here (skips None) (more None) d e h
      go (Common n) here d e h more = elim (is_name n last) as (λ t. last_of (take d (cond t (merged last (map entry l)) (Common n ∷ merged (Some n) (map entry l)))) ≡ Some e
          → merged None (left e (x ∷ l)) ≡ drop d (cond t (merged last (map entry l)) (Common n ∷ merged (Some n) (map entry l)))) [
            | true ↦ λ h. ap (merged None) (all_last (Skips x) d (merged last (map entry l)) e (skips last) h l) ∙ more last d e h
            | false ↦ λ h. step x l (Common n) (merged (Some n) (map entry l)) here (skips (Some n)) (more (Some n)) d e h
          ] h

  -- pages of such items' entries, each of which shows what is left after the last entry of the one before
  pub chain_entries : {M : Type 0} (marked : Listed T → M) (rest : M → List (Listed T)) (l : List T) → Resumes l → (start : M) → rest start ≡ merged None (map entry l) → ((e : Listed T) → rest (marked e) ≡ merged None (left e l))
      → (sizes : List ℕ) → AllByRecursion (λ m. 1 ≤ m) sizes → chained marked (λ m marker. paged m (rest marker)) sizes start ≡ take (total sizes) (rest start)
  chain_entries marked rest l ok start first at_entry sizes some =
      chain marked rest (merged None (map entry l)) (λ d e h. at_entry e ∙ resumes None l ok d e h) sizes some 0 start first ∙ ap (take (total sizes)) (sym first)
