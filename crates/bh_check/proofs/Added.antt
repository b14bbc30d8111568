-- A sum that grows.
use Rattle.std.proofs.Common.{arith, ◌≡◌, ℕ, ◌+◌, pos, Bool, true, false, ◌&&◌, cond, if◌then◌else◌, Some, unwrap_or, refl, ap, ◌∙◌, Ordering, Less, Equal, Greater}
use Rattle.std.specs.Ordering.{nat_cmp, int_eq, is_eq, ordering_then}
use Rattle.std.specs.Cmp.Lexicographic.{slice_cmp}
use Rattle.std.specs.BTreeMap.{BTreeMap, get, Updates}
use Rattle.std.specs.Map.{lookup}
use Rattle.std.proofs.lemmas.Int.{ints}
use Rattle.bh_tables.specs.Bodies.{Name, same_name}
use Rattle.bh_tables.proofs.TotalLemmas.{name_Decides}
use Rattle.bh_check.specs.Sums.{Key, key_name, key_cmp, kept_at, Keeps}
use Rattle.bh_check.specs.declared.sums.Sums.{Sums}

same_then : (a b : Ordering) → is_eq (ordering_then a b) ≡ (is_eq a && is_eq b)
same_then Less b = refl
same_then Equal b = refl
same_then Greater b = refl

same_numbers : (a b : ℕ) → is_eq (nat_cmp a b) ≡ int_eq (pos a) (pos b)
same_numbers a b = grind (arith, ints)

same_keys : (a b : Key) → is_eq (key_cmp a b) ≡ same_name (key_name a) (key_name b)
same_keys a b = same_then (slice_cmp nat_cmp a.0.items b.0.items) (nat_cmp a.1 b.1) ∙ ap (λ x. is_eq (slice_cmp nat_cmp a.0.items b.0.items) && x) (same_numbers a.1 b.1)

module _ (old new : BTreeMap Key ℕ) (key : Key) (more amount : ℕ) (updates : Updates key_cmp old new key (Some more)) (more_is : more ≡ unwrap_or (get key_cmp old key) 0 + amount) where
  -- a key of the same name has the same
  same_kept : (k : Key) → key_name key ≡ key_name k → get key_cmp old key ≡ get key_cmp old k
  same_kept k e = ap (λ (q : Name). lookup (λ (o : Key). is_eq (ordering_then (slice_cmp nat_cmp q.0 o.0.items) (nat_cmp q.1 o.1))) old.entries) e

  pub kept_added : (k : Key) → unwrap_or (get key_cmp new k) 0 ≡ unwrap_or (get key_cmp old k) 0 + (if same_name (key_name key) (key_name k) then amount else 0)
  kept_added k = ap (λ o. unwrap_or o 0) (updates.0 k ∙ ap (λ b. cond b (Some more) (get key_cmp old k)) (same_keys key k)) ∙ go (same_name (key_name key) (key_name k)) refl
    where
      go : (b : Bool) → same_name (key_name key) (key_name k) ≡ b → unwrap_or (cond b (Some more) (get key_cmp old k)) 0 ≡ unwrap_or (get key_cmp old k) 0 + cond b amount 0
      go true is = more_is ∙ ap (λ o. unwrap_or o 0 + amount) (same_kept k ((name_Decides (key_name key) (key_name k)).0 is))
      go false is = omega arith

pub keeps_added : (old new : Sums) (key : Key) (more amount : ℕ) → Updates key_cmp old.totals new.totals key (Some more) → more ≡ kept_at old key + amount → (of : Name → ℕ) → Keeps of old
    → Keeps (λ q. of q + (if same_name (key_name key) q then amount else 0)) new
unfolding kept_at
keeps_added old new key more amount updates is of keeps = record { each = λ k. kept_added old.totals new.totals key more amount updates is k ∙ ap (λ n. n + (if same_name (key_name key) (key_name k) then amount else 0)) (keeps.each k) }
