-- What is kept once a block is put, looked up or taken out.
use Rattle.std.proofs.Common.{◌≡◌, ◌≢◌, ◌⊎◌, inl, inr, ℕ, Bool, true, true≢false, List, [], ◌∷◌, map, cond, take, Contains, IsSome, Some, None, sym, ap, subst, ◌∙◌}
use Rattle.std.specs.Cmp.{IsEquivalence}
use Rattle.std.specs.List.{IsDistinct}
use Rattle.std.specs.Map.{lookup, keys_of, remove_entry}
use Rattle.std.proofs.lemmas.Map.{lookup-remove_entry}
use Rattle.std.proofs.lemmas.Map.Views.{IsSome-lookup_from_Contains}
use Rattle.lru.proofs.Splits.{Contains-head, Contains-tail, Contains-cons, Contains-nil}
use Rattle.lru.specs.LruCache.{LruCache, put_entries, promoted}
use Rattle.lru.proofs.CallerLemmas.{Contains-put_entries, Contains-lookup, Contains-remove_entry, Contains-promoted, Contains-take}
use Rattle.bh_tables.specs.Schema.{Octets}
use Rattle.bh_tables.specs.Shown.{Name}
use Rattle.bh_cache.specs.Kept.{entries_in}

-- ---- entries, as names and bytes

module _ {X Y : Type 0} (f : X → Y) where
  pub Contains-mapped : (xs : List X) (x : X) → Contains xs x → Contains (map f xs) (f x)
  Contains-mapped [] x there = absurd (Contains-nil x there)
  Contains-mapped (y ∷ xs) x there = elim (Contains-cons y xs x there) [
    | inl same ↦ subst (λ z. Contains (map f (y ∷ xs)) (f z)) same (Contains-head (f y) (map f xs))
    | inr later ↦ Contains-tail (f y) (map f xs) (f x) (Contains-mapped xs x later)
  ]

  pub Contains-unmapped : (xs : List X) (y : Y) → Contains (map f xs) y → (x : X) × Contains xs x × (f x ≡ y)
  Contains-unmapped [] y there = absurd (Contains-nil y there)
  Contains-unmapped (x ∷ xs) y there = elim (Contains-cons (f x) (map f xs) y there) [
    | inl same ↦ (x, Contains-head x xs, same)
    | inr later ↦ let it = Contains-unmapped xs y later in (it.0, Contains-tail x xs it.0 it.1, it.2)
  ]

-- ---- an entry is taken out

keys_has : {K V : Type 0} (es : List (K × V)) (e : K × V) → Contains es e → Contains (keys_of es) e.0
keys_has [] e there = absurd (Contains-nil e there)
keys_has (f ∷ es) e there = elim (Contains-cons f es e there) [
  | inl same ↦ subst (λ x. Contains (f.0 ∷ keys_of es) x.0) same (Contains-head f.0 (keys_of es))
  | inr later ↦ Contains-tail f.0 (keys_of es) e.0 (keys_has es e later)
]

-- no entry has its key any more
gone : {K V : Type 0} {eq : K → K → Bool} (laws : IsEquivalence eq) (k : K) (es : List (K × V)) → IsDistinct eq (keys_of es) → (e : K × V) → Contains (remove_entry (eq k) es) e → e.0 ≢ k
gone {eq = eq} laws k es distinct e there is =
    let found = IsSome-lookup_from_Contains laws e.0 (remove_entry (eq k) es) (keys_has (remove_entry (eq k) es) e there) in
    let none = lookup-remove_entry laws (eq k) (λ x y h. laws.congr k x y h) e.0 es distinct ∙ ap (λ b. cond b None (lookup (eq e.0) es)) (subst (λ n. eq k n ≡ true) (sym is) (laws.refl k)) in
    true≢false (sym (subst IsSome none found))

-- ---- the blocks that are kept

-- of the first of them
module _ {K V : Type 0} (name : K → Name) (bytes : V → Octets) where
  abbrev as_shown : K × V → Name × Octets
  as_shown e = (name e.0, bytes e.1)

  pub taken_in : (es : List (K × V)) (n : ℕ) (e : Name × Octets) → Contains (map as_shown (take n es)) e → Contains (map as_shown es) e
  taken_in es n e there =
      let it = Contains-unmapped as_shown (take n es) e there in
      subst (Contains (map as_shown es)) it.2 (Contains-mapped as_shown es it.0 (Contains-take n es it.0 it.1))

module _ {K V : Type 0} {eq : K → K → Bool} (name : K → Name) (bytes : V → Octets) (exact : (x y : K) → eq x y ≡ true → x ≡ y) where
  abbrev shows : K × V → Name × Octets
  shows e = (name e.0, bytes e.1)

  module _ (c : LruCache K V) (k : K) where
    pub found_in : (v : V) → lookup (eq k) c.entries ≡ Some v → Contains (entries_in name bytes (Some c)) (name k, bytes v)
    found_in v is =
        let at = Contains-lookup (eq k) c.entries v is in
        subst (λ x. Contains (map shows c.entries) (name x, bytes v)) (sym (exact k at.0 at.2)) (Contains-mapped shows c.entries (at.0, v) at.1)

    pub promoted_in : (e : Name × Octets) → Contains (map shows (promoted (eq k) c.entries)) e → Contains (map shows c.entries) e
    promoted_in e there =
        let it = Contains-unmapped shows (promoted (eq k) c.entries) e there in
        subst (Contains (map shows c.entries)) it.2 (Contains-mapped shows c.entries it.0 (Contains-promoted (eq k) c.entries it.0 it.1))

    pub put_in : (v : V) (e : Name × Octets) → Contains (map shows (put_entries eq c k v)) e → Contains (map shows c.entries) e ⊎ (e ≡ (name k, bytes v))
    put_in v e there = let it = Contains-unmapped shows (put_entries eq c k v) e there in elim (Contains-put_entries eq c k v it.0 it.1) [
      | inl was ↦ inl (subst (Contains (map shows c.entries)) it.2 (Contains-mapped shows c.entries it.0 was))
      | inr put ↦ inr (sym it.2 ∙ elim put.1 [
        | inl key ↦ λ i. (name (key i), bytes (put.0 i))
        | inr other ↦ λ i. (name (sym (exact k it.0.0 other.2) i), bytes (put.0 i))
      ])
    ]

    pub removed_in : IsEquivalence eq → ((x : K) → name x ≡ name k → x ≡ k) → IsDistinct eq (keys_of c.entries) → (e : Name × Octets) → Contains (map shows (remove_entry (eq k) c.entries)) e
        → Contains (map shows c.entries) e × (e.0 ≢ name k)
    removed_in laws apart distinct e there =
        let it = Contains-unmapped shows (remove_entry (eq k) c.entries) e there in (
          subst (Contains (map shows c.entries)) it.2 (Contains-mapped shows c.entries it.0 (Contains-remove_entry (eq k) c.entries it.0 it.1)),
          λ same. gone laws k c.entries distinct it.0 it.1 (apart it.0.0 (ap (λ p. p.0) it.2 ∙ same)),
        )
