-- Lists of which each item bears a relation to each later one.
use Rattle.std.proofs.Common.{T, ◌≡◌, Bool, true, false, ◌&&◌, List, [], ◌∷◌, ◌++◌, refl, Ordering}
use Rattle.std.specs.List.{AllByRecursion}
use Rattle.std.specs.FinMap.Entries.{is_sorted, below_all}
use Rattle.std.specs.Ordering.{is_lt}

module _ {X : Type 0} (R : X → X → Type 0) where
  abbrev pub Pairs : List X → Type 0
  Pairs [] = Unit {0}
  Pairs (x ∷ l) = AllByRecursion (R x) l × Pairs l

  pub all_append : (P : X → Type 0) (l k : List X) → AllByRecursion P l → AllByRecursion P k → AllByRecursion P (l ++ k)
  all_append P [] k all more = more
  all_append P (x ∷ l) k all more = (all.0, all_append P l k all.1 more)

  pub pairs_append : (l k : List X) → Pairs l → Pairs k → AllByRecursion (λ x. AllByRecursion (R x) k) l → Pairs (l ++ k)
  pairs_append [] k up more across = more
  pairs_append (x ∷ l) k up more across = (all_append (R x) l k up.0 across.0, pairs_append l k up.1 more across.1)

-- ---- the entries of a map

split : (a b : Bool) → T (a && b) → T a × T b
split true b h = (tt, h)
split false b h = absurd h

is_true : (b : Bool) → T b → b ≡ true
is_true true h = refl
is_true false h = absurd h

module _ {K V : Type 0} (cmp : K → K → Ordering) where
  abbrev pub Rises : K × V → K × V → Type 0
  Rises a b = is_lt (cmp a.0 b.0) ≡ true

  below : (e : K × V) (es : List (K × V)) → T (below_all cmp e.0 es) → AllByRecursion (Rises e) es
  below e [] h = tt
  below e (f ∷ es) h = let it = split (is_lt (cmp e.0 f.0)) (below_all cmp e.0 es) h in (is_true _ it.0, below e es it.1)

  pub sorted_pairs : (es : List (K × V)) → T (is_sorted cmp es) → Pairs Rises es
  sorted_pairs [] h = tt
  sorted_pairs (e ∷ es) h = let it = split (below_all cmp e.0 es) (is_sorted cmp es) h in (below e es it.0, sorted_pairs es it.1)
