-- What an operation leaves used, against what was used before and against the quota.
use Rattle.std.proofs.Common.{◌≡◌, ℕ, suc, ◌≤◌, ◌<◌, max, nat_lt, Bool, true, false, cond, not, ◌&&◌, T, List, [], ◌∷◌, map, filter, length, sum_by, Option, Some, None, option_and_then, ok_or, Result, Ok, Err, refl, sym, ap, subst, ◌∙◌, arith, Ordering, nat_cmp, is_eq, ltb-true}
use Rattle.std.specs.Result.{IfOk}
use Rattle.std.specs.Option.{option_map_or}
use Rattle.std.specs.Ordering.{eq_by_cmp}
use Rattle.std.specs.Cmp.{IsTotalOrder, Equal-is, nat_cmp_total}
use Rattle.std.proofs.lemmas.Bool.Decides.{nat_tests}
use Rattle.std.proofs.lemmas.List.Sums.{sum_by-cons}
use Rattle.std.proofs.lemmas.List.Concat.{length-flat_map}
use Rattle.std.proofs.lemmas.List.Filters.{sum_by-filter_both}
use Rattle.std.specs.FinMap.{FinMap, IsAntisymmetric, nat_cmp-IsAntisymmetric, empty, entries, entries_sorted, find, get, get-entries, get-remove, is_sorted, len-entries, len-empty, remove}
use Rattle.std.specs.FinMap.Entries.{below_all}
use Rattle.bh_types.specs.Outcomes.{◌>>=◌}
use Rattle.bh_types.specs.declared.bucket_state.BucketState.{BucketState}
use Rattle.bh_types.specs.declared.bucket_state.BucketState.TheVariants.{Unversioned, Enabled, Suspended}
use Rattle.bh_types.specs.declared.id.VersionId.TheVariants.{Null}
use Rattle.bh_types.specs.declared.refusal.Refusal.TheVariants.{InvalidPart, InvalidPartOrder, EntityTooSmall}
use Rattle.bh_types.specs.declared.wanted.Wanted.{Wanted}
use Rattle.bh_types.specs.declared.wanted.Wanted.TheVariants.{Current, Named, Unknown}
use Rattle.bh_model.specs.FinMaps.{adjusted, total}
use Rattle.bh_model.specs.State.{Octets, Content.Marker, Entry, Part, Upload, Bucket, State, content_size, entry_size, part_size, upload_used, bucket_used, used, is_stale, fresh, purged_bucket, purged}
use Rattle.bh_model.specs.Entries.{has_id, is_version, kept, added, deleted, new_id}
use Rattle.bh_model.specs.Parts.{Naming, ascends, is_checksum, checked, choice, chosen, are_large, completed}
use Rattle.bh_model.specs.Quotas.{fits_quota}
use Rattle.bh_model.proofs.MapLemmas.{left, right, find_below, get-adjusted}
use Rattle.std.proofs.lemmas.Cmp.{tied_itself}
use Rattle.bh_model.proofs.KeyLemmas.{first, second, tested}
use Rattle.bh_model.proofs.UsedLemmas.{octets_total, octets_same, size_of, kept_size, total_removed}

-- ---- numbers

pub at_most_before : (a b q : ℕ) → a ≤ b → a ≤ max b q
at_most_before a b q h = omega (arith, h)

pub at_most_quota : (b a q : ℕ) → fits_quota b a q ≡ true → a ≤ max b q
at_most_quota b a q h = grind (arith, nat_tests, h)

-- ---- what holds of a result

pub implied : {X E : Type 0} (r : Result X E) (P Q : X → Type 0) → ((x : X) → P x → Q x) → IfOk r P → IfOk r Q
implied (Ok x) P Q h p = h x p
implied (Err e) P Q h p = tt

pub and_then : {X Y E : Type 0} (r : Result X E) (F : X → Result Y E) (P : X → Type 0) (Q : Y → Type 0) → IfOk r P → ((x : X) → P x → IfOk (F x) Q) → IfOk (r >>= F) Q
and_then (Ok x) F P Q p h = h x p
and_then (Err e) F P Q p h = tt

-- whatever the result is
pub anyway : {X E : Type 0} (r : Result X E) → IfOk r (λ _. Unit {0})
anyway (Ok x) = tt
anyway (Err e) = tt

pub whatever : {X Y E : Type 0} (r : Result X E) (F : X → Result Y E) (Q : Y → Type 0) → ((x : X) → IfOk (F x) Q) → IfOk (r >>= F) Q
whatever (Ok x) F Q h = h x
whatever (Err e) F Q h = tt

-- ---- maps

no_sum : {X : Type 0} (f : X → ℕ) (xs : List X) → length xs ≡ 0 → sum_by f xs ≡ 0
no_sum f [] e = refl
no_sum f (x ∷ xs) e = absurd (omega (arith, e))

pub total_empty : {K X : Type 0} (R : K → K → Ordering) (f : X → ℕ) → total f (empty {X = X} {R = R}) ≡ 0
unfolding total
total_empty {X = X} R f = no_sum (λ e. f e.1) (entries (empty {X = X} {R = R})) (sym (len-entries (empty {X = X} {R = R})) ∙ len-empty R X)

module _ {K : Type 0} {R : K → K → Ordering} (order : IsTotalOrder R) (same : IsAntisymmetric R) where
  module _ {X Y : Type 0} (f : X → ℕ) (g : Y → ℕ) where
    sums : (es : List (K × X)) → T (is_sorted R es) → (n : FinMap R Y) → ((q : K) → option_map_or f (find R q es) 0 ≤ option_map_or g (get n q) 0) → sum_by (λ e. f e.1) es ≤ total g n
    sums [] up n h = omega arith
    sums (e ∷ es) up n h =
        let here : f e.1 ≤ option_map_or g (get n e.0) 0 = subst (λ b. option_map_or f (cond b (Some e.1) (find R e.0 es)) 0 ≤ option_map_or g (get n e.0) 0) (itself e.0) (h e.0) in
        let rest : sum_by (λ e. f e.1) es ≤ total g (remove n e.0) = sums es (right (below_all R e.0 es) (is_sorted R es) up) (remove n e.0) below in
        omega (arith, here, rest, sum_by-cons (λ e. f e.1) e es, total_removed order same g n e.0)
      where
        itself : (q : K) → eq_by_cmp R q q ≡ true
        itself q = ap is_eq (tied_itself order q)

        below : (q : K) → option_map_or f (find R q es) 0 ≤ option_map_or g (get (remove n e.0) q) 0
        below q = elim (eq_by_cmp R q e.0) as (λ b. eq_by_cmp R q e.0 ≡ b → option_map_or f (find R q es) 0 ≤ option_map_or g (get (remove n e.0) q) 0) [
          | true ↦ λ t.
              let none : find R q es ≡ None = find_below R q es (subst (λ k. T (below_all R k es)) (sym (same q e.0 ((Equal-is _).0 t))) (left _ _ up)) in
              let nothing : option_map_or f (find R q es) 0 ≡ 0 = ap (λ o. option_map_or f o 0) none in
              omega (arith, nothing)
          | false ↦ λ t.
              let there : get (remove n e.0) q ≡ get n q = get-remove order n e.0 q ∙ ap (λ b. cond b None (get n q)) t in
              subst (λ o. option_map_or f (find R q es) 0 ≤ option_map_or g o 0) (sym there)
              (subst (λ b. option_map_or f (cond b (Some e.1) (find R q es)) 0 ≤ option_map_or g (get n q) 0) t (h q))
        ] refl

    -- where each key's value has at most the size of the other's, the sum is at most the other's
    pub total_at_most : (m : FinMap R X) (n : FinMap R Y) → ((q : K) → option_map_or f (get m q) 0 ≤ option_map_or g (get n q) 0) → total f m ≤ total g n
    unfolding total
    total_at_most m n h = sums (entries m) (entries_sorted m) n (λ q. subst (λ o. option_map_or f o 0 ≤ option_map_or g (get n q) 0) (get-entries m q) (h q))

  -- so where values are made smaller or taken out
  pub total_adjusted : {X : Type 0} (f : X → ℕ) (change : X → Option X) (m : FinMap R X) → ((x : X) → option_map_or f (change x) 0 ≤ f x) → total f (adjusted change m) ≤ total f m
  total_adjusted {X = X} f change m h =
      total_at_most f f (adjusted change m) m (λ q. subst (λ o. option_map_or f o 0 ≤ option_map_or f (get m q) 0) (sym (get-adjusted order same change m q)) (at (get m q)))
    where
      at : (o : Option X) → option_map_or f (option_and_then change o) 0 ≤ option_map_or f o 0
      at None = omega arith
      at (Some x) = h x

-- ---- a purge

fresh_size : (days : Option ℕ) (now : ℕ) (u : Upload) → option_map_or upload_used (fresh days now u) 0 ≤ upload_used u
fresh_size days now u = elim (is_stale days u.begun now) as (λ b. option_map_or upload_used (cond b None (Some u)) 0 ≤ upload_used u) [ true ↦ omega arith | false ↦ omega arith ]

purged_bucket_size : (now : ℕ) (b : Bucket) → bucket_used (purged_bucket now b) ≤ bucket_used b
purged_bucket_size now b = omega (arith, total_adjusted nat_cmp_total nat_cmp-IsAntisymmetric upload_used (fresh b.days now) b.uploads (fresh_size b.days now))

pub purged_size : (now : ℕ) (t : State) → used (purged t now) ≤ used t
purged_size now t = total_adjusted octets_total octets_same bucket_used (λ b. Some (purged_bucket now b)) t.buckets (purged_bucket_size now)

-- ---- a key's entries

filter_size : (p : Entry → Bool) (entries : List Entry) → size_of (filter p entries) ≤ size_of entries
filter_size p entries = omega (arith, sum_by-filter_both p (λ e. not (p e)) (λ _. refl) entry_size entries)

marker_size : (mode : BucketState) (next moment : ℕ) (entries : List Entry) → size_of (added mode next moment Marker entries) ≤ size_of entries
marker_size mode next moment entries =
    let marker : Entry = record { id = new_id mode next; moment = moment; content = Marker } in
    omega (arith, kept_size mode entries, sum_by-cons entry_size marker (kept mode entries))

pub deleted_size : (mode : BucketState) (wanted : Wanted) (next moment : ℕ) (entries : List Entry) → size_of (deleted mode wanted next moment entries) ≤ size_of entries
deleted_size Unversioned Current next moment entries = filter_size (λ e. not (has_id Null e && is_version e)) entries
deleted_size Enabled Current next moment entries = marker_size Enabled next moment entries
deleted_size Suspended Current next moment entries = marker_size Suspended next moment entries
deleted_size mode (Named id) next moment entries = filter_size (λ e. not (has_id id e)) entries
deleted_size mode Unknown next moment entries = omega arith

-- ---- parts that a completion names

-- numbers that rise, the first of them at least this
abbrev From : ℕ → List ℕ → Type 0
From low [] = Unit {0}
From low (n ∷ ns) = (low ≤ n) × From (suc n) ns

from_ascends : (low n : ℕ) (ns : List ℕ) → low ≤ n → ascends (n ∷ ns) ≡ true → From low (n ∷ ns)
from_ascends low n [] above up = (above, tt)
from_ascends low n (m ∷ ns) above up =
    let next : n < m = ltb-true n m (first (nat_lt n m) (ascends (m ∷ ns)) up) in
    (above, from_ascends (suc n) m ns (omega (arith, next)) (second (nat_lt n m) (ascends (m ∷ ns)) up))

from_start : (ns : List ℕ) → ascends ns ≡ true → From 0 ns
from_start [] up = tt
from_start (n ∷ ns) up = from_ascends 0 n ns (omega arith) up

module _ (parts : FinMap nat_cmp Part) where
  checked_size : (given : Option Octets) (o : Option Part) → IfOk (ok_or (option_and_then (checked given) o) InvalidPart) (λ p. part_size p ≡ option_map_or part_size o 0)
  checked_size given None = tt
  checked_size given (Some p) = elim (is_checksum given p.bytes) as (λ b. IfOk (ok_or (cond b (Some p) None) InvalidPart) (λ q. part_size q ≡ part_size p)) [ true ↦ refl | false ↦ tt ]

  after : (those : FinMap nat_cmp Part) (low n : ℕ) → low ≤ n → ((q : ℕ) → low ≤ q → get those q ≡ get parts q) → (q : ℕ) → suc n ≤ q → get (remove those n) q ≡ get parts q
  after those low n above agree q far =
      get-remove nat_cmp_total those n q ∙ ap (λ b. cond b None (get those q)) (apart (eq_by_cmp nat_cmp q n) refl) ∙ agree q (omega (arith, above, far))
    where
      apart : (b : Bool) → eq_by_cmp nat_cmp q n ≡ b → b ≡ false
      apart true e = absurd (let is : q ≡ n = nat_cmp-IsAntisymmetric q n ((Equal-is _).0 e) in omega (arith, is, far))
      apart false e = refl

  -- they are different parts, so they have at most the size of those from the first of them on
  chosen_size : (names : List Naming) (low : ℕ) (those : FinMap nat_cmp Part) → From low (map (λ n. n.number) names) → ((q : ℕ) → low ≤ q → get those q ≡ get parts q)
      → IfOk (chosen parts names) (λ ps. sum_by part_size ps ≤ total part_size those)
  chosen_size [] low those up agree = omega arith
  chosen_size (n ∷ ns) low those up agree =
      and_then (choice parts n) _ (λ p. part_size p ≡ option_map_or part_size (get parts n.number) 0) _ (checked_size n.checksum (get parts n.number)) (λ p here.
      and_then (chosen parts ns) _ (λ ps. sum_by part_size ps ≤ total part_size (remove those n.number)) _
      (chosen_size ns (suc n.number) (remove those n.number) up.1 (after those low n.number up.0 agree)) (λ ps rest.
      let there : option_map_or part_size (get those n.number) 0 ≡ option_map_or part_size (get parts n.number) 0 = ap (λ o. option_map_or part_size o 0) (agree n.number up.0) in
      omega (arith, here, rest, there, sum_by-cons part_size p ps, total_removed nat_cmp_total nat_cmp-IsAntisymmetric part_size those n.number)))

-- so the object is at most as large as the upload's parts
pub completed_size : (least : ℕ) (parts : FinMap nat_cmp Part) (names : List Naming) → IfOk (completed least parts names) (λ content. content_size content ≤ total part_size parts)
completed_size least parts names =
    tested (ascends (map (λ n. n.number) names)) tt InvalidPartOrder _ _ (λ up.
    and_then (chosen parts names) _ (λ ps. sum_by part_size ps ≤ total part_size parts) _ (chosen_size parts names 0 parts (from_start _ up) (λ q _. refl)) (λ ps small.
    tested (are_large least ps) tt EntityTooSmall _ _ (λ _. omega (arith, small, length-flat_map (λ p. p.bytes) ps))))
