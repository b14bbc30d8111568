-- What is kept of other rows, once those have changed: references and blocks, versions and parts come or go.
use Rattle.std.proofs.Common.{◌≡◌, inl, inr, ℕ, ℤ, ◌+◌, ◌+ℤ◌, ◌-ℤ◌, pos, unsigned_abs, Bool, true, false, true≢false, ◌&&◌, ◌||◌, not, List, [], ◌∷◌, ◌++◌, map, filter, length, take, cond, arith, int_lt, refl, sym, ap, ap₂, subst, ◌∙◌, sum_by, is_gt, Ordering, Decides}
use Rattle.std.specs.Bool.{one_answer}
use Rattle.std.specs.Cmp.{signed_Decides}
use Rattle.std.specs.Cmp.Derive.{both_true}
use Rattle.std.specs.List.{list_any, list_all, AllByRecursion}
use Rattle.std.specs.Ordering.{int_eq}
use Rattle.std.proofs.lemmas.Bool.{and_parts, cases_Bool}
use Rattle.std.proofs.lemmas.List.{take-map, map-append, length-map}
use Rattle.std.proofs.lemmas.List.Sums.{sum_by-cons}
use Rattle.sqlite_keyed.specs.Lists.{insert_sorted, sort_by, delete_where, update_where}
use Rattle.sqlite_keyed.proofs.ListLemmas.{filter-map, map-map}
use Rattle.std.proofs.lemmas.Int.{ints}
use Rattle.sqlite_typed.specs.Tests.{bytes_eq}
use Rattle.sqlite_typed.proofs.TestLemmas.{same_bytes, bytes_eq_refl}
use Rattle.bh_tables.specs.Schema.{Octets}
use Rattle.bh_tables.specs.Typed.{Totals, totals_of, weight, tally_of, bytes_used, used_changed, use_among, raised, lowered, lowered_by, is_named, UseRow, BlockRow, RefRow, TenantRow, VersionRow, PartRow, Tables, rebodied}
use Rattle.bh_tables.specs.Bodies.{Name, same_name, ref_name, has_size, unneeded, block_name, placed, resolved_again, resolved_part_again}
use Rattle.bh_tables.specs.Shown.{is_use, is_block, is_of_body, is_unreferenced, is_unused, has_marker, is_later, is_current, by_place, by_name, by_use_name, shown_name, shown_use_name, unreferenced}

-- ---- names

pub name_Decides : (x y : Name) → Decides (same_name x y) (x ≡ y)
name_Decides x y = (
  λ h. let p = and_parts _ _ h in λ i. (same_bytes x.0 y.0 p.0 i, unsigned_abs ((signed_Decides (pos x.1) (pos y.1)).0 p.1 i)),
  λ e. subst (λ z. same_name x z ≡ true) e (both_true (bytes_eq_refl x.0) ((signed_Decides (pos x.1) (pos x.1)).1 refl)),
)

pub name_swap : (a b : Name) → same_name a b ≡ same_name b a
name_swap a b = one_answer _ _ (name_Decides a b) (λ h. sym ((name_Decides b a).0 h), λ e. (name_Decides b a).1 (sym e))

-- ---- how many pass a test

module _ {X : Type 0} (p : X → Bool) where
  abbrev pub many : List X → ℕ
  many xs = length (filter p xs)

  abbrev one : X → ℕ
  one x = cond (p x) 1 0

  pub many_cons : (x : X) (xs : List X) → many (x ∷ xs) ≡ one x + many xs
  many_cons x xs = elim (p x) as (λ b. length (cond b (x ∷ filter p xs) (filter p xs)) ≡ cond b 1 0 + many xs) [ true ↦ omega (arith) | false ↦ omega (arith) ]

  pub many_last : (xs : List X) (x : X) → many (xs ++ x ∷ []) ≡ many xs + one x
  many_last [] x = let it = many_cons x [] in omega (arith, it)
  many_last (y ∷ xs) x = let a = many_cons y (xs ++ x ∷ []) in let b = many_cons y xs in let c = many_last xs x in omega (arith, a, b, c)

  many_inserted : (o : X → X → Ordering) (x : X) (xs : List X) → many (insert_sorted o x xs) ≡ one x + many xs
  many_inserted o x [] = many_cons x []
  many_inserted o x (y ∷ xs) =
      let a = many_cons y (insert_sorted o x xs) in
      let b = many_inserted o x xs in
      let c = many_cons y xs in
      let d = many_cons x (y ∷ xs) in
      elim (is_gt (o x y)) as (λ s. many (cond s (y ∷ insert_sorted o x xs) (x ∷ y ∷ xs)) ≡ one x + many (y ∷ xs)) [ true ↦ omega (arith, a, b, c) | false ↦ d ]

  pub many_sorted : (o : X → X → Ordering) (xs : List X) → many (sort_by o xs) ≡ many xs
  many_sorted o [] = refl
  many_sorted o (x ∷ xs) = let a = many_inserted o x (sort_by o xs) in let b = many_sorted o xs in let c = many_cons x xs in omega (arith, a, b, c)

  pub many_parted : (m : X → Bool) (xs : List X) → many xs ≡ many (delete_where m xs) + many (filter m xs)
  many_parted m [] = refl
  many_parted m (x ∷ xs) =
      let a = many_cons x xs in
      let b = many_parted m xs in
      let c = many_cons x (delete_where m xs) in
      let d = many_cons x (filter m xs) in
      elim (m x) as (λ s. many (x ∷ xs) ≡ many (cond (not s) (x ∷ delete_where m xs) (delete_where m xs)) + many (cond s (x ∷ filter m xs) (filter m xs))) [ true ↦ omega (arith, a, b, d) | false ↦ omega (arith, a, b, c) ]

  -- none, where none passes
  many_none : (xs : List X) → int_eq (pos (many xs)) (pos 0) ≡ not (list_any p xs)
  many_none [] = refl
  many_none (x ∷ xs) = elim (p x) as (λ b. int_eq (pos (length (cond b (x ∷ filter p xs) (filter p xs)))) (pos 0) ≡ not (b || list_any p xs)) [ true ↦ grind (arith, ints) | false ↦ many_none xs ]

-- ---- sums do not turn on bytes

sum_kept : {X : Type 0} (g : X → X) (size : X → ℕ) → ((x : X) → size (g x) ≡ size x) → (xs : List X) → sum_by size (map g xs) ≡ sum_by size xs
sum_kept g size same [] = refl
sum_kept {X} g size same (x ∷ xs) = let a = sum_by-cons size (g x) (map g xs) in let b = sum_by-cons size x xs in let c = sum_kept g size same xs in let d = same x in omega (arith, a, b, c, d)

-- so with a test too
sum_seen : {X : Type 0} (g : X → X) (size : X → ℕ) (m : X → Bool) → ((x : X) → size (g x) ≡ size x) → ((x : X) → m (g x) ≡ m x) → (xs : List X) → sum_by size (filter m (map g xs)) ≡ sum_by size (filter m xs)
sum_seen g size m same test xs = ap (sum_by size) (filter-map m g xs ∙ ap (map g) (λ i. filter (λ x. test x i) xs)) ∙ sum_kept g size same (filter m xs)

-- nor do counts
many_seen : {X : Type 0} (g : X → X) (m n : X → Bool) → ((x : X) → m (g x) ≡ n x) → (xs : List X) → length (filter m (map g xs)) ≡ length (filter n xs)
many_seen g m n test xs = ap length (filter-map m g xs ∙ ap (map g) (λ i. filter (λ x. test x i) xs)) ∙ length-map (filter n xs) g

module _ (refs : List RefRow) (blocks : List BlockRow) where
  any_seen : (m : VersionRow → Bool) → ((v : VersionRow) → m (resolved_again refs blocks v) ≡ m v) → (vs : List VersionRow) → list_any m (map (resolved_again refs blocks) vs) ≡ list_any m vs
  any_seen m test [] = refl
  any_seen m test (v ∷ vs) = ap₂ ◌||◌ (test v) (any_seen m test vs)

  tally_rebodied : (vs : List VersionRow) (t : TenantRow) → tally_of (map (resolved_again refs blocks) vs) t ≡ tally_of vs t
  tally_rebodied vs t = λ i. record {
    tenant = t.tenant;
    versions = pos (many_seen (resolved_again refs blocks) (has_marker t.tenant 0) (has_marker t.tenant 0) (λ v. refl) vs i);
    markers = pos (many_seen (resolved_again refs blocks) (has_marker t.tenant 1) (has_marker t.tenant 1) (λ v. refl) vs i);
    objects = pos (many_seen (resolved_again refs blocks) (is_current t.tenant (map (resolved_again refs blocks) vs)) (is_current t.tenant vs) current vs i);
  }
    where
      current : (v : VersionRow) → is_current t.tenant (map (resolved_again refs blocks) vs) (resolved_again refs blocks v) ≡ is_current t.tenant vs v
      current v = ap (λ b. bytes_eq v.tenant t.tenant && (int_eq (pos v.marker) (pos 0) && not b)) (any_seen (is_later v) (λ w. refl) vs)

-- the sums beside other references and blocks
abbrev pub rebodied_sums : List RefRow → List BlockRow → Totals → Totals
rebodied_sums refs blocks sums = record sums { uses = map (use_among refs) blocks; garbage = weight (unneeded refs blocks) ∷ []; measured = list_all (has_size blocks) refs }

-- those alone change
pub totals_rebodied : (t : Tables) (refs : List RefRow) (blocks : List BlockRow) → totals_of (rebodied t refs blocks) ≡ rebodied_sums refs blocks (totals_of t)
totals_rebodied t refs blocks = λ i. record {
  used = λ tenant. pos (sum_seen (resolved_again refs blocks) (λ (v : VersionRow). v.size) (λ v. bytes_eq v.tenant tenant) (λ v. refl) (λ v. refl) t.versions i
      + sum_seen (resolved_part_again refs blocks) (λ (p : PartRow). p.size) (λ p. bytes_eq p.tenant tenant) (λ p. refl) (λ p. refl) t.parts i);
  kept = λ q. pos (sum_seen (resolved_part_again refs blocks) (λ (p : PartRow). p.size) (λ p. bytes_eq p.tenant q.0 && int_eq (pos p.upload) (pos q.1)) (λ p. refl) (λ p. refl) t.parts i);
  uses = map (use_among refs) blocks;
  tallies = map (λ x. tally_rebodied refs blocks t.versions x i) t.tenants;
  garbage = weight (unneeded refs blocks) ∷ [];
  measured = list_all (has_size blocks) refs;
}

-- ---- references come and go

at_one : (n : Name) (r : RefRow) (most : ℕ) → pos (most + cond (same_name (ref_name r) n) 1 0) ≡ cond (same_name n (ref_name r)) (pos most +ℤ pos 1) (pos most)
at_one n r most = ap (λ b. pos (most + cond b 1 0)) (name_swap (ref_name r) n) ∙ elim (same_name n (ref_name r)) as (λ b. pos (most + cond b 1 0) ≡ cond b (pos most +ℤ pos 1) (pos most)) [ true ↦ refl | false ↦ ap pos (omega (arith)) ]

-- a count with another number
abbrev counts : UseRow → ℤ → UseRow
counts u n = record u { uses = n }

-- each count, changed where it is of this block
each_named : (q : Name) (f : ℤ → ℤ) (refs after : List RefRow) → ((b : BlockRow) → (use_among after b).uses ≡ cond (same_name (block_name b) q) (f (use_among refs b).uses) (use_among refs b).uses)
    → (blocks : List BlockRow) → map (use_among after) blocks ≡ update_where (is_named q) (λ u. counts u (f u.uses)) (map (use_among refs) blocks)
each_named q f refs after same [] = refl
each_named q f refs after same (b ∷ blocks) = ap₂ ◌∷◌ (ap (counts (use_among refs b)) (same b) ∙ go (same_name (block_name b) q)) (each_named q f refs after same blocks)
  where
    go : (s : Bool) → counts (use_among refs b) (cond s (f (use_among refs b).uses) (use_among refs b).uses) ≡ cond s (counts (use_among refs b) (f (use_among refs b).uses)) (use_among refs b)
    go true = refl
    go false = refl

-- one reference more
pub uses_with : (refs : List RefRow) (blocks : List BlockRow) (r : RefRow) → map (use_among (refs ++ r ∷ [])) blocks ≡ raised (ref_name r) (map (use_among refs) blocks)
uses_with refs blocks r = each_named (ref_name r) (λ z. z +ℤ pos 1) refs (refs ++ r ∷ []) (λ b. ap pos (many_last (λ x. same_name (ref_name x) (block_name b)) refs r) ∙ at_one (block_name b) r _) blocks

-- none raises the counts of other blocks
raised_other : (q : Name) (refs : List RefRow) (blocks : List BlockRow) → list_any (is_block q) blocks ≡ false → raised q (map (use_among refs) blocks) ≡ map (use_among refs) blocks
raised_other q refs [] none = refl
raised_other q refs (b ∷ blocks) none = let parts = neither _ _ none in ap₂ ◌∷◌ (ap (λ s. cond s (counts (use_among refs b) ((use_among refs b).uses +ℤ pos 1)) (use_among refs b)) parts.0) (raised_other q refs blocks parts.1)
  where
    neither : (x y : Bool) → (x || y) ≡ false → (x ≡ false) × (y ≡ false)
    neither true y h = absurd (true≢false h)
    neither false y h = (refl, h)

many_no : {X : Type 0} (p : X → Bool) (xs : List X) → list_any p xs ≡ false → length (filter p xs) ≡ 0
many_no p [] none = refl
many_no p (x ∷ xs) none = go (p x) none (many_no p xs)
  where
    go : (b : Bool) → (b || list_any p xs) ≡ false → (list_any p xs ≡ false → length (filter p xs) ≡ 0) → length (cond b (x ∷ filter p xs) (filter p xs)) ≡ 0
    go true h rest = absurd (true≢false h)
    go false h rest = rest h

-- a block more, and the first reference to it
pub uses_added : (refs : List RefRow) (blocks : List BlockRow) (r : RefRow) (b : BlockRow) → ref_name r ≡ block_name b → list_any (is_block (block_name b)) blocks ≡ false → list_any (is_use (block_name b)) refs ≡ false
    → map (use_among (refs ++ r ∷ [])) (blocks ++ b ∷ []) ≡ map (use_among refs) blocks ++ record { digest = b.digest; ord = b.ord; uses = pos 1 } ∷ []
uses_added refs blocks r b same free unused =
    map-append (use_among (refs ++ r ∷ [])) blocks (b ∷ [])
    ∙ ap₂ (λ us u. us ++ u ∷ []) (uses_with refs blocks r ∙ ap (λ q. raised q (map (use_among refs) blocks)) same ∙ raised_other (block_name b) refs blocks free)
    (ap (λ n. record { digest = b.digest; ord = b.ord; uses = pos n }) (many_last (λ x. same_name (ref_name x) (block_name b)) refs r ∙ one_more (length (filter (is_use (block_name b)) refs)) _ (many_no (is_use (block_name b)) refs unused) ((name_Decides (ref_name r) (block_name b)).1 same)))
  where
    one_more : (n : ℕ) (s : Bool) → n ≡ 0 → s ≡ true → n + cond s 1 0 ≡ 1
    one_more n s none is = ap₂ (λ m c. m + cond c 1 0) none is

-- ---- the references of a body go

-- the counts without some of the references
abbrev less_by : List RefRow → UseRow → UseRow
less_by rs u = counts u (u.uses -ℤ pos (length (filter (λ (r : RefRow). same_name (ref_name r) (u.digest, u.ord)) rs)))

pub none_less : (z : ℤ) → z ≡ z -ℤ pos 0
none_less z = grind (arith, ints)

pub step_less : (z : ℤ) (n k : ℕ) → k ≡ 1 + n → z -ℤ pos 1 -ℤ pos n ≡ z -ℤ pos k
step_less z n k is = grind (arith, ints, is)

lowered_all : (rs : List RefRow) (us : List UseRow) → lowered_by rs us ≡ map (less_by rs) us
lowered_all [] us = go us
  where
    go : (us : List UseRow) → us ≡ map (less_by []) us
    go [] = refl
    go (u ∷ us) = ap₂ ◌∷◌ (ap (counts u) (none_less u.uses)) (go us)
lowered_all (r ∷ rs) us = lowered_all rs (lowered (ref_name r) us) ∙ go us
  where
    p : Name → RefRow → Bool
    p q x = same_name (ref_name x) q

    one : (u : UseRow) → less_by rs (cond (is_named (ref_name r) u) (counts u (u.uses -ℤ pos 1)) u) ≡ less_by (r ∷ rs) u
    one u = elim (cases_Bool (same_name (ref_name r) (u.digest, u.ord))) [
      | inl is ↦ ap (λ b. less_by rs (cond b (counts u (u.uses -ℤ pos 1)) u)) (name_swap (u.digest, u.ord) (ref_name r) ∙ is)
          ∙ ap (counts u) (step_less u.uses (length (filter (λ (x : RefRow). same_name (ref_name x) (u.digest, u.ord)) rs)) _ (many_cons (λ (x : RefRow). same_name (ref_name x) (u.digest, u.ord)) r rs ∙ ap (λ b. cond b 1 0 + length (filter (λ (x : RefRow). same_name (ref_name x) (u.digest, u.ord)) rs)) is))
      | inr not ↦ ap (λ b. less_by rs (cond b (counts u (u.uses -ℤ pos 1)) u)) (name_swap (u.digest, u.ord) (ref_name r) ∙ not)
          ∙ ap (λ l. counts u (u.uses -ℤ pos (length l))) (sym (ap (λ b. cond b (r ∷ filter (λ (x : RefRow). same_name (ref_name x) (u.digest, u.ord)) rs) (filter (λ (x : RefRow). same_name (ref_name x) (u.digest, u.ord)) rs)) not))
    ]

    go : (us : List UseRow) → map (less_by rs) (lowered (ref_name r) us) ≡ map (less_by (r ∷ rs)) us
    go [] = refl
    go (u ∷ us) = ap₂ ◌∷◌ (one u) (go us)

pub uses_dropped : (refs : List RefRow) (blocks : List BlockRow) (body : Name) → lowered_by (placed refs body) (map (use_among refs) blocks) ≡ map (use_among (delete_where (is_of_body body) refs)) blocks
uses_dropped refs blocks body = lowered_all (placed refs body) (map (use_among refs) blocks) ∙ go blocks
  where
    fewer : (all left gone : ℕ) → all ≡ left + gone → pos all -ℤ pos gone ≡ pos left
    fewer all left gone is = grind (arith, ints, is)

    at : (b : BlockRow) → (less_by (placed refs body) (use_among refs b)).uses ≡ (use_among (delete_where (is_of_body body) refs) b).uses
    at b =
        let p : RefRow → Bool = λ x. same_name (ref_name x) (block_name b) in
        let parted = many_parted p (is_of_body body) refs in
        let sorted = many_sorted p by_place (filter (is_of_body body) refs) in
        fewer (length (filter p refs)) (length (filter p (delete_where (is_of_body body) refs))) (length (filter p (placed refs body))) (omega (arith, parted, sorted))

    go : (blocks : List BlockRow) → map (less_by (placed refs body)) (map (use_among refs) blocks) ≡ map (use_among (delete_where (is_of_body body) refs)) blocks
    go [] = refl
    go (b ∷ blocks) = ap₂ ◌∷◌ (ap (counts (use_among refs b)) (at b)) (go blocks)

-- lowered by some, and then by others
pub lowered_then : (rs more : List RefRow) (us : List UseRow) → lowered_by (rs ++ more) us ≡ lowered_by more (lowered_by rs us)
lowered_then [] more us = refl
lowered_then (r ∷ rs) more us = lowered_then rs more (lowered (ref_name r) us)

many_joined : {X : Type 0} (p : X → Bool) (xs ys : List X) → length (filter p (xs ++ ys)) ≡ length (filter p xs) + length (filter p ys)
many_joined p [] ys = omega (arith)
many_joined p (x ∷ xs) ys = let a = many_cons p x (xs ++ ys) in let b = many_cons p x xs in let c = many_joined p xs ys in omega (arith, a, b, c)

-- a block that a reference of the body names has a use left until that reference is come to
pub use_left : (refs : List RefRow) (blocks : List BlockRow) (body : Name) (before after : List RefRow) (r : RefRow) → placed refs body ≡ before ++ r ∷ after
    → AllByRecursion (λ (u : UseRow). is_named (ref_name r) u ≡ true → int_lt (pos 0) u.uses ≡ true) (lowered_by before (map (use_among refs) blocks))
use_left refs blocks body before after r is = subst (AllByRecursion (λ (u : UseRow). is_named (ref_name r) u ≡ true → int_lt (pos 0) u.uses ≡ true)) (sym (lowered_all before (map (use_among refs) blocks))) (go blocks)
  where
    some : (all left gone more : ℕ) → all ≡ left + (gone + (1 + more)) → int_lt (pos 0) (pos all -ℤ pos gone) ≡ true
    some all left gone more is = grind (arith, ints, is)

    at : (b : BlockRow) → same_name (block_name b) (ref_name r) ≡ true → int_lt (pos 0) (less_by before (use_among refs b)).uses ≡ true
    at b named =
        let p : RefRow → Bool = λ x. same_name (ref_name x) (block_name b) in
        let parted = many_parted p (is_of_body body) refs in
        let sorted = many_sorted p by_place (filter (is_of_body body) refs) in
        let cut = ap (λ l. length (filter p l)) is in
        let joined = many_joined p before (r ∷ after) in
        let first = many_cons p r after in
        let on = ap {B = ℕ} (λ s. cond s 1 0) (name_swap (ref_name r) (block_name b) ∙ named) in
        some (length (filter p refs)) (length (filter p (delete_where (is_of_body body) refs))) (length (filter p before)) (length (filter p after)) (omega (arith, parted, sorted, cut, joined, first, on))

    go : (blocks : List BlockRow) → AllByRecursion (λ (u : UseRow). is_named (ref_name r) u ≡ true → int_lt (pos 0) u.uses ≡ true) (map (less_by before) (map (use_among refs) blocks))
    go [] = tt
    go (b ∷ blocks) = (at b, go blocks)

-- ---- a block goes

pub uses_without : (q : Name) (refs : List RefRow) (blocks : List BlockRow) → delete_where (is_named q) (map (use_among refs) blocks) ≡ map (use_among refs) (delete_where (is_block q) blocks)
uses_without q refs [] = refl
uses_without q refs (b ∷ blocks) = elim (is_block q b) as (λ s. cond (not s) (use_among refs b ∷ delete_where (is_named q) (map (use_among refs) blocks)) (delete_where (is_named q) (map (use_among refs) blocks)) ≡ map (use_among refs) (cond (not s) (b ∷ delete_where (is_block q) blocks) (delete_where (is_block q) blocks))) [
  | true ↦ uses_without q refs blocks
  | false ↦ ap (λ l. use_among refs b ∷ l) (uses_without q refs blocks)
]

-- ---- the counts of 0 are those of the blocks that no reference names

pub unused_is : (refs : List RefRow) (b : BlockRow) → is_unused (use_among refs b) ≡ is_unreferenced refs b
unused_is refs b = many_none (is_use (block_name b)) refs

inserted_use : (refs : List RefRow) (b : BlockRow) (bs : List BlockRow) → insert_sorted by_use_name (use_among refs b) (map (use_among refs) bs) ≡ map (use_among refs) (insert_sorted by_name b bs)
inserted_use refs b [] = refl
inserted_use refs b (c ∷ bs) = elim (is_gt (by_name b c)) as (λ s. cond s (use_among refs c ∷ insert_sorted by_use_name (use_among refs b) (map (use_among refs) bs)) (use_among refs b ∷ use_among refs c ∷ map (use_among refs) bs) ≡ map (use_among refs) (cond s (c ∷ insert_sorted by_name b bs) (b ∷ c ∷ bs))) [
  | true ↦ ap (λ l. use_among refs c ∷ l) (inserted_use refs b bs)
  | false ↦ refl
]

sorted_uses : (refs : List RefRow) (bs : List BlockRow) → sort_by by_use_name (map (use_among refs) bs) ≡ map (use_among refs) (sort_by by_name bs)
sorted_uses refs [] = refl
sorted_uses refs (b ∷ bs) = ap (insert_sorted by_use_name (use_among refs b)) (sorted_uses refs bs) ∙ inserted_use refs b (sort_by by_name bs)

pub unused_names : (limit : ℕ) (refs : List RefRow) (blocks : List BlockRow) → take limit (map shown_use_name (sort_by by_use_name (filter is_unused (map (use_among refs) blocks)))) ≡ map shown_name (unreferenced limit refs blocks)
unused_names limit refs blocks =
    ap (λ l. take limit (map shown_use_name (sort_by by_use_name l))) (filter-map is_unused (use_among refs) blocks ∙ ap (map (use_among refs)) (λ i. filter (λ b. unused_is refs b i) blocks))
    ∙ ap (λ l. take limit (map shown_use_name l)) (sorted_uses refs (filter (is_unreferenced refs) blocks))
    ∙ ap (take limit) (map-map shown_use_name (use_among refs) (sort_by by_name (filter (is_unreferenced refs) blocks)))
    ∙ take-map shown_name limit _

-- ---- versions and parts come and go

module _ {X : Type 0} (size : X → ℕ) (p : X → Bool) where
  abbrev pub total : List X → ℕ
  total xs = sum_by size (filter p xs)

  abbrev share : X → ℕ
  share x = cond (p x) (size x) 0

  pub total_cons : (x : X) (xs : List X) → total (x ∷ xs) ≡ share x + total xs
  total_cons x xs = let more = sum_by-cons size x (filter p xs) in elim (p x) as (λ b. sum_by size (cond b (x ∷ filter p xs) (filter p xs)) ≡ cond b (size x) 0 + total xs) [ true ↦ more | false ↦ omega (arith) ]

  pub total_last : (xs : List X) (x : X) → total (xs ++ x ∷ []) ≡ total xs + share x
  total_last [] x = let it = total_cons x [] in omega (arith, it)
  total_last (y ∷ xs) x = let a = total_cons y (xs ++ x ∷ []) in let b = total_cons y xs in let c = total_last xs x in omega (arith, a, b, c)

  pub total_parted : (m : X → Bool) (xs : List X) → total xs ≡ total (delete_where m xs) + total (filter m xs)
  total_parted m [] = refl
  total_parted m (x ∷ xs) =
      let a = total_cons x xs in
      let b = total_parted m xs in
      let c = total_cons x (delete_where m xs) in
      let d = total_cons x (filter m xs) in
      elim (m x) as (λ s. total (x ∷ xs) ≡ total (cond (not s) (x ∷ delete_where m xs) (delete_where m xs)) + total (cond s (x ∷ filter m xs) (filter m xs))) [ true ↦ omega (arith, a, b, d) | false ↦ omega (arith, a, b, c) ]

  -- of rows that all pass, or that none does
  pub total_all : (xs : List X) → AllByRecursion (λ x. p x ≡ true) xs → total xs ≡ sum_by size xs
  total_all [] h = refl
  total_all (x ∷ xs) h = let a = total_cons x xs in let b = sum_by-cons size x xs in let c = total_all xs h.1 in let d = ap (λ s. cond s (size x) 0) h.0 in omega (arith, a, b, c, d)

  pub total_none : (xs : List X) → AllByRecursion (λ x. p x ≡ false) xs → total xs ≡ 0
  total_none [] h = refl
  total_none (x ∷ xs) h = let a = total_cons x xs in let c = total_none xs h.1 in let d = ap (λ s. cond s (size x) 0) h.0 in omega (arith, a, c, d)

pub bytes_Decides : (x y : Octets) → Decides (bytes_eq x y) (x ≡ y)
bytes_Decides x y = (same_bytes x y, λ e. subst (λ z. bytes_eq x z ≡ true) e (bytes_eq_refl x))

pub bytes_swap : (a b : Octets) → bytes_eq a b ≡ bytes_eq b a
bytes_swap a b = one_answer _ _ (bytes_Decides a b) (λ h. sym ((bytes_Decides b a).0 h), λ e. (bytes_Decides b a).1 (sym e))

-- rows that pass a test, all of one owner, go
module _ {X : Type 0} (size : X → ℕ) (owner : X → Octets) (m : X → Bool) (tenant : Octets) (less : ℕ) (owned : (x : X) → m x ≡ true → owner x ≡ tenant) where
  each_of : (b : Bool) (t : Octets) → bytes_eq tenant t ≡ b → (xs : List X) → AllByRecursion (λ x. bytes_eq (owner x) t ≡ b) (filter m xs)
  each_of b t is [] = tt
  each_of b t is (x ∷ xs) = elim (cases_Bool (m x)) [
    | inl on ↦ subst (λ s. AllByRecursion (λ y. bytes_eq (owner y) t ≡ b) (cond s (x ∷ filter m xs) (filter m xs))) (sym on) (ap (λ o. bytes_eq o t) (owned x on) ∙ is, each_of b t is xs)
    | inr off ↦ subst (λ s. AllByRecursion (λ y. bytes_eq (owner y) t ≡ b) (cond s (x ∷ filter m xs) (filter m xs))) (sym off) (each_of b t is xs)
  ]

  gone : (xs : List X) → sum_by size (filter m xs) ≡ less → (t : Octets) → total size (λ x. bytes_eq (owner x) t) (filter m xs) ≡ cond (bytes_eq t tenant) less 0
  gone xs held t = elim (cases_Bool (bytes_eq tenant t)) [
    | inl is ↦ total_all size (λ x. bytes_eq (owner x) t) (filter m xs) (each_of true t is xs) ∙ held ∙ ap (λ b. cond b less 0) (sym (bytes_swap t tenant ∙ is))
    | inr not ↦ total_none size (λ x. bytes_eq (owner x) t) (filter m xs) (each_of false t not xs) ∙ ap (λ b. cond b less 0) (sym (bytes_swap t tenant ∙ not))
  ]

  pub total_less : (xs : List X) → sum_by size (filter m xs) ≡ less → (t : Octets) → total size (λ x. bytes_eq (owner x) t) (delete_where m xs) + cond (bytes_eq t tenant) less 0 ≡ total size (λ x. bytes_eq (owner x) t) xs
  total_less xs held t = let a = total_parted size (λ x. bytes_eq (owner x) t) m xs in let b = gone xs held t in omega (arith, a, b)

-- one comes
pub total_more : {X : Type 0} (size : X → ℕ) (owner : X → Octets) (xs : List X) (x : X) (t : Octets) → total size (λ y. bytes_eq (owner y) t) (xs ++ x ∷ []) ≡ total size (λ y. bytes_eq (owner y) t) xs + cond (bytes_eq t (owner x)) (size x) 0
total_more size owner xs x t = total_last size (λ y. bytes_eq (owner y) t) xs x ∙ ap (λ b. total size (λ y. bytes_eq (owner y) t) xs + cond b (size x) 0) (bytes_swap (owner x) t)

-- a sum that has more and less, as a whole number
pub turned_sum : (b : Bool) (after before more less : ℕ) → after + cond b less 0 ≡ before + cond b more 0 → pos after ≡ cond b (pos before +ℤ pos more -ℤ pos less) (pos before)
turned_sum true after before more less is = grind (arith, ints, is)
turned_sum false after before more less is = ap pos (omega (arith, is))

-- ---- the bytes of a tenant, once its versions are others; the tallies are those of the others (TallyLemmas)

module _ (t : Tables) (versions : List VersionRow) (tenant : Octets) (more less : ℕ)
    (is : (x : Octets) → total (λ (v : VersionRow). v.size) (λ v. bytes_eq v.tenant x) versions + cond (bytes_eq x tenant) less 0 ≡ total (λ (v : VersionRow). v.size) (λ v. bytes_eq v.tenant x) t.versions + cond (bytes_eq x tenant) more 0) where
  pub totals_versions : totals_of (record t { versions = versions }) ≡ record (used_changed tenant more less (totals_of t)) { tallies = map (tally_of versions) t.tenants }
  totals_versions = λ i. record (totals_of (record t { versions = versions })) { used = λ x. at x i }
    where
      at : (x : Octets) → pos (bytes_used versions t.parts x) ≡ cond (bytes_eq x tenant) (pos (bytes_used t.versions t.parts x) +ℤ pos more -ℤ pos less) (pos (bytes_used t.versions t.parts x))
      at x = let one = is x in turned_sum (bytes_eq x tenant) (bytes_used versions t.parts x) (bytes_used t.versions t.parts x) more less (omega (arith, one))

-- a version comes
pub totals_version_added : (t : Tables) (v : VersionRow) → totals_of (record t { versions = t.versions ++ v ∷ [] }) ≡ record (used_changed v.tenant v.size 0 (totals_of t)) { tallies = map (tally_of (t.versions ++ v ∷ [])) t.tenants }
totals_version_added t v = totals_versions t (t.versions ++ v ∷ []) v.tenant v.size 0 (λ x. let one = total_more (λ (u : VersionRow). u.size) (λ (u : VersionRow). u.tenant) t.versions v x in none_off (bytes_eq x v.tenant) _ _ one)
  where
    none_off : (b : Bool) (m n : ℕ) → m ≡ n → m + cond b 0 0 ≡ n
    none_off true m n e = omega (arith, e)
    none_off false m n e = omega (arith, e)

-- versions of a tenant go
pub totals_version_deleted : (t : Tables) (m : VersionRow → Bool) (tenant : Octets) (less : ℕ) → ((v : VersionRow) → m v ≡ true → v.tenant ≡ tenant) → sum_by (λ (v : VersionRow). v.size) (filter m t.versions) ≡ less
    → totals_of (record t { versions = delete_where m t.versions }) ≡ record (used_changed tenant 0 less (totals_of t)) { tallies = map (tally_of (delete_where m t.versions)) t.tenants }
totals_version_deleted t m tenant less owned held = totals_versions t (delete_where m t.versions) tenant 0 less (λ x. let one = total_less (λ (v : VersionRow). v.size) (λ (v : VersionRow). v.tenant) m tenant less owned t.versions held x in none_off (bytes_eq x tenant) _ _ one)
  where
    none_off : (b : Bool) (m n : ℕ) → m ≡ n → m ≡ n + cond b 0 0
    none_off true m n e = omega (arith, e)
    none_off false m n e = omega (arith, e)

-- they go, and another comes
pub totals_version_replaced : (t : Tables) (m : VersionRow → Bool) (v : VersionRow) (less : ℕ) → ((u : VersionRow) → m u ≡ true → u.tenant ≡ v.tenant) → sum_by (λ (u : VersionRow). u.size) (filter m t.versions) ≡ less
    → totals_of (record t { versions = delete_where m t.versions ++ v ∷ [] }) ≡ record (used_changed v.tenant v.size less (totals_of t)) { tallies = map (tally_of (delete_where m t.versions ++ v ∷ [])) t.tenants }
totals_version_replaced t m v less owned held = totals_versions t (delete_where m t.versions ++ v ∷ []) v.tenant v.size less (λ x.
    let one = total_more (λ (u : VersionRow). u.size) (λ (u : VersionRow). u.tenant) (delete_where m t.versions) v x in
    let two = total_less (λ (u : VersionRow). u.size) (λ (u : VersionRow). u.tenant) m v.tenant less owned t.versions held x in
    omega (arith, one, two))

-- a marker has no bytes
pub totals_marker_added : (t : Tables) (v : VersionRow) → v.size ≡ 0 → totals_of (record t { versions = t.versions ++ v ∷ [] }) ≡ record (totals_of t) { tallies = map (tally_of (t.versions ++ v ∷ [])) t.tenants }
totals_marker_added t v none = λ i. record (totals_of (record t { versions = t.versions ++ v ∷ [] })) { used = λ x. ap pos (at x) i }
  where
    no_share : (b : Bool) → cond b v.size 0 ≡ 0
    no_share true = none
    no_share false = refl

    at : (x : Octets) → bytes_used (t.versions ++ v ∷ []) t.parts x ≡ bytes_used t.versions t.parts x
    at x = let one = total_more (λ (u : VersionRow). u.size) (λ (u : VersionRow). u.tenant) t.versions v x in let two = no_share (bytes_eq x v.tenant) in omega (arith, one, two)
