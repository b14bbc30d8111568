-- The bytes of the blocks that no reference names, and whether references have the sizes of their blocks, once references and blocks come and go.
use Rattle.std.proofs.Common.{◌≡◌, inl, inr, ℕ, ℤ, ◌+◌, ◌-ℤ◌, pos, Bool, true, false, true≢false, ◌==◌, ◌||◌, not, List, [], ◌∷◌, ◌++◌, map, filter, length, cond, arith, int_le, int_lt, refl, sym, ap, ap₂, subst, ◌∙◌, Ordering, is_gt}
use Rattle.std.specs.List.{list_any, list_all, AllByRecursion}
use Rattle.std.specs.Option.{option_map_or}
use Rattle.std.specs.Ordering.{int_eq}
use Rattle.std.proofs.lemmas.Bool.{and_parts, and_from, cases_Bool, eqb-true, eq-eqb}
use Rattle.std.proofs.lemmas.Int.{ints}
use Rattle.std.proofs.lemmas.List.{append-nil}
use Rattle.std.proofs.lemmas.List.Elements.{filter-append}
use Rattle.std.proofs.lemmas.List.Folds.{list_all-append}
use Rattle.sqlite_keyed.specs.Lists.{insert_sorted, sort_by, delete_where}
use Rattle.sqlite_keyed.proofs.ListLemmas.{filter-map, map-map, filter-filter}
use Rattle.bh_tables.specs.Typed.{totals_of, weight, use_among, lowered, is_named, UseRow, BlockRow, RefRow, Tables, rebodied}
use Rattle.bh_tables.specs.Bodies.{Name, same_name, ref_name, block_name, block_at, first, has_size, unneeded, placed, by_place}
use Rattle.bh_tables.specs.Shown.{is_use, is_block, is_of_body, is_unreferenced}
use Rattle.bh_tables.specs.Garbage.{HasUses, Frees}
use Rattle.bh_tables.proofs.TotalLemmas.{name_Decides, name_swap, many_cons, many_last, many_parted, many_sorted, total, total_cons, total_last, total_parted, none_less, step_less, totals_rebodied, unused_is}

-- ---- lists

passes : {X : Type 0} (p : X → Bool) (xs : List X) (x : X) → filter p xs ≡ x ∷ [] → p x ≡ true
passes p xs x one = (subst (AllByRecursion (λ y. p y ≡ true)) one (each p xs)).0
  where
    each : {X : Type 0} (p : X → Bool) (xs : List X) → AllByRecursion (λ x. p x ≡ true) (filter p xs)
    each p [] = tt
    each p (x ∷ xs) = elim (p x) as (λ b. p x ≡ b → AllByRecursion (λ y. p y ≡ true) (cond b (x ∷ filter p xs) (filter p xs))) [ true ↦ λ e. (e, each p xs) | false ↦ λ e. each p xs ] refl

none_passes : {X : Type 0} (p : X → Bool) (xs : List X) → list_any p xs ≡ false → filter p xs ≡ []
none_passes p [] none = refl
none_passes {X} p (x ∷ xs) none = go (p x) none (none_passes p xs)
  where
    go : (b : Bool) → (b || list_any p xs) ≡ false → (list_any p xs ≡ false → filter p xs ≡ []) → cond b (x ∷ filter p xs) (filter p xs) ≡ []
    go true h rest = absurd (true≢false h)
    go false h rest = rest h

-- the elements that another test leaves have the same by two tests that agree on them
module _ {X : Type 0} (size : X → ℕ) (p q m : X → Bool) (off : (x : X) → m x ≡ false → p x ≡ q x) where
  others_same : (xs : List X) → total size p (delete_where m xs) ≡ total size q (delete_where m xs)
  others_same [] = refl
  others_same (x ∷ xs) = go (m x) refl (others_same xs)
    where
      go : (b : Bool) → m x ≡ b → total size p (delete_where m xs) ≡ total size q (delete_where m xs) → total size p (cond (not b) (x ∷ delete_where m xs) (delete_where m xs)) ≡ total size q (cond (not b) (x ∷ delete_where m xs) (delete_where m xs))
      go true is rest = rest
      go false is rest =
          let a = total_cons size p x (delete_where m xs) in
          let b = total_cons size q x (delete_where m xs) in
          let d = ap (λ s. cond s (size x) 0) (off x is) in
          omega (arith, a, b, rest, d)

  turned_none : (xs : List X) → filter m xs ≡ [] → total size p xs ≡ total size q xs
  turned_none xs none =
      let a = total_parted size p m xs in
      let b = total_parted size q m xs in
      let c = others_same xs in
      let d = ap (total size p) none in
      let e = ap (total size q) none in
      omega (arith, a, b, c, d, e)

  -- where one is among the others, the sums differ by it
  turned_one : (xs : List X) (x : X) → filter m xs ≡ x ∷ [] → total size p xs + cond (q x) (size x) 0 ≡ total size q xs + cond (p x) (size x) 0
  turned_one xs x one =
      let a = total_parted size p m xs in
      let b = total_parted size q m xs in
      let c = others_same xs in
      let d = ap (total size p) one ∙ total_cons size p x [] in
      let e = ap (total size q) one ∙ total_cons size q x [] in
      omega (arith, a, b, c, d, e)

-- ---- the block of a name

abbrev pub size_of : BlockRow → ℕ
size_of b = length b.bytes

pub block_is : (blocks : List BlockRow) (q : Name) (c : BlockRow) → filter (is_block q) blocks ≡ c ∷ [] → block_at blocks q ≡ c.bytes
block_is blocks q c one = ap (λ l. option_map_or (λ (b : BlockRow). b.bytes) (first l) []) one

-- with so many uses by a number of each block
abbrev used_so : (BlockRow → ℤ) → BlockRow → UseRow
used_so uses b = record { digest = b.digest; ord = b.ord; uses = uses b }

pub record IsOne (uses : BlockRow → ℤ) (blocks : List BlockRow) (q : Name) (n : ℕ) : Type 0 where
  pub block : BlockRow
  pub one : filter (is_block q) blocks ≡ block ∷ []
  pub uses_are : uses block ≡ pos n

pub one_of : (uses : BlockRow → ℤ) (blocks : List BlockRow) (q : Name) (n : ℕ) → HasUses q n (map (used_so uses) blocks) → IsOne uses blocks q n
one_of uses blocks q n has = go (filter (is_block q) blocks) refl (sym (map-map (λ (u : UseRow). u.uses) (used_so uses) (filter (is_block q) blocks)) ∙ ap (map (λ (u : UseRow). u.uses)) (sym (filter-map (is_named q) (used_so uses) blocks)) ∙ has)
  where
    first_is : (z : ℤ) (zs : List ℤ) → z ∷ zs ≡ pos n ∷ [] → z ≡ pos n
    first_is z zs e = cc

    go : (l : List BlockRow) → filter (is_block q) blocks ≡ l → map uses l ≡ pos n ∷ [] → IsOne uses blocks q n
    go [] is h = absurd (cc)
    go (b ∷ []) is h = record { block = b; one = is; uses_are = first_is (uses b) [] h }
    go (b ∷ c ∷ l) is h = absurd (cc)

-- ---- a reference comes

still_zero : (n k : ℕ) → k ≡ n + 0 → int_eq (pos n) (pos 0) ≡ int_eq (pos k) (pos 0)
still_zero n k is = let same : n ≡ k = omega (arith, is) in ap (λ m. int_eq (pos m) (pos 0)) same

no_zero : (n k : ℕ) → k ≡ n + 1 → int_eq (pos k) (pos 0) ≡ false
no_zero n k is = grind (arith, ints, is)

module _ (refs : List RefRow) (r : RefRow) where
  abbrev more : List RefRow
  more = refs ++ r ∷ []

  count_with : (b : BlockRow) → length (filter (λ x. same_name (ref_name x) (block_name b)) more) ≡ length (filter (λ x. same_name (ref_name x) (block_name b)) refs) + cond (same_name (ref_name r) (block_name b)) 1 0
  count_with b = many_last (λ x. same_name (ref_name x) (block_name b)) refs r

  other_with : (b : BlockRow) → is_block (ref_name r) b ≡ false → is_unreferenced refs b ≡ is_unreferenced more b
  other_with b off = sym (unused_is refs b)
      ∙ still_zero _ _ (count_with b ∙ ap (λ s. length (filter (λ x. same_name (ref_name x) (block_name b)) refs) + cond s 1 0) (name_swap (ref_name r) (block_name b) ∙ off)) ∙ unused_is more b

  named_with : (b : BlockRow) → is_block (ref_name r) b ≡ true → is_unreferenced more b ≡ false
  named_with b on = sym (unused_is more b)
      ∙ no_zero _ _ (count_with b ∙ ap (λ s. length (filter (λ x. same_name (ref_name x) (block_name b)) refs) + cond s 1 0) (name_swap (ref_name r) (block_name b) ∙ on))

  -- of a block that had so many uses
  pub unneeded_with : (blocks : List BlockRow) (n : ℕ) → HasUses (ref_name r) n (map (use_among refs) blocks) → r.size ≡ length (block_at blocks (ref_name r)) → unneeded more blocks + cond (int_eq (pos n) (pos 0)) r.size 0 ≡ unneeded refs blocks
  unneeded_with blocks n has sized =
      let it = one_of (λ b. pos (length (filter (λ x. same_name (ref_name x) (block_name b)) refs))) blocks (ref_name r) n has in
      let a = turned_one size_of (is_unreferenced refs) (is_unreferenced more) (is_block (ref_name r)) other_with blocks it.block it.one in
      let b = ap (λ s. cond s (size_of it.block) 0) (named_with it.block (passes (is_block (ref_name r)) blocks it.block it.one)) in
      let c = ap₂ (λ s m. cond s m 0) (sym (unused_is refs it.block) ∙ ap (λ z. int_eq z (pos 0)) it.uses_are) (sym (sized ∙ ap length (block_is blocks (ref_name r) it.block it.one))) in
      omega (arith, a, b, c)

  -- with its block
  pub unneeded_added : (blocks : List BlockRow) (b : BlockRow) → ref_name r ≡ block_name b → list_any (is_block (block_name b)) blocks ≡ false → unneeded more (blocks ++ b ∷ []) ≡ unneeded refs blocks
  unneeded_added blocks b same free =
      let a = total_last size_of (is_unreferenced more) blocks b in
      let c = ap (λ s. cond s (size_of b) 0) (named_with b ((name_Decides (block_name b) (ref_name r)).1 (sym same))) in
      let d = turned_none size_of (is_unreferenced refs) (is_unreferenced more) (is_block (ref_name r)) other_with blocks (none_passes (is_block (ref_name r)) blocks (ap (λ q. list_any (is_block q) blocks) same ∙ free)) in
      omega (arith, a, c, d)

-- ---- references go

-- the bytes of the blocks that have no use by these numbers
abbrev weigh : (BlockRow → ℤ) → List BlockRow → ℕ
weigh uses blocks = total size_of (λ b. int_eq (uses b) (pos 0)) blocks

abbrev named : Name → RefRow → Bool
named q x = same_name (ref_name x) q

abbrev less_at : Name → (BlockRow → ℤ) → BlockRow → ℤ
less_at q uses b = cond (is_block q b) (uses b -ℤ pos 1) (uses b)

lowered_so : (q : Name) (uses : BlockRow → ℤ) (blocks : List BlockRow) → lowered q (map (used_so uses) blocks) ≡ map (used_so (less_at q uses)) blocks
lowered_so q uses [] = refl
lowered_so q uses (b ∷ blocks) = ap₂ ◌∷◌ (go (is_block q b)) (lowered_so q uses blocks)
  where
    go : (s : Bool) → cond s (record (used_so uses b) { uses = uses b -ℤ pos 1 }) (used_so uses b) ≡ record (used_so uses b) { uses = cond s (uses b -ℤ pos 1) (uses b) }
    go true = refl
    go false = refl

above_zero : (z : ℤ) → int_lt (pos 0) z ≡ true → int_eq z (pos 0) ≡ false
above_zero z more = grind (arith, ints, more)

last_goes : (z : ℤ) → int_eq z (pos 1) ≡ true → int_eq (z -ℤ pos 1) (pos 0) ≡ true
last_goes z on = grind (arith, ints, on)

more_stay : (z : ℤ) → int_eq z (pos 1) ≡ false → int_eq (z -ℤ pos 1) (pos 0) ≡ false
more_stay z off = grind (arith, ints, off)

last_is : (z : ℤ) → int_eq (z -ℤ pos 1) (pos 0) ≡ int_eq z (pos 1)
last_is z = elim (cases_Bool (int_eq z (pos 1))) [ inl on ↦ last_goes z on ∙ sym on | inr off ↦ more_stay z off ∙ sym off ]

weigh_less : (q : Name) (uses : BlockRow → ℤ) (blocks : List BlockRow) (c : BlockRow) → filter (is_block q) blocks ≡ c ∷ [] → int_lt (pos 0) (uses c) ≡ true → weigh (less_at q uses) blocks ≡ weigh uses blocks + cond (int_eq (uses c) (pos 1)) (size_of c) 0
weigh_less q uses blocks c one more =
    let a = turned_one size_of (λ b. int_eq (less_at q uses b) (pos 0)) (λ b. int_eq (uses b) (pos 0)) (is_block q) (λ b off. ap (λ s. int_eq (cond s (uses b -ℤ pos 1) (uses b)) (pos 0)) off) blocks c one in
    let b = ap (λ s. cond s (size_of c) 0) (above_zero (uses c) more) in
    let d = ap (λ s. cond s (size_of c) 0) (ap (λ s. int_eq (cond s (uses c -ℤ pos 1) (uses c)) (pos 0)) (passes (is_block q) blocks c one) ∙ last_is (uses c)) in
    omega (arith, a, b, d)

-- as many uses as references that are to go
abbrev Covers : List RefRow → (BlockRow → ℤ) → Type 0
Covers rs uses = (b : BlockRow) → int_le (pos (length (filter (named (block_name b)) rs))) (uses b) ≡ true

some_left : (k n : ℕ) (z : ℤ) → k ≡ 1 + n → int_le (pos k) z ≡ true → int_lt (pos 0) z ≡ true
some_left k n z is low = grind (arith, ints, is, low)

one_fewer : (k n : ℕ) (z : ℤ) → k ≡ 1 + n → int_le (pos k) z ≡ true → int_le (pos n) (z -ℤ pos 1) ≡ true
one_fewer k n z is low = grind (arith, ints, is, low)

as_many : (k n : ℕ) (z : ℤ) → k ≡ 0 + n → int_le (pos k) z ≡ true → int_le (pos n) z ≡ true
as_many k n z is low = let same : k ≡ n = omega (arith, is) in subst (λ m. int_le (pos m) z ≡ true) same low

same_less : (z : ℤ) (n k : ℕ) → k ≡ 0 + n → z -ℤ pos n ≡ z -ℤ pos k
same_less z n k is = let same : n ≡ k = omega (arith, is) in ap (λ m. z -ℤ pos m) same

pub frees : (rs : List RefRow) (uses : BlockRow → ℤ) (blocks : List BlockRow) (freed : ℕ) → Frees rs (map (used_so uses) blocks) freed → AllByRecursion (λ (r : RefRow). r.size ≡ length (block_at blocks (ref_name r))) rs → Covers rs uses
    → weigh (λ b. uses b -ℤ pos (length (filter (named (block_name b)) rs))) blocks ≡ weigh uses blocks + freed
frees [] uses blocks freed none sized covers =
    let a = ap (λ (f : BlockRow → ℤ). weigh f blocks) (λ i b. sym (none_less (uses b)) i) in
    omega (arith, a, none)
frees (r ∷ rs) uses blocks freed h sized covers =
    let q = ref_name r in
    let n = h.0 in
    let rest = h.1.0 in
    let it = one_of uses blocks q n h.1.1.0 in
    let sum = h.1.1.1.0 in
    let on = passes (is_block q) blocks it.block it.one in
    let here = count it.block ∙ ap (λ s. cond s 1 0 + length (filter (named (block_name it.block)) rs)) on in
    let less = weigh_less q uses blocks it.block it.one (some_left _ _ (uses it.block) here (covers it.block)) in
    let size = ap₂ (λ z m. cond (int_eq z (pos 1)) m 0) it.uses_are (sym (sized.0 ∙ ap length (block_is blocks q it.block it.one))) in
    let next = frees rs (less_at q uses) blocks rest (subst (λ us. Frees rs us rest) (lowered_so q uses blocks) h.1.1.1.1) sized.1 covers_rest in
    let all = ap (λ (f : BlockRow → ℤ). weigh f blocks) (λ i b. each b i) in
    omega (arith, less, size, next, all, sum)
  where
    count : (b : BlockRow) → length (filter (named (block_name b)) (r ∷ rs)) ≡ cond (is_block (ref_name r) b) 1 0 + length (filter (named (block_name b)) rs)
    count b = many_cons (named (block_name b)) r rs ∙ ap (λ s. cond s 1 0 + length (filter (named (block_name b)) rs)) (name_swap (ref_name r) (block_name b))

    covers_rest : Covers rs (less_at (ref_name r) uses)
    covers_rest b = go (is_block (ref_name r) b) (count b)
      where
        go : (s : Bool) → length (filter (named (block_name b)) (r ∷ rs)) ≡ cond s 1 0 + length (filter (named (block_name b)) rs) → int_le (pos (length (filter (named (block_name b)) rs))) (cond s (uses b -ℤ pos 1) (uses b)) ≡ true
        go true is = one_fewer _ _ (uses b) is (covers b)
        go false is = as_many _ _ (uses b) is (covers b)

    each : (b : BlockRow) → less_at (ref_name r) uses b -ℤ pos (length (filter (named (block_name b)) rs)) ≡ uses b -ℤ pos (length (filter (named (block_name b)) (r ∷ rs)))
    each b = go (is_block (ref_name r) b) (count b)
      where
        go : (s : Bool) → length (filter (named (block_name b)) (r ∷ rs)) ≡ cond s 1 0 + length (filter (named (block_name b)) rs)
            → cond s (uses b -ℤ pos 1) (uses b) -ℤ pos (length (filter (named (block_name b)) rs)) ≡ uses b -ℤ pos (length (filter (named (block_name b)) (r ∷ rs)))
        go true is = step_less (uses b) _ _ is
        go false is = same_less (uses b) _ _ is

-- what holds of all holds of them sorted
all_inserted : {X : Type 0} (P : X → Type 0) (o : X → X → Ordering) (x : X) (xs : List X) → P x → AllByRecursion P xs → AllByRecursion P (insert_sorted o x xs)
all_inserted P o x [] one all = (one, tt)
all_inserted P o x (y ∷ xs) one all = elim (is_gt (o x y)) as (λ s. AllByRecursion P (cond s (y ∷ insert_sorted o x xs) (x ∷ y ∷ xs))) [ true ↦ (all.0, all_inserted P o x xs one all.1) | false ↦ (one, all) ]

all_sorted : {X : Type 0} (P : X → Type 0) (o : X → X → Ordering) (xs : List X) → AllByRecursion P xs → AllByRecursion P (sort_by o xs)
all_sorted P o [] all = tt
all_sorted P o (x ∷ xs) all = all_inserted P o x (sort_by o xs) all.0 (all_sorted P o xs all.1)

-- each reference has its size
sizes_found : (blocks : List BlockRow) (p : RefRow → Bool) (refs : List RefRow) → list_all (has_size blocks) refs ≡ true → AllByRecursion (λ (r : RefRow). r.size ≡ length (block_at blocks (ref_name r))) (filter p refs)
sizes_found blocks p [] all = tt
sizes_found blocks p (r ∷ refs) all = let parts = and_parts _ _ all in elim (p r) as (λ b. AllByRecursion (λ (x : RefRow). x.size ≡ length (block_at blocks (ref_name x))) (cond b (r ∷ filter p refs) (filter p refs))) [
  | true ↦ (eqb-true _ _ parts.0, sizes_found blocks p refs parts.1)
  | false ↦ sizes_found blocks p refs parts.1
]

-- the references of a body go
pub unneeded_dropped : (refs : List RefRow) (blocks : List BlockRow) (body : Name) (freed : ℕ) → list_all (has_size blocks) refs ≡ true → Frees (placed refs body) (map (use_among refs) blocks) freed
    → unneeded (delete_where (is_of_body body) refs) blocks ≡ unneeded refs blocks + freed
unneeded_dropped refs blocks body freed measured h =
    let left = delete_where (is_of_body body) refs in
    let a = frees (placed refs body) all_uses blocks freed h (all_sorted _ by_place _ (sizes_found blocks (is_of_body body) refs measured)) covers in
    let b = ap (λ (f : BlockRow → ℤ). weigh f blocks) (λ i b. stay b i) in
    let c = ap (λ (p : BlockRow → Bool). total size_of p blocks) (λ i b. unused_is left b i) in
    let d = ap (λ (p : BlockRow → Bool). total size_of p blocks) (λ i b. unused_is refs b i) in
    omega (arith, a, b, c, d)
  where
    all_uses : BlockRow → ℤ
    all_uses b = pos (length (filter (named (block_name b)) refs))

    parts : (b : BlockRow) → length (filter (named (block_name b)) refs) ≡ length (filter (named (block_name b)) (delete_where (is_of_body body) refs)) + length (filter (named (block_name b)) (placed refs body))
    parts b = let parted = many_parted (named (block_name b)) (is_of_body body) refs in let sorted = many_sorted (named (block_name b)) by_place (filter (is_of_body body) refs) in omega (arith, parted, sorted)

    up_to : (all left gone : ℕ) → all ≡ left + gone → int_le (pos gone) (pos all) ≡ true
    up_to all left gone is = grind (arith, ints, is)

    fewer : (all left gone : ℕ) → all ≡ left + gone → pos all -ℤ pos gone ≡ pos left
    fewer all left gone is = grind (arith, ints, is)

    covers : Covers (placed refs body) all_uses
    covers b = up_to _ _ _ (parts b)

    stay : (b : BlockRow) → all_uses b -ℤ pos (length (filter (named (block_name b)) (placed refs body))) ≡ pos (length (filter (named (block_name b)) (delete_where (is_of_body body) refs)))
    stay b = fewer _ _ _ (parts b)

-- ---- a block goes that no reference names

pub unneeded_without : (refs : List RefRow) (blocks : List BlockRow) (q : Name) (size : ℕ) → map size_of (filter (is_block q) blocks) ≡ size ∷ [] → list_any (is_use q) refs ≡ false
    → unneeded refs (delete_where (is_block q) blocks) + size ≡ unneeded refs blocks
unneeded_without refs blocks q size one unused = go (filter (is_block q) blocks) refl one
  where
    first_is : (n : ℕ) (ns : List ℕ) → n ∷ ns ≡ size ∷ [] → n ≡ size
    first_is n ns e = cc

    go : (l : List BlockRow) → filter (is_block q) blocks ≡ l → map size_of l ≡ size ∷ [] → unneeded refs (delete_where (is_block q) blocks) + size ≡ unneeded refs blocks
    go [] is h = absurd (cc)
    go (b ∷ c ∷ l) is h = absurd (cc)
    go (c ∷ []) is h =
        let its : block_name c ≡ q = (name_Decides (block_name c) q).0 (passes (is_block q) blocks c is) in
        let a = total_parted size_of (is_unreferenced refs) (is_block q) blocks in
        let b = ap (total size_of (is_unreferenced refs)) is ∙ total_cons size_of (is_unreferenced refs) c [] in
        let d = ap (λ s. cond s (size_of c) 0) (ap (λ n. not (list_any (is_use n) refs)) its ∙ ap not unused) in
        let e = first_is (size_of c) [] h in
        omega (arith, a, b, d, e)

-- ---- references have the sizes of their blocks still

pub measured_with : (refs : List RefRow) (blocks : List BlockRow) (r : RefRow) → list_all (has_size blocks) refs ≡ true → r.size ≡ length (block_at blocks (ref_name r)) → list_all (has_size blocks) (refs ++ r ∷ []) ≡ true
measured_with refs blocks r all sized = list_all-append (has_size blocks) refs (r ∷ []) ∙ and_from _ _ all (and_from _ _ (eq-eqb r.size _ sized) refl)

pub measured_fewer : (refs : List RefRow) (blocks : List BlockRow) (m : RefRow → Bool) → list_all (has_size blocks) refs ≡ true → list_all (has_size blocks) (delete_where m refs) ≡ true
measured_fewer [] blocks m all = refl
measured_fewer (r ∷ refs) blocks m all = let parts = and_parts _ _ all in elim (not (m r)) as (λ b. list_all (has_size blocks) (cond b (r ∷ delete_where m refs) (delete_where m refs)) ≡ true) [
  | true ↦ and_from _ _ parts.0 (measured_fewer refs blocks m parts.1)
  | false ↦ measured_fewer refs blocks m parts.1
]

-- where other blocks have the same bytes at each name that a reference has
measured_so : (before after : List BlockRow) (q : Name) → ((n : Name) → same_name n q ≡ false → block_at after n ≡ block_at before n) → (refs : List RefRow) → list_any (is_use q) refs ≡ false → list_all (has_size before) refs ≡ true → list_all (has_size after) refs ≡ true
measured_so before after q same [] unused all = refl
measured_so before after q same (r ∷ refs) unused all =
    let parts = and_parts _ _ all in
    let apart = neither (is_use q r) (list_any (is_use q) refs) unused in
    and_from _ _ (ap (λ o. r.size == length o) (same (ref_name r) apart.0) ∙ parts.0) (measured_so before after q same refs apart.1 parts.1)
  where
    neither : (x y : Bool) → (x || y) ≡ false → (x ≡ false) × (y ≡ false)
    neither true y h = absurd (true≢false h)
    neither false y h = (refl, h)

pub measured_added : (refs : List RefRow) (blocks : List BlockRow) (b : BlockRow) → list_any (is_use (block_name b)) refs ≡ false → list_all (has_size blocks) refs ≡ true → list_all (has_size (blocks ++ b ∷ [])) refs ≡ true
measured_added refs blocks b unused = measured_so blocks (blocks ++ b ∷ []) (block_name b) same refs unused
  where
    same : (n : Name) → same_name n (block_name b) ≡ false → block_at (blocks ++ b ∷ []) n ≡ block_at blocks n
    same n other = ap (λ l. option_map_or (λ (x : BlockRow). x.bytes) (first l) []) (filter-append (is_block n) blocks (b ∷ []) ∙ ap (λ s. filter (is_block n) blocks ++ cond s (b ∷ []) []) (name_swap (block_name b) n ∙ other) ∙ append-nil (filter (is_block n) blocks))

-- a block that comes under a new name is the one of that name
pub added_at : (blocks : List BlockRow) (b : BlockRow) → list_any (is_block (block_name b)) blocks ≡ false → block_at (blocks ++ b ∷ []) (block_name b) ≡ b.bytes
added_at blocks b free = ap (λ l. option_map_or (λ (x : BlockRow). x.bytes) (first l) [])
    (filter-append (is_block (block_name b)) blocks (b ∷ []) ∙ ap₂ ◌++◌ (none_passes (is_block (block_name b)) blocks free) (ap (λ s. cond s (b ∷ []) []) ((name_Decides (block_name b) (block_name b)).1 refl)))

pub measured_without : (refs : List RefRow) (blocks : List BlockRow) (q : Name) → list_any (is_use q) refs ≡ false → list_all (has_size blocks) refs ≡ true → list_all (has_size (delete_where (is_block q) blocks)) refs ≡ true
measured_without refs blocks q unused = measured_so blocks (delete_where (is_block q) blocks) q same refs unused
  where
    same : (n : Name) → same_name n q ≡ false → block_at (delete_where (is_block q) blocks) n ≡ block_at blocks n
    same n other = ap (λ l. option_map_or (λ (x : BlockRow). x.bytes) (first l) [])
        (filter-filter (is_block n) (λ b. not (is_block q b)) (λ b on. ap not (ap (λ m. same_name m q) ((name_Decides (block_name b) n).0 on) ∙ other)) blocks)

-- ---- the sums, once references and blocks are others

pub turned_sums : (t : Tables) (refs : List RefRow) (blocks : List BlockRow) (uses : List UseRow) (n : ℕ) → uses ≡ map (use_among refs) blocks → n ≡ unneeded refs blocks → (totals_of t).measured ≡ true → list_all (has_size blocks) refs ≡ true
    → record (totals_of t) { uses = uses; garbage = weight n ∷ [] } ≡ totals_of (rebodied t refs blocks)
turned_sums t refs blocks uses n us is was measured =
    (λ i. record (totals_of t) { uses = us i; garbage = weight (is i) ∷ []; measured = (was ∙ sym measured) i }) ∙ sym (totals_rebodied t refs blocks)
