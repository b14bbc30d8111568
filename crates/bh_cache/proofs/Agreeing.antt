-- Blocks that are kept in memory agree with their rows, while rows stay, come and go.
use Rattle.std.proofs.Common.{◌≡◌, ◌≢◌, ◌≤◌, ◌⊎◌, inl, inr, Bool, true, false, true≢false, cond, List, [], ◌∷◌, ◌++◌, filter, find, length, Contains, Option, Some, None, option_map, refl, sym, ap, ◌∙◌, subst, arith}
use Rattle.std.specs.List.{list_all}
use Rattle.std.specs.Option.{option_map_or, option_or}
use Rattle.std.specs.Cmp.Derive.{both_true}
use Rattle.std.proofs.lemmas.Bool.{and_parts}
use Rattle.std.proofs.lemmas.List.Folds.{find-append}
use Rattle.lru.proofs.Splits.{Contains-head, Contains-tail, Contains-cons, Contains-nil}
use Rattle.sqlite_keyed.specs.Lists.{delete_where}
use Rattle.sqlite_typed.specs.Tests.{bytes_eq}
use Rattle.bh_tables.specs.Schema.{Octets}
use Rattle.bh_tables.specs.Typed.{BlockRow}
use Rattle.bh_tables.specs.Bodies.{row_at, block_at}
use Rattle.bh_tables.specs.Shown.{Name, block_name, is_block, is_copy}
use Rattle.bh_view.specs.Blocks.{copy_in}
use Rattle.bh_view.specs.Grouped.{HasUnique, first}
use Rattle.bh_view.proofs.FilterLemmas.{none_some, same_Some, delete_other}
use Rattle.bh_view.proofs.FindLemmas.{first_find}
use Rattle.bh_view.proofs.Keys.{octets}
use Rattle.bh_view.proofs.NameLemmas.{name_Decides}
use Rattle.bh_cache.specs.Kept.{KeptBlocks, is_row, Agrees, AreCopies}

-- ---- each that is kept

list_each : {X : Type 0} (p : X → Bool) (xs : List X) → list_all p xs ≡ true → (x : X) → Contains xs x → p x ≡ true
list_each p [] all x there = absurd (Contains-nil x there)
list_each p (y ∷ ys) all x there = elim (Contains-cons y ys x there) [
  | inl same ↦ ap p (sym same) ∙ (and_parts _ _ all).0
  | inr later ↦ list_each p ys (and_parts _ _ all).1 x later
]

each_list : {X : Type 0} (p : X → Bool) (xs : List X) → ((x : X) → Contains xs x → p x ≡ true) → list_all p xs ≡ true
each_list p [] each = refl
each_list p (y ∷ ys) each = both_true (each y (Contains-head y ys)) (each_list p ys (λ x there. each x (Contains-tail y ys x there)))

-- the row of its name has its bytes
abbrev pub IsRow : List BlockRow → Name × Octets → Type 0
IsRow blocks e = (b : BlockRow) × (row_at blocks e.0 ≡ Some b) × (b.bytes ≡ e.1)

as_row : (blocks : List BlockRow) (e : Name × Octets) → is_row blocks e ≡ true → IsRow blocks e
as_row blocks e = go (row_at blocks e.0) refl
  where
    go : (o : Option BlockRow) → row_at blocks e.0 ≡ o → option_map_or (λ (b : BlockRow). bytes_eq b.bytes e.1) o false ≡ true → IsRow blocks e
    go None is h = absurd (true≢false (sym h))
    go (Some b) is h = (b, is, (octets.decides b.bytes e.1).0 h)

of_row : (blocks : List BlockRow) (e : Name × Octets) → IsRow blocks e → is_row blocks e ≡ true
of_row blocks e row = ap (λ o. option_map_or (λ (b : BlockRow). bytes_eq b.bytes e.1) o false) row.1 ∙ (octets.decides row.0.bytes e.1).1 row.2

pub agrees_at : (kept : KeptBlocks) (blocks : List BlockRow) → Agrees kept blocks → (e : Name × Octets) → Contains kept.entries e → IsRow blocks e
agrees_at kept blocks h e there = as_row blocks e (list_each (is_row blocks) kept.entries h e there)

pub agrees_by : (kept : KeptBlocks) (blocks : List BlockRow) → ((e : Name × Octets) → Contains kept.entries e → IsRow blocks e) → Agrees kept blocks
agrees_by kept blocks h = each_list (is_row blocks) kept.entries (λ e there. of_row blocks e (h e there))

-- its bytes are those of the block of its name
pub kept_block : (kept : KeptBlocks) (blocks : List BlockRow) (q : Name) (bytes : Octets) → Agrees kept blocks → Contains kept.entries (q, bytes) → block_at blocks q ≡ bytes
kept_block kept blocks q bytes h there = let row = agrees_at kept blocks h (q, bytes) there in ap (λ o. option_map_or (λ (b : BlockRow). b.bytes) o []) row.1 ∙ row.2

-- ---- what is kept changes

module _ (old new : KeptBlocks) (blocks : List BlockRow) where
  pub agrees_fewer : ((e : Name × Octets) → Contains new.entries e → Contains old.entries e) → Agrees old blocks → Agrees new blocks
  agrees_fewer fewer h = agrees_by new blocks (λ e there. agrees_at old blocks h e (fewer e there))

  -- a block is kept whose row was read
  pub agrees_more : (q : Name) (bytes : Octets) → ((e : Name × Octets) → Contains new.entries e → Contains old.entries e ⊎ (e ≡ (q, bytes))) → IsRow blocks (q, bytes) → Agrees old blocks → Agrees new blocks
  agrees_more q bytes more row h = agrees_by new blocks (λ e there. elim (more e there) [
    | inl was ↦ agrees_at old blocks h e was
    | inr is ↦ subst (IsRow blocks) (sym is) row
  ])

-- ---- rows come and go

row_found : (blocks : List BlockRow) (q : Name) → row_at blocks q ≡ find (is_block q) blocks
row_found blocks q = first_find (is_block q) blocks

pub agrees_grown : (kept : KeptBlocks) (blocks added : List BlockRow) → Agrees kept blocks → Agrees kept (blocks ++ added)
agrees_grown kept blocks added h = agrees_by kept (blocks ++ added) (λ e there. let row = agrees_at kept blocks h e there in
    (row.0, row_found (blocks ++ added) e.0 ∙ find-append (is_block e.0) blocks added ∙ ap (λ o. option_or o (find (is_block e.0) added)) (sym (row_found blocks e.0) ∙ row.1), row.2))

-- a row goes, and what is kept of it
pub agrees_left : (old new : KeptBlocks) (blocks : List BlockRow) (q : Name) → ((e : Name × Octets) → Contains new.entries e → Contains old.entries e × (e.0 ≢ q)) → Agrees old blocks → Agrees new (delete_where (is_block q) blocks)
agrees_left old new blocks q fewer h = agrees_by new (delete_where (is_block q) blocks) (λ e there.
    let was = fewer e there in
    let row = agrees_at old blocks h e was.0 in
    (row.0, ap first (delete_other (is_block e.0) (is_block q) blocks (λ b mine. elsewhere e.0 q b was.1 mine)) ∙ row.1, row.2))
  where
    elsewhere : (n q : Name) (b : BlockRow) → n ≢ q → is_block n b ≡ true → is_block q b ≡ false
    elsewhere n q b other mine = elim (is_block q b) as (λ t. is_block q b ≡ t → t ≡ false) [
      | true ↦ λ yes. absurd (other (sym ((name_Decides (block_name b) n).0 mine) ∙ (name_Decides (block_name b) q).0 yes))
      | false ↦ λ no. refl
    ] refl

-- ---- the block that holds some bytes

found_passes : {T : Type 0} (p : T → Bool) (xs : List T) (x : T) → find p xs ≡ Some x → p x ≡ true
found_passes p [] x h = absurd (none_some h)
found_passes p (y ∷ ys) x h = elim (p y) as (λ b. p y ≡ b → cond b (Some y) (find p ys) ≡ Some x → p x ≡ true) [
  | true ↦ λ e here. sym (ap p (same_Some here)) ∙ e
  | false ↦ λ e rest. found_passes p ys x rest
] refl h

-- of rows of which at most one passes, the one that another test finds is found first
the_copy : {T : Type 0} (p q r : T → Bool) (xs : List T) (x : T) → ((y : T) → q y ≡ true → r y ≡ true) → find p xs ≡ Some x → q x ≡ true → length (filter r xs) ≤ 1 → find q xs ≡ Some x
the_copy p q r [] x weaker h t short = absurd (none_some h)
the_copy p q r (y ∷ ys) x weaker h t short = elim (p y) as (λ b. cond b (Some y) (find p ys) ≡ Some x → find q (y ∷ ys) ≡ Some x) [
  | true ↦ λ here. ap (λ b. cond b (Some y) (find q ys)) (ap q (same_Some here) ∙ t) ∙ here
  | false ↦ λ rest. elim (q y) as (λ b. q y ≡ b → cond b (Some y) (find q ys) ≡ Some x) [
    | true ↦ λ yes. absurd (two (r y) (weaker y yes) short (some ys rest))
    | false ↦ λ no. the_copy p q r ys x weaker rest t (fewer (r y) short)
  ] refl
] h
  where
    some : (zs : List _) → find p zs ≡ Some x → 1 ≤ length (filter r zs)
    some [] e = absurd (none_some e)
    some (z ∷ zs) e = elim (p z) as (λ b. cond b (Some z) (find p zs) ≡ Some x → 1 ≤ length (filter r (z ∷ zs))) [
      | true ↦ λ here. subst (λ b. 1 ≤ length (cond b (z ∷ filter r zs) (filter r zs))) (sym (ap r (same_Some here) ∙ weaker x t)) (omega arith)
      | false ↦ λ rest. elim (r z) as (λ b. 1 ≤ length (cond b (z ∷ filter r zs) (filter r zs))) [ true ↦ omega arith | false ↦ some zs rest ]
    ] e

    two : (b : Bool) → b ≡ true → length (cond b (y ∷ filter r ys) (filter r ys)) ≤ 1 → 1 ≤ length (filter r ys) → ⊥
    two true e s l = absurd (omega (arith, s, l))
    two false e s l = absurd (true≢false (sym e))

    fewer : (b : Bool) → length (cond b (y ∷ filter r ys) (filter r ys)) ≤ 1 → length (filter r ys) ≤ 1
    fewer true s = omega (arith, s)
    fewer false s = s

-- where no two rows hold equal bytes, each that is kept is the one that holds its bytes
pub copies : (kept : KeptBlocks) (blocks : List BlockRow) → HasUnique bytes_eq (λ (b : BlockRow). b.bytes) blocks → Agrees kept blocks → AreCopies kept blocks
copies kept blocks once h e there =
    let row = agrees_at kept blocks h e there in
    let found = sym (row_found blocks e.0) ∙ row.1 in
    let named = (name_Decides (block_name row.0) e.0).0 (found_passes (is_block e.0) blocks row.0 found) in
    ap (option_map (λ (b : BlockRow). b.ord)) (the_copy (is_block e.0) (is_copy e.0.0 e.1) (λ (b : BlockRow). bytes_eq b.bytes e.1) blocks row.0 (λ b both. (and_parts _ _ both).1) found
    (both_true ((octets.decides row.0.digest e.0.0).1 (ap (λ (n : Name). n.0) named)) ((octets.decides row.0.bytes e.1).1 row.2)) (once e.1))
    ∙ ap (λ (n : Name). Some n.1) named

pub copies_grown : (kept : KeptBlocks) (blocks added : List BlockRow) → AreCopies kept blocks → AreCopies kept (blocks ++ added)
copies_grown kept blocks added h e there = ap (option_map (λ (b : BlockRow). b.ord)) (find-append (is_copy e.0.0 e.1) blocks added) ∙ first_some (copy_in e.0.0 e.1 blocks) (h e there)
  where
    first_some : (o : Option BlockRow) → option_map (λ (b : BlockRow). b.ord) o ≡ Some e.0.1 → option_map (λ (b : BlockRow). b.ord) (option_or o (find (is_copy e.0.0 e.1) added)) ≡ Some e.0.1
    first_some None is = absurd (none_some is)
    first_some (Some b) is = is
