-- The bytes of all blocks are those in their rows and those at their places: each place is that of one block, and no other place is.
use Rattle.std.proofs.Common.{arith, ◌≡◌, inl, inr, ℕ, ℤ, ◌+◌, ◌≤◌, ◌<◌, ◌^◌, pos, Bool, true, false, true≢false, ◌||◌, cond, List, [], ◌∷◌, filter, find, length, Option, Some, None, sum_by, refl, sym, ap, subst, ◌∙◌, codes}
use Rattle.std.specs.List.{list_any}
use Rattle.std.proofs.lemmas.Bool.{cases_Bool}
use Rattle.std.proofs.lemmas.List.Sums.{sum_by-cons}
use Rattle.sqlite.specs.Effect.{Database, IsDatabase}
use Rattle.sqlite.specs.State.{State, IsLive}
use Rattle.sqlite_schema.specs.Rules.{agree}
use Rattle.sqlite_schema.specs.declared.schema.Constraint.TheVariants.{Unique}
use Rattle.sqlite_sql.specs.declared.ops.CompareOp.TheVariants.{Eq}
use Rattle.sqlite_value.specs.Keys.{plain, first_key}
use Rattle.sqlite_rules.specs.Lists.{Has}
use Rattle.sqlite_rules.proofs.ListLemmas.{some_from}
use Rattle.sqlite_tied.specs.Compute.{everything}
use Rattle.sqlite_typed.proofs.TestLemmas.{at_blobs, at_ints, last_term, then_term}
use Rattle.bh_rows.specs.Form.{put, typed}
use Rattle.bh_rows.proofs.ObeyedLemmas.{one_passes}
use Rattle.bh_shelf.specs.Contents.{Contents}
use Rattle.bh_tables.specs.Schema.{host_schema, blocks_table, placed_table, at, auto}
use Rattle.bh_tables.specs.Bodies.{Name, first, same_name, block_name}
use Rattle.bh_tables.specs.Rows.{BlockRow, block_form, PlaceRow, place_form, PackRow}
use Rattle.bh_tables.specs.Packs.{place_name, place_at, is_place, places_in, packs_in}
use Rattle.bh_tables.specs.Shown.{is_block}
use Rattle.bh_tables.specs.Typed.{Totals, IsHostBy, tables_in}
use Rattle.bh_tables.proofs.OwnedLemmas.{block_unplaced}
use Rattle.bh_tables.proofs.TotalLemmas.{name_Decides, name_swap}
use Rattle.bh_base.specs.Layer.{standing, IsOpen, IsInside, IsStateClean}
use Rattle.bh_base.specs.Placed.{below, with_bytes, with_place, filled_blocks, filled}
use Rattle.bh_base.specs.Shown.{Backing, named, shown}
use Rattle.bh_base.proofs.Filling.{IsHad, AreHad}
use Rattle.bh_base.proofs.Placing.{below_has}
use Rattle.bh_base.proofs.Stored.{all_had, shown_blocks, stored_host}

-- ---- sums

sum_both : {X : Type 0} (f g : X → ℕ) (xs : List X) → sum_by (λ x. f x + g x) xs ≡ sum_by f xs + sum_by g xs
sum_both f g [] = refl
sum_both {X} f g (x ∷ xs) = let a = sum_by-cons (λ (y : X). f y + g y) x xs in let b = sum_by-cons f x xs in let c = sum_by-cons g x xs in let d = sum_both f g xs in omega (arith, a, b, c, d)

sum_nothing : {X : Type 0} (xs : List X) → sum_by (λ _. 0) xs ≡ 0
sum_nothing [] = refl
sum_nothing {X} (x ∷ xs) = let a = sum_by-cons (λ (_ : X). 0) x xs in let b = sum_nothing xs in omega (arith, a, b)

-- a number for each that passes
sum_passing : {X : Type 0} (m : X → Bool) (n : ℕ) (xs : List X) → sum_by (λ x. cond (m x) n 0) xs ≡ sum_by (λ _. n) (filter m xs)
sum_passing m n [] = refl
sum_passing {X} m n (x ∷ xs) = sum_by-cons (λ (y : X). cond (m y) n 0) x xs ∙ go (m x) (sum_passing m n xs)
  where
    go : (b : Bool) → sum_by (λ y. cond (m y) n 0) xs ≡ sum_by (λ _. n) (filter m xs) → cond b n 0 + sum_by (λ y. cond (m y) n 0) xs ≡ sum_by (λ _. n) (cond b (x ∷ filter m xs) (filter m xs))
    go true h = let a = sum_by-cons (λ (_ : X). n) x (filter m xs) in omega (arith, a, h)
    go false h = omega (arith, h)

one_size : {X : Type 0} (n : ℕ) (x : X) → sum_by (λ (_ : X). n) (x ∷ []) ≡ n
one_size {X} n x = let a = sum_by-cons (λ (_ : X). n) x [] in omega (arith, a)

-- ---- one that passes a test, or none

some_found : {X : Type 0} (m : X → Bool) (xs : List X) → list_any m xs ≡ true → (x : X) × (find m xs ≡ Some x)
some_found m [] some = absurd (true≢false (sym some))
some_found {X} m (x ∷ xs) some = go (m x) some (λ h. some_found m xs h)
  where
    go : (b : Bool) → (b || list_any m xs) ≡ true → (list_any m xs ≡ true → (y : X) × (find m xs ≡ Some y)) → (y : X) × (cond b (Some x) (find m xs) ≡ Some y)
    go true h rest = (x, refl)
    go false h rest = rest h

none_passes : {X : Type 0} (m : X → Bool) (xs : List X) → list_any m xs ≡ false → filter m xs ≡ []
none_passes m [] none = refl
none_passes {X} m (x ∷ xs) none = go (m x) none (λ h. none_passes m xs h)
  where
    go : (b : Bool) → (b || list_any m xs) ≡ false → (list_any m xs ≡ false → filter m xs ≡ []) → cond b (x ∷ filter m xs) (filter m xs) ≡ []
    go true h rest = absurd (true≢false h)
    go false h rest = rest h

at_most_one : {X : Type 0} (m : X → Bool) (xs : List X) → ((x : X) → find m xs ≡ Some x → filter m xs ≡ x ∷ []) → length (filter m xs) ≤ 1
at_most_one m xs one = elim (cases_Bool (list_any m xs)) [
  | inl some ↦ let it = some_found m xs some in let is = ap length (one it.0 it.1) in omega (arith, is)
  | inr none ↦ let is = ap length (none_passes m xs none) in omega (arith, is)
]

-- ---- the size of a block, by its place

abbrev size_of : Option PlaceRow → ℕ
size_of None = 0
size_of (Some p) = p.size

abbrev size_at : List PlaceRow → Name → ℕ
size_at places q = size_of (place_at places q)

module _ (rows : List PackRow) (packs : Contents) where
  shown_size : (o : Option PlaceRow) (b : BlockRow) → IsHad (below rows packs) o b → length (with_place (below rows packs) o b).bytes ≡ length b.bytes + size_of o
  shown_size None b had = omega arith
  shown_size (Some p) b had =
      let there = below_has rows packs p.pack p.offset p.size had.bytes had.there in
      let long = ap (λ o. length (with_bytes o b).bytes) had.there in
      let own = ap length had.own in
      let size = there.1 in
      omega (arith, long, own, size)

  shown_sizes : (places : List PlaceRow) (blocks : List BlockRow) → AreHad (below rows packs) places blocks
      → sum_by (λ (b : BlockRow). length b.bytes) (filled_blocks (below rows packs) places blocks) ≡ sum_by (λ (b : BlockRow). length b.bytes) blocks + sum_by (λ b. size_at places (block_name b)) blocks
  shown_sizes places [] had = refl
  shown_sizes places (b ∷ blocks) had =
      let a = sum_by-cons (λ (b : BlockRow). length b.bytes) (with_place (below rows packs) (place_at places (block_name b)) b) (filled_blocks (below rows packs) places blocks) in
      let c = sum_by-cons (λ (b : BlockRow). length b.bytes) b blocks in
      let d = sum_by-cons (λ b. size_at places (block_name b)) b blocks in
      let e = shown_size (place_at places (block_name b)) b (had b (inl refl)) in
      let f = shown_sizes places blocks (λ x has. had x (inr has)) in
      omega (arith, a, c, d, e, f)

-- ---- all sizes of places

module _ (blocks : List BlockRow) where
  -- each place is that of one block
  abbrev AreOwned : List PlaceRow → Type 0
  AreOwned ps = (p : PlaceRow) → Has ps p → (b : BlockRow) × (filter (is_block (place_name p)) blocks ≡ b ∷ [])

  -- and no block has two
  abbrev AreApart : List PlaceRow → Type 0
  AreApart ps = (q : Name) → length (filter (is_place q) ps) ≤ 1

  module _ (p : PlaceRow) (ps : List PlaceRow) (apart : AreApart (p ∷ ps)) where
    apart_more : AreApart ps
    apart_more q = go (is_place q p) (apart q)
      where
        go : (b : Bool) → length (cond b (p ∷ filter (is_place q) ps) (filter (is_place q) ps)) ≤ 1 → length (filter (is_place q) ps) ≤ 1
        go true h = omega (arith, h)
        go false h = h

    -- no other is that of its block
    none_else : filter (is_place (place_name p)) ps ≡ []
    none_else = go (filter (is_place (place_name p)) ps) (subst (λ b. length (cond b (p ∷ filter (is_place (place_name p)) ps) (filter (is_place (place_name p)) ps)) ≤ 1) ((name_Decides (place_name p) (place_name p)).1 refl) (apart (place_name p)))
      where
        go : (l : List PlaceRow) → length (p ∷ l) ≤ 1 → l ≡ []
        go [] h = refl
        go (x ∷ l) h = absurd (omega (arith, h))

    size_next : (b : BlockRow) → size_at (p ∷ ps) (block_name b) ≡ cond (is_block (place_name p) b) p.size 0 + size_at ps (block_name b)
    size_next b = go (same_name (place_name p) (block_name b)) refl ∙ ap (λ t. cond t p.size 0 + size_at ps (block_name b)) (name_swap (place_name p) (block_name b))
      where
        go : (t : Bool) → same_name (place_name p) (block_name b) ≡ t → size_of (first (cond t (p ∷ filter (is_place (block_name b)) ps) (filter (is_place (block_name b)) ps))) ≡ cond t p.size 0 + size_at ps (block_name b)
        go true is =
            let none : size_at ps (block_name b) ≡ 0 = ap (λ n. size_at ps n) (sym ((name_Decides (place_name p) (block_name b)).0 is)) ∙ ap (λ l. size_of (first l)) none_else in
            omega (arith, none)
        go false is = omega arith

  place_sizes : (ps : List PlaceRow) → AreOwned ps → AreApart ps → sum_by (λ b. size_at ps (block_name b)) blocks ≡ sum_by (λ (p : PlaceRow). p.size) ps
  place_sizes [] owned apart = sum_nothing blocks
  place_sizes (p ∷ ps) owned apart =
      let one = owned p (inl refl) in
      let its : sum_by (λ b. cond (is_block (place_name p) b) p.size 0) blocks ≡ p.size = sum_passing (is_block (place_name p)) p.size blocks ∙ ap (sum_by (λ _. p.size)) one.1 ∙ one_size p.size one.0 in
      let each : sum_by (λ b. size_at (p ∷ ps) (block_name b)) blocks ≡ sum_by (λ b. cond (is_block (place_name p) b) p.size 0 + size_at ps (block_name b)) blocks = ap (λ f. sum_by f blocks) (λ i b. size_next p ps apart b i) in
      let both = sum_both (λ b. cond (is_block (place_name p) b) p.size 0) (λ b. size_at ps (block_name b)) blocks in
      let rest = place_sizes ps (λ x has. owned x (inr has)) (apart_more p ps apart) in
      let more = sum_by-cons (λ (p : PlaceRow). p.size) p ps in
      each ∙ omega (arith, its, both, rest, more)

-- ---- of a host's database

block_same : (q : Name) (i j : ℤ) (x y : BlockRow) → is_block q x ≡ true → is_block q y ≡ true → agree plain (1 ∷ 2 ∷ []) (put block_form (i, x)) (1 ∷ 2 ∷ []) (put block_form (j, y)) ≡ true
unfolding first_key
block_same q i j x y one two = then_term (at_blobs false Eq x.digest y.digest) (last_term (at_ints false Eq (pos x.ord) (pos y.ord))) ∙ (name_Decides (block_name x) (block_name y)).1 ((name_Decides (block_name x) q).0 one ∙ sym ((name_Decides (block_name y) q).0 two))

place_same : (q : Name) (i j : ℤ) (x y : PlaceRow) → is_place q x ≡ true → is_place q y ≡ true → agree plain (1 ∷ 2 ∷ []) (put place_form (i, x)) (1 ∷ 2 ∷ []) (put place_form (j, y)) ≡ true
unfolding first_key
place_same q i j x y one two = then_term (at_blobs false Eq x.digest y.digest) (last_term (at_ints false Eq (pos x.ord) (pos y.ord))) ∙ (name_Decides (place_name x) (place_name y)).1 ((name_Decides (place_name x) q).0 one ∙ sym ((name_Decides (place_name y) q).0 two))

module _ (sums : Totals) (db : Database) (sound : IsDatabase (record { schema = host_schema; trees = db.trees })) (host : IsHostBy sums db) where
  abbrev its_blocks : List BlockRow
  its_blocks = typed block_form (db.trees 10)

  one_block : (q : Name) (b : BlockRow) → find (is_block q) its_blocks ≡ Some b → filter (is_block q) its_blocks ≡ b ∷ []
  unfolding everything
  one_block q = one_passes block_form host_schema (at 10 blocks_table) db.trees (sound.obeys.rules Unique) (inr (inr (inr (inr (inr (inl refl)))))) (auto (codes "sqlite_autoindex_blocks_1") 11 10 (1 ∷ 2 ∷ [])) (inr (inr (inr (inr (inr (inl refl)))))) refl host.held.blocks (is_block q) (block_same q)

  one_place : (q : Name) (p : PlaceRow) → find (is_place q) (places_in db.trees) ≡ Some p → filter (is_place q) (places_in db.trees) ≡ p ∷ []
  unfolding everything
  one_place q = one_passes place_form host_schema (at 34 placed_table) db.trees (sound.obeys.rules Unique) (inr (inr (inr (inr (inr (inr (inr (inr (inr (inr (inr (inr (inr (inr (inl refl))))))))))))))) (auto (codes "sqlite_autoindex_placed_1") 35 34 (1 ∷ 2 ∷ []))
      (inr (inr (inr (inr (inr (inr (inr (inr (inr (inr (inr (inr (inr (inr (inr (inr (inr (inr (inr (inr (inl refl))))))))))))))))))))) refl host.held.places (is_place q) (place_same q)

  owned : AreOwned its_blocks (places_in db.trees)
  owned p has =
      let q = place_name p in
      let placed : list_any (is_place q) (places_in db.trees) ≡ true = some_from (is_place q) (places_in db.trees) p has ((name_Decides q q).1 refl) in
      let some : list_any (is_block q) its_blocks ≡ true = elim (cases_Bool (list_any (is_block q) its_blocks)) [ inl some ↦ some | inr none ↦ absurd (true≢false (sym placed ∙ block_unplaced sums db sound host q none)) ] in
      let it = some_found (is_block q) its_blocks some in
      (it.0, one_block q it.0 it.1)

  place_sizes_are : sum_by (λ b. size_at (places_in db.trees) (block_name b)) its_blocks ≡ sum_by (λ (p : PlaceRow). p.size) (places_in db.trees)
  place_sizes_are = place_sizes its_blocks (places_in db.trees) owned (λ q. at_most_one (is_place q) (places_in db.trees) (one_place q))

-- the bytes of the blocks that are shown
pub sizes_shown : {sums : Totals} (packs : Contents) (db : Database) → IsDatabase (record { schema = host_schema; trees = db.trees }) → IsHostBy sums (filled packs db)
    → sum_by (λ (b : BlockRow). length b.bytes) (tables_in (filled packs db)).blocks ≡ sum_by (λ (b : BlockRow). length b.bytes) (typed block_form (db.trees 10)) + sum_by (λ (p : PlaceRow). p.size) (places_in db.trees)
sizes_shown {sums} packs db sound host =
    ap (sum_by (λ (b : BlockRow). length b.bytes)) (shown_blocks packs db.trees host.held.blocks)
    ∙ shown_sizes (packs_in db.trees) packs (places_in db.trees) (typed block_form (db.trees 10)) (all_had packs db.trees host.held.blocks)
    ∙ ap (λ n. sum_by (λ (b : BlockRow). length b.bytes) (typed block_form (db.trees 10)) + n) (place_sizes_are sums db sound (stored_host packs db host))

-- and those of a connection's blocks, in a transaction
pub size_told : (a : Backing) (s : State) → IsLive s → (IsStateClean (shown a s) → IsInside (standing (shown a s))) → IsStateClean (shown a s)
    → sum_by (λ (b : BlockRow). length b.bytes) (tables_in (standing (shown a s)).now).blocks ≡ sum_by (λ (b : BlockRow). length b.bytes) (typed block_form (s.now.trees 10)) + sum_by (λ (p : PlaceRow). p.size) (places_in s.now.trees)
unfolding standing IsOpen
size_told a s live inside clean =
    let host = (inside clean).host in
    sizes_shown (named a s.in_transaction) s.now (subst (λ d. IsDatabase (record { schema = d; trees = s.now.trees })) host.schema (live clean.is_open).0) host

-- neither part is larger than all of them
pub own_small : (all own placed : ℕ) → all ≡ own + placed → all < 2 ^ 63 → own < 2 ^ 63
own_small all own placed is small = omega (arith, is, small)

pub placed_small : (all own placed : ℕ) → all ≡ own + placed → all < 2 ^ 63 → placed < 2 ^ 63
placed_small all own placed is small = omega (arith, is, small)
