-- Packs whose rows go in a transaction of its own: what stands after it, and what a crash may leave.
use Rattle.std.proofs.Common.{◌≡◌, ◌⊎◌, inl, inr, ℕ, zero, suc, ◌+◌, ◌<◌, pos, true, List, [], ◌∷◌, length, map, ap₂, get_or, take, Option, Some, None, arith, refl, sym, ap, subst, ◌∙◌}
use Rattle.sqlite.specs.declared.types.Value.TheVariants.{Int}
use Rattle.sqlite.specs.Effect.{Database}
use Rattle.sqlite.specs.Order.{Row, column}
use Rattle.sqlite.specs.State.{State}
use Rattle.sqlite.specs.Tree.{Trees}
use Rattle.sqlite_catalog.proofs.ReadLemmas.{lists_once}
use Rattle.sqlite_catalog.specs.Listing.{Lists}
use Rattle.sqlite_rules.specs.Lists.{Has}
use Rattle.sqlite_trees.specs.Objects.{catalog_tree}
use Rattle.bh_rows.specs.Form.{typed}
use Rattle.bh_shelf.specs.Contents.{Contents}
use Rattle.bh_tables.specs.Bodies.{block_name}
use Rattle.bh_tables.specs.Packs.{place_at, places_in, packs_in}
use Rattle.bh_tables.specs.Rows.{BlockRow, block_form, PlaceRow, PackRow}
use Rattle.bh_tables.specs.Typed.{Totals, totals_of, IsHost, IsHostBy, Tables, tables_in}
use Rattle.bh_base.specs.Layer.{Standing, standing, IsIntact, IsOpen, IsStateClean, IsInside, IsInsideBy, IsMidst, HoldsBy, Leaves, begun, committed, taken_back, LeavesNothingNew, IsStandingSettled, IsReadableBy, StateWithin, Unwinds}
use Rattle.bh_base.specs.Placed.{below, with_bytes, with_place, filled_block, filled_trees, IsWhole}
use Rattle.bh_base.specs.Removal.{IsAtRest, RestsAgain, LeavesTables}
use Rattle.bh_base.specs.Shown.{Backing, named, shown}
use Rattle.bh_base.proofs.Blocks.{fills_at}
use Rattle.bh_base.proofs.Filling.{IsHad, name_kept}
use Rattle.bh_base.proofs.Lifting.{follows_then}
use Rattle.bh_base.proofs.Placing.{below_has}
use Rattle.bh_base.proofs.Refilling.{Fills, has_mapped}

-- ---- rows of a list

plus : (n : ℕ) → n + 1 ≡ suc n
plus n = omega arith

taken_one : {X : Type 0} (xs : List X) (i : ℕ) (x y : X) → i < length xs → x ≡ get_or xs i x → Has (take (suc i) xs) y → Has (take i xs) y ⊎ (y ≡ x)
taken_one [] i x y low here has = absurd (omega (arith, low))
taken_one (z ∷ zs) zero x y low here (inl is) = inr (is ∙ sym here)
taken_one (z ∷ zs) zero x y low here (inr has) = absurd has
taken_one (z ∷ zs) (suc i) x y low here (inl is) = inl (inl is)
taken_one (z ∷ zs) (suc i) x y low here (inr has) = elim (taken_one zs i x y (omega (arith, low)) here has) [ inl was ↦ inl (inr was) | inr same ↦ inr same ]

-- one of the first is one of those before, or the last of them
pub taken : {X : Type 0} (xs : List X) (i : ℕ) (x y : X) → i < length xs → x ≡ get_or xs i x → Has (take (i + 1) xs) y → Has (take i xs) y ⊎ (y ≡ x)
taken xs i x y low here has = taken_one xs i x y low here (subst (λ n. Has (take n xs) y) (plus i) has)

-- at the end they are all
pub all_taken : {X : Type 0} (xs : List X) (i : ℕ) → (i < length xs → ⊥) → (y : X) → Has xs y → Has (take i xs) y
all_taken [] i high y has = absurd has
all_taken (z ∷ zs) zero high y has = absurd (high (omega arith))
all_taken (z ∷ zs) (suc i) high y (inl is) = inl is
all_taken (z ∷ zs) (suc i) high y (inr has) = inr (all_taken zs i (λ low. high (omega (arith, low))) y has)

-- the number in a row
pub same_number : (r row : Row) (m n k : ℕ) → r ≡ row → column r 0 ≡ Int (pos m) → column row 0 ≡ Int (pos n) → k ≡ n → k ≡ m
same_number r row m n k same is read in_it =
    let e : Int (pos n) ≡ Int (pos m) = sym read ∙ sym (ap (λ (l : Row). column l 0) same) ∙ is in
    let f : n ≡ m = cc in in_it ∙ f

-- ---- calls

pub stays : (s : State) → (IsStateClean s → IsStandingSettled (standing s)) → StateWithin s s
stays s settled = record {
  follows = record { clean = λ c. c; intact = λ h. h; limit = refl };
  kept = λ c. refl;
  settled = settled;
  survives = λ up intact db h. h;
}

pub within_next : (a b c : State) → (IsIntact b → IsOpen a → IsOpen b) → StateWithin a b → StateWithin b c → StateWithin a c
within_next a b c opens one two = record {
  follows = follows_then a b c one.follows two.follows;
  kept = λ h. two.kept h ∙ one.kept (two.follows.clean h);
  settled = two.settled;
  survives = λ up intact db h. let was = two.follows.intact intact in one.survives up was db (two.survives (opens was up) intact db h);
}

pub midst_settled : (s : State) → (IsStateClean s → IsMidst (standing s)) → IsStateClean s → IsStandingSettled (standing s)
midst_settled s midst c = inl (midst c).by.inside

pub rest_settled : (s : State) → (IsStateClean s → IsAtRest (standing s)) → IsStateClean s → IsStandingSettled (standing s)
rest_settled s rest c = inr (rest c).settled

-- rows of places and of packs are shown as they are stored
pub rows_by : (a b : Backing) (s t : State) → (standing (shown b t)).now ≡ (standing (shown a s)).now → (places_in t.now.trees ≡ places_in s.now.trees) × (packs_in t.now.trees ≡ packs_in s.now.trees)
unfolding standing filled_trees
rows_by a b s t same = (ap (λ (db : Database). places_in db.trees) same, ap (λ (db : Database). packs_in db.trees) same)

-- ---- a transaction that leaves all that is shown as it was

-- it began at rest
pub begun_inside : (x y : Standing) → IsAtRest x → y ≡ begun x → IsInside y
begun_inside x y rest is = subst IsInside (sym is) (record { inside = refl; host = rest.host })

pub begun_midst : (x y : Standing) → IsAtRest x → y ≡ begun x → IsMidst y
begun_midst x y rest is = record { sums = totals_of (tables_in y.now); by = begun_inside x y rest is }

module _ (x b y : Standing) (rest : IsAtRest x) (is : b ≡ begun x) (turned : (sums : Totals) → IsInsideBy sums b → HoldsBy sums (tables_in b.now) y) where
  left_so : HoldsBy (totals_of (tables_in b.now)) (tables_in b.now) y
  left_so = turned (totals_of (tables_in b.now)) (begun_inside x b rest is)

  pub turned_inside : y.inside ≡ true
  turned_inside = left_so.within.inside

  pub turned_whole : IsWhole y.now
  turned_whole = left_so.within.host.held.blocks

  pub turned_same : tables_in y.now ≡ tables_in x.now
  turned_same = left_so.is ∙ ap (λ (z : Standing). tables_in z.now) is

  pub turned_host : IsHost y.now
  turned_host = subst (λ t. IsHostBy (totals_of t) y.now) (sym left_so.is) left_so.within.host

  -- and is committed
  pub rests_committed : (z : Standing) → z ≡ committed y → RestsAgain x z
  rests_committed z done = subst (RestsAgain x) (sym done) (record { rest = record { outside = refl; settled = refl; host = turned_host }; tables = turned_same })

-- or taken back
pub rests_back : (x y z : Standing) → IsAtRest x → y.kept ≡ x.kept → z ≡ taken_back y → RestsAgain x z
rests_back x y z rest kept back =
    let now : y.kept ≡ x.now = kept ∙ sym rest.settled in
    subst (RestsAgain x) (sym back) (record { rest = record { outside = refl; settled = refl; host = subst IsHost (sym now) rest.host }; tables = ap tables_in now })

pub kept_unwound : (x y : Standing) → Unwinds x y → y.kept ≡ x.kept
kept_unwound x y (inl same) = ap (λ (z : Standing). z.kept) same
kept_unwound x y (inr back) = ap (λ (z : Standing). z.kept) back

-- ---- what a crash may leave

same_database : (a b : Database) → Lists (a.trees catalog_tree) a.schema → Lists (b.trees catalog_tree) b.schema → a.trees ≡ b.trees → a ≡ b
same_database a b one two same =
    let lists : Lists (a.trees catalog_tree) b.schema = subst (λ (t : Trees). Lists (t catalog_tree) b.schema) (sym same) two in
    let schema : a.schema ≡ b.schema = lists_once (a.trees catalog_tree) a.schema b.schema one lists in
    λ i. record { schema = schema i; trees = same i }

-- a database that lists its schema, with the trees of a host's, is that
pub found_again : (tables : Tables) (now db : Database) → IsHost now → tables_in now ≡ tables → Lists (now.trees catalog_tree) now.schema → Lists (db.trees catalog_tree) db.schema → db.trees ≡ now.trees → IsHost db × (tables_in db ≡ tables)
found_again tables now db host is listed lists same = let it = same_database db now lists listed same in (subst IsHost (sym it) host, ap tables_in it ∙ is)

-- a call that leaves nothing new after it
pub left_after : (tables : Tables) (a b c : State) → (IsIntact c → IsIntact b) → LeavesTables tables a b → LeavesNothingNew b c → LeavesTables tables a c
left_after tables a b c was left less intact db h lists = left (was intact) db (less intact db.trees h) lists

pub left_none : (tables : Tables) (a b : State) → LeavesNothingNew a b → LeavesTables tables a b
left_none tables a b less intact db h lists = inl (less intact db.trees h)

pub nothing_then : (a b c : State) → (IsIntact c → IsIntact b) → LeavesNothingNew a b → LeavesNothingNew b c → LeavesNothingNew a c
nothing_then a b c was one two intact db h = one (was intact) db (two intact db h)

-- a connection with the same database is open too
pub opens_same : (a b : Backing) (s t : State) → t.is_open ≡ s.is_open → IsOpen (shown a s) → IsOpen (shown b t)
unfolding IsOpen
opens_same a b s t same up = same ∙ up

-- as many rows are shown as there are
pub as_many : {X : Type 0} (f : X → Row) (xs : List X) (rows : List Row) → rows ≡ map f xs → length rows ≡ length xs
as_many f xs rows is = ap length is ∙ go xs
  where
    go : (xs : List _) → length (map f xs) ≡ length xs
    go [] = refl
    go (x ∷ xs) = ap suc (go xs)

-- ---- begun, turned, committed

module _ (a b m : State) (rest : IsStateClean a → IsAtRest (standing a)) (opened : IsIntact b → IsOpen a × IsOpen b) (began : IsIntact b → standing b ≡ begun (standing a)) (was : IsIntact b → IsIntact a)
    (within : StateWithin b m) (stay : IsIntact m → IsOpen b → IsOpen m) (turned : IsStateClean m → (sums : Totals) → IsInsideBy sums (standing b) → HoldsBy sums (tables_in (standing b).now) (standing m)) where
  pub clean_mid : IsIntact m → IsStateClean m
  clean_mid h = record { intact = h; is_open = stay h (opened (within.follows.intact h)).1 }

  rest_old : IsIntact m → IsAtRest (standing a)
  rest_old h = let i = within.follows.intact h in rest (record { intact = was i; is_open = (opened i).0 })

  pub committed_rests : (z : Standing) → IsIntact m → z ≡ committed (standing m) → RestsAgain (standing a) z
  committed_rests z h is = rests_committed (standing a) (standing b) (standing m) (rest_old h) (began (within.follows.intact h)) (turned (clean_mid h)) z is

  pub left_committed : (n : State) → (IsIntact n → IsIntact m) → LeavesNothingNew a b
      → (IsIntact n → (standing m).inside ≡ true → IsWhole (standing m).now → (db : Trees) → Leaves n db → Leaves m db ⊎ (db ≡ (standing m).now.trees))
      → (IsOpen m → Lists ((standing m).now.trees catalog_tree) (standing m).now.schema) → LeavesTables (tables_in (standing a).now) a n
  left_committed n now less survives lists intact db h listed =
      let mid = now intact in
      let clean = clean_mid mid in
      let i = within.follows.intact mid in
      let r = rest_old mid in
      let inside = turned_inside (standing a) (standing b) (standing m) r (began i) (turned clean) in
      let whole = turned_whole (standing a) (standing b) (standing m) r (began i) (turned clean) in
      elim (survives intact inside whole db.trees h) [
        | inl before ↦ inl (less i db.trees (within.survives (opened i).1 mid db.trees before))
        | inr same ↦
            let found = found_again (tables_in (standing a).now) (standing m).now db
            (turned_host (standing a) (standing b) (standing m) r (began i) (turned clean))
            (turned_same (standing a) (standing b) (standing m) r (began i) (turned clean)) (lists clean.is_open) listed same in
            inr ((opened i).0, found.0, found.1)
      ]

-- ---- the bytes at the places of blocks

mapped_from : {X Y : Type 0} (f : X → Y) (xs : List X) (y : Y) → Has (map f xs) y → (x : X) × Has xs x × (y ≡ f x)
mapped_from f [] y has = absurd has
mapped_from f (x ∷ xs) y (inl is) = (x, inl refl, is)
mapped_from f (x ∷ xs) y (inr has) = let it = mapped_from f xs y has in (it.0, inr it.1, it.2)

-- what packs have at a block's place are the bytes that are shown of it
had_place : (c : Contents) (ps : List PlaceRow) (b : BlockRow) (p : PlaceRow) → place_at ps (block_name b) ≡ Some p → IsHad c (place_at ps (block_name b)) b → c p.pack p.offset p.size ≡ Some (filled_block c ps b).bytes
had_place c ps b p = go (place_at ps (block_name b))
  where
    go : (o : Option PlaceRow) → o ≡ Some p → IsHad c o b → c p.pack p.offset p.size ≡ Some (with_place c o b).bytes
    go None is had = absurd (cc)
    go (Some q) is had = let same : q ≡ p = cc in subst (λ r. c r.pack r.offset r.size ≡ Some (with_place c (Some q) b).bytes) same (had.there ∙ ap (λ (y : BlockRow). Some y.bytes) (sym (ap (λ o. with_bytes o b) had.there)))

-- a block that is shown as another from the same places: packs have the same bytes at its place
same_there : (n m : Contents) (ks ls : List PackRow) (ps qs : List PlaceRow) (b x : BlockRow) (p : PlaceRow) → qs ≡ ps → IsHad (below ks n) (place_at ps (block_name b)) b → IsHad (below ls m) (place_at qs (block_name x)) x
    → filled_block (below ks n) ps b ≡ filled_block (below ls m) qs x → place_at ps (block_name b) ≡ Some p → m p.pack p.offset p.size ≡ n p.pack p.offset p.size
same_there n m ks ls ps qs b x p placed had other same at =
    let named : block_name x ≡ block_name b = sym (name_kept (below ls m) (place_at qs (block_name x)) x) ∙ ap block_name (sym same) ∙ name_kept (below ks n) (place_at ps (block_name b)) b in
    let one = had_place (below ks n) ps b p at had in
    let two = had_place (below ls m) qs x p (ap₂ place_at placed named ∙ at) other in
    (below_has ls m p.pack p.offset p.size (filled_block (below ls m) qs x).bytes two).0 ∙ ap (λ (y : BlockRow). Some y.bytes) (sym same) ∙ sym (below_has ks n p.pack p.offset p.size (filled_block (below ks n) ps b).bytes one).0

-- so it is where the same blocks are shown from the same places
bytes_kept : {n m : Contents} {ks ls : List PackRow} {ps qs : List PlaceRow} {bs cs shown again : List BlockRow} → Fills n ks ps bs shown → Fills m ls qs cs again → qs ≡ ps → again ≡ shown
    → (b : BlockRow) → Has bs b → (p : PlaceRow) → place_at ps (block_name b) ≡ Some p → m p.pack p.offset p.size ≡ n p.pack p.offset p.size
bytes_kept {n} {m} {ks} {ls} {ps} {qs} {bs} {cs} one two placed equal b has p at =
    let it = mapped_from (filled_block (below ls m) qs) cs (filled_block (below ks n) ps b) (subst (λ l. Has l (filled_block (below ks n) ps b)) (one.is ∙ sym equal ∙ sym two.is) (has_mapped (filled_block (below ks n) ps) bs b has)) in
    same_there n m ks ls ps qs b it.0 p placed (one.had b has) (two.had it.0 it.1) it.2 at

rest_read : (x : Standing) → IsAtRest x → IsReadableBy x
rest_read x rest = record { settled = inr rest.settled; sums = totals_of (tables_in x.now); host = rest.host }

pub bytes_rest : (a b : Backing) (s t : State) → IsAtRest (standing (shown a s)) → RestsAgain (standing (shown a s)) (standing (shown b t)) → places_in t.now.trees ≡ places_in s.now.trees
    → (x : BlockRow) → Has (typed block_form (s.now.trees 10)) x → (p : PlaceRow) → place_at (places_in s.now.trees) (block_name x) ≡ Some p → named b t.in_transaction p.pack p.offset p.size ≡ named a s.in_transaction p.pack p.offset p.size
bytes_rest a b s t rest again placed = bytes_kept (fills_at a s (rest_read (standing (shown a s)) rest)) (fills_at b t (rest_read (standing (shown b t)) again.rest)) placed (ap (λ (x : Tables). x.blocks) again.tables)
