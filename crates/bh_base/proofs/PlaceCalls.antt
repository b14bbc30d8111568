-- Calls over places and packs.
use Rattle.std.proofs.Common.{◌≡◌, ◌≢◌, inl, inr, ℕ, Bool, true, false, true≢false, ◌||◌, not, cond, List, [], ◌∷◌, ◌++◌, map, slice_get, length, filter, ap₂, Option, Some, None, Ok, Err, Result, OnOk, IfErr, refl, sym, ap, ◌∙◌, subst}
use Rattle.std.specs.List.{list_any}
use Rattle.std.proofs.lemmas.Result.{on_ok_weaker}
use Rattle.sqlite.specs.Held.{Held, state}
use Rattle.sqlite.specs.Order.{Row}
use Rattle.sqlite.specs.State.{State, HasCleanDisk, IsLive, Survives, Executes, CommitsBy}
use Rattle.sqlite.specs.declared.error.Error.{Error}
use Rattle.sqlite_keyed.specs.Lists.{update_where, delete_where}
use Rattle.sqlite_rules.specs.Lists.{Has}
use Rattle.sqlite_rules.proofs.ListLemmas.{has_filtered, has_either, some_from}
use Rattle.sqlite_trees.specs.declared.store.Store.{Ghosts}
use Rattle.bh_rows.specs.Means.{is_trouble, Changes}
use Rattle.bh_rows.specs.Texts.{InsertText}
use Rattle.bh_packs.specs.declared.place.Place.{Place}
use Rattle.bh_shelf.specs.declared.shelf.Shelf.{Ghosts as Shelves}
use Rattle.bh_tables.specs.Schema.{Octets, host_schema, placed_table, at}
use Rattle.bh_shelf.specs.Contents.{Contents}
use Rattle.bh_tables.specs.Rows.{BlockRow, PlaceRow, place_form}
use Rattle.bh_tables.specs.Shown.{Name, is_block}
use Rattle.bh_tables.specs.Bodies.{first, same_name, block_name}
use Rattle.bh_tables.specs.Typed.{Totals, Tables, tables_in, rebodied}
use Rattle.bh_tables.proofs.ResolvedLemmas.{rebodied_twice, own_bodies}
use Rattle.bh_tables.proofs.TotalLemmas.{name_Decides}
use Rattle.bh_base.specs.declared.connection.Connection.{Connection}
use Rattle.bh_base.specs.Connections.{backing, IsClean, InMidst, Rewrites, HasAt, packs, places, contents}
use Rattle.bh_base.specs.Layer.{Standing, standing, IsIntact, IsMidst, IsStateClean, IsInsideBy, HoldsBy, StateWithin}
use Rattle.bh_base.specs.Shown.{Backing, shown}
use Rattle.bh_base.proofs.Beneath as beneath
use Rattle.bh_base.proofs.Beneath.{IsFree}
use Rattle.bh_base.proofs.Blocks.{HasPlaces, place_comes_in, places_after}
use Rattle.bh_base.proofs.Calls as call
use Rattle.bh_tables.proofs.Places.{places_is}
use Rattle.bh_base.proofs.Placing.{below_is}
use Rattle.bh_base.specs.Calls.{WritesOn}
use Rattle.bh_base.specs.Places.{row_of_place, IsPlaceOf, IsFound, ChangesBlock, MayPlace, SetsPlaces}

-- what is there
pub some_of : {X : Type 0} (o : Option X) → o ≢ None → (x : X) × (o ≡ Some x)
some_of None some = absurd (some refl)
some_of (Some x) some = (x, refl)

-- the first of the rows that are shown
pub first_none : {X : Type 0} (f : X → Row) (xs : List X) (items : List Row) → items ≡ map f xs → None ≡ slice_get items 0 → first xs ≡ None
first_none f [] items is none = refl
first_none f (x ∷ xs) items is none = absurd (let e = none ∙ ap (λ (l : List Row). slice_get l 0) is in cc)

pub first_some : {X : Type 0} (f : X → Row) (xs : List X) (items : List Row) (row : Row) → items ≡ map f xs → Some row ≡ slice_get items 0 → (x : X) × (first xs ≡ Some x) × (row ≡ f x)
first_some f [] items row is some = absurd (let e = some ∙ ap (λ (l : List Row). slice_get l 0) is in cc)
first_some f (x ∷ xs) items row is some = (x, refl, (let e = some ∙ ap (λ (l : List Row). slice_get l 0) is in cc))

-- ---- what a block is once its place came, and once it is gone

set_last : {X : Type 0} (m : X → Bool) (f : X → X) (xs : List X) (y : X) → list_any m xs ≡ false → m y ≡ true → update_where m f (xs ++ y ∷ []) ≡ xs ++ f y ∷ []
set_last m f [] y none on = ap (λ b. cond b (f y) y ∷ []) on
set_last {X} m f (x ∷ xs) y none on = go (m x) refl none (λ h. set_last m f xs y h on)
  where
    go : (b : Bool) → m x ≡ b → (b || list_any m xs) ≡ false → (list_any m xs ≡ false → update_where m f (xs ++ y ∷ []) ≡ xs ++ f y ∷ []) → cond (m x) (f x) x ∷ update_where m f (xs ++ y ∷ []) ≡ x ∷ (xs ++ f y ∷ [])
    go true is h rest = absurd (true≢false h)
    go false is h rest = ap₂ ◌∷◌ (ap (λ b. cond b (f x) x) is) (rest h)

pub placed_law : (t : Tables) (q : Name) (bytes : Octets) → list_any (is_block q) t.blocks ≡ false
    → rebodied (rebodied t t.refs (t.blocks ++ record { digest = q.0; ord = q.1; bytes = [] } ∷ [])) t.refs (update_where (is_block q) (λ b. record b { bytes = bytes }) (t.blocks ++ record { digest = q.0; ord = q.1; bytes = [] } ∷ []))
    ≡ rebodied t t.refs (t.blocks ++ record { digest = q.0; ord = q.1; bytes = bytes } ∷ [])
placed_law t q bytes free = rebodied_twice t t.refs t.refs _ _ ∙ ap (rebodied t t.refs) (set_last (is_block q) (λ b. record b { bytes = bytes }) t.blocks (record { digest = q.0; ord = q.1; bytes = [] }) free ((name_Decides q q).1 refl))

deleted_set : {X : Type 0} (m : X → Bool) (f : X → X) (xs : List X) → ((x : X) → m (f x) ≡ m x) → delete_where m (update_where m f xs) ≡ delete_where m xs
deleted_set m f [] keeps = refl
deleted_set {X} m f (x ∷ xs) keeps = go (m x) refl (deleted_set m f xs keeps)
  where
    go : (b : Bool) → m x ≡ b → delete_where m (update_where m f xs) ≡ delete_where m xs → delete_where m (cond (m x) (f x) x ∷ update_where m f xs) ≡ cond (not (m x)) (x ∷ delete_where m xs) (delete_where m xs)
    go true is rest = ap (λ b. cond (not b) (cond (m x) (f x) x ∷ delete_where m (update_where m f xs)) (delete_where m (update_where m f xs))) (ap (λ b. m (cond b (f x) x)) is ∙ keeps x ∙ is) ∙ rest ∙ sym (ap (λ b. cond (not b) (x ∷ delete_where m xs) (delete_where m xs)) is)
    go false is rest = ap (λ b. delete_where m (cond b (f x) x ∷ update_where m f xs)) is ∙ ap (λ l. cond (not (m x)) (x ∷ l) l) rest

-- a block of a new name that has no bytes
pub empty_new : (bs : List BlockRow) (q : Name) (b0 : BlockRow) → list_any (is_block q) bs ≡ false → b0.bytes ≡ [] → (b : BlockRow) → Has (bs ++ b0 ∷ []) b → is_block q b ≡ true → b.bytes ≡ []
empty_new bs q b0 free none b has its = elim (has_either bs (b0 ∷ []) b has) [
  | inl was ↦ absurd (true≢false (sym (some_from (is_block q) bs b was its) ∙ free))
  | inr new ↦ elim new [ inl is ↦ ap (λ (x : BlockRow). x.bytes) is ∙ none | inr more ↦ absurd more ]
]

-- nothing is changed
pub set_none : (m : BlockRow → Bool) (bs : List BlockRow) → update_where m (λ b. b) bs ≡ bs
set_none m [] = refl
set_none m (b ∷ bs) = ap₂ ◌∷◌ (elim (m b) as (λ t. cond t b b ≡ b) [ true ↦ refl | false ↦ refl ]) (set_none m bs)

pub changes_none : (q : Name) (old new : Standing) → new ≡ old → ChangesBlock q old new
changes_none q old new same = record {
  change = λ b. b;
  named = λ b. refl;
  holds = λ sums by. subst (λ (x : Standing). HoldsBy sums (rebodied (tables_in old.now) (tables_in old.now).refs (update_where (is_block q) (λ b. b) (tables_in old.now).blocks)) x) (sym same)
      (record { within = by; is = sym (ap (rebodied (tables_in old.now) (tables_in old.now).refs) (set_none (is_block q) (tables_in old.now).blocks) ∙ own_bodies old.now) });
}

-- its bytes go
pub emptied_block : (q : Name) (a b d : State) → standing b ≡ standing a
    → ((sums : Totals) → IsInsideBy sums (standing b) → HoldsBy sums (rebodied (tables_in (standing b).now) (tables_in (standing b).now).refs (update_where (is_block q) (λ x. record x { bytes = [] }) (tables_in (standing b).now).blocks)) (standing d))
    → ChangesBlock q (standing a) (standing d)
emptied_block q a b d same turned = subst (λ (x : Standing). ChangesBlock q x (standing d)) same (record { change = λ x. record x { bytes = [] }; named = λ x. refl; holds = turned })

-- its bytes go, and it too
pub deleted_law : (t : Tables) (q : Name) (change : BlockRow → BlockRow) → ((b : BlockRow) → block_name (change b) ≡ block_name b)
    → rebodied (rebodied t t.refs (update_where (is_block q) change t.blocks)) t.refs (delete_where (is_block q) (update_where (is_block q) change t.blocks)) ≡ rebodied t t.refs (delete_where (is_block q) t.blocks)
deleted_law t q change named = rebodied_twice t t.refs t.refs _ _ ∙ ap (rebodied t t.refs) (deleted_set (is_block q) change t.blocks (λ b. ap (λ n. same_name n q) (named b)))

-- ---- what was found

pub found_here : (o : Option PlaceRow) (p : PlaceRow) (place : Place) → o ≡ Some p → IsPlaceOf p place → IsFound o (Some place)
found_here o p place is its = subst (λ x. IsFound x (Some place)) (sym is) its

pub found_some : (o : Option PlaceRow) (place : Place) → IsFound o (Some place) → (p : PlaceRow) × (o ≡ Some p) × IsPlaceOf p place
found_some None place found = absurd found
found_some (Some p) place found = (p, refl, found)

pub found_none : (o : Option PlaceRow) → IsFound o None → o ≡ None
found_none None found = refl
found_none (Some p) found = absurd found

pub is_some : (o : Option PlaceRow) (place : Place) → IsFound o (Some place) → o ≢ None
is_some None place found = absurd found
is_some (Some p) place found = λ none. absurd (cc)

-- the bytes at a place are those at its row's
pub at_place : (n : Contents) (p : PlaceRow) (place : Place) → IsPlaceOf p place → n place.pack place.offset place.size ≡ n p.pack p.offset p.size
at_place n p place is = λ i. n (is.pack i) (is.offset i) (is.size i)

-- ---- a question first

-- what a write makes of the sums over other rows, and of the tables
abbrev pub Turned : State → State → (Totals → Totals) → (Tables → Tables) → Type 0
Turned a d f p = IsStateClean d → (sums : Totals) → IsInsideBy sums (standing a) → HoldsBy (f sums) (p (tables_in (standing a).now)) (standing d)

pub then_turned : (a b d : State) (f g : Totals → Totals) (p q : Tables → Tables) → (IsStateClean d → IsStateClean b) → Turned a b f p → Turned b d g q → Turned a d (λ s. g (f s)) (λ t. q (p t))
then_turned a b d f g p q was one two clean sums by =
    let first = one (was clean) sums by in
    let second = two clean (f sums) first.within in
    record { within = second.within; is = second.is ∙ ap q first.is }

-- what a write does after a question that changed nothing
pub asked_first : (f : Totals → Totals) (p : Tables → Tables) (a b d : State) → (IsStateClean d → standing b ≡ standing a) → Turned b d f p → Turned a d f p
asked_first f p a b d same turned clean sums by =
    subst (λ (x : Standing). HoldsBy (f sums) (p (tables_in x.now)) (standing d)) (same clean) (turned clean sums (subst (IsInsideBy sums) (sym (same clean)) by))

-- it is in the midst of a write still
pub still_midst : (old mid : State) → StateWithin old mid → (IsIntact mid → standing mid ≡ standing old) → (IsStateClean old → IsMidst (standing old)) → IsStateClean mid → IsMidst (standing mid)
still_midst old mid within same midst clean = subst IsMidst (sym (same clean.intact)) (midst (within.follows.clean clean))

-- the same after a call that shows what was shown while it is clean
pub same_midst : (old mid : State) → StateWithin old mid → (IsStateClean mid → standing mid ≡ standing old) → (IsStateClean old → IsMidst (standing old)) → IsStateClean mid → IsMidst (standing mid)
same_midst old mid within same midst clean = subst IsMidst (sym (same clean)) (midst (within.follows.clean clean))

-- what passed a test passes it
pub has_passed : {X : Type 0} (m : X → Bool) (xs : List X) (x : X) → Has (filter m xs) x → m x ≡ true
has_passed m xs x has = (has_filtered m xs x has).1

-- what is known where it ends well, of what was known before
late : (A C D : Type 0) (r : Result ℕ Error) → (D → C) → (C → OnOk r (D → A)) → OnOk r (D → A)
late A C D (Ok n) was h = λ d. h (was d) d
late A C D (Err e) was h = tt

all_ok : (X : Type 0) (P Q : X → Type 0) (r : Result ℕ Error) → ((x : X) → P x → OnOk r (Q x)) → OnOk r ((x : X) → P x → Q x)
all_ok X P Q (Ok n) h = h
all_ok X P Q (Err e) h = tt

-- under no premise
pub unpremised : (old new : State) (r : Result ℕ Error) → IfErr r (λ e. IsIntact new → (standing old).limit ≡ None → Unit {0} → is_trouble e ≡ true)
    → IfErr r (λ e. IsIntact new → (standing old).limit ≡ None → is_trouble e ≡ true)
unpremised old new (Ok n) h = tt
unpremised old new (Err e) h = λ intact unlimited. h intact unlimited tt

module _ {S P : Type 0} (g : Ghosts S) (k : Shelves P) (was : Connection S P) (db : Held S) (place : Place) (q : Name) (midst : InMidst g k was) (may : IsClean g k was → MayPlace g k was q place) (result : Result ℕ Error) where
  abbrev is : Connection S P
  is = record was { database = db }

  abbrev old : State
  old = state g was.database

  abbrev new : State
  new = state g db

  abbrev a : Backing
  a = backing k was.packs

  -- what a place that comes leaves
  pub record PlaceTurns : Type 0 where
    pub writes : WritesOn g k was is result
    pub rewrites : OnOk result ((bytes : Octets) → HasAt g k was place bytes → Rewrites g k was is (λ sums. sums) (λ rows. rebodied rows rows.refs (update_where (is_block q) (λ b. record b { bytes = bytes }) rows.blocks)))
    pub placed : OnOk result (IsClean g k is → SetsPlaces g k was is (places g k was ++ row_of_place q place ∷ []))

  module _ (live : IsLive (state g was.database)) {sql : List ℕ} {params : Row} (runs : HasCleanDisk (state g db) → Executes sql params (state g was.database) (state g db) result) (survives : Survives (state g was.database) (state g db) (CommitsBy sql params (state g was.database))) where
    pub place_turns : InsertText place_form host_schema 14 (at 34 placed_table) sql params (row_of_place q place) → PlaceTurns
    place_turns text = record {
      writes = record { within = within; opens = call.changes_opens (shown a old) (shown a new) inside result changes; midst = late (IsMidst (standing (shown a new))) (IsStateClean (shown a old)) (IsStateClean (shown a new)) result within.follows.clean (λ c. (w (may c).bytes (may c).there).turn.midst) };
      rewrites = all_ok Octets (HasAt g k was place) (λ bytes. Rewrites g k was is (λ sums. sums) (λ rows. rebodied rows rows.refs (update_where (is_block q) (λ b. record b { bytes = bytes }) rows.blocks))) result (λ bytes has. (w bytes has).turn.rewrites);
      placed = late (SetsPlaces g k was is (places g k was ++ row_of_place q place ∷ [])) (IsStateClean (shown a old)) (IsStateClean (shown a new)) result within.follows.clean (λ c. on_ok_weaker result (λ after clean. let it = after clean in record { places = it.places; packs = it.rows; contents = it.named })
          (places_after a old new midst result (w (may c).bytes (may c).there)));
    }
      where
        inside : IsStateClean (shown a old) → (standing (shown a old)).inside ≡ true
        inside c = (midst c).by.inside

        changes : Changes (shown a old) (shown a new) result
        changes = beneath.adds_changes place_form 14 (at 34 placed_table) places_is (λ sums db h. h.held.places) a old new midst result live (λ sums. sums) (λ t. t) runs survives text

        within : StateWithin (shown a old) (shown a new)
        within = call.changes_within (shown a old) (shown a new) inside result changes

        same_bytes : (bytes : Octets) → HasAt g k was place bytes → (m : MayPlace g k was q place) → place.size ≡ length bytes
        same_bytes bytes has m = let two = m.there in let same : m.bytes ≡ bytes = cc in m.size ∙ ap length same

        w : (bytes : Octets) → HasAt g k was place bytes → HasPlaces a old new midst result (IsFree place_form 14 (at 34 placed_table) places_is (λ sums db h. h.held.places) a old new midst (row_of_place q place))
            (places g k was ++ row_of_place q place ∷ []) (λ t. rebodied t t.refs (update_where (is_block q) (λ b. record b { bytes = bytes }) t.blocks))
        w bytes has = place_comes_in a old new midst result live runs survives bytes text
            (λ c. below_is (packs g k was) (contents g k was) place.pack place.offset place.size bytes (may c).reached has (same_bytes bytes has (may c))) (λ c. (may c).empty)
