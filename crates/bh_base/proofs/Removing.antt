-- Packs that no place names: the text that finds them, and what is shown when the row of one goes, and then its file.
use Rattle.std.proofs.Common.{◌≡◌, ◌≢◌, inl, inr, ℕ, ◌+◌, ℤ, pos, Bool, true, false, true≢false, not, codes, IsTrue, List, [], ◌∷◌, map, filter, Result, OnOk, refl, sym, ap, subst, ◌∙◌}
use Rattle.std.specs.List.{list_any}
use Rattle.std.specs.Ordering.{int_eq}
use Rattle.std.proofs.lemmas.Bool.{and_parts}
use Rattle.std.proofs.lemmas.Result.{on_ok_weaker}
use Rattle.sqlite.specs.Collation.TheVariants.{Binary}
use Rattle.sqlite.specs.declared.error.Error.{Error}
use Rattle.sqlite.specs.declared.types.Value.TheVariants.{Int}
use Rattle.sqlite.specs.Effect.{Database, IsDatabase}
use Rattle.sqlite.specs.Held.{Held, state}
use Rattle.sqlite.specs.Listing.{understood}
use Rattle.sqlite.specs.Order.{Row}
use Rattle.sqlite.specs.State.{State, HasCleanDisk, IsLive, Survives, Executes, CommitsBy}
use Rattle.sqlite.specs.Term.{lit, col, op2}
use Rattle.sqlite.specs.Tree.{Trees}
use Rattle.sqlite_keyed.proofs.KeyedLemmas.{same_int}
use Rattle.sqlite_keyed.specs.Lists.{delete_where}
use Rattle.sqlite_rules.specs.Lists.{Has}
use Rattle.sqlite_rules.proofs.ListLemmas.{has_filtered, has_kept, some_has, some_from}
use Rattle.sqlite_sql.specs.declared.ops.BinaryOp.TheVariants.{Compare}
use Rattle.sqlite_sql.specs.declared.ops.CompareOp.TheVariants.{Eq}
use Rattle.sqlite_tied.specs.Compute.{everything}
use Rattle.sqlite_trees.specs.declared.store.Store.{Ghosts}
use Rattle.sqlite_typed.proofs.TestLemmas.{at_ints, last_term}
use Rattle.sqlite_value.specs.Keys.{plain, first_key}
use Rattle.bh_rows.proofs.DeleteErrors.{none_points, none_named}
use Rattle.bh_rows.proofs.ObeyedLemmas.{has_parents}
use Rattle.bh_rows.specs.Form.{AreRows, Entry, put, entries, typed}
use Rattle.bh_rows.specs.Keys.{AreUnused, Pointer, points_at}
use Rattle.bh_rows.specs.Scan.{no_limit}
use Rattle.bh_rows.specs.Texts.{Leaves as Becomes, DeleteText, SelectText}
use Rattle.bh_shelf.specs.Contents.{Contents, AreSameBut}
use Rattle.bh_tables.specs.Packs.{places_in, packs_in, is_in_pack, is_pack, reaches, is_reached}
use Rattle.bh_tables.specs.Rows.{BlockRow, PlaceRow, place_form, PackRow, pack_form}
use Rattle.bh_tables.specs.Schema.{host_schema, packs_table, placed_table, at, refers}
use Rattle.bh_tables.proofs.Places.{packs_is}
use Rattle.bh_base.specs.Layer.{Standing, standing, IsOpen, IsStateClean, IsMidst, Leaves, IsStandingSettled, StateWithin}
use Rattle.bh_base.specs.Placed.{filled}
use Rattle.bh_base.specs.Removal.{is_idle, shown_number}
use Rattle.bh_base.specs.Shown.{Backing, named, shown}
use Rattle.bh_base.proofs.Beneath as beneath
use Rattle.bh_base.proofs.Blocks.{HasPacks}
use Rattle.bh_base.proofs.Lifting.{shown_intact, intact_shown, shown_clean, clean_shown, shown_follows, shown_without, shown_gone}
use Rattle.bh_base.proofs.Placing.{below_has, below_is}
use Rattle.bh_base.proofs.Refilling.{Fills, same_places, was_filled, packs_turned, packs_left}
use Rattle.bh_base.proofs.Stored.{stored_host}

-- ---- the text

pub packs_idle : SelectText pack_form host_schema 32 (codes "SELECT pack FROM packs WHERE live = 0 ORDER BY rowid") [] is_idle shown_number no_limit
unfolding understood everything
packs_idle = record {
  test = op2 (Compare Eq Binary) (col 1 3) (lit (Int (pos 0))) ∷ [];
  show = col 1 1 ∷ [];
  names = codes "pack" ∷ [];
  means = record { is = refl; plain = (refl, refl); unlisted = refl; whole = refl; given = refl };
  low = refl;
  accepts = refl;
  tests = λ id p. last_term (at_ints false Eq (pos p.live) (pos 0));
  shows = λ id p. refl;
}

-- ---- no place names a pack

abbrev pub NoneIn : ℕ → Trees → Type 0
NoneIn pack db = (p : PlaceRow) → Has (places_in db) p → p.pack ≢ pack

-- each place is in a pack that has a row
parented : (db : Trees) → IsDatabase (record { schema = host_schema; trees = db }) → AreRows pack_form (db 32) → AreRows place_form (db 34) → (p : PlaceRow) → Has (places_in db) p → list_any (is_pack p.pack) (packs_in db) ≡ true
unfolding everything first_key
parented db sound packs places = has_parents pack_form place_form host_schema db sound (at 34 placed_table) (inr (inr (inr (inr (inr (inr (inr (inr (inr (inr (inr (inr (inr (inr (inl refl))))))))))))))) (refers (3 ∷ []) (codes "packs")) (inr (inl refl)) (32, 1 ∷ [], plain) refl (λ id p. refl)
    (λ p k. is_pack p.pack k) (λ i p j k. last_term (at_ints false Eq (pos k.pack) (pos p.pack))) packs places

-- a pack that is left is another than that which went
is_other : (pack : ℕ) (ks : List PackRow) (n : ℕ) → list_any (is_pack n) (delete_where (is_pack pack) ks) ≡ true → n ≢ pack
is_other pack ks n some is =
    let it = some_has (is_pack n) (delete_where (is_pack pack) ks) some in
    let left = (has_filtered (λ k. not (is_pack pack k)) ks it.0 it.1).1 in
    absurd (true≢false (sym left ∙ ap not (subst (λ m. is_pack m it.0 ≡ true) is it.2)))

places_packs : ◌≢◌ {A = ℕ} 34 32
places_packs is = absurd (cc)

-- so a pack whose row could go had no place
pub none_there : (old new : State) (pack : ℕ) → AreRows place_form (old.now.trees 34) → IsDatabase new.now → Becomes pack_form host_schema 32 old new (delete_where (is_pack pack) (packs_in old.now.trees)) → NoneIn pack old.now.trees
none_there old new pack placed sound l p has =
    let same : l.next 34 ≡ old.now.trees 34 = l.others.1.1.1.1.1.1.1.1.1.1.1.1.1.1.0 places_packs in
    let parent = parented l.next (subst IsDatabase l.now sound) l.held (subst (AreRows place_form) (sym same) placed) p (subst (λ rows. Has (typed place_form rows) p) (sym same) has) in
    is_other pack (packs_in old.now.trees) p.pack (subst (λ ks. list_any (is_pack p.pack) ks ≡ true) l.rows parent)

-- and it may go if it has none
abbrev from_places : Pointer
from_places = record { child = 34; columns = 3 ∷ []; places = 1 ∷ []; order = plain }

placed_in : (i : ℤ) (p : PlaceRow) (j : ℤ) (k : PackRow) → points_at from_places (put place_form (i, p)) (put pack_form (j, k)) ≡ int_eq (pos p.pack) (pos k.pack)
unfolding first_key
placed_in i p j k = last_term (at_ints false Eq (pos p.pack) (pos k.pack))

none_any : (pack : ℕ) (ps : List PlaceRow) → ((p : PlaceRow) → Has ps p → p.pack ≢ pack) → list_any (is_in_pack pack) ps ≡ false
none_any pack [] none = refl
none_any pack (p ∷ ps) none = go (is_in_pack pack p) refl (none_any pack ps (λ q has. none q (inr has)))
  where
    go : (b : Bool) → is_in_pack pack p ≡ b → list_any (is_in_pack pack) ps ≡ false → list_any (is_in_pack pack) (p ∷ ps) ≡ false
    go true is rest = absurd (none p (inl refl) (let same : pos p.pack ≡ pos pack = same_int (pos p.pack) (pos pack) is in cc))
    go false is rest = rw is rest

pub pack_unused : (db : Trees) → AreRows pack_form (db 32) → AreRows place_form (db 34) → (pack : ℕ) → NoneIn pack db → AreUnused host_schema db 32 (map (put pack_form) (filter (λ (e : Entry PackRow). is_pack pack e.1) (entries pack_form (db 32))))
unfolding everything
pack_unused db packs places pack none = (
  none_points pack_form place_form (db 32) (db 34) from_places (is_pack pack) (λ p k. int_eq (pos p.pack) (pos k.pack)) placed_in packs places
      (none_named (λ p k. int_eq (pos p.pack) (pos k.pack)) (is_pack pack) (is_in_pack pack) (λ p k on is. ap (λ n. int_eq (pos p.pack) n) (sym (same_int (pos k.pack) (pos pack) is)) ∙ on) (packs_in db) (places_in db) (none_any pack (places_in db) none)),
  tt,
)

-- ---- what is shown without its row

still_reached : (pack : ℕ) (ks : List PackRow) (n end : ℕ) → n ≢ pack → is_reached ks n end ≡ true → is_reached (delete_where (is_pack pack) ks) n end ≡ true
still_reached pack ks n end other on =
    let it = some_has (reaches n end) ks on in
    let its : pos it.0.pack ≡ pos n = same_int (pos it.0.pack) (pos n) (and_parts _ _ it.2).0 in
    some_from (reaches n end) (delete_where (is_pack pack) ks) it.0 (has_kept (λ k. not (is_pack pack k)) ks it.0 it.1 (left it.0 (is_pack pack it.0) refl its)) it.2
  where
    left : (k : PackRow) (b : Bool) → is_pack pack k ≡ b → pos k.pack ≡ pos n → not (is_pack pack k) ≡ true
    left k true is its = absurd (other (let same : pos k.pack ≡ pos pack = same_int (pos k.pack) (pos pack) is in cc))
    left k false is its = ap not is

pub pack_goes : {packs : Contents} {ks : List PackRow} {places : List PlaceRow} {blocks shown : List BlockRow} → Fills packs ks places blocks shown → (pack : ℕ) → ((p : PlaceRow) → Has places p → p.pack ≢ pack)
    → Fills packs (delete_where (is_pack pack) ks) places blocks shown
pack_goes {packs} {ks} f pack none = same_places f packs (delete_where (is_pack pack) ks) (λ p has bytes is.
    let it = below_has ks packs p.pack p.offset p.size bytes is in
    below_is (delete_where (is_pack pack) ks) packs p.pack p.offset p.size bytes (still_reached pack ks p.pack (p.offset + p.size) (none p has) it.2) it.0 it.1)

module _ (a : Backing) (old new : State) (midst : IsStateClean (shown a old) → IsMidst (standing (shown a old))) (result : Result ℕ Error) where
  abbrev packs : Contents
  packs = named a old.in_transaction

  were_placed : IsStateClean (shown a old) → AreRows pack_form (old.now.trees 32) × AreRows place_form (old.now.trees 34)
  unfolding standing
  were_placed c = let host = stored_host packs old.now (midst c).by.host in (host.held.packs, host.held.places)

  module _ (live : IsLive old) (then : IsLive new) {sql : List ℕ} {params : Row} (runs : HasCleanDisk new → Executes sql params old new result) (survives : Survives old new (CommitsBy sql params old)) where
    pub pack_goes_out : (pack : ℕ) → DeleteText pack_form host_schema 13 (at 32 packs_table) sql params (is_pack pack) → HasPacks a old new midst result (IsDatabase new.now) (delete_where (is_pack pack) (packs_in old.now.trees))
    pack_goes_out pack it = beneath.drops_found pack_form 13 (at 32 packs_table) packs_is (λ sums db h. h.held.packs) a old new midst result live (λ sums. sums) (λ t. t) runs survives (IsDatabase new.now) (λ up. (then up).0) it (λ sound c sums host l.
        packs_turned packs packs old.now host old new refl _ l (pack_goes (was_filled packs old.now host) pack (none_there old new pack (were_placed c).1 sound l)))

    pub trouble_unless : (pack : ℕ) → DeleteText pack_form host_schema 13 (at 32 packs_table) sql params (is_pack pack) → IsStateClean (shown a old) → NoneIn pack old.now.trees
        → AreUnused host_schema old.now.trees 32 (map (put pack_form) (filter (λ (e : Entry PackRow). is_pack pack e.1) (entries pack_form (old.now.trees 32))))
    trouble_unless pack it c none = pack_unused old.now.trees (were_placed c).0 (were_placed c).1 pack none

  -- no place names it then
  pub none_after : (pack : ℕ) → HasPacks a old new midst result (IsDatabase new.now) (delete_where (is_pack pack) (packs_in old.now.trees)) → OnOk result (IsStateClean (shown a new) → NoneIn pack new.now.trees)
  none_after pack w = on_ok_weaker result (λ leaves c.
      let it = leaves c in
      subst (λ ps. (p : PlaceRow) → Has ps p → p.pack ≢ pack) (sym (packs_left old new it.1).1) (none_there old new pack (were_placed (w.turn.within.follows.clean c)).1 it.0 it.1)) w.leaves

-- ---- its file is removed, outside a transaction

module _ (pack : ℕ) (a b : Backing) (s : State) (was : IsTrue b.is_clean → IsTrue a.is_clean)
    (seen : IsTrue b.is_clean → AreSameBut pack b.seen a.seen) (kept : IsTrue b.is_clean → AreSameBut pack b.kept a.kept) (stood : IsTrue b.is_clean → AreSameBut pack b.stood a.stood)
    (outside : IsStateClean (shown a s) → (standing (shown a s)).inside ≡ false) (unnamed : IsStateClean (shown a s) → NoneIn pack s.now.trees) (settled : IsOpen s → IsStandingSettled (standing s)) where
  clean_was : IsStateClean (shown b s) → IsStateClean (shown a s)
  clean_was c = let it = shown_clean b s c in clean_shown a s it.0 (was it.1)

  -- what stands was committed
  at_rest : IsStateClean (shown a s) → (s.in_transaction ≡ false) × (s.now ≡ s.committed)
  unfolding standing
  at_rest c =
      let out : s.in_transaction ≡ false = outside c in
      (out, elim (settled (shown_clean a s c).0.is_open) [ inl inside ↦ absurd (true≢false (sym inside ∙ out)) | inr same ↦ same ])

  none_kept : IsStateClean (shown a s) → NoneIn pack s.committed.trees
  none_kept c = subst (λ (db : Database). NoneIn pack db.trees) (at_rest c).1 (unnamed c)

  pub removed_same : IsStateClean (shown b s) → standing (shown b s) ≡ standing (shown a s)
  removed_same c = let clean = (shown_clean b s c).1 in shown_gone pack a b s (seen clean) (kept clean) (unnamed (clean_was c)) (none_kept (clean_was c))

  pub removed_within : ((db : Trees) → IsOpen s → Leaves s db → db ≡ (standing s).kept.trees) → StateWithin (shown a s) (shown b s)
  unfolding standing Leaves IsOpen
  removed_within only = record {
    follows = shown_follows a b s s was (record { clean = λ c. c; intact = λ h. h; limit = refl });
    kept = λ c. ap (λ (x : Standing). x.kept) (removed_same c);
    settled = λ c. let it = at_rest (clean_was c) in inr (ap (λ inside. filled (named b inside) s.now) it.0 ∙ ap (filled b.kept) it.1);
    survives = λ up intact.
        let it = shown_intact b s intact in
        let c : IsStateClean (shown a s) = record { intact = intact_shown a s it.0 (was it.1); is_open = up } in
        shown_without pack a b s was stood (λ left may. subst (NoneIn pack) (sym (only left up may)) (none_kept c)) intact;
  }

  pub removed_others : IsStateClean (shown b s) → AreSameBut pack (named b s.in_transaction) (named a s.in_transaction)
  removed_others c = let clean = (shown_clean b s c).1 in elim s.in_transaction as (λ i. AreSameBut pack (named b i) (named a i)) [ true ↦ seen clean | false ↦ kept clean ]

-- what a crash leaves of an open database was committed
pub left_settled : {S : Type 0} (g : Ghosts S) (settles : (s : S) (db : Trees) → IsTrue (g.view s).is_open → g.recovers s db → db ≡ (g.view s).committed) (c : Held S) (db : Trees) → IsOpen (state g c)
    → Leaves (state g c) db → db ≡ (standing (state g c)).kept.trees
unfolding standing Leaves IsOpen
left_settled g settles c db up may = settles c.store db up may
