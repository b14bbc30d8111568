-- What a call does to a database, it does to that with the bytes of packs.
use Rattle.std.proofs.Common.{◌≡◌, ◌≢◌, ◌==◌, ℕ, cond, if◌then◌else◌, inl, inr, ◌⊎◌, Bool, true, false, ◌&&◌, IsTrue, Result, Ok, Err, OnErr, refl, sym, ap, ap₂, ◌∙◌, true≢false, subst}
use Rattle.std.proofs.lemmas.Bool.{cases_Bool, cases_eq, eq-eqb, ne_eqb}
use Rattle.sqlite_rules.specs.Lists.{Has}
use Rattle.bh_tables.specs.Rows.{PlaceRow}
use Rattle.bh_tables.specs.Packs.{places_in}
use Rattle.sqlite.specs.Effect.{IsDatabase}
use Rattle.sqlite.specs.Tree.{Trees}
use Rattle.sqlite.specs.State.{State}
use Rattle.sqlite_trees.specs.View.{doubt}
use Rattle.sqlite_trees.specs.Objects.{catalog_tree}
use Rattle.sqlite_catalog.specs.Listing.{Lists}
use Rattle.bh_base.specs.Layer.{Standing, standing, IsIntact, IsOpen, IsStateClean, Leaves, begun, committed, taken_back, KeepsDisk, LeavesNothingNew, IsStandingSettled, StateWithin, Unwinds}
use Rattle.bh_shelf.specs.Contents.{Contents, Within, AreSameBut}
use Rattle.bh_base.specs.Placed.{filled, filled_trees, IsWhole}
use Rattle.bh_base.specs.Shown.{Backing, named, shown}
use Rattle.bh_base.proofs.Placing.{within_then, same_trees, same_filled, trees_without, gone_filled}

-- ---- intact and clean

pub no_doubt : (a b : Bool) → doubt (a && b) ≡ 0 → (doubt a ≡ 0) × IsTrue b
unfolding doubt
no_doubt true true h = (refl, refl)
no_doubt true false h = absurd (cc)
no_doubt false b h = absurd (cc)

pub doubtless : (a b : Bool) → doubt a ≡ 0 → IsTrue b → doubt (a && b) ≡ 0
unfolding doubt
doubtless true true h c = refl
doubtless true false h c = absurd (true≢false (sym c))
doubtless false b h c = absurd (cc)

pub shown_intact : (a : Backing) (s : State) → IsIntact (shown a s) → IsIntact s × IsTrue a.is_clean
unfolding IsIntact
shown_intact a s h = no_doubt s.is_clean a.is_clean h

pub intact_shown : (a : Backing) (s : State) → IsIntact s → IsTrue a.is_clean → IsIntact (shown a s)
unfolding IsIntact
intact_shown a s h c = doubtless s.is_clean a.is_clean h c

pub shown_clean : (a : Backing) (s : State) → IsStateClean (shown a s) → IsStateClean s × IsTrue a.is_clean
unfolding IsOpen
shown_clean a s c = let both = shown_intact a s c.intact in (record { intact = both.0; is_open = c.is_open }, both.1)

pub clean_shown : (a : Backing) (s : State) → IsStateClean s → IsTrue a.is_clean → IsStateClean (shown a s)
unfolding IsOpen
clean_shown a s c clean = record { intact = intact_shown a s c.intact clean; is_open = c.is_open }

pub opened : (a : Backing) (s : State) → IsOpen s → IsOpen (shown a s)
unfolding IsOpen
opened a s up = up

pub open_shown : (a : Backing) (s : State) → IsOpen (shown a s) → IsOpen s
unfolding IsOpen
open_shown a s up = up

pub inside_shown : (a : Backing) (s : State) → (standing (shown a s)).inside ≡ (standing s).inside
unfolding standing
inside_shown a s = refl

-- ---- a call after which as much stands as before

module _ (a b : Backing) (old new : State) (was : IsTrue b.is_clean → IsTrue a.is_clean) where
  pub shown_follows : KeepsDisk old new → KeepsDisk (shown a old) (shown b new)
  unfolding standing
  shown_follows f = record {
    clean = λ c. let it = shown_clean b new c in clean_shown a old (f.clean it.0) (was it.1);
    intact = λ h. let it = shown_intact b new h in intact_shown a old (f.intact it.0) (was it.1);
    limit = f.limit;
  }

  shown_settled : IsStandingSettled (standing new) → IsStandingSettled (standing (shown b new))
  unfolding standing
  shown_settled before = elim (cases_Bool new.in_transaction) [
    | inl inside ↦ inl inside
    | inr outside ↦ elim before [
      | inl inside ↦ absurd (true≢false (sym inside ∙ outside))
      | inr settled ↦ inr (ap (λ inside. filled (named b inside) new.now) outside ∙ ap (filled b.kept) settled)
    ]
  ]

  module _ (grows : IsTrue b.is_clean → Within a.stood b.stood) where
    pub shown_leaves : LeavesNothingNew old new → LeavesNothingNew (shown a old) (shown b new)
    unfolding Leaves
    shown_leaves less h db it =
        let intact = shown_intact b new h in
        (it.0, it.1, less intact.0 it.0 it.2, within_then a.stood b.stood it.1 (grows intact.1) it.3, it.4)

    -- and rows may name the same that was committed
    module _ (same : IsTrue b.is_clean → b.kept ≡ a.kept) where
      shown_kept : IsTrue b.is_clean → (standing new).kept ≡ (standing old).kept → (standing (shown b new)).kept ≡ (standing (shown a old)).kept
      unfolding standing
      shown_kept clean kept = ap₂ filled (same clean) kept

      pub shown_within : StateWithin old new → StateWithin (shown a old) (shown b new)
      unfolding IsOpen
      shown_within w = record {
        follows = shown_follows w.follows;
        kept = λ c. let it = shown_clean b new c in shown_kept it.1 (w.kept it.0);
        settled = λ c. shown_settled (w.settled (shown_clean b new c).0);
        survives = λ up. shown_leaves (w.survives up);
      }

-- ---- a call that touches no packs

module _ (a : Backing) (old new : State) where
  pub shown_same : standing new ≡ standing old → standing (shown a new) ≡ standing (shown a old)
  unfolding standing
  shown_same same =
      let inside : new.in_transaction ≡ old.in_transaction = ap (λ (x : Standing). x.inside) same in
      let now : filled (named a new.in_transaction) new.now ≡ filled (named a old.in_transaction) old.now =
      ap₂ (λ inside db. filled (named a inside) db) inside (ap (λ (x : Standing). x.now) same) in
      let kept : filled a.kept new.committed ≡ filled a.kept old.committed = ap (λ (x : Standing). filled a.kept x.kept) same in
      λ i. record { now = now i; kept = kept i; inside = inside i; limit = ap (λ (x : Standing). x.limit) same i }

  -- what was committed is what stands again
  pub shown_back : standing new ≡ taken_back (standing old) → standing (shown a new) ≡ taken_back (standing (shown a old))
  unfolding standing
  shown_back back =
      let outside : new.in_transaction ≡ false = ap (λ (x : Standing). x.inside) back in
      let now : filled (named a new.in_transaction) new.now ≡ filled a.kept old.committed =
      ap (λ inside. filled (named a inside) new.now) outside ∙ ap (λ (x : Standing). filled a.kept x.now) back in
      let kept : filled a.kept new.committed ≡ filled a.kept old.committed = ap (λ (x : Standing). filled a.kept x.kept) back in
      λ i. record { now = now i; kept = kept i; inside = outside i; limit = ap (λ (x : Standing). x.limit) back i }

  pub shown_unwinds : Unwinds (standing old) (standing new) → Unwinds (standing (shown a old)) (standing (shown a new))
  shown_unwinds (inl same) = inl (shown_same same)
  shown_unwinds (inr back) = inr (shown_back back)

-- ---- BEGIN, COMMIT, and calls of packs alone

pub follows_then : (a b c : State) → KeepsDisk a b → KeepsDisk b c → KeepsDisk a c
follows_then a b c one two = record { clean = λ h. one.clean (two.clean h); intact = λ h. one.intact (two.intact h); limit = two.limit ∙ one.limit }

pub on_err : {X E A B : Type 0} (r : Result X E) → (A → B) → OnErr r A → OnErr r B
on_err (Ok x) f h = tt
on_err (Err e) f h = f h

-- what no committed row may name is a gap
pub shown_begun : (a b : Backing) (old new : State) → b.kept ≡ a.kept → b.seen ≡ a.kept → (standing old).inside ≡ false → standing new ≡ begun (standing old) → standing (shown b new) ≡ begun (standing (shown a old))
unfolding standing
shown_begun a b old new same forgot outside is =
    let inside : new.in_transaction ≡ true = ap (λ (x : Standing). x.inside) is in
    let now : filled (named b new.in_transaction) new.now ≡ filled (named a old.in_transaction) old.now =
    ap (λ i. filled (named b i) new.now) inside ∙ ap₂ filled forgot (ap (λ (x : Standing). x.now) is) ∙ ap (λ i. filled (named a i) old.now) (sym outside) in
    let kept : filled b.kept new.committed ≡ filled a.kept old.committed = ap₂ filled same (ap (λ (x : Standing). x.kept) is) in
    λ i. record { now = now i; kept = kept i; inside = inside i; limit = ap (λ (x : Standing). x.limit) is i }

-- committed rows may name all that was seen
pub shown_committed : (a b : Backing) (old new : State) → b.kept ≡ a.seen → (standing old).inside ≡ true → standing new ≡ committed (standing old) → standing (shown b new) ≡ committed (standing (shown a old))
unfolding standing
shown_committed a b old new kept inside is =
    let outside : new.in_transaction ≡ false = ap (λ (x : Standing). x.inside) is in
    let before : filled a.seen old.now ≡ filled (named a old.in_transaction) old.now = ap (λ i. filled (named a i) old.now) (sym inside) in
    let now : filled (named b new.in_transaction) new.now ≡ filled (named a old.in_transaction) old.now =
    ap (λ i. filled (named b i) new.now) outside ∙ ap₂ filled kept (ap (λ (x : Standing). x.now) is) ∙ before in
    let saved : filled b.kept new.committed ≡ filled (named a old.in_transaction) old.now = ap₂ filled kept (ap (λ (x : Standing). x.kept) is) ∙ before in
    λ i. record { now = now i; kept = saved i; inside = outside i; limit = ap (λ (x : Standing). x.limit) is i }

-- packs that have the same
pub shown_again : (a b : Backing) (s : State) → b.seen ≡ a.seen → b.kept ≡ a.kept → standing (shown b s) ≡ standing (shown a s)
unfolding standing
shown_again a b s seen kept = λ i. record {
  now = filled (named (record a { seen = seen i; kept = kept i }) s.in_transaction) s.now;
  kept = filled (kept i) s.committed;
  inside = s.in_transaction;
  limit = s.step_limit;
}

-- all that rows may name is seen
pub named_seen : (a : Backing) → Within a.kept a.seen → (inside : Bool) → Within (named a inside) a.seen
named_seen a within true pack offset size bytes has = has
named_seen a within false pack offset size bytes has = within pack offset size bytes has

-- within a transaction they may name all of it
pub named_inside : (a b : Backing) (s : State) → (standing (shown a s)).inside ≡ true → named b s.in_transaction ≡ b.seen
unfolding standing
named_inside a b s inside = ap (named b) inside

-- packs that have more, within a transaction of which each place has its bytes
pub shown_more : (a b : Backing) (s : State) → Within a.seen b.seen → b.kept ≡ a.kept → (standing (shown a s)).inside ≡ true → IsWhole (standing (shown a s)).now → standing (shown b s) ≡ standing (shown a s)
unfolding standing
shown_more a b s grows kept inside whole =
    let now : filled (named b s.in_transaction) s.now ≡ filled (named a s.in_transaction) s.now =
    ap (λ i. filled (named b i) s.now) inside ∙ sym (same_filled a.seen b.seen grows s.now (subst (λ i. IsWhole (filled (named a i) s.now)) inside whole)) ∙ ap (λ i. filled (named a i) s.now) (sym inside) in
    λ i. record { now = now i; kept = filled (kept i) s.committed; inside = s.in_transaction; limit = s.step_limit }

-- a call of packs alone
pub alone_within : (s : State) → (IsOpen s → IsStandingSettled (standing s)) → StateWithin s s
alone_within s settled = record {
  follows = record { clean = λ c. c; intact = λ h. h; limit = refl };
  kept = λ c. refl;
  settled = λ c. settled c.is_open;
  survives = λ up intact db h. h;
}

-- a call of packs alone, after which as much stands as before and rows may name as much that was committed
pub packs_within : (a b : Backing) (s : State) → (IsTrue b.is_clean → IsTrue a.is_clean) → (IsTrue b.is_clean → Within a.stood b.stood) → (IsTrue b.is_clean → b.kept ≡ a.kept) → (IsStateClean (shown a s) → (standing (shown a s)).inside ≡ true) → StateWithin (shown a s) (shown b s)
unfolding standing
packs_within a b s was grows kept inside =
    let follows = shown_follows a b s s was (record { clean = λ c. c; intact = λ h. h; limit = refl }) in
    record {
      follows = follows;
      kept = λ c. ap (λ k. filled k s.committed) (kept (shown_clean b s c).1);
      settled = λ c. inl (inside (follows.clean c));
      survives = λ up. shown_leaves a b s s was grows (λ intact db h. h);
    }

-- the trees list the schema
pub lists_shown : (a : Backing) (s : State) → IsDatabase (standing s).now → Lists ((standing (shown a s)).now.trees catalog_tree) (standing (shown a s)).now.schema
unfolding standing filled_trees
lists_shown a s stood = stood.lists

-- of what a crash may leave of a commit, all that was seen standing: what it left before, or what was seen
pub commit_leaves_shown : (a b : Backing) (old new : State) → Within a.seen a.stood → Within a.stood b.stood → (standing old).inside ≡ true → IsWhole (standing (shown a old)).now
    → ((left : Trees) → Leaves new left → Leaves old left ⊎ (left ≡ (standing old).now.trees)) → (db : Trees) → Leaves (shown b new) db → Leaves (shown a old) db ⊎ (db ≡ (standing (shown a old)).now.trees)
unfolding standing Leaves
commit_leaves_shown a b old new stands grows inside whole each db it =
    let left = it.0 in
    let c = it.1 in
    let named_is : named a old.in_transaction ≡ a.seen = ap (named a) inside in
    let has : Within a.seen c = within_then a.seen a.stood c stands (within_then a.stood b.stood c grows it.3) in
    let all : filled_trees a.seen old.now.trees ≡ filled_trees c old.now.trees = same_trees a.seen c old.now.trees (rw named_is at whole) has in
    elim (each left it.2) [
      | inl before ↦ inl (left, c, before, within_then a.stood b.stood c grows it.3, it.4)
      | inr now ↦ inr (it.4 ∙ ap (filled_trees c) now ∙ sym all ∙ ap (λ (n : Contents). filled_trees n old.now.trees) (sym named_is))
    ]

-- what a crash leaves of an open connection is what was committed, with its bytes
pub leaves_kept : (a : Backing) (s : State) → Within a.kept a.stood → ((left : Trees) → Leaves s left → left ≡ (standing s).kept.trees) → IsWhole (standing (shown a s)).kept
    → (db : Trees) → Leaves (shown a s) db → db ≡ (standing (shown a s)).kept.trees
unfolding standing Leaves
leaves_kept a s stands only whole db it =
    it.4 ∙ ap (filled_trees it.1) (only it.0 it.2) ∙ sym (same_trees a.kept it.1 s.committed.trees whole (within_then a.kept a.stood it.1 stands it.3))

-- ---- a pack is removed

-- contents with those of one pack from others
abbrev with_pack : ℕ → Contents → Contents → Contents
with_pack pack from to n offset size = if n == pack then from n offset size else to n offset size

with_here : (pack : ℕ) (from to : Contents) (n offset size : ℕ) → n ≡ pack → with_pack pack from to n offset size ≡ from n offset size
with_here pack from to n offset size is = ap (λ t. cond t (from n offset size) (to n offset size)) (eq-eqb n pack is)

with_other : (pack : ℕ) (from to : Contents) (n offset size : ℕ) → n ≢ pack → with_pack pack from to n offset size ≡ to n offset size
with_other pack from to n offset size other = ap (λ t. cond t (from n offset size) (to n offset size)) (ne_eqb n pack other)

-- where no place of what a crash may leave names it, that leaves nothing new
pub shown_without : (pack : ℕ) (a b : Backing) (s : State) → (IsTrue b.is_clean → IsTrue a.is_clean) → (IsTrue b.is_clean → AreSameBut pack b.stood a.stood)
    → ((left : Trees) → s.may_leave left → (p : PlaceRow) → Has (places_in left) p → p.pack ≢ pack) → LeavesNothingNew (shown a s) (shown b s)
unfolding Leaves
shown_without pack a b s was same none h db it =
    let clean = (shown_intact b s h).1 in
    let left = it.0 in
    let c = it.1 in
    let d = with_pack pack a.stood c in
    let within : Within a.stood d = λ n offset size bytes has. elim (cases_eq n pack) [
      | inl is ↦ with_here pack a.stood c n offset size is ∙ has
      | inr other ↦ with_other pack a.stood c n offset size other ∙ it.3 n offset size bytes (same clean n other offset size ∙ has)
    ] in
    let alike : filled_trees c left ≡ filled_trees d left = trees_without pack c d left (λ n other offset size. sym (with_other pack a.stood c n offset size other)) (none left it.2) in
    (left, d, it.2, within, it.4 ∙ alike)

-- and rows that name nothing in it show what they showed
pub shown_gone : (pack : ℕ) (a b : Backing) (s : State) → AreSameBut pack b.seen a.seen → AreSameBut pack b.kept a.kept → ((p : PlaceRow) → Has (places_in s.now.trees) p → p.pack ≢ pack)
    → ((p : PlaceRow) → Has (places_in s.committed.trees) p → p.pack ≢ pack) → standing (shown b s) ≡ standing (shown a s)
unfolding standing
shown_gone pack a b s seen kept now committed =
    let names : AreSameBut pack (named b s.in_transaction) (named a s.in_transaction) = elim s.in_transaction as (λ i. AreSameBut pack (named b i) (named a i)) [ true ↦ seen | false ↦ kept ] in
    let one = gone_filled pack (named b s.in_transaction) (named a s.in_transaction) s.now names now in
    let two = gone_filled pack b.kept a.kept s.committed kept committed in
    λ i. record { now = one i; kept = two i; inside = s.in_transaction; limit = s.step_limit }
