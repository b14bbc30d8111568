-- A block stored, and blocks removed that no reference names: the bytes of all bodies stay, and the rows stay sound.
use Rattle.std.proofs.Common.{◌≡◌, ℕ, suc, ◌≤◌, Bool, true, false, true≢false, cond, ◌||◌, not, List, [], ◌∷◌, ◌++◌, filter, find, length, refl, sym, ap, ◌∙◌, subst, Option, None, Some, option_map, arith}
use Rattle.std.specs.List.{AllByRecursion, list_any}
use Rattle.std.specs.Option.{option_map_or}
use Rattle.std.specs.Cmp.Derive.{both_true}
use Rattle.std.proofs.lemmas.Bool.{and_parts}
use Rattle.sqlite_keyed.specs.Lists.{delete_where}
use Rattle.sqlite_keyed.proofs.ListLemmas.{all_of, all_both, all-filter, filter_none}
use Rattle.sqlite_typed.specs.Tests.{bytes_eq}
use Rattle.bh_model.specs.State.{Octets}
use Rattle.bh_tables.specs.Typed.{BlockRow, RefRow, Tables, rebodied}
use Rattle.bh_tables.specs.Shown.{same_name, block_name, ref_name, is_block, is_use, is_copy, is_unreferenced}
use Rattle.bh_view.specs.Grouped.{first, matching}
use Rattle.bh_view.specs.View.{rows_of}
use Rattle.bh_view.specs.Blocks.{row_at, whole, AreStored, AreDigests, free_ord, copy_in, ord_for, blocks_with, blocks_without}
use Rattle.bh_view.specs.Sound.{AreSound, IsSound}
use Rattle.bh_view.specs.Bodies.{bodies_in, IsResolved}
use Rattle.bh_view.specs.Becomes.{KeepsBodies}
use Rattle.bh_view.proofs.FilterLemmas.{none_some, same_Some, push_here}
use Rattle.bh_view.proofs.FactLemmas.{all_pushed, unique_pushed, unique_deleted, refers_grown, refers_left}
use Rattle.bh_view.proofs.GroupedLemmas.{is_itself}
use Rattle.bh_view.proofs.Keys.{octets, numbers}
use Rattle.bh_view.proofs.NameLemmas.{names}
use Rattle.bh_view.proofs.OrdinalLemmas.{free_ord_is_least}
use Rattle.bh_view.proofs.ViewLemmas.{same_view, same_latest, same_limits}
use Rattle.bh_view.proofs.WholeLemmas.{piece, Agree, whole_agree, agree_added, agree_left}
use Rattle.bh_view.proofs.BodyLemmas.{bodies_agree}
use Rattle.bh_view.proofs.ResolvedLemmas.{rebodied_same, still_resolved}

-- ---- blocks alone change

-- all bodies keep their bytes, and so do versions and parts
pub blocks_rebodied : (old : Tables) (blocks : List BlockRow) → IsResolved old → whole old.refs blocks ≡ whole old.refs old.blocks → rebodied old old.refs blocks ≡ record old { blocks = blocks }
blocks_rebodied old blocks resolved bodies = rebodied_same old old.refs blocks (still_resolved old old.refs blocks bodies resolved)

pub blocks_change : (digest : Octets → Octets) (old : Tables) (blocks : List BlockRow) → IsSound old → IsResolved old → Agree blocks old.blocks old.refs → AreStored old.refs blocks → AreDigests digest blocks
    → KeepsBodies digest old (rebodied old old.refs blocks)
blocks_change digest old blocks sound resolved agree stored digests =
    let new : Tables = record old { blocks = blocks } in
    let bodies = whole_agree old.refs blocks old.blocks agree in
    let latest = same_latest old new refl in
    subst (KeepsBodies digest old) (sym (blocks_rebodied old blocks resolved bodies)) (record {
      bodies = bodies;
      has = bodies_agree (bodies_in old) old.refs blocks old.blocks agree;
      digests = digests;
      latest = latest;
      limits = same_limits old new refl;
      views = λ t. same_view t old new refl;
      sound = record { host = sound.host; tenants = λ t. subst (λ n. AreSound n (rows_of t old)) (sym latest) (sound.tenants t); stored = stored };
    })

-- ---- one block more, of a new name and new bytes

stored_added : (refs : List RefRow) (blocks : List BlockRow) (b : BlockRow) → AreStored refs blocks → matching same_name block_name (block_name b) blocks ≡ [] → matching bytes_eq (λ (x : BlockRow). x.bytes) b.bytes blocks ≡ [] → AreStored refs (blocks ++ b ∷ [])
stored_added refs blocks b s fresh new = record {
  one = unique_pushed names block_name blocks b s.one fresh;
  once = unique_pushed octets (λ (x : BlockRow). x.bytes) blocks b s.once new;
  named = refers_grown names block_name ref_name blocks refs b s.named;
}

-- ---- rows that were looked for

none_found : {T : Type 0} (p : T → Bool) (xs : List T) → find p xs ≡ None → AllByRecursion (λ x. p x ≡ false) xs
none_found p [] h = tt
none_found p (x ∷ xs) h = elim (p x) as (λ b. p x ≡ b → cond b (Some x) (find p xs) ≡ None → AllByRecursion (λ x. p x ≡ false) (x ∷ xs)) [
  | true ↦ λ e some. absurd (none_some (sym some))
  | false ↦ λ e rest. (e, none_found p xs rest)
] refl h

found_passes : {T : Type 0} (p : T → Bool) (xs : List T) (x : T) → find p xs ≡ Some x → p x ≡ true
found_passes p [] x h = absurd (none_some h)
found_passes p (y ∷ ys) x h = elim (p y) as (λ b. p y ≡ b → cond b (Some y) (find p ys) ≡ Some x → p x ≡ true) [
  | true ↦ λ e here. sym (ap p (same_Some here)) ∙ e
  | false ↦ λ e rest. found_passes p ys x rest
] refl h

-- a row that one test finds is the only one that another finds
the_one : {T : Type 0} (p q : T → Bool) (xs : List T) (x : T) → find p xs ≡ Some x → q x ≡ true → length (filter q xs) ≤ 1 → first (filter q xs) ≡ Some x
the_one p q [] x h t short = absurd (none_some h)
the_one p q (y ∷ ys) x h t short = elim (p y) as (λ b. cond b (Some y) (find p ys) ≡ Some x → first (filter q (y ∷ ys)) ≡ Some x) [
  | true ↦ λ here. ap (λ b. first (cond b (y ∷ filter q ys) (filter q ys))) (ap q (same_Some here) ∙ t) ∙ here
  | false ↦ λ rest. elim (q y) as (λ b. length (cond b (y ∷ filter q ys) (filter q ys)) ≤ 1 → first (cond b (y ∷ filter q ys) (filter q ys)) ≡ Some x) [
    | true ↦ λ s. absurd (none_some (ap first (sym (empty (filter q ys) s)) ∙ the_one p q ys x rest t (omega (arith, s))))
    | false ↦ λ s. the_one p q ys x rest t s
  ] short
] h
  where
    empty : {T : Type 0} (l : List T) → suc (length l) ≤ 1 → l ≡ []
    empty [] s = refl
    empty (z ∷ zs) s = absurd (omega (arith, s))

-- ---- a block is stored

module _ (digest : Octets → Octets) (refs : List RefRow) (blocks : List BlockRow) (s : AreStored refs blocks) (d : AreDigests digest blocks) (c : Octets) where
  -- no row holds the bytes where none of their digest does
  pub all_new : copy_in (digest c) c blocks ≡ None → matching bytes_eq (λ (b : BlockRow). b.bytes) c blocks ≡ []
  all_new none = filter_none _ blocks (all_both (λ (b : BlockRow). b.digest ≡ digest b.bytes) (λ b. is_copy (digest c) c b ≡ false) (λ b. bytes_eq b.bytes c ≡ false) (λ b right other. elim (bytes_eq b.bytes c) as (λ t. bytes_eq b.bytes c ≡ t → t ≡ false) [
    | true ↦ λ e. absurd (true≢false (sym (both_true ((octets.decides b.digest (digest c)).1 (right ∙ ap digest ((octets.decides b.bytes c).0 e))) e) ∙ other))
    | false ↦ λ e. refl
  ] refl) blocks d (none_found _ blocks none))

  pub record IsKept : Type 0 where
    pub stored : AreStored refs (blocks_with (digest c) c blocks)
    pub digests : AreDigests digest (blocks_with (digest c) c blocks)
    pub agree : Agree (blocks_with (digest c) c blocks) blocks refs
    pub bodies : whole refs (blocks_with (digest c) c blocks) ≡ whole refs blocks
    -- the block of the name holds the bytes
    pub held : option_map (λ (b : BlockRow). b.bytes) (row_at (blocks_with (digest c) c blocks) (digest c, ord_for (digest c) c blocks)) ≡ Some c

  abbrev new : BlockRow
  new = record { digest = digest c; ord = free_ord (digest c) blocks; bytes = c }

  abbrev rows_with : Option BlockRow → List BlockRow
  rows_with o = option_map_or (λ _. blocks) o (blocks ++ new ∷ [])

  abbrev ord_with : Option BlockRow → ℕ
  ord_with o = option_map_or (λ (b : BlockRow). b.ord) o (free_ord (digest c) blocks)

  -- the block that was there, or one more
  pub block_kept : IsKept
  block_kept = go (copy_in (digest c) c blocks) refl
    where
      pack : (o : Option BlockRow) → copy_in (digest c) c blocks ≡ o → AreStored refs (rows_with o) → AreDigests digest (rows_with o) → Agree (rows_with o) blocks refs
          → option_map (λ (b : BlockRow). b.bytes) (row_at (rows_with o) (digest c, ord_with o)) ≡ Some c → IsKept
      pack o e a b w t = record {
        stored = subst (λ z. AreStored refs (rows_with z)) (sym e) a;
        digests = subst (λ z. AreDigests digest (rows_with z)) (sym e) b;
        agree = subst (λ z. Agree (rows_with z) blocks refs) (sym e) w;
        bodies = whole_agree refs (blocks_with (digest c) c blocks) blocks (subst (λ z. Agree (rows_with z) blocks refs) (sym e) w);
        held = subst (λ z. option_map (λ (b : BlockRow). b.bytes) (row_at (rows_with z) (digest c, ord_with z)) ≡ Some c) (sym e) t;
      }

      go : (o : Option BlockRow) → copy_in (digest c) c blocks ≡ o → IsKept
      go None e =
          let free = (free_ord_is_least (digest c) blocks s.one).free in
          pack None e (stored_added refs blocks new s free (all_new e)) (all_pushed _ blocks new d refl) (agree_added refs blocks new s.named free)
          (ap (λ l. option_map (λ (b : BlockRow). b.bytes) (first l)) (push_here (λ b. same_name (block_name b) (block_name new)) blocks new (is_itself names (block_name new)) ∙ ap (λ l. l ++ new ∷ []) free))
      go (Some b) e =
          let right = and_parts _ _ (found_passes _ blocks b e) in
          let there = the_one (is_copy (digest c) c) (λ x. same_name (block_name x) (digest c, b.ord)) blocks b e (both_true right.0 ((numbers.decides b.ord b.ord).1 refl)) (s.one (digest c, b.ord)) in
          pack (Some b) e s d (all_of (λ r. piece blocks r ≡ piece blocks r) (λ r. refl) refs) (ap (option_map (λ (x : BlockRow). x.bytes)) there ∙ ap Some ((octets.decides b.bytes c).0 right.1))

pub block_stored : (digest : Octets → Octets) (old : Tables) (c : Octets) → IsSound old → IsResolved old → AreDigests digest old.blocks → KeepsBodies digest old (rebodied old old.refs (blocks_with (digest c) c old.blocks))
block_stored digest old c sound resolved d =
    let it = block_kept digest old.refs old.blocks sound.stored d c in
    blocks_change digest old (blocks_with (digest c) c old.blocks) sound resolved it.agree it.stored it.digests

-- ---- blocks are removed that no reference names

module _ (digest : Octets → Octets) (refs : List RefRow) where
  -- the rows as they were but for blocks that no reference names
  pub record AreLeft (old new : List BlockRow) : Type 0 where
    pub stored : AreStored refs new
    pub digests : AreDigests digest new
    pub agree : Agree new old refs

  unused : (b : BlockRow) → is_unreferenced refs b ≡ true → matching same_name ref_name (block_name b) refs ≡ []
  unused b h = none (λ (r : RefRow). is_use (block_name b) r) refs h
    where
      none : {T : Type 0} (p : T → Bool) (xs : List T) → not (list_any p xs) ≡ true → filter p xs ≡ []
      none p [] h = refl
      none p (x ∷ xs) h = elim (p x) as (λ t. not (t || list_any p xs) ≡ true → cond t (x ∷ filter p xs) (filter p xs) ≡ []) [ true ↦ λ e. absurd (true≢false (sym e)) | false ↦ λ e. none p xs e ] h

  one_left : (blocks : List BlockRow) (b : BlockRow) → is_unreferenced refs b ≡ true → AreStored refs blocks → AreDigests digest blocks → AreLeft blocks (delete_where (is_block (block_name b)) blocks)
  one_left blocks b h s d = record {
    stored = record {
      one = unique_deleted names block_name blocks (is_block (block_name b)) s.one;
      once = unique_deleted octets (λ (x : BlockRow). x.bytes) blocks (is_block (block_name b)) s.once;
      named = refers_left names block_name ref_name blocks refs (block_name b) s.named (unused b h);
    };
    digests = all-filter _ _ blocks d;
    agree = agree_left refs blocks (block_name b) (unused b h);
  }

-- what is left without one and then others is left without all of them
pub without_next : (b : BlockRow) (gone blocks : List BlockRow) → blocks_without (b ∷ gone) blocks ≡ blocks_without gone (delete_where (is_block (block_name b)) blocks)
without_next b gone [] = refl
without_next b gone (x ∷ xs) = elim (is_block (block_name b) x) as (λ t. is_block (block_name b) x ≡ t → cond (not (t || list_any (λ g. is_block (block_name g) x) gone)) (x ∷ blocks_without (b ∷ gone) xs) (blocks_without (b ∷ gone) xs)
    ≡ blocks_without gone (cond (not t) (x ∷ delete_where (is_block (block_name b)) xs) (delete_where (is_block (block_name b)) xs))) [
      | true ↦ λ e. without_next b gone xs
      | false ↦ λ e. ap (λ l. cond (not (list_any (λ g. is_block (block_name g) x) gone)) (x ∷ l) l) (without_next b gone xs)
    ] refl

pub without_none : (blocks : List BlockRow) → blocks_without [] blocks ≡ blocks
without_none [] = refl
without_none (x ∷ xs) = ap (λ l. x ∷ l) (without_none xs)

all_left : (digest : Octets → Octets) (refs : List RefRow) (gone : List BlockRow) (blocks : List BlockRow) → AllByRecursion (λ b. is_unreferenced refs b ≡ true) gone → AreStored refs blocks → AreDigests digest blocks
    → AreLeft digest refs blocks (blocks_without gone blocks)
all_left digest refs [] blocks un s d = subst (AreLeft digest refs blocks) (sym (without_none blocks)) (record { stored = s; digests = d; agree = all_of (λ r. piece blocks r ≡ piece blocks r) (λ r. refl) refs })
all_left digest refs (b ∷ gone) blocks un s d =
    let one = one_left digest refs blocks b un.0 s d in
    let left = delete_where (is_block (block_name b)) blocks in
    let rest = all_left digest refs gone left un.1 one.stored one.digests in
    subst (AreLeft digest refs blocks) (sym (without_next b gone blocks)) (record { stored = rest.stored; digests = rest.digests; agree = all_both (λ r. piece (blocks_without gone left) r ≡ piece left r) (λ r. piece left r ≡ piece blocks r) (λ r. piece (blocks_without gone left) r ≡ piece blocks r) (λ r a b. a ∙ b) refs rest.agree one.agree })

pub blocks_removed : (digest : Octets → Octets) (old : Tables) (gone : List BlockRow) → AllByRecursion (λ b. is_unreferenced old.refs b ≡ true) gone → IsSound old → IsResolved old → AreDigests digest old.blocks
    → KeepsBodies digest old (rebodied old old.refs (blocks_without gone old.blocks))
blocks_removed digest old gone un sound resolved d =
    let it = all_left digest old.refs gone old.blocks un sound.stored d in
    blocks_change digest old (blocks_without gone old.blocks) sound resolved it.agree it.stored it.digests
