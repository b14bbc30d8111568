-- The blocks that a body adds: one for each distinct piece that none held.
use Rattle.std.proofs.Common.{◌≡◌, ℕ, ◌+◌, ◌≤◌, Bool, true, false, true≢false, cond, ◌&&◌, ◌||◌, List, [], ◌∷◌, ◌++◌, append-nil, append_assoc, filter, length, refl, sym, ap, ◌∙◌, Option, None, Some, option_map, arith}
use Rattle.std.specs.List.{AllByRecursion, list_any}
use Rattle.std.specs.Option.{option_map_or}
use Rattle.std.specs.Cmp.Derive.{both_true}
use Rattle.std.proofs.lemmas.List.Folds.{list_any-append}
use Rattle.sqlite_keyed.proofs.ListLemmas.{all_weaker, all-filter, all-append}
use Rattle.sqlite_typed.specs.Tests.{bytes_eq}
use Rattle.bh_model.specs.State.{Octets}
use Rattle.bh_tables.specs.Typed.{BlockRow, RefRow}
use Rattle.bh_tables.specs.Shown.{Name, block_name, is_use, is_of_body}
use Rattle.bh_view.specs.Grouped.{first}
use Rattle.bh_view.specs.Blocks.{row_at, free_ord, copy_in, ord_for, blocks_with, AreStored, AreDigests}
use Rattle.bh_view.specs.Bodies.{ref_to, blocks_after, refs_after}
use Rattle.bh_view.specs.Laws.{holding, AddsEachOnce, EachPieceIsOnce}
use Rattle.bh_view.proofs.FactLemmas.{all_first}
use Rattle.bh_view.proofs.FilterLemmas.{none_some, same_Some}
use Rattle.bh_view.proofs.GroupedLemmas.{is_itself}
use Rattle.bh_view.proofs.Keys.{octets}
use Rattle.bh_view.proofs.NameLemmas.{names, none_pass}
use Rattle.bh_view.proofs.BlockChanges.{all_new, block_kept}

-- ---- lists

none_before : {T : Type 0} (p : T → Bool) (xs ys : List T) → filter p (xs ++ ys) ≡ [] → filter p xs ≡ []
none_before p [] ys h = refl
none_before p (x ∷ xs) ys h = elim (p x) as (λ b. cond b (x ∷ filter p (xs ++ ys)) (filter p (xs ++ ys)) ≡ [] → cond b (x ∷ filter p xs) (filter p xs) ≡ []) [
  | true ↦ λ some. absurd (none_some (sym (ap first some)))
  | false ↦ λ none. none_before p xs ys none
] h

one_is : {T : Type 0} (l : List T) → length l ≤ 1 → (l ≡ [] → ⊥) → length l ≡ 1
one_is [] h some = absurd (some refl)
one_is (x ∷ []) h some = refl
one_is (x ∷ y ∷ l) h some = absurd (omega (arith, h))

any_here : (t : Bool) → t ≡ true → (u : Bool) → (t || u) ≡ true
any_here t h u = ap (λ c. c || u) h

any_later : (t u : Bool) → u ≡ true → (t || u) ≡ true
any_later true u h = refl
any_later false u h = h

-- where a row of some name holds bytes, one does
holds : (c : Octets) (q : Name) (blocks : List BlockRow) → option_map (λ (b : BlockRow). b.bytes) (row_at blocks q) ≡ Some c → holding c blocks ≡ [] → ⊥
holds c q blocks held none = go (row_at blocks q) refl held
  where
    go : (o : Option BlockRow) → row_at blocks q ≡ o → option_map (λ (b : BlockRow). b.bytes) o ≡ Some c → ⊥
    go None is h = none_some h
    go (Some b) is h = true≢false (sym ((octets.decides b.bytes c).1 (same_Some h)) ∙ all_first (λ (x : BlockRow). bytes_eq x.bytes c ≡ false) _ b is (all-filter _ _ blocks (none_pass (λ (x : BlockRow). bytes_eq x.bytes c) blocks none)))

-- ---- one piece

module _ (digest : Octets → Octets) (body : Name) where
  -- what the piece adds: nothing, or one row
  record IsStep (place : ℕ) (c : Octets) (blocks : List BlockRow) : Type 0 where
    more : List BlockRow
    grown : blocks_with (digest c) c blocks ≡ blocks ++ more
    piece : AllByRecursion (λ (b : BlockRow). bytes_eq b.bytes c ≡ true) more
    new : AllByRecursion (λ (b : BlockRow). holding b.bytes blocks ≡ []) more
    named : AllByRecursion (λ (b : BlockRow). (is_of_body body (ref_to digest body place c blocks) && is_use (block_name b) (ref_to digest body place c blocks)) ≡ true) more

  step : (place : ℕ) (c : Octets) (blocks : List BlockRow) → AreStored [] blocks → AreDigests digest blocks → IsStep place c blocks
  step place c blocks s d = go (copy_in (digest c) c blocks) refl
    where
      row : BlockRow
      row = record { digest = digest c; ord = free_ord (digest c) blocks; bytes = c }

      go : (o : Option BlockRow) → copy_in (digest c) c blocks ≡ o → IsStep place c blocks
      go None e = record {
        more = row ∷ [];
        grown = ap (λ o. option_map_or (λ _. blocks) o (blocks ++ row ∷ [])) e;
        piece = ((octets.decides c c).1 refl, tt);
        new = (all_new digest [] blocks s d c e, tt);
        named = (both_true (is_itself names body) ((names.decides _ _).1 (ap (λ o. (digest c, option_map_or (λ (b : BlockRow). b.ord) o (free_ord (digest c) blocks))) e)), tt);
      }
      go (Some b) e = record {
        more = [];
        grown = ap (λ o. option_map_or (λ _. blocks) o (blocks ++ row ∷ [])) e ∙ sym (append-nil blocks);
        piece = tt;
        new = tt;
        named = tt;
      }

  -- a reference that is there stays
  any_kept : (p : RefRow → Bool) (cs : List Octets) (place : ℕ) (refs : List RefRow) (blocks : List BlockRow) → list_any p refs ≡ true → list_any p (refs_after digest body place cs blocks refs) ≡ true
  any_kept p [] place refs blocks h = h
  any_kept p (c ∷ cs) place refs blocks h = any_kept p cs (place + 1) (refs ++ ref_to digest body place c blocks ∷ []) (blocks_with (digest c) c blocks)
      (list_any-append p refs (ref_to digest body place c blocks ∷ []) ∙ any_here (list_any p refs) h (list_any p (ref_to digest body place c blocks ∷ [])))

  any_last : (p : RefRow → Bool) (refs : List RefRow) (r : RefRow) → p r ≡ true → list_any p (refs ++ r ∷ []) ≡ true
  any_last p refs r h = list_any-append p refs (r ∷ []) ∙ any_later (list_any p refs) (list_any p (r ∷ [])) (any_here (p r) h false)

  -- ---- all pieces

  adds : (cs : List Octets) (place : ℕ) (refs : List RefRow) (blocks : List BlockRow) → AreStored [] blocks → AreDigests digest blocks
      → AddsEachOnce body cs blocks (blocks_after digest cs blocks) (refs_after digest body place cs blocks refs) × AreStored [] (blocks_after digest cs blocks)
  adds [] place refs blocks s d = (record { added = []; grown = sym (append-nil blocks); pieces = tt; new = tt; named = tt; held = tt }, s)
  adds (c ∷ cs) place refs blocks s d =
      let kept = block_kept digest [] blocks s d c in
      let now = blocks_with (digest c) c blocks in
      let r = ref_to digest body place c blocks in
      let one = step place c blocks s d in
      let rest = adds cs (place + 1) (refs ++ r ∷ []) now kept.stored kept.digests in
      let after = blocks_after digest cs now in (
        record {
          added = one.more ++ rest.0.added;
          grown = rest.0.grown ∙ ap (λ l. l ++ rest.0.added) one.grown ∙ append_assoc blocks one.more rest.0.added;
          pieces = all-append _ one.more rest.0.added
              (all_weaker (λ (b : BlockRow). bytes_eq b.bytes c ≡ true) (λ b. list_any (bytes_eq b.bytes) (c ∷ cs) ≡ true) (λ b e. any_here (bytes_eq b.bytes c) e (list_any (bytes_eq b.bytes) cs)) one.more one.piece)
              (all_weaker (λ (b : BlockRow). list_any (bytes_eq b.bytes) cs ≡ true) (λ b. list_any (bytes_eq b.bytes) (c ∷ cs) ≡ true) (λ b e. any_later (bytes_eq b.bytes c) (list_any (bytes_eq b.bytes) cs) e) rest.0.added rest.0.pieces);
          new = all-append _ one.more rest.0.added one.new
              (all_weaker (λ (b : BlockRow). holding b.bytes now ≡ []) (λ b. holding b.bytes blocks ≡ []) (λ b e. none_before _ blocks one.more (ap (holding b.bytes) (sym one.grown) ∙ e)) rest.0.added rest.0.new);
          named = all-append _ one.more rest.0.added
              (all_weaker (λ (b : BlockRow). (is_of_body body r && is_use (block_name b) r) ≡ true) (λ b. list_any (λ x. is_of_body body x && is_use (block_name b) x) (refs_after digest body (place + 1) cs now (refs ++ r ∷ [])) ≡ true)
              (λ b e. any_kept (λ x. is_of_body body x && is_use (block_name b) x) cs (place + 1) (refs ++ r ∷ []) now (any_last (λ x. is_of_body body x && is_use (block_name b) x) refs r e)) one.more one.named)
              rest.0.named;
          held = (one_is (holding c after) (rest.1.once c) (λ none. holds c (digest c, ord_for (digest c) c blocks) now kept.held (none_before _ now rest.0.added (ap (holding c) (sym rest.0.grown) ∙ none))), rest.0.held);
        },
        rest.1,
      )

pub each_once : EachPieceIsOnce
each_once digest body cs refs blocks s d = (adds digest body cs 0 refs blocks (record { one = s.one; once = s.once; named = λ q gone. refl }) d).0
