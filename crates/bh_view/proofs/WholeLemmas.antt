-- The bytes of bodies when a block or a reference comes or goes.
use Rattle.std.proofs.Common.{◌≡◌, true, false, true≢false, cond, List, [], ◌∷◌, ◌++◌, append-nil, flat_map, refl, sym, ap, ◌∙◌, subst, is_gt, None}
use Rattle.std.specs.List.{AllByRecursion}
use Rattle.std.specs.Option.{option_map_or}
use Rattle.std.proofs.lemmas.Grind.{flat_map-append}
use Rattle.sqlite_keyed.specs.Lists.{delete_where, sort_by}
use Rattle.sqlite_keyed.proofs.ListLemmas.{all-filter, all_weaker}
use Rattle.bh_model.specs.State.{Octets}
use Rattle.bh_view.specs.Grouped.{first, matching, Refers}
use Rattle.bh_view.proofs.FilterLemmas.{push_here, push_other, delete_all, delete_other}
use Rattle.bh_view.proofs.GroupedLemmas.{is_itself, is_other}
use Rattle.bh_tables.specs.Typed.{BlockRow, RefRow}
use Rattle.bh_tables.specs.Shown.{Name, same_name, block_name, ref_name, body_name, is_block, is_of_body, by_place}
use Rattle.bh_view.specs.Blocks.{row_at, block_at, placed, whole}
use Rattle.bh_view.specs.Bodies.{set_body}
use Rattle.bh_view.proofs.NameLemmas.{names, flat_map_agree, none_pass, refers_each, sort_by_last}
use Rattle.bh_view.proofs.SortLemmas.{all-sort_by}

-- the bytes of the block that a reference names
abbrev pub piece : List BlockRow → RefRow → Octets
piece blocks r = block_at blocks (ref_name r)

-- each reference names a row
abbrev pub AreThere : List BlockRow → List RefRow → Type 0
AreThere blocks = AllByRecursion (λ (r : RefRow). row_at blocks (ref_name r) ≡ None → ⊥)

-- each reference names the same bytes
abbrev pub Agree : List BlockRow → List BlockRow → List RefRow → Type 0
Agree new old = AllByRecursion (λ (r : RefRow). piece new r ≡ piece old r)

-- ---- blocks

-- the bytes of bodies rest on the blocks that references name
pub whole_agree : (refs : List RefRow) (new old : List BlockRow) → Agree new old refs → whole refs new ≡ whole refs old
unfolding whole
whole_agree refs new old all = λ i. λ body. flat_map_agree (piece new) (piece old) (placed refs body) (all-sort_by by_place _ _ (all-filter _ _ refs all)) i

-- one more block
pub agree_added : (refs : List RefRow) (blocks : List BlockRow) (b : BlockRow) → Refers same_name block_name blocks ref_name refs → matching same_name block_name (block_name b) blocks ≡ [] → Agree (blocks ++ b ∷ []) blocks refs
agree_added refs blocks b refers fresh = all_weaker (λ (r : RefRow). first (matching same_name block_name (ref_name r) blocks) ≡ None → ⊥) (λ r. piece (blocks ++ b ∷ []) r ≡ piece blocks r) (λ r there. elim (same_name (block_name b) (ref_name r)) as (λ t. same_name (block_name b) (ref_name r) ≡ t → piece (blocks ++ b ∷ []) r ≡ piece blocks r) [
  | true ↦ λ e. absurd (there (ap first (subst (λ q. matching same_name block_name q blocks ≡ []) ((names.decides _ _).0 e) fresh)))
  | false ↦ λ e. ap (λ l. option_map_or (λ (x : BlockRow). x.bytes) (first l) []) (push_other (λ x. same_name (block_name x) (ref_name r)) blocks b e)
] refl) refs (refers_each names block_name blocks ref_name refs refers)

-- a block that no reference names goes
pub agree_left : (refs : List RefRow) (blocks : List BlockRow) (at : Name) → matching same_name ref_name at refs ≡ [] → Agree (delete_where (is_block at) blocks) blocks refs
agree_left refs blocks at unused = all_weaker (λ (r : RefRow). same_name (ref_name r) at ≡ false) (λ r. piece (delete_where (is_block at) blocks) r ≡ piece blocks r) (λ r other.
    ap (λ l. option_map_or (λ (x : BlockRow). x.bytes) (first l) []) (delete_other (λ x. same_name (block_name x) (ref_name r)) (is_block at) blocks
    (λ x here. is_other names (block_name x) at (λ there. true≢false (sym ((names.decides (ref_name r) at).1 (sym ((names.decides (block_name x) (ref_name r)).0 here) ∙ there)) ∙ other)))))
    refs (none_pass _ refs unused)

-- ---- references

-- one more reference of a body, behind the others
pub ref_added : (refs : List RefRow) (blocks : List BlockRow) (r : RefRow) → AllByRecursion (λ x. is_gt (by_place x r) ≡ false) (matching same_name body_name (body_name r) refs)
    → whole (refs ++ r ∷ []) blocks ≡ set_body (body_name r) (whole refs blocks (body_name r) ++ piece blocks r) (whole refs blocks)
unfolding whole
ref_added refs blocks r behind = λ i. λ body. at body i
  where
    at : (body : Name) → whole (refs ++ r ∷ []) blocks body ≡ set_body (body_name r) (whole refs blocks (body_name r) ++ piece blocks r) (whole refs blocks) body
    at body = elim (same_name (body_name r) body) as (λ t. same_name (body_name r) body ≡ t → whole (refs ++ r ∷ []) blocks body ≡ cond t (whole refs blocks (body_name r) ++ piece blocks r) (whole refs blocks body)) [
      | true ↦ λ e. subst (λ q. whole (refs ++ r ∷ []) blocks q ≡ whole refs blocks (body_name r) ++ piece blocks r) ((names.decides _ _).0 e) (
          ap (λ l. flat_map (piece blocks) (sort_by by_place l)) (push_here (λ x. same_name (body_name x) (body_name r)) refs r (is_itself names (body_name r)))
          ∙ ap (flat_map (piece blocks)) (sort_by_last by_place (matching same_name body_name (body_name r) refs) r behind)
          ∙ flat_map-append (piece blocks) (placed refs (body_name r)) (r ∷ [])
          ∙ ap (λ l. whole refs blocks (body_name r) ++ l) (append-nil (piece blocks r)))
      | false ↦ λ e. ap (λ l. flat_map (piece blocks) (sort_by by_place l)) (push_other (λ x. same_name (body_name x) body) refs r e)
    ] refl

-- a body without references is empty
pub empty_body : (refs : List RefRow) (blocks : List BlockRow) (at : Name) → matching same_name body_name at refs ≡ [] → whole refs blocks at ≡ []
unfolding whole
empty_body refs blocks at none = ap (λ l. flat_map (piece blocks) (sort_by by_place l)) none

-- those of other bodies stay
pub others_left : (refs : List RefRow) (at body : Name) → same_name at body ≡ false → matching same_name body_name body (delete_where (is_of_body at) refs) ≡ matching same_name body_name body refs
others_left refs at body e = delete_other (λ x. same_name (body_name x) body) (is_of_body at) refs
    (λ x here. is_other names (body_name x) at (λ there. true≢false (sym ((names.decides at body).1 (sym there ∙ (names.decides (body_name x) body).0 here)) ∙ e)))

-- the references of a body go
pub refs_dropped : (refs : List RefRow) (blocks : List BlockRow) (at : Name) → whole (delete_where (is_of_body at) refs) blocks ≡ set_body at [] (whole refs blocks)
unfolding whole
refs_dropped refs blocks at = λ i. λ body. go body i
  where
    go : (body : Name) → whole (delete_where (is_of_body at) refs) blocks body ≡ set_body at [] (whole refs blocks) body
    go body = elim (same_name at body) as (λ t. same_name at body ≡ t → whole (delete_where (is_of_body at) refs) blocks body ≡ cond t [] (whole refs blocks body)) [
      | true ↦ λ e. subst (λ q. whole (delete_where (is_of_body at) refs) blocks q ≡ []) ((names.decides _ _).0 e) (empty_body (delete_where (is_of_body at) refs) blocks at (delete_all (is_of_body at) refs))
      | false ↦ λ e. ap (λ l. flat_map (piece blocks) (sort_by by_place l)) (others_left refs at body e)
    ] refl
