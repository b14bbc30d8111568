-- What the removing of blocks is to the tables.
use Rattle.std.proofs.Common.{◌≡◌, ℕ, zero, suc, List, [], ◌∷◌, filter, take, drop, Bool, true, false, cond, refl, sym, ap, ◌∙◌, subst}
use Rattle.std.specs.List.{AllByRecursion}
use Rattle.sqlite_keyed.specs.Lists.{delete_where}
use Rattle.bh_tables.specs.Typed.{BlockRow, RefRow, Tables, rebodied}
use Rattle.bh_tables.specs.Shown.{block_name, is_block, is_unreferenced, unreferenced, by_name}
use Rattle.bh_view.specs.Blocks.{blocks_without}
use Rattle.bh_tables.proofs.ResolvedLemmas.{rebodied_twice}
use Rattle.bh_view.proofs.BlockChanges.{without_next, without_none}
use Rattle.bh_view.proofs.SortLemmas.{all-sort_by}

-- the tables without some blocks
abbrev pub left : List BlockRow → Tables → Tables
left gone t = rebodied t t.refs (blocks_without gone t.blocks)

pub left_next : (b : BlockRow) (gone : List BlockRow) (old new : Tables) → new ≡ rebodied old old.refs (delete_where (is_block (block_name b)) old.blocks) → left gone new ≡ left (b ∷ gone) old
left_next b gone old new is = ap (left gone) is ∙ rebodied_twice old old.refs old.refs (blocks_without gone (delete_where (is_block (block_name b)) old.blocks)) (delete_where (is_block (block_name b)) old.blocks)
    ∙ ap (rebodied old old.refs) (sym (without_next b gone old.blocks))

pub left_none : (t : Tables) → rebodied t t.refs t.blocks ≡ t → left [] t ≡ t
left_none t own = ap (rebodied t t.refs) (without_none t.blocks) ∙ own

-- ---- blocks that no reference names

each_passes : {T : Type 0} (p : T → Bool) (xs : List T) → AllByRecursion (λ x. p x ≡ true) (filter p xs)
each_passes p [] = tt
each_passes p (x ∷ xs) = elim (p x) as (λ b. p x ≡ b → AllByRecursion (λ x. p x ≡ true) (cond b (x ∷ filter p xs) (filter p xs))) [ true ↦ λ e. (e, each_passes p xs) | false ↦ λ e. each_passes p xs ] refl

all_taken : {T : Type 0} (P : T → Type 0) (n : ℕ) (xs : List T) → AllByRecursion P xs → AllByRecursion P (take n xs)
all_taken P zero xs all = tt
all_taken P (suc n) [] all = tt
all_taken P (suc n) (x ∷ xs) all = (all.0, all_taken P n xs all.1)

pub unreferenced_are : (limit : ℕ) (refs : List RefRow) (blocks : List BlockRow) → AllByRecursion (λ b. is_unreferenced refs b ≡ true) (unreferenced limit refs blocks)
unreferenced_are limit refs blocks = all_taken _ limit _ (all-sort_by by_name _ _ (each_passes (is_unreferenced refs) blocks))

-- what holds of all holds of the one at a place
pub all_at_drop : {T : Type 0} (P : T → Type 0) (i : ℕ) (xs : List T) (x : T) (rest : List T) → AllByRecursion P xs → drop i xs ≡ x ∷ rest → P x
all_at_drop P i xs x rest all is = (subst (AllByRecursion P) is (dropped i xs all)).0
  where
    dropped : (i : ℕ) (xs : List _) → AllByRecursion P xs → AllByRecursion P (drop i xs)
    dropped zero xs all = all
    dropped (suc i) [] all = tt
    dropped (suc i) (y ∷ ys) all = dropped i ys all.1
