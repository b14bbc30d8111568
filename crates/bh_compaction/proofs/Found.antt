-- What texts found: a pack that is sparse, and no more names than were asked for.
use Rattle.std.proofs.Common.{◌≡◌, ◌≤◌, ℕ, zero, suc, arith, pos, List, [], ◌∷◌, map, filter, take, length, Some, slice_get, inl, refl, sym, ap, ◌∙◌}
use Rattle.sqlite.specs.Order.{Row, column}
use Rattle.sqlite.specs.declared.types.Value.TheVariants.{Int}
use Rattle.sqlite_rules.specs.Lists.{Has}
use Rattle.sqlite_rules.proofs.ListLemmas.{has_filtered}
use Rattle.bh_tables.specs.Rows.{PackRow}
use Rattle.bh_base.specs.Removal.{shown_number}
use Rattle.bh_compaction.specs.declared.compaction.Sparse.{Sparse}
use Rattle.bh_compaction.specs.Moves.{is_sparse, IsSparse}

-- no more are taken than were asked for
pub few_taken : {X : Type 0} (n : ℕ) (xs : List X) → length (take n xs) ≤ n
few_taken zero [] = omega arith
few_taken zero (x ∷ xs) = omega arith
few_taken (suc n) [] = omega arith
few_taken (suc n) (x ∷ xs) = let rest = few_taken n xs in omega (arith, rest)

first_shown : {X : Type 0} (f : X → Row) (xs : List X) (items : List Row) (row : Row) → items ≡ take 1 (map f xs) → Some row ≡ slice_get items 0 → (x : X) × Has xs x × (row ≡ f x)
first_shown f [] items row is some = absurd (let e = some ∙ ap (λ (l : List Row). slice_get l 0) is in cc)
first_shown f (x ∷ xs) items row is some = (x, inl refl, (let e = some ∙ ap (λ (l : List Row). slice_get l 0) is in cc))

pub found_sparse : (s : Sparse) (ps : List PackRow) (items : List Row) (row : Row) → items ≡ take 1 (map shown_number (filter (is_sparse s) ps)) → Some row ≡ slice_get items 0 → (pack : ℕ) → column row 0 ≡ Int (pos pack) → IsSparse s ps pack
found_sparse s ps items row is some pack read =
    let it = first_shown shown_number (filter (is_sparse s) ps) items row is some in
    let p : PackRow = it.0 in
    let among = has_filtered (is_sparse s) ps p it.1 in
    let e : Int (pos p.pack) ≡ Int (pos pack) = sym (ap (λ (r : Row). column r 0) it.2) ∙ read in
    record { row = p; among = among.0; sparse = among.1; is = (let same : p.pack ≡ pack = cc in same) }
