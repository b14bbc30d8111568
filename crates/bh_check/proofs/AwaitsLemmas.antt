-- A database is a host's with any bytes in its packs, if it is one with bytes of the same sizes.
use Rattle.std.proofs.Common.{◌≡◌, inl, inr, ℕ, ◌+◌, ◌==◌, Bool, true, false, ◌&&◌, not, cond, List, [], ◌∷◌, map, filter, length, replicate, Option, Some, None, refl, sym, ap, ap₂, ◌∙◌, subst, sum_by}
use Rattle.std.specs.List.{list_any, list_all}
use Rattle.std.specs.Option.{option_map_or}
use Rattle.std.proofs.lemmas.List.{length-replicate}
use Rattle.std.proofs.lemmas.List.Sums.{sum_by-cons}
use Rattle.sqlite.specs.Effect.{Database}
use Rattle.sqlite_rules.specs.Lists.{Has}
use Rattle.bh_rows.specs.Form.{AreRows, typed}
use Rattle.bh_shelf.specs.Contents.{Contents}
use Rattle.bh_tables.specs.Bodies.{Name, same_name, block_name, ref_name, block_at, has_size, first, is_use, is_unreferenced, unneeded}
use Rattle.bh_tables.specs.Packs.{place_at, is_place, places_in, packs_in}
use Rattle.bh_tables.specs.Rows.{BlockRow, RefRow, UseRow, PlaceRow, PackRow, block_form}
use Rattle.bh_tables.specs.Typed.{Totals, Tables, totals_of, tables_in, raw, use_among, weight, IsHostBy, IsHost}
use Rattle.bh_tables.proofs.Places.{blocks}
use Rattle.bh_tables.proofs.ResolvedLemmas.{own_bodies}
use Rattle.bh_tables.proofs.TotalLemmas.{rebodied_sums, totals_rebodied}
use Rattle.bh_base.specs.Placed.{below, with_bytes, with_place, filled_block, filled_blocks, filled_trees, filled}
use Rattle.bh_base.proofs.Filling.{IsHad, AreHad, first_has}
use Rattle.bh_base.proofs.Placing.{below_has, below_is}
use Rattle.bh_base.proofs.Stored.{stored_blocks, all_had, shown_blocks, filled_whole}
use Rattle.bh_check.specs.Awaits.{HasSizes, zeros, AwaitsBytes}

-- ---- what depends on names and sizes alone

abbrev sized : BlockRow → Name × ℕ
sized b = (block_name b, length b.bytes)

abbrev is_free : List RefRow → Name × ℕ → Bool
is_free refs s = not (list_any (is_use s.0) refs)

abbrev size_at : List (Name × ℕ) → Name → ℕ
size_at ss q = option_map_or (λ s. s.1) (first (filter (λ s. same_name s.0 q) ss)) 0

abbrev counted : List RefRow → Name × ℕ → UseRow
counted refs s = use_among refs (record { digest = s.0.0; ord = s.0.1; bytes = [] })

counts_by : (refs : List RefRow) (bs : List BlockRow) → map (use_among refs) bs ≡ map (counted refs) (map sized bs)
counts_by refs [] = refl
counts_by refs (b ∷ bs) = ap (λ l. use_among refs b ∷ l) (counts_by refs bs)

free_by : (refs : List RefRow) (bs : List BlockRow) → unneeded refs bs ≡ sum_by (λ s. s.1) (filter (is_free refs) (map sized bs))
free_by refs [] = refl
free_by refs (b ∷ bs) = go (is_unreferenced refs b) (free_by refs bs)
  where
    go : (t : Bool) → unneeded refs bs ≡ sum_by (λ s. s.1) (filter (is_free refs) (map sized bs))
        → sum_by (λ (x : BlockRow). length x.bytes) (cond t (b ∷ filter (is_unreferenced refs) bs) (filter (is_unreferenced refs) bs)) ≡ sum_by (λ s. s.1) (cond t (sized b ∷ filter (is_free refs) (map sized bs)) (filter (is_free refs) (map sized bs)))
    go true rest =
        sum_by-cons (λ (x : BlockRow). length x.bytes) b (filter (is_unreferenced refs) bs) ∙ ap (λ n. length b.bytes + n) rest
        ∙ sym (sum_by-cons (λ (s : Name × ℕ). s.1) (sized b) (filter (is_free refs) (map sized bs)))
    go false rest = rest

at_by : (bs : List BlockRow) (q : Name) → length (block_at bs q) ≡ size_at (map sized bs) q
at_by [] q = refl
at_by (b ∷ bs) q = elim (same_name (block_name b) q)
    as (λ t. length (option_map_or (λ (x : BlockRow). x.bytes) (first (cond t (b ∷ filter (λ x. same_name (block_name x) q) bs) (filter (λ x. same_name (block_name x) q) bs))) []) ≡ option_map_or (λ s. s.1) (first (cond t (sized b ∷ filter (λ s. same_name s.0 q) (map sized bs)) (filter (λ s. same_name s.0 q) (map sized bs)))) 0) [
      | true ↦ refl
      | false ↦ at_by bs q
    ]

sizes_by : (bs : List BlockRow) (refs : List RefRow) → list_all (has_size bs) refs ≡ list_all (λ r. r.size == size_at (map sized bs) (ref_name r)) refs
sizes_by bs [] = refl
sizes_by bs (r ∷ refs) = ap₂ ◌&&◌ (ap (λ n. r.size == n) (at_by bs (ref_name r))) (sizes_by bs refs)

sums_by : (refs : List RefRow) (xs ys : List BlockRow) (sums : Totals) → map sized xs ≡ map sized ys → rebodied_sums refs xs sums ≡ rebodied_sums refs ys sums
sums_by refs xs ys sums same =
    let uses = counts_by refs xs ∙ ap (map (counted refs)) same ∙ sym (counts_by refs ys) in
    let free = free_by refs xs ∙ ap (λ ss. sum_by (λ (s : Name × ℕ). s.1) (filter (is_free refs) ss)) same ∙ sym (free_by refs ys) in
    let measured = sizes_by xs refs ∙ ap (λ ss. list_all (λ r. r.size == size_at ss (ref_name r)) refs) same ∙ sym (sizes_by ys refs) in
    λ i. record sums { uses = uses i; garbage = weight (free i) ∷ []; measured = measured i }

-- ---- other bytes of the same sizes

module _ (a b : Contents) (db : Database) (host : IsHost (filled a db)) (sizes : HasSizes b (places_in db.trees)) where
  abbrev rows : List PackRow
  rows = packs_in db.trees

  abbrev places : List PlaceRow
  places = places_in db.trees

  abbrev bare : List BlockRow
  bare = typed block_form (db.trees 10)

  abbrev was : Tables
  was = tables_in (filled a db)

  had : AreHad (below rows a) places bare
  had = all_had a db.trees host.held.blocks

  one_had : (x : BlockRow) (o : Option PlaceRow) → ((p : PlaceRow) → o ≡ Some p → Has places p) → IsHad (below rows a) o x
      → IsHad (below rows b) o x × (sized (with_place (below rows a) o x) ≡ sized (with_place (below rows b) o x))
  one_had x None has is = (tt, refl)
  one_had x (Some p) has is =
      let own = below_has rows a p.pack p.offset p.size is.bytes is.there in
      let it = sizes p (has p refl) in
      let there = below_is rows b p.pack p.offset p.size it.0 own.2 it.1 it.2 in (
        record { own = is.own; bytes = it.0; there = there },
        ap (λ o. sized (with_bytes o x)) is.there ∙ ap (λ n. (block_name x, n)) (sym own.1 ∙ it.2) ∙ sym (ap (λ o. sized (with_bytes o x)) there),
      )

  each_had : (x : BlockRow) → Has bare x → IsHad (below rows b) (place_at places (block_name x)) x × (sized (filled_block (below rows a) places x) ≡ sized (filled_block (below rows b) places x))
  each_had x has = one_had x (place_at places (block_name x)) (λ p is. first_has (is_place (block_name x)) places p is) (had x has)

  all_sized : (xs : List BlockRow) → ((x : BlockRow) → Has xs x → Has bare x) → map sized (filled_blocks (below rows a) places xs) ≡ map sized (filled_blocks (below rows b) places xs)
  all_sized [] there = refl
  all_sized (x ∷ xs) there = ap₂ ◌∷◌ (each_had x (there x (inl refl))).1 (all_sized xs (λ y has. there y (inr has)))

  whole : AreRows block_form (filled_trees b db.trees 10)
  whole = filled_whole b db.trees (stored_blocks a db.trees host.held.blocks) (λ x has. (each_had x has).0)

  -- the sums over rows are the same
  sums_same : totals_of (tables_in (filled b db)) ≡ totals_of was
  unfolding filled_trees
  sums_same =
      ap totals_of ((blocks (totals_of was)).put_reads (raw (filled_trees a db.trees)) (filled_trees b db.trees 10))
      ∙ totals_rebodied was was.refs (typed block_form (filled_trees b db.trees 10))
      ∙ sums_by was.refs (typed block_form (filled_trees b db.trees 10)) was.blocks (totals_of was) (ap (map sized) (shown_blocks b db.trees whole) ∙ sym (all_sized bare (λ x has. has)) ∙ sym (ap (map sized) (shown_blocks a db.trees host.held.blocks)))
      ∙ sym (totals_rebodied was was.refs was.blocks) ∙ ap totals_of (own_bodies (filled a db))

  pub resized : IsHost (filled b db)
  unfolding filled_trees
  resized = subst (λ (sums : Totals). IsHostBy sums (filled b db)) (sym sums_same) (record { schema = host.schema; held = (blocks (totals_of was)).put_held (raw (filled_trees a db.trees)) (filled_trees b db.trees 10) host.held whole })

-- zeros have the size of each place
pub awaits_bytes : AwaitsBytes
awaits_bytes db = (
  λ packs host. resized packs zeros db host (λ p has. (replicate p.size 0, refl, sym (length-replicate p.size 0))),
  λ awaits packs sizes. resized zeros packs db awaits sizes,
)
