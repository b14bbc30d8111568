-- A body stored, copied or joined, under a name that no version and no part has: it has those bytes, and all else stays.
use Rattle.std.proofs.Common.{◌≡◌, ℕ, ◌≤◌, true, false, ◌||◌, List, [], ◌∷◌, ◌++◌, map, flat_map, length, refl, sym, ap, ap₂, ◌∙◌}
use Rattle.std.specs.List.{AllByRecursion, list_any}
use Rattle.std.proofs.lemmas.Grind.{flat_map-append}
use Rattle.sqlite_keyed.proofs.ListLemmas.{all-filter, all-append}
use Rattle.bh_model.specs.State.{Octets}
use Rattle.bh_tables.specs.Bodies.{version_name, part_name}
use Rattle.bh_tables.specs.Typed.{BlockRow, RefRow, Tables}
use Rattle.bh_tables.specs.Shown.{Name, same_name, block_name, ref_name, body_name, by_place}
use Rattle.bh_view.specs.Grouped.{matching}
use Rattle.bh_view.specs.Blocks.{placed, whole, AreStored, AreDigests}
use Rattle.bh_view.specs.Bodies.{bodies_of, bodies_in, AreBodies, HasBodies, IsResolved, IsUnnamed, set_body, AddsBody, pieces, refs_after, blocks_after, body_stored, refs_again, body_again, body_copied, bodies_joined}
use Rattle.bh_view.proofs.GroupedLemmas.{is_itself}
use Rattle.bh_view.proofs.NameLemmas.{names, refers_each, none_either, unnamed_each, each_unnamed}
use Rattle.bh_view.proofs.SortLemmas.{all-sort_by}
use Rattle.bh_view.proofs.WholeLemmas.{piece, AreThere, empty_body}
use Rattle.bh_view.proofs.BodyLemmas.{bodies_for, placed_measured}
use Rattle.bh_view.proofs.ResolvedLemmas.{rebodied_same, unnamed_stays}
use Rattle.bh_view.proofs.StoringLemmas.{IsLonger, pieces_kept, again_kept, pieces_joined}

-- a name of no version and no part is of no body
pub unnamed_bodies : (at : Name) (tables : Tables) → IsUnnamed at tables → list_any (same_name at) (bodies_in tables) ≡ false
unnamed_bodies at tables none = none_either (same_name at) (bodies_of tables.versions) (map part_name tables.parts)
    (each_unnamed version_name at _ (all-filter _ _ tables.versions (unnamed_each version_name at tables.versions none.versions))) none.parts

-- ---- blocks that a body's references name

named_there : (refs : List RefRow) (blocks : List BlockRow) (body : Name) → AreStored refs blocks → AreThere blocks (placed refs body)
named_there refs blocks body s = all-sort_by by_place _ _ (all-filter _ _ refs (refers_each names block_name blocks ref_name refs s.named))

whole_is : (refs : List RefRow) (blocks : List BlockRow) (body : Name) → flat_map (piece blocks) (placed refs body) ≡ whole refs blocks body
unfolding whole
whole_is refs blocks body = refl

-- ---- the tables

module _ (old : Tables) (at : Name) (resolved : IsResolved old) (s : AreStored old.refs old.blocks) (b : HasBodies old) (none : IsUnnamed at old) where
  abbrev owners : List Name
  owners = at ∷ bodies_in old

  has : list_any (same_name at) owners ≡ true
  has = ap (λ t. t || list_any (same_name at) (bodies_in old)) (is_itself names at)

  more : AreBodies owners old.refs old.blocks
  more = bodies_for (bodies_in old) owners old.refs old.blocks (λ body h. later (same_name body at) h) b
    where
      later : {y : _} (x : _) → (x || y) ≡ false → y ≡ false
      later true h = absurd (cc)
      later false h = h

  fresh : matching same_name body_name at old.refs ≡ []
  fresh = b.owned at (unnamed_bodies at old none)

  -- versions and parts keep their bytes where those of this body alone are others
  pub rows_stay : (refs : List RefRow) (blocks : List BlockRow) (bytes : Octets) → whole refs blocks ≡ set_body at bytes (whole old.refs old.blocks) → IsResolved (record old { refs = refs; blocks = blocks })
  rows_stay = unnamed_stays old at none resolved

  -- its bytes are those that were added, since it had none
  first_bytes : (refs : List RefRow) (blocks : List BlockRow) (bytes given : Octets) → bytes ≡ given → IsLonger owners at has old.refs old.blocks bytes refs blocks → whole refs blocks ≡ set_body at given (whole old.refs old.blocks)
  first_bytes refs blocks bytes given is it = it.bytes ∙ ap (λ l. set_body at l (whole old.refs old.blocks)) (ap (λ l. l ++ bytes) (empty_body old.refs old.blocks at fresh) ∙ is)

  -- a body of pieces
  pub body_stores : (digest : Octets → Octets) (size : ℕ) (bytes : Octets) → 1 ≤ size → AreDigests digest old.blocks → AddsBody digest at bytes old (body_stored digest at 0 (pieces size bytes) old)
  body_stores digest size bytes low d =
      let cs = pieces size bytes in
      let refs = refs_after digest at 0 cs old.blocks old.refs in
      let blocks = blocks_after digest cs old.blocks in
      let it = pieces_kept owners at has digest cs 0 old.refs old.blocks s more d (ap length (sym fresh)) in
      let is = first_bytes refs blocks (flat_map (λ c. c) cs) bytes (pieces_joined size bytes low) it.0 in
      record { is = rebodied_same old refs blocks (rows_stay refs blocks bytes is); bytes = is; stored = it.0.stored; bodies = it.0.bodies; digests = λ _. it.1 }

  -- a body of the blocks of others
  again : (digest : Octets → Octets) (rs : List RefRow) (bytes : Octets) → flat_map (piece old.blocks) rs ≡ bytes → AreThere old.blocks rs → AllByRecursion (λ (r : RefRow). r.size ≡ length (piece old.blocks r)) rs
      → AddsBody digest at bytes old (body_again at 0 rs old)
  again digest rs bytes of there sizes =
      let refs = refs_again at 0 rs old.refs in
      let it = again_kept owners at has old.blocks rs 0 old.refs s more (ap length (sym fresh)) there sizes in
      let is = first_bytes refs old.blocks (flat_map (piece old.blocks) rs) bytes of it in
      record { is = rebodied_same old refs old.blocks (rows_stay refs old.blocks bytes is); bytes = is; stored = it.stored; bodies = it.bodies; digests = λ d. d }

  pub body_copies : (digest : Octets → Octets) (source : Name) → AddsBody digest at (whole old.refs old.blocks source) old (body_copied source at old)
  body_copies digest source = again digest (placed old.refs source) (whole old.refs old.blocks source) (whole_is old.refs old.blocks source)
      (named_there old.refs old.blocks source s) (placed_measured (bodies_in old) old.refs old.blocks source b)

  pub bodies_join : (digest : Octets → Octets) (sources : List Name) → AddsBody digest at (flat_map (whole old.refs old.blocks) sources) old (bodies_joined sources at old)
  bodies_join digest sources = again digest (flat_map (placed old.refs) sources) (flat_map (whole old.refs old.blocks) sources) (bytes_of sources) (all_there sources) (all_sizes sources)
    where
      all_there : (qs : List Name) → AreThere old.blocks (flat_map (placed old.refs) qs)
      all_there [] = tt
      all_there (q ∷ qs) = all-append _ (placed old.refs q) (flat_map (placed old.refs) qs) (named_there old.refs old.blocks q s) (all_there qs)

      all_sizes : (qs : List Name) → AllByRecursion (λ (r : RefRow). r.size ≡ length (piece old.blocks r)) (flat_map (placed old.refs) qs)
      all_sizes [] = tt
      all_sizes (q ∷ qs) = all-append _ (placed old.refs q) (flat_map (placed old.refs) qs) (placed_measured (bodies_in old) old.refs old.blocks q b) (all_sizes qs)

      bytes_of : (qs : List Name) → flat_map (piece old.blocks) (flat_map (placed old.refs) qs) ≡ flat_map (whole old.refs old.blocks) qs
      bytes_of [] = refl
      bytes_of (q ∷ qs) = flat_map-append (piece old.blocks) (placed old.refs q) (flat_map (placed old.refs) qs) ∙ ap₂ ◌++◌ (whole_is old.refs old.blocks q) (bytes_of qs)
