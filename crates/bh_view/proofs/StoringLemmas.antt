-- References that are added to a body, of pieces that are stored or of blocks that are there: its bytes grow, all others stay.
use Rattle.std.proofs.Common.{◌≡◌, ◌≢◌, ℕ, zero, suc, ◌+◌, ◌≤◌, true, List, [], ◌∷◌, ◌++◌, flat_map, take, drop, length, refl, sym, ap, ◌∙◌, Option, None, Some, option_map, arith, append_assoc, append-nil, take-append-drop, length-drop}
use Rattle.std.specs.List.{AllByRecursion, list_any}
use Rattle.std.specs.Option.{option_map_or}
use Rattle.bh_model.specs.State.{Octets}
use Rattle.bh_tables.specs.Typed.{BlockRow, RefRow}
use Rattle.bh_tables.specs.Shown.{Name, same_name, body_name}
use Rattle.bh_view.specs.Grouped.{matching}
use Rattle.bh_view.specs.Blocks.{row_at, whole, ord_for, blocks_with, AreStored, AreDigests}
use Rattle.bh_view.specs.Bodies.{AreBodies, set_body, pieces_in, pieces, ref_to, blocks_after, refs_after, refs_again}
use Rattle.bh_view.proofs.FilterLemmas.{none_some, same_Some}
use Rattle.bh_view.proofs.SetLemmas.{set_here, set_twice, set_same}
use Rattle.bh_view.proofs.WholeLemmas.{piece, AreThere}
use Rattle.bh_view.proofs.BodyLemmas.{bodies_agree, ref_more}
use Rattle.bh_view.proofs.BlockChanges.{block_kept}

-- ---- a block that holds bytes

held_bytes : (o : Option BlockRow) (c : Octets) → option_map (λ (b : BlockRow). b.bytes) o ≡ Some c → option_map_or (λ (b : BlockRow). b.bytes) o [] ≡ c
held_bytes None c h = absurd (none_some h)
held_bytes (Some b) c h = same_Some h

held_there : (o : Option BlockRow) (c : Octets) → option_map (λ (b : BlockRow). b.bytes) o ≡ Some c → o ≡ None → ⊥
held_there None c h none = none_some h
held_there (Some b) c h none = none_some (sym none)

-- ---- the body that grows

module _ (owners : List Name) (body : Name) (has : list_any (same_name body) owners ≡ true) where
  -- a body has these bytes more, on sound rows
  pub record IsLonger (refs : List RefRow) (blocks : List BlockRow) (more : Octets) (refs_now : List RefRow) (blocks_now : List BlockRow) : Type 0 where
    pub stored : AreStored refs_now blocks_now
    pub bodies : AreBodies owners refs_now blocks_now
    pub bytes : whole refs_now blocks_now ≡ set_body body (whole refs blocks body ++ more) (whole refs blocks)

  unchanged : (w : Name → Octets) → w ≡ set_body body (w body ++ []) w
  unchanged w = sym (set_same body w) ∙ ap (λ b. set_body body b w) (sym (append-nil (w body)))

  -- first one piece, then others
  then : (w now after : Name → Octets) (c more : Octets) → now ≡ set_body body (w body ++ c) w → after ≡ set_body body (now body ++ more) now → after ≡ set_body body (w body ++ (c ++ more)) w
  then w now after c more first next =
      next ∙ (λ i. set_body body (first i body ++ more) (first i)) ∙ set_twice body w (w body ++ c) (set_body body (w body ++ c) w body ++ more)
      ∙ ap (λ b. set_body body b w) (ap (λ b. b ++ more) (set_here body w (w body ++ c)) ∙ append_assoc (w body) c more)

  -- pieces are stored
  module _ (digest : Octets → Octets) where
    pub pieces_kept : (cs : List Octets) (place : ℕ) (refs : List RefRow) (blocks : List BlockRow) → AreStored refs blocks → AreBodies owners refs blocks → AreDigests digest blocks → place ≡ length (matching same_name body_name body refs)
        → IsLonger refs blocks (flat_map (λ c. c) cs) (refs_after digest body place cs blocks refs) (blocks_after digest cs blocks) × AreDigests digest (blocks_after digest cs blocks)
    pieces_kept [] place refs blocks s b d next = (record { stored = s; bodies = b; bytes = unchanged (whole refs blocks) }, d)
    pieces_kept (c ∷ cs) place refs blocks s b d next =
        let it = block_kept digest refs blocks s d c in
        let r = ref_to digest body place c blocks in
        let now = blocks_with (digest c) c blocks in
        let row = row_at now (digest c, ord_for (digest c) c blocks) in
        let is : piece now r ≡ c = held_bytes row c it.held in
        let grown = ref_more owners refs now r it.stored (bodies_agree owners refs now blocks it.agree b) next (held_there row c it.held) (ap length (sym is)) has in
        let rest = pieces_kept cs (place + 1) (refs ++ r ∷ []) now grown.stored grown.bodies it.digests grown.count in
        let added : whole (refs ++ r ∷ []) now ≡ set_body body (whole refs blocks body ++ c) (whole refs blocks) = grown.bytes ∙ (λ i. set_body body (it.bodies i body ++ is i) (it.bodies i)) in
        (record { stored = rest.0.stored; bodies = rest.0.bodies; bytes = then (whole refs blocks) _ _ c (flat_map (λ c. c) cs) added rest.0.bytes }, rest.1)

  -- references to blocks that are there
  module _ (blocks : List BlockRow) where
    pub again_kept : (rs : List RefRow) (place : ℕ) (refs : List RefRow) → AreStored refs blocks → AreBodies owners refs blocks → place ≡ length (matching same_name body_name body refs)
        → AreThere blocks rs → AllByRecursion (λ (r : RefRow). r.size ≡ length (piece blocks r)) rs → IsLonger refs blocks (flat_map (piece blocks) rs) (refs_again body place rs refs) blocks
    again_kept [] place refs s b next there sizes = record { stored = s; bodies = b; bytes = unchanged (whole refs blocks) }
    again_kept (x ∷ xs) place refs s b next there sizes =
        let r : RefRow = record x { tenant = body.0; body = body.1; place = place } in
        let grown = ref_more owners refs blocks r s b next there.0 sizes.0 has in
        let rest = again_kept xs (place + 1) (refs ++ r ∷ []) grown.stored grown.bodies grown.count there.1 sizes.1 in
        record { stored = rest.stored; bodies = rest.bodies; bytes = then (whole refs blocks) _ _ (piece blocks x) (flat_map (piece blocks) xs) grown.bytes rest.bytes }

-- ---- the pieces of a body

shorter : (size x : ℕ) (xs : Octets) (most : ℕ) → 1 ≤ size → length (x ∷ xs) ≤ suc most → length (drop size (x ∷ xs)) ≤ most
shorter size x xs most low h = let e = length-drop size (x ∷ xs) in omega (arith, e, low, h)

pieces_enough : (size most more : ℕ) (xs : Octets) → 1 ≤ size → length xs ≤ most → length xs ≤ more → pieces_in most size xs ≡ pieces_in more size xs
pieces_enough size zero zero xs low a b = refl
pieces_enough size zero (suc more) [] low a b = refl
pieces_enough size zero (suc more) (x ∷ xs) low a b = absurd (omega (arith, a))
pieces_enough size (suc most) zero [] low a b = refl
pieces_enough size (suc most) zero (x ∷ xs) low a b = absurd (omega (arith, b))
pieces_enough size (suc most) (suc more) [] low a b = refl
pieces_enough size (suc most) (suc more) (x ∷ xs) low a b = ap (λ l. take size (x ∷ xs) ∷ l) (pieces_enough size most more (drop size (x ∷ xs)) low (shorter size x xs most low a) (shorter size x xs more low b))

-- the first, and those of the rest
pub pieces_next : (size : ℕ) (xs : Octets) → 1 ≤ size → xs ≢ [] → pieces size xs ≡ take size xs ∷ pieces size (drop size xs)
pieces_next size [] low some = absurd (some refl)
pieces_next size (x ∷ xs) low some = ap (λ l. take size (x ∷ xs) ∷ l) (pieces_enough size (length xs) (length (drop size (x ∷ xs))) (drop size (x ∷ xs)) low (shorter size x xs (length xs) low (omega arith)) (omega arith))

joined_in : (most size : ℕ) (xs : Octets) → 1 ≤ size → length xs ≤ most → flat_map (λ c. c) (pieces_in most size xs) ≡ xs
joined_in zero size [] low h = refl
joined_in zero size (x ∷ xs) low h = absurd (omega (arith, h))
joined_in (suc most) size [] low h = refl
joined_in (suc most) size (x ∷ xs) low h = ap (λ l. take size (x ∷ xs) ++ l) (joined_in most size (drop size (x ∷ xs)) low (shorter size x xs most low h)) ∙ take-append-drop size (x ∷ xs)

-- they make the whole
pub pieces_joined : (size : ℕ) (xs : Octets) → 1 ≤ size → flat_map (λ c. c) (pieces size xs) ≡ xs
pieces_joined size xs low = joined_in (length xs) size xs low (omega arith)
