-- A body that is cut as it comes.
use Rattle.std.proofs.Common.{◌≡◌, ◌≢◌, ℕ, zero, suc, ◌+◌, ◌-◌, ◌≤◌, ◌<◌, [], ◌∷◌, ◌++◌, take, drop, length, length-take-le, length-append, refl, sym, ap, ap₂, subst, ◌∙◌, arith, append_assoc, append-nil, take-append-drop, take_at, drop_at}
use Rattle.std.proofs.lemmas.List.{take_all, drop_all}
use Rattle.bh_tables.specs.Schema.{Octets}
use Rattle.bh_tables.specs.Typed.{Tables, rebodied}
use Rattle.bh_tables.specs.Shown.{Name}
use Rattle.bh_view.specs.Blocks.{AreDigests}
use Rattle.bh_view.specs.Bodies.{IsResolved, pieces, body_stored, AddsBody}
use Rattle.bh_view.proofs.StoringLemmas.{pieces_next}
use Rattle.bh_view.proofs.BodyChanges.{body_stores}
use Rattle.bh_blocks.specs.Added.{IsNewBody}
use Rattle.bh_blocks.specs.Drafts.{Goes, drafted}
use Rattle.bh_blocks.specs.declared.drafts.Draft.{Draft}
use Rattle.bh_blocks.proofs.BodySteps.{stored_next}

-- ---- pieces

some_first : (x : ℕ) (xs : Octets) → x ∷ xs ≢ []
some_first x xs e = let z = ap length e in omega (arith, z)

-- a block, and what comes after it
block_next : (size : ℕ) (block more : Octets) → 1 ≤ size → length block ≡ size → pieces size (block ++ more) ≡ block ∷ pieces size more
block_next size [] more low is = absurd (omega (arith, low, is))
block_next size (x ∷ xs) more low is =
    pieces_next size ((x ∷ xs) ++ more) low (some_first x (xs ++ more))
    ∙ ap₂ (λ p m. p ∷ pieces size m) (take_at (x ∷ xs) more size is) (drop_at (x ∷ xs) more size is)

-- fewer bytes than a block has
last_piece : (size : ℕ) (bytes : Octets) → 1 ≤ size → bytes ≢ [] → length bytes ≤ size → pieces size bytes ≡ bytes ∷ []
last_piece size bytes low some short =
    pieces_next size bytes low some
    ∙ ap₂ (λ p m. p ∷ pieces size m) (take_all size bytes short) (drop_all size bytes short)

pub ended : (xs : Octets) → length xs ≡ 0 → xs ≡ []
ended [] e = refl
ended (x ∷ xs) e = absurd (omega (arith, e))

pub not_nil : (xs : Octets) → (length xs ≡ 0 → ⊥) → xs ≢ []
not_nil xs h e = h (ap length e)

length_take_most : (n : ℕ) (xs : Octets) → length (take n xs) ≤ n
length_take_most zero [] = omega arith
length_take_most zero (x ∷ xs) = omega arith
length_take_most (suc n) [] = omega arith
length_take_most (suc n) (x ∷ xs) = let h = length_take_most n xs in omega (arith, h)

-- fewer bytes than were asked for are all
take_short : (n : ℕ) (xs : Octets) → length (take n xs) < n → take n xs ≡ xs
take_short zero xs h = absurd (omega (arith, h))
take_short (suc n) [] h = refl
take_short (suc n) (x ∷ xs) h = ap (λ l. x ∷ l) (take_short n xs (omega (arith, h)))

module _ (digest : Octets → Octets) (at : Name) where
  -- ---- a block is stored

  -- the rest follows it
  whole_next : (size place : ℕ) (block rest more : Octets) (old new : Tables) → 1 ≤ size → length block ≡ size → new ≡ body_stored digest at place (block ∷ []) old
      → body_stored digest at (place + 1) (pieces size (rest ++ more)) new ≡ body_stored digest at place (pieces size ((block ++ rest) ++ more)) old
  whole_next size place block rest more old new low long is =
      stored_next digest at place block (pieces size (rest ++ more)) old new is
      ∙ sym (ap (λ l. body_stored digest at place l old) (ap (pieces size) (append_assoc block rest more) ∙ block_next size block (rest ++ more) low long))

  -- the same of the bytes that the block was cut from
  pub whole_cut : (size place : ℕ) (bytes block rest more : Octets) (old new : Tables) → 1 ≤ size → size ≤ length bytes → block ≡ take size bytes → rest ≡ drop size bytes → new ≡ body_stored digest at place (block ∷ []) old
      → body_stored digest at (place + 1) (pieces size (rest ++ more)) new ≡ body_stored digest at place (pieces size (bytes ++ more)) old
  whole_cut size place bytes block rest more old new low long front back is =
      whole_next size place block rest more old new low (ap length front ∙ length-take-le size bytes long) is
      ∙ ap (λ b. body_stored digest at place (pieces size (b ++ more)) old) (ap₂ (λ a b. a ++ b) front back ∙ take-append-drop size bytes)

  -- with bytes that make what waits a block
  pub filled : (size place : ℕ) (waiting bytes front rest full more : Octets) (old new : Tables) → 1 ≤ size → length waiting < size → front ≡ take (size - length waiting) bytes → rest ≡ drop (size - length waiting) bytes
      → full ≡ waiting ++ front → size ≤ length full → new ≡ body_stored digest at place (full ∷ []) old
      → body_stored digest at (place + 1) (pieces size (rest ++ more)) new ≡ body_stored digest at place (pieces size ((waiting ++ bytes) ++ more)) old
  filled size place waiting bytes front rest full more old new low short front_is rest_is full_is long is =
      let most = length_take_most (size - length waiting) bytes in
      let e = ap length full_is ∙ length-append waiting front in
      let f = ap length front_is in
      whole_next size place full rest more old new low (omega (arith, most, e, f, long, short)) is
      ∙ ap (λ b. body_stored digest at place (pieces size (b ++ more)) old)
      (ap (λ b. b ++ rest) full_is ∙ append_assoc waiting front rest ∙ ap (λ b. waiting ++ b) (ap₂ (λ a b. a ++ b) front_is rest_is ∙ take-append-drop (size - length waiting) bytes))

  -- nothing was stored: more bytes wait
  pub waits : (size place : ℕ) (waiting bytes front full : Octets) (now : Tables) → front ≡ take (size - length waiting) bytes → full ≡ waiting ++ front → length waiting < size → length full < size → (more : Octets)
      → body_stored digest at place (pieces size (full ++ more)) now ≡ body_stored digest at place (pieces size ((waiting ++ bytes) ++ more)) now
  waits size place waiting bytes front full now front_is full_is short less more =
      ap (λ b. body_stored digest at place (pieces size (b ++ more)) now) (full_is ∙ ap (λ b. waiting ++ b) (front_is ∙ take_short (size - length waiting) bytes few))
    where
      few : length (take (size - length waiting) bytes) < size - length waiting
      few = let e = ap length full_is ∙ length-append waiting front in let f = ap length front_is in omega (arith, e, f, short, less)

  -- nothing waited
  pub none_waits : (size place next : ℕ) (waiting bytes left : Octets) (now then : Tables) → waiting ≡ []
      → ((more : Octets) → body_stored digest at next (pieces size (left ++ more)) then ≡ body_stored digest at place (pieces size (bytes ++ more)) now)
      → (more : Octets) → body_stored digest at next (pieces size (left ++ more)) then ≡ body_stored digest at place (pieces size ((waiting ++ bytes) ++ more)) now
  none_waits size place next waiting bytes left now then none step more = step more ∙ sym (ap (λ w. body_stored digest at place (pieces size ((w ++ bytes) ++ more)) now) none)

  -- a whole block is added, and nothing waits
  pub whole_added : (size place : ℕ) (waiting block : Octets) (old new : Tables) → 1 ≤ size → length block ≡ size → waiting ≡ [] → new ≡ body_stored digest at place (block ∷ []) old
      → (more : Octets) → body_stored digest at (place + 1) (pieces size (waiting ++ more)) new ≡ body_stored digest at place (pieces size ((waiting ++ block) ++ more)) old
  whole_added size place waiting block old new low long none is =
      none_waits size place (place + 1) waiting block waiting old new none
      (λ more. whole_cut size place block block waiting more old new low (omega (arith, long)) (sym (take_all size block (omega (arith, long)))) (none ∙ sym (drop_all size block (omega (arith, long)))) is)

-- ---- drafts

-- what was pushed goes on
pub goes_on : (digest : Octets → Octets) (draft new : Draft) (piece : Octets) (now then : Tables) → drafted new ≡ drafted draft → new.size ≡ draft.size
    → ((more : Octets) → body_stored digest (drafted draft) new.place (pieces draft.size (new.waiting.items ++ more)) then ≡ body_stored digest (drafted draft) draft.place (pieces draft.size ((draft.waiting.items ++ piece) ++ more)) now)
    → (given : Octets) (start : Tables) → Goes digest draft now given start → Goes digest new then (given ++ piece) start
goes_on digest draft new piece now then of size step given start goes more =
    (λ i. body_stored digest (of i) new.place (pieces (size i) (new.waiting.items ++ more)) then)
    ∙ step more
    ∙ ap (λ l. body_stored digest (drafted draft) draft.place (pieces draft.size l) now) (append_assoc draft.waiting.items piece more)
    ∙ goes (piece ++ more)
    ∙ sym (ap (λ l. body_stored digest (drafted draft) 0 (pieces draft.size l) start) (append_assoc given piece more))
    ∙ sym (λ i. body_stored digest (of i) 0 (pieces (size i) ((given ++ piece) ++ more)) start)

-- nothing was given yet
pub begins : (digest : Octets → Octets) (draft : Draft) (now : Tables) → draft.place ≡ 0 → draft.waiting.items ≡ [] → Goes digest draft now [] now
begins digest draft now first none more = ap₂ (λ p w. body_stored digest (drafted draft) p (pieces draft.size (w ++ more)) now) first none

-- all has come, and nothing waits
pub ends_empty : (digest : Octets → Octets) (draft : Draft) (given : Octets) (now start : Tables) → rebodied now now.refs now.blocks ≡ now → draft.waiting.items ≡ [] → Goes digest draft now given start
    → now ≡ body_stored digest (drafted draft) 0 (pieces draft.size given) start
ends_empty digest draft given now start own none goes =
    sym own
    ∙ sym (ap (λ l. body_stored digest (drafted draft) draft.place (pieces draft.size l) now) (ap (λ w. w ++ []) none))
    ∙ goes []
    ∙ ap (λ l. body_stored digest (drafted draft) 0 (pieces draft.size l) start) (append-nil given)

-- all has come, and what waits is stored
pub ends_last : (digest : Octets → Octets) (draft : Draft) (given : Octets) (now then start : Tables) → 1 ≤ draft.size → draft.waiting.items ≢ [] → length draft.waiting.items < draft.size
    → then ≡ body_stored digest (drafted draft) draft.place (draft.waiting.items ∷ []) now → Goes digest draft now given start
    → then ≡ body_stored digest (drafted draft) 0 (pieces draft.size given) start
ends_last digest draft given now then start low some short is goes =
    is
    ∙ sym (ap (λ l. body_stored digest (drafted draft) draft.place l now) (ap (pieces draft.size) (append-nil draft.waiting.items) ∙ last_piece draft.size draft.waiting.items low some (omega (arith, short))))
    ∙ goes []
    ∙ ap (λ l. body_stored digest (drafted draft) 0 (pieces draft.size l) start) (append-nil given)

-- a body that is stored is added to those that are there
pub whole_adds : (digest : Octets → Octets) (at : Name) (size : ℕ) (given : Octets) (start now : Tables) → 1 ≤ size → now ≡ body_stored digest at 0 (pieces size given) start
    → IsResolved start → AreDigests digest start.blocks → IsNewBody at start → AddsBody digest at given start now
whole_adds digest at size given start now low is resolved digests fresh =
    subst (AddsBody digest at given start) (sym is) (body_stores start at resolved fresh.stored fresh.bodies fresh.unnamed digest size given low digests)
