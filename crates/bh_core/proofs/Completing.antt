-- What an upload's rows say of its completion is what the machine says of its parts.
use Rattle.std.proofs.Common.{◌≡◌, ℕ, ◌-◌, ◌<◌, nat_le, Bool, true, false, ◌&&◌, ◌||◌, cond, List, [], ◌∷◌, map, length, take, get_or, bytes_eq, Option, Some, None, ok_or, Result, Ok, Err, refl, sym, ap, subst, ◌∙◌, nat_cmp}
use Rattle.std.specs.Prelude.{position, slice_get, option_and_then}
use Rattle.std.specs.List.{All, find, list_all, list_any, filter_map, take-map}
use Rattle.std.specs.String.{string_bytes}
use Rattle.std.specs.FinMap.{FinMap, get}
use Rattle.std.proofs.lemmas.Bool.{eqb-true}
use Rattle.std.proofs.lemmas.Option.{none-some, slice_get-get_or, get_or_from_slice_get, slice_get_within}
use Rattle.std.proofs.lemmas.List.{length-map}
use Rattle.std.proofs.lemmas.List.Elements.{All-get_or}
use Rattle.std.proofs.lemmas.List.Quantifiers.{position-Some}
use Rattle.bh_types.specs.declared.refusal.Refusal.{Refusal}
use Rattle.bh_types.specs.declared.refusal.Refusal.TheVariants.{InvalidPartOrder, InvalidPart, EntityTooSmall}
use Rattle.bh_types.specs.Outcomes.{◌>>=◌, require}
use Rattle.bh_types.specs.Checksums.{checksum_text}
use Rattle.bh_model.specs.State.{Octets, Part}
use Rattle.bh_model.specs.Parts.{Naming, ascends, is_checksum, choice, chosen, joined}
use Rattle.bh_model.specs.Parts as machine
use Rattle.bh_core.specs.declared.parts.PartRow.{PartRow}
use Rattle.bh_core.specs.Completions.{is_numbered, place_of, has_sum, has_sum_at, chosen_place, chosen_places, is_large, are_large, TellParts, IsRowOf, part_at, joined_at, CompleteIsJoined}
use Rattle.bh_core.proofs.Finding.{at_position}

none_any : {X : Type 0} (p : X → Bool) (xs : List X) → find p xs ≡ None → list_any p xs ≡ false
none_any p [] h = refl
none_any p (x ∷ xs) h = elim (p x) as (λ b. cond b (Some x) (find p xs) ≡ None → (b || list_any p xs) ≡ false) [
  | true ↦ λ h. absurd (none-some x (sym h))
  | false ↦ λ h. none_any p xs h
] h

nowhere_any : {X : Type 0} (p : X → Bool) (xs : List X) → position p xs ≡ None → list_any p xs ≡ false
nowhere_any p xs h = none_any p xs (sym (at_position p xs) ∙ ap (option_and_then (slice_get xs)) h)

-- what holds of each row holds of the one at a place
all_at : {X : Type 0} (P : X → Type 0) (xs : List X) (at : ℕ) (x : X) → All P xs → slice_get xs at ≡ Some x → P x
all_at P xs at x h e = subst P (get_or_from_slice_get xs at x x e) (All-get_or P xs at x (slice_get_within xs at x e) h)

-- a row of this number stands at a place
abbrev IsNumberedAt : List PartRow → ℕ → ℕ → Type 0
IsNumberedAt rows number at = (row : PartRow) × (slice_get rows at ≡ Some row) × (row.number ≡ number)

module _ (number : ℕ) (rows : List PartRow) (d : PartRow) where
  numbered_at : (at : ℕ) → at < length rows → is_numbered number (get_or rows at d) ≡ true → IsNumberedAt rows number at
  numbered_at at within h = (get_or rows at d, slice_get-get_or rows at d within, eqb-true _ number h)

  first_at : (at : ℕ) → position (is_numbered number) rows ≡ Some at → IsNumberedAt rows number at
  first_at at h = let found = position-Some (is_numbered number) rows at d h in numbered_at at found.0 found.1

found_at : (number : ℕ) (rows : List PartRow) (at : ℕ) → place_of rows number ≡ Some at → IsNumberedAt rows number at
found_at number [] at h = absurd (none-some at h)
found_at number (row ∷ rows) at h = first_at number (row ∷ rows) row at h

-- two outcomes are those of the same case
abbrev Same : {A B : Type 0} → (A → B → Type 0) → Result A Refusal → Result B Refusal → Type 0
Same R (Ok a) (Ok b) = R a b
Same R (Err e) (Err f) = e ≡ f
Same R (Ok a) (Err f) = ⊥
Same R (Err e) (Ok b) = ⊥

module _ (rows : List PartRow) (parts : FinMap nat_cmp Part) where
  abbrev IsPartAt : ℕ → Part → Type 0
  IsPartAt at p = (part_at rows parts at ≡ Some p) × ((least : ℕ) → is_large least rows at ≡ nat_le least (length p.bytes))

  abbrev ArePartsAt : List ℕ → List Part → Type 0
  ArePartsAt places ps = (filter_map (part_at rows parts) places ≡ ps) × ((least : ℕ) → map (is_large least rows) places ≡ map (λ p. nat_le least (length p.bytes)) ps)

  module _ (told : TellParts rows parts) where
    if_sum : (at : ℕ) (p : Part) (b : Bool) → IsPartAt at p
        → Same IsPartAt (require b InvalidPart >>= (λ _. Ok at)) (ok_or (cond b (Some p) None) InvalidPart)
    if_sum at p true h = h
    if_sum at p false h = refl

    same_sum : (row : PartRow) (p : Part) (given : Option Octets) → string_bytes row.sum ≡ checksum_text p.bytes → is_checksum given p.bytes ≡ has_sum row given
    same_sum row p None h = refl
    same_sum row p (Some given) h = ap (bytes_eq given) (sym h)

    at_row : (n : Naming) (at : ℕ) (row : PartRow) (p : Part) → slice_get rows at ≡ Some row → row.number ≡ n.number → get parts row.number ≡ Some p → IsRowOf p row
        → Same IsPartAt (require (has_sum_at rows n.checksum at) InvalidPart >>= (λ _. Ok at)) (choice parts n)
    at_row n at row p there number is_part of =
        rw (there, sym (ap (get parts) number) ∙ is_part, same_sum row p n.checksum of.1)
        (if_sum at p (has_sum row n.checksum) (rw there is_part, λ least. rw (there) (ap (nat_le least) of.0)))

    at_place : (n : Naming) (place : Option ℕ) → place_of rows n.number ≡ place
        → Same IsPartAt (ok_or place InvalidPart >>= (λ at. require (has_sum_at rows n.checksum at) InvalidPart >>= (λ _. Ok at))) (choice parts n)
    at_place n None h = rw (told.no_other n.number (nowhere_any (is_numbered n.number) rows h)) refl
    at_place n (Some at) h =
        let found = found_at n.number rows at h in
        let part = all_at (λ row. (p : Part) × (get parts row.number ≡ Some p) × IsRowOf p row) rows at found.0 told.tells found.1 in
        at_row n at found.0 part.0 found.1 found.2 part.1 part.2

    place_alike : (n : Naming) → Same IsPartAt (chosen_place rows n) (choice parts n)
    place_alike n = at_place n (place_of rows n.number) refl

    joined_alike : (at : ℕ) (p : Part) (places : Result (List ℕ) Refusal) (ps : Result (List Part) Refusal) → IsPartAt at p → Same ArePartsAt places ps
        → Same ArePartsAt (places >>= (λ rest. Ok (at ∷ rest))) (ps >>= (λ ps. Ok (p ∷ ps)))
    joined_alike at p (Ok places) (Ok ps) h k =
        (rw (h.0) (ap (λ l. p ∷ l) k.0), λ least. rw (h.1 least, k.1 least) refl)
    joined_alike at p (Err e) (Err f) h k = k
    joined_alike at p (Ok places) (Err f) h k = absurd k
    joined_alike at p (Err e) (Ok ps) h k = absurd k

    cons_alike : (place : Result ℕ Refusal) (p : Result Part Refusal) (places : ℕ → Result (List ℕ) Refusal) (ps : Result (List Part) Refusal) → Same IsPartAt place p
        → ((at : ℕ) → Same ArePartsAt (places at) ps)
        → Same ArePartsAt (place >>= (λ at. places at >>= (λ rest. Ok (at ∷ rest)))) (p >>= (λ p. ps >>= (λ ps. Ok (p ∷ ps))))
    cons_alike (Ok at) (Ok p) places ps h k = joined_alike at p (places at) ps h (k at)
    cons_alike (Err e) (Err f) places ps h k = h
    cons_alike (Ok at) (Err f) places ps h k = absurd h
    cons_alike (Err e) (Ok p) places ps h k = absurd h

    places_alike : (names : List Naming) → Same ArePartsAt (chosen_places rows names) (chosen parts names)
    places_alike [] = (refl, λ least. refl)
    places_alike (n ∷ names) = cons_alike (chosen_place rows n) (choice parts n) (λ at. chosen_places rows names) (chosen parts names) (place_alike n) (λ at. places_alike names)

  all_tested : {X : Type 0} (test : X → Bool) (xs : List X) → list_all test xs ≡ list_all (λ b. b) (map test xs)
  all_tested test [] = refl
  all_tested test (x ∷ xs) = ap (λ b. test x && b) (all_tested test xs)

  but_last : {X : Type 0} (test : X → Bool) (xs : List X) → list_all test (take (length xs - 1) xs) ≡ list_all (λ b. b) (take (length (map test xs) - 1) (map test xs))
  but_last test xs = all_tested test (take (length xs - 1) xs) ∙ ap (list_all (λ b. b)) (sym (take-map test (length xs - 1) xs) ∙ ap (λ n. take (n - 1) (map test xs)) (sym (length-map xs test)))

  large_alike : (least : ℕ) (places : List ℕ) (ps : List Part) → ArePartsAt places ps → machine.are_large least ps ≡ are_large least rows places
  large_alike least places ps h =
      but_last (λ p. nat_le least (length p.bytes)) ps
      ∙ ap (λ bs. list_all (λ b. b) (take (length bs - 1) bs)) (sym (h.1 least))
      ∙ sym (but_last (is_large least rows) places)

  if_large : (b : Bool) (places : List ℕ) (ps : List Part) → filter_map (part_at rows parts) places ≡ ps
      → (require b EntityTooSmall >>= (λ _. Ok (joined ps))) ≡ ((require b EntityTooSmall >>= (λ _. Ok places)) >>= (λ places. Ok (joined_at rows parts places)))
  if_large true places ps h = ap (λ ps. Ok (joined ps)) (sym h)
  if_large false places ps h = refl

  last_alike : (least : ℕ) (places : Result (List ℕ) Refusal) (ps : Result (List Part) Refusal) → Same ArePartsAt places ps
      → (ps >>= (λ ps. require (machine.are_large least ps) EntityTooSmall >>= (λ _. Ok (joined ps))))
      ≡ ((places >>= (λ places. require (are_large least rows places) EntityTooSmall >>= (λ _. Ok places))) >>= (λ places. Ok (joined_at rows parts places)))
  last_alike least (Ok places) (Ok ps) h =
      ap (λ b. require b EntityTooSmall >>= (λ _. Ok (joined ps))) (large_alike least places ps h) ∙ if_large (are_large least rows places) places ps h.0
  last_alike least (Err e) (Err f) h = ap Err (sym h)
  last_alike least (Ok places) (Err f) h = absurd h
  last_alike least (Err e) (Ok ps) h = absurd h

in_order_alike : {A B : Type 0} (b : Bool) (e : Refusal) (ps : Result B Refusal) (places : Result A Refusal) (view : A → B) → ps ≡ (places >>= (λ places. Ok (view places)))
    → (require b e >>= (λ _. ps)) ≡ ((require b e >>= (λ _. places)) >>= (λ places. Ok (view places)))
in_order_alike true e ps places view h = h
in_order_alike false e ps places view h = refl

pub complete_is_joined : CompleteIsJoined
complete_is_joined least rows parts names told =
    in_order_alike (ascends (map (λ n. n.number) names)) InvalidPartOrder _ _ (joined_at rows parts)
    (last_alike rows parts least (chosen_places rows names) (chosen parts names) (places_alike rows parts told names))
