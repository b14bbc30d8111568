-- A line that tells a list: how many there are, and then each.
use Rattle.std.proofs.Common.{arith, ◌≡◌, ◌<◌, ℕ, List, ◌++◌, length, map, take, flat_map, sym, ap, ap₂, ◌∙◌}
use Rattle.std.specs.Fmt.{decimal}
use Rattle.std.proofs.lemmas.List.{append_assoc, length-map, take_all}
use Rattle.std.proofs.lemmas.List.Folds.{flat_map-map}
use Rattle.bh_model.specs.State.{Octets}

-- once all are in the line, it tells them
pub all_told : {X Y : Type 0} (head : Octets) (view : X → Y) (word : Y → Octets) (xs : List X) (i : ℕ) (line : Octets) → (i < length xs → ⊥) → line ≡ (head ++ decimal (length xs)) ++ flat_map (λ x. word (view x)) (take i xs)
    → line ≡ head ++ (decimal (length (map view xs)) ++ flat_map word (map view xs))
all_told head view word xs i line end is =
    is
    ∙ ap (λ l. (head ++ decimal (length xs)) ++ flat_map (λ x. word (view x)) l) (take_all i xs (omega (arith, end)))
    ∙ append_assoc head (decimal (length xs)) (flat_map (λ x. word (view x)) xs)
    ∙ ap₂ (λ n l. head ++ (decimal n ++ l)) (sym (length-map xs view)) (sym (flat_map-map word view xs))
