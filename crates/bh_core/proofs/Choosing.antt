-- Places that are found one after another.
use Rattle.std.proofs.Common.{◌≡◌, ℕ, suc, ◌+◌, ◌<◌, List, [], ◌∷◌, ◌++◌, map, length, drop, get_or, drop-cons, add-one, append_assoc, Result, Ok, Err, refl, sym, ap, ◌∙◌}
use Rattle.bh_types.specs.declared.refusal.Refusal.{Refusal}
use Rattle.bh_types.specs.declared.wanted.Named.{Named}
use Rattle.bh_types.specs.Outcomes.{◌>>=◌}
use Rattle.bh_model.specs.Shown.{naming_of}
use Rattle.bh_core.specs.declared.parts.PartRow.{PartRow}
use Rattle.bh_core.specs.Completions.{chosen_place, chosen_places}

-- places that are known already, and then those of the names from one on
abbrev pub continued : List PartRow → List Named → ℕ → List ℕ → Result (List ℕ) Refusal
continued rows names i places = do
  rest ← chosen_places rows (map naming_of (drop i names))
  Ok (places ++ rest)

at_start : {E : Type 0} (r : Result (List ℕ) E) → r ≡ r >>= (λ rest. Ok ([] ++ rest))
at_start (Ok rest) = refl
at_start (Err e) = refl

pub starts : (rows : List PartRow) (names : List Named) → chosen_places rows (map naming_of names) ≡ continued rows names 0 []
starts rows names = at_start (chosen_places rows (map naming_of names))

one_more : {E : Type 0} (places : List ℕ) (at : ℕ) (r : Result (List ℕ) E)
    → (r >>= (λ rest. Ok (at ∷ rest))) >>= (λ rest. Ok (places ++ rest)) ≡ r >>= (λ rest. Ok ((places ++ at ∷ []) ++ rest))
one_more places at (Ok rest) = ap Ok (sym (append_assoc places (at ∷ []) rest))
one_more places at (Err e) = refl

module _ (rows : List PartRow) (names : List Named) (i : ℕ) (places : List ℕ) (name : Named) (within : i < length names) (is : name ≡ get_or names i name) where
  next : drop i names ≡ name ∷ drop (i + 1) names
  next = drop-cons names i name within ∙ ap (λ n. n ∷ drop (suc i) names) (sym is) ∙ ap (λ k. name ∷ drop k names) (sym (add-one i))

  abbrev rest_after : Result ℕ Refusal → Result (List ℕ) Refusal
  rest_after place = do
    at ← place
    rest ← chosen_places rows (map naming_of (drop (i + 1) names))
    Ok (at ∷ rest)

  abbrev after : Result ℕ Refusal → Result (List ℕ) Refusal
  after place = rest_after place >>= (λ rest. Ok (places ++ rest))

  first : continued rows names i places ≡ after (chosen_place rows (naming_of name))
  first = ap (λ l. chosen_places rows (map naming_of l) >>= (λ rest. Ok (places ++ rest))) next

  pub continues : (at : ℕ) → chosen_place rows (naming_of name) ≡ Ok at → continued rows names i places ≡ continued rows names (i + 1) (places ++ at ∷ [])
  continues at found = first ∙ ap after found ∙ one_more places at (chosen_places rows (map naming_of (drop (i + 1) names)))

  pub stops : (e : Refusal) → chosen_place rows (naming_of name) ≡ Err e → continued rows names i places ≡ Err e
  stops e refused = first ∙ ap after refused
