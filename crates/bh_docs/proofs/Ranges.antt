-- Parts in their ranges, one after another.
use Rattle.std.proofs.Common.{◌≡◌, ℕ, List, [], ◌∷◌, ◌++◌, Option, Result, Ok, Err, refl, sym, ap, append_assoc}
use Rattle.bh_types.specs.Outcomes.{◌>>=◌}
use Rattle.bh_types.specs.declared.refusal.Refusal.{Refusal}
use Rattle.bh_docs.specs.Requests.{in_range, in_ranges}
use Rattle.bh_docs.specs.Shapes.{Part}

joined : (before : List (ℕ × Option (List ℕ))) (n : ℕ × Option (List ℕ)) (rest : Result (List (ℕ × Option (List ℕ))) Refusal)
    → ((rest >>= (λ others. Ok (n ∷ others))) >>= (λ others. Ok (before ++ others))) ≡ (rest >>= (λ others. Ok ((before ++ n ∷ []) ++ others)))
joined before n (Ok others) = ap Ok (sym (append_assoc before (n ∷ []) others))
joined before n (Err refusal) = refl

-- a part in its range joins those before it
pub in_ranges-more : (before : List (ℕ × Option (List ℕ))) (p : Part) (rest : List Part) (n : ℕ × Option (List ℕ)) → in_range p ≡ Ok n
    → (in_ranges (p ∷ rest) >>= (λ others. Ok (before ++ others))) ≡ (in_ranges rest >>= (λ others. Ok ((before ++ n ∷ []) ++ others)))
in_ranges-more before p rest n e = rw e (joined before n (in_ranges rest))

-- a part out of its range refuses all
pub in_ranges-refused : (before : List (ℕ × Option (List ℕ))) (p : Part) (rest : List Part) (refusal : Refusal) → in_range p ≡ Err refusal
    → (in_ranges (p ∷ rest) >>= (λ others. Ok (before ++ others))) ≡ Err refusal
in_ranges-refused before p rest refusal e = rw e refl
