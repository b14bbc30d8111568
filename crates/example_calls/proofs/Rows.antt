-- Rows of examples: what a definition gives, and what it is to give.
use Rattle.std.proofs.Common.{◌≡◌, List, map}

-- so it is in each row
abbrev pub Holds : {A : Type 0} → List (A × A) → Type 0
Holds rows = map (λ row. row.0) rows ≡ map (λ row. row.1) rows
