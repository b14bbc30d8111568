-- References in the order of their places.
use Rattle.std.specs.Prelude.{◌≡◌, ℕ, ◌+◌, if◌then◌else◌, List, [], ◌∷◌}
use Rattle.sqlite.specs.Order.{Row}
use Rattle.bh_tables.specs.Bodies.{Name, same_name}
use Rattle.bh_check.specs.Holds.{first_two, number_at}

-- each is at the place that counts its body's earlier references, starting from these numbers
abbrev pub IsPlaced : (Name → ℕ) → List Row → Type 0
IsPlaced of [] = Unit {0}
IsPlaced of (r ∷ rows) = (number_at 3 r ≡ of (first_two r)) × IsPlaced (λ q. of q + (if same_name (first_two r) q then 1 else 0)) rows
