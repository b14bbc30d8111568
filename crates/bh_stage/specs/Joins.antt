-- Requests that may be applied together with others.
use Rattle.std.specs.Prelude.{◌≡◌, ◌≤◌, ℕ, Bool, false, List, length}
use Rattle.bh_stage.specs.declared.whole.Door.{Door}
use Rattle.bh_stage.specs.declared.whole.Door.TheVariants.{Clients}

-- a client's, short, and in memory: by where it came, whether it is in a file, and its bytes in memory
pub record Joins (door : Door) (is_spooled : Bool) (bytes : List ℕ) : Type 0 where
  pub client : door ≡ Clients
  pub kept : is_spooled ≡ false
  pub short : length bytes ≤ 81920
