-- Room for a group.
use Rattle.std.specs.Prelude.{◌≡◌, ◌≤◌, ◌<◌, ℕ, [], vec_capacity}
use Rattle.bh_connection.specs.declared.group.Room.{Room}

-- for two at least, and for at most 64 and so many; and as many results
pub record IsRoom {R W : Type 0} (most : ℕ) (room : Room R W) : Type 0 where
  pub arrivals : room.arrivals.items ≡ []
  pub serveds : room.serveds.items ≡ []
  pub alike : vec_capacity room.serveds ≡ vec_capacity room.arrivals
  pub several : 1 < vec_capacity room.arrivals
  pub within : vec_capacity room.arrivals ≤ most
  pub few : vec_capacity room.arrivals ≤ 64
