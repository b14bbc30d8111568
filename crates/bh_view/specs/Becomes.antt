-- The effect of a change of the tables on the tenants.
use Rattle.std.specs.Prelude.{◌≡◌, ◌≢◌, ℕ, true, List, ◌++◌, Option}
use Rattle.std.specs.List.{AllByRecursion, list_any}
use Rattle.bh_model.specs.State.{Octets, State}
use Rattle.bh_tables.specs.Typed.{BlockRow, Tables}
use Rattle.bh_tables.specs.Shown.{block_name, is_use}
use Rattle.bh_view.specs.View.{view, latest_of, limits_in}
use Rattle.bh_view.specs.Blocks.{whole, AreDigests}
use Rattle.bh_view.specs.Sound.{IsSound}
use Rattle.bh_view.specs.Bodies.{HasBodies}

-- this tenant's state becomes that one; the other tenants' states, the last stamp and the limits
-- don't change
pub record Becomes (t : Octets) (state : Option State) (old new : Tables) : Type 0 where
  pub shown : view new t ≡ state
  pub others : (u : Octets) → u ≢ t → view new u ≡ view old u
  pub latest : latest_of new ≡ latest_of old
  pub limits : limits_in new ≡ limits_in old
  pub sound : IsSound new

-- the last stamp becomes that one; the limits and all tenants' states don't change
pub record IsStamped (stamp : ℕ) (old new : Tables) : Type 0 where
  pub latest : latest_of new ≡ stamp
  pub limits : limits_in new ≡ limits_in old
  pub views : (u : Octets) → view new u ≡ view old u
  pub sound : IsSound new

-- blocks are added or deleted: the bytes of all bodies, all tenants' states, the last stamp and the
-- limits don't change, and each block has the digest of its bytes
pub record KeepsBodies (digest : Octets → Octets) (old new : Tables) : Type 0 where
  pub bodies : whole new.refs new.blocks ≡ whole old.refs old.blocks
  pub has : HasBodies old → HasBodies new
  pub digests : AreDigests digest new.blocks
  pub latest : latest_of new ≡ latest_of old
  pub limits : limits_in new ≡ limits_in old
  pub views : (t : Octets) → view new t ≡ view old t
  pub sound : IsSound new

-- what all tenants share: no block is deleted, and each new one is referenced
pub record KeepsShared (old new : Tables) : Type 0 where
  pub added : List BlockRow
  pub grown : new.blocks ≡ old.blocks ++ added
  pub named : AllByRecursion (λ (b : BlockRow). list_any (is_use (block_name b)) new.refs ≡ true) added
