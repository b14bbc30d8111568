-- Calls over the rows of blocks and the bytes of their places.
use Rattle.std.proofs.Common.{◌≡◌, IsTrue, refl, sym, subst}
use Rattle.sqlite.specs.Held.{Held}
use Rattle.sqlite.specs.Held.{state as database_state}
use Rattle.sqlite.specs.State.{State}
use Rattle.sqlite_trees.specs.declared.store.Store.{Ghosts}
use Rattle.bh_shelf.specs.declared.shelf.Shelf.{Ghosts as Shelves}
use Rattle.bh_base.specs.declared.connection.Connection.{Connection}
use Rattle.bh_base.specs.Connections.{state}
use Rattle.bh_base.specs.Layer.{standing, IsOpen, IsStateClean, IsStandingSettled, StateWithin}

-- where nothing is done
pub nothing_done : (s : State) → (IsStateClean s → IsStandingSettled (standing s)) → StateWithin s s
nothing_done s settled = record {
  follows = record { clean = λ c. c; intact = λ h. h; limit = refl };
  kept = λ c. refl;
  settled = settled;
  survives = λ up intact db h. h;
}

-- a connection with the same database is open still
pub open_still : {S P : Type 0} (g : Ghosts S) (k : Shelves P) (old new : Connection S P) → new.database ≡ old.database → IsOpen (state g k old) → IsOpen (state g k new)
unfolding IsOpen
open_still {S} g k old new same up = subst (λ (d : Held S). IsTrue (database_state g d).is_open) (sym same) up
