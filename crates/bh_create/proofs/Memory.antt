-- A store in memory gives back what was written to it, and no fault shuts it. No packs in memory lie.
use Rattle.std.proofs.Common.{IsTrue, refl}
use Rattle.sqlite.specs.Held.{state as database_state}
use Rattle.sqlite_trees.specs.declared.memory.MemStore.{MemStore}
use Rattle.sqlite_trees.specs.View.{doubt}
use Rattle.sqlite.specs.Steps.{over_memory}
use Rattle.bh_shelf.specs.declared.no_shelf.NoShelf.{NoShelf}
use Rattle.bh_shelf.specs.declared.shelf.Shelf.{Ghosts as Shelves}
use Rattle.bh_base.specs.declared.connection.Connection.{Connection}
use Rattle.bh_base.specs.Connections.{state, backing, without_packs}
use Rattle.bh_base.specs.Layer.{IsIntact, IsOpen, IsStateClean}
use Rattle.bh_base.proofs.Lifting.{intact_shown}

-- a connection in memory, if its packs don't lie
stored_intact : {P : Type 0} (h : Connection MemStore P) → IsIntact (database_state over_memory h.database)
unfolding IsIntact doubt
stored_intact h = refl

module _ {P : Type 0} (k : Shelves P) (h : Connection MemStore P) where
  pub intact_with : IsTrue (k.is_clean h.packs) → IsIntact (state over_memory k h)
  intact_with clean = intact_shown (backing k h.packs) (database_state over_memory h.database) (stored_intact h) clean

  pub open_with : IsOpen (state over_memory k h)
  unfolding IsOpen
  open_with = refl

  pub clean_with : IsTrue (k.is_clean h.packs) → IsStateClean (state over_memory k h)
  clean_with clean = record { intact = intact_with clean; is_open = open_with }

pub is_intact : (h : Connection MemStore NoShelf) → IsIntact (state over_memory without_packs h)
is_intact h = intact_with without_packs h refl

pub is_open : (h : Connection MemStore NoShelf) → IsOpen (state over_memory without_packs h)
is_open h = open_with without_packs h

pub is_clean : (h : Connection MemStore NoShelf) → IsStateClean (state over_memory without_packs h)
is_clean h = clean_with without_packs h refl
