-- What is known of a connection once its host was read, or written twice.
use Rattle.std.proofs.Common.{◌≡◌, Ok, ap}
use Rattle.sqlite_trees.specs.declared.store.Store.{Ghosts}
use Rattle.bh_shelf.specs.declared.shelf.Shelf.{Ghosts as Shelves}
use Rattle.bh_base.specs.declared.connection.Connection.{Connection}
use Rattle.bh_tables.specs.Typed.{tables_in}
use Rattle.bh_base.specs.Layer.{Standing}
use Rattle.bh_base.specs.Connections.{IsClean, state, tables, InTransaction}
use Rattle.bh_base.proofs.Freeing.{within_next}
use Rattle.bh_blocks.proofs.Keeping.{still_inside}
use Rattle.bh_schema.specs.Calls.{Reads, Writes}

module _ {S P A E : Type 0} {g : Ghosts S} {k : Shelves P} {old new : Connection S P} {a : A} where
  pub read_inside : Reads {E = E} g k old new (Ok a) → InTransaction g k old → InTransaction g k new
  read_inside reads = still_inside _ _ reads.within reads.same

  pub read_tables : Reads {E = E} g k old new (Ok a) → IsClean g k new → tables g k new ≡ tables g k old
  read_tables reads clean = ap (λ (x : Standing). tables_in x.now) (reads.same clean.intact)

-- two writes, one after the other, are a write
module _ {S P A B E : Type 0} {g : Ghosts S} {k : Shelves P} {old mid new : Connection S P} {a : A} {b : B} where
  pub writes_next : Writes {E = E} g k old mid (Ok a) → Writes {E = E} g k mid new (Ok b) → Writes {E = E} g k old new (Ok b)
  writes_next one two = record {
    within = within_next (state g k old) (state g k mid) (state g k new) one.opens one.within two.within;
    opens = λ intact up. two.opens intact (one.opens (two.within.follows.intact intact) up);
    inside = two.inside;
  }
