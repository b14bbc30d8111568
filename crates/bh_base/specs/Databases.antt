-- The connection of a database alone, in the layer's terms.
use Rattle.std.specs.Prelude.{◌≡◌, true, None, Result, OnOk}
use Rattle.sqlite.specs.Held.{Held, state}
use Rattle.sqlite.specs.declared.error.Error.{Error}
use Rattle.sqlite_trees.specs.declared.store.Store.{Ghosts}
use Rattle.bh_rows.specs.Means.{is_trouble}
use Rattle.bh_tables.specs.Typed.{Tables, tables_in}
use Rattle.bh_base.specs.Layer.{Standing, standing, StateWithin}
use Rattle.bh_base.specs.Layer as layer

module _ {S : Type 0} (g : Ghosts S) where
  -- its store has returned what was written to it
  abbrev pub IsIntact : Held S → Type 0
  IsIntact c = layer.IsIntact (state g c)

  -- no fault has shut it
  abbrev pub IsOpen : Held S → Type 0
  IsOpen c = layer.IsOpen (state g c)

  -- both
  abbrev pub IsClean : Held S → Type 0
  IsClean c = layer.IsStateClean (state g c)

  -- its state, and its tables if they are a host's of which nothing is in packs
  abbrev pub stands : Held S → Standing
  stands c = standing (state g c)

  abbrev pub tables : Held S → Tables
  tables c = tables_in (stands c).now

  module _ (old new : Held S) where
    -- a call inside a transaction commits nothing
    abbrev pub StaysWithin : Type 0
    StaysWithin = StateWithin (state g old) (state g new)

    -- if it succeeds, the connection was open, and still is
    abbrev pub WasOpen : Type 0
    WasOpen = IsIntact new → IsOpen old × IsOpen new

    abbrev pub StaysOpen : Type 0
    StaysOpen = IsIntact new → IsOpen old → IsOpen new

    abbrev pub ChangesNothing : Type 0
    ChangesNothing = IsIntact new → stands new ≡ stands old

    -- if no limit on steps stops a statement, its error is a failure, or is so under a premise
    abbrev pub IsTrouble : Error → Type 0
    IsTrouble e = IsIntact new → (stands old).limit ≡ None → is_trouble e ≡ true

    abbrev pub IsTroubleIf : Type 0 → Error → Type 0
    IsTroubleIf premise e = IsIntact new → (stands old).limit ≡ None → premise → is_trouble e ≡ true

-- ---- a call with this result

module _ {S A E : Type 0} (g : Ghosts S) (old new : Held S) (result : Result A E) where
  -- it reads the database: if it succeeds, the connection was open
  pub record Reads : Type 0 where
    pub within : StaysWithin g old new
    pub opens : OnOk result (WasOpen g old new)
    pub same : OnOk result (ChangesNothing g old new)

  -- it reads the database or not
  pub record MayRead : Type 0 where
    pub within : StaysWithin g old new
    pub opens : OnOk result (StaysOpen g old new)
    pub same : OnOk result (ChangesNothing g old new)
