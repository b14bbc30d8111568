-- The results of queries on a host's tables, and the values of their rows.
use Rattle.std.specs.Prelude.{ℕ, List, ◌∷◌, [], Option, Some, None, Result, IfOk, IfErr}
use Rattle.std.specs.declared.alloc.Global.{Global}
use Rattle.std.specs.declared.vec.Vec.{Vec}
use Rattle.sqlite.specs.declared.error.Error.{Error}
use Rattle.sqlite.specs.declared.types.Value.TheVariants.{Text, Blob}
use Rattle.sqlite.specs.Held.{Held, state}
use Rattle.sqlite.specs.Order.{Row}
use Rattle.sqlite.specs.State.{Shown, FailsToQuery, HasCleanDisk, Survives, CommitsShowing}
use Rattle.sqlite_trees.specs.declared.store.Store.{Ghosts}
use Rattle.bh_tables.specs.Schema.{Octets}
use Rattle.bh_tables.specs.Typed.{Tables, number}
use Rattle.bh_listing.specs.declared.rows.Keyed.{Keyed}
use Rattle.bh_listing.specs.declared.rows.Later.{Later}

-- a table's row as a query returns it, the spec value of what is read, and its form in a page
pub record Columns (L R T : Type 0) : Type 0 where
  pub shown : R → Row
  pub see : L → T
  pub told : R → T

-- ---- the parameters of a query

abbrev pub keyed_params : Keyed → Row
keyed_params at = Text at.tenant.now ∷ Text at.bucket.now ∷ Blob at.from.now ∷ Blob at.upto.now ∷ number at.count ∷ []

abbrev pub later_params : Later → Row
later_params at = Text at.tenant.now ∷ Text at.bucket.now ∷ Blob at.key.now ∷ number at.after ∷ number at.count ∷ []

-- a connection's result for a query with parameters
pub record Queried {S : Type 0} (g : Ghosts S) (old new : Held S) (text : Octets) (params : Row) (result : Result (Vec Row Global) Error) :
    Type 0 where
  pub ok : HasCleanDisk (state g new) → IfOk result (λ v. Shown text params (state g old) (state g new) v.items)
  pub err : HasCleanDisk (state g new) → IfErr result (FailsToQuery text params (state g old) (state g new))
  pub survives : Survives (state g old) (state g new) (CommitsShowing text params (state g old))

-- ---- the rows of a listing

pub record Shows : Type 0 where
  -- of a tenant's bucket, from a key on and before a text, with a limit
  pub keyed : Octets → Octets → Octets → Octets → ℕ → Tables → List Row
  -- of a key in a tenant's bucket, past a number, with a limit
  pub later : Octets → Octets → Octets → ℕ → ℕ → Tables → List Row

-- the first rows from a place on: those from a key on, or of a key past a number
abbrev pub rows_placed : Shows → Octets → Octets → Octets → Option ℕ → Octets → ℕ → Tables → List Row
rows_placed rows tenant bucket key None upto count = rows.keyed tenant bucket key upto count
rows_placed rows tenant bucket key (Some n) upto count = rows.later tenant bucket key n count
