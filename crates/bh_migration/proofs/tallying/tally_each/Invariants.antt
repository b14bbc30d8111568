use Rattle.std.proofs.Common.{◌≡◌, [], map, take}
use Rattle.sqlite.specs.Held.{state}
use Rattle.bh_tables.specs.Schema.{host_schema}
use Rattle.bh_tables.specs.Typed.{Tables, tally_of}
use Rattle.bh_base.specs.Layer.{standing, IsIntact, IsOpen, IsStateClean, StateWithin}
use Rattle.bh_migration.specs.Migration.{HasSchema}
use Rattle.bh_migration.specs.Tallying.{shown_name, HoldsTallies}
use Rattle.bh_migration.proofs.tallying.tally_each.Given as goal

-- the tenants so far have their tallies
abbrev pub invariant-loop-row : goal.invariant-loop-row
invariant-loop-row g l = record {
  within : StateWithin (state g.S.Store l.fn.connection) (state g.S.Store l.connection);
  opens : IsIntact (state g.S.Store l.connection) → IsOpen (state g.S.Store l.fn.connection) → IsOpen (state g.S.Store l.connection);
  keeps : IsStateClean (state g.S.Store l.connection) → HasSchema host_schema (standing (state g.S.Store l.connection));
  adds : IsStateClean (state g.S.Store l.connection) → (t : Tables) → l.fn.rows ≡ map shown_name t.tenants → HoldsTallies t [] (standing (state g.S.Store l.fn.connection))
      → HoldsTallies t (map (tally_of t.versions) (take l.row-index t.tenants)) (standing (state g.S.Store l.connection));
}
