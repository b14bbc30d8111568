use Rattle.std.proofs.Common.{◌≡◌, List, map, drop}
use Rattle.bh_base.specs.Connections.{state}
use Rattle.bh_tables.specs.Typed.{BlockRow}
use Rattle.bh_tables.specs.Shown.{shown_name}
use Rattle.bh_cache.specs.Kept.{Agrees}
use Rattle.bh_base.specs.Layer.{standing, IsIntact, IsOpen, IsStateClean, IsInside, StateWithin}
use Rattle.bh_schema.specs.Working.{tables_at}
use Rattle.bh_blocks.proofs.Removing.{left}
use Rattle.bh_blocks.proofs.removal.remove_all.Given as goal

-- what is left without the blocks of the other rows is what is left without all
abbrev pub invariant-loop-row : goal.invariant-loop-row
invariant-loop-row g l = record {
  within : StateWithin (state g.S.Store g.P.Shelf l.fn.connection) (state g.S.Store g.P.Shelf l.connection);
  opens : IsIntact (state g.S.Store g.P.Shelf l.connection) → IsOpen (state g.S.Store g.P.Shelf l.fn.connection) → IsOpen (state g.S.Store g.P.Shelf l.connection);
  inside : IsStateClean (state g.S.Store g.P.Shelf l.connection) → IsInside (standing (state g.S.Store g.P.Shelf l.connection));
  refs : IsStateClean (state g.S.Store g.P.Shelf l.connection) → (tables_at (state g.S.Store g.P.Shelf l.connection)).refs ≡ (tables_at (state g.S.Store g.P.Shelf l.fn.connection)).refs;
  left : IsStateClean (state g.S.Store g.P.Shelf l.connection) → (gone : List BlockRow) → l.fn.rows ≡ map shown_name gone
      → left (drop l.row-index gone) (tables_at (state g.S.Store g.P.Shelf l.connection)) ≡ left gone (tables_at (state g.S.Store g.P.Shelf l.fn.connection));
  kept : (gone : List BlockRow) → l.fn.rows ≡ map shown_name gone → IsStateClean (state g.S.Store g.P.Shelf l.connection)
      → Agrees l.fn.cache (tables_at (state g.S.Store g.P.Shelf l.fn.connection)).blocks → Agrees l.cache (tables_at (state g.S.Store g.P.Shelf l.connection)).blocks;
}
