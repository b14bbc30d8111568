use Rattle.std.proofs.Common.{◌≡◌, filter, drop, find}
use Rattle.bh_tables.specs.Typed.{tables_in}
use Rattle.bh_tables.specs.Shown.{has_digest}
use Rattle.bh_base.specs.Connections.{state}
use Rattle.bh_base.specs.Layer.{standing, IsIntact, IsOpen, IsStateClean, StateWithin}
use Rattle.bh_blocks.proofs.Candidates.{has_bytes}
use Rattle.bh_blocks.proofs.blocks.find_among.Given as goal

-- none of the blocks so far has the bytes
abbrev pub invariant-loop-row : goal.invariant-loop-row
invariant-loop-row g l = record {
  within : StateWithin (state g.S.Store g.P.Shelf l.fn.connection) (state g.S.Store g.P.Shelf l.connection);
  opens : IsIntact (state g.S.Store g.P.Shelf l.connection) → IsOpen (state g.S.Store g.P.Shelf l.fn.connection) → IsOpen (state g.S.Store g.P.Shelf l.connection);
  same : IsIntact (state g.S.Store g.P.Shelf l.connection) → standing (state g.S.Store g.P.Shelf l.connection) ≡ standing (state g.S.Store g.P.Shelf l.fn.connection);
  none : IsStateClean (state g.S.Store g.P.Shelf l.connection) → find (has_bytes l.bytes) (filter (has_digest l.digest) (tables_in (standing (state g.S.Store g.P.Shelf l.fn.connection)).now).blocks)
      ≡ find (has_bytes l.bytes) (drop l.row-index (filter (has_digest l.digest) (tables_in (standing (state g.S.Store g.P.Shelf l.fn.connection)).now).blocks));
}
