use Rattle.std.proofs.Common.{◌≡◌, ◌<◌, ◌^◌, ◌++◌, length}
use Rattle.bh_base.specs.Connections.{state}
use Rattle.bh_tables.specs.Schema.{Octets}
use Rattle.bh_view.specs.Bodies.{pieces, body_stored}
use Rattle.bh_cache.specs.Kept.{AreCopies}
use Rattle.bh_base.specs.Layer.{standing, IsIntact, IsOpen, IsStateClean, IsInside, StateWithin}
use Rattle.bh_schema.specs.Working.{tables_at}
use Rattle.bh_blocks.specs.Named.{body_at}
use Rattle.bh_blocks.proofs.groups.store_blocks.Given as goal

-- what is stored so far, and then the rest, is all
abbrev pub invariant-cutting : goal.invariant-cutting
invariant-cutting g l = record {
  within : StateWithin (state g.S.Store g.P.Shelf l.fn.connection) (state g.S.Store g.P.Shelf l.connection);
  opens : IsIntact (state g.S.Store g.P.Shelf l.connection) → IsOpen (state g.S.Store g.P.Shelf l.fn.connection) → IsOpen (state g.S.Store g.P.Shelf l.connection);
  inside : IsStateClean (state g.S.Store g.P.Shelf l.connection) → IsInside (standing (state g.S.Store g.P.Shelf l.connection));
  copies : IsStateClean (state g.S.Store g.P.Shelf l.connection) → AreCopies l.fn.cache (tables_at (state g.S.Store g.P.Shelf l.connection)).blocks;
  small : l.place < 2 ^ 63;
  goes : IsStateClean (state g.S.Store g.P.Shelf l.connection) → (more : Octets) → body_stored g.D.Digester.digest_of (body_at l.from) l.place (pieces l.size (l.rest ++ more)) (tables_at (state g.S.Store g.P.Shelf l.connection))
      ≡ body_stored g.D.Digester.digest_of (body_at l.from) l.from.place (pieces l.size (l.fn.bytes ++ more)) (tables_at (state g.S.Store g.P.Shelf l.fn.connection));
}

abbrev pub decreases-cutting : goal.decreases-cutting
decreases-cutting g l = length l.rest
