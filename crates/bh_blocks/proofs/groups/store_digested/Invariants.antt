use Rattle.std.proofs.Common.{◌≡◌, ◌<◌, ◌^◌, ◌*◌, ◌++◌, drop}
use Rattle.bh_base.specs.Connections.{state}
use Rattle.bh_tables.specs.Schema.{Octets}
use Rattle.bh_view.specs.Bodies.{pieces, body_stored}
use Rattle.bh_cache.specs.Kept.{AreCopies}
use Rattle.bh_base.specs.Layer.{standing, IsIntact, IsOpen, IsStateClean, IsInside, StateWithin}
use Rattle.bh_schema.specs.Working.{tables_at}
use Rattle.bh_blocks.specs.Groups.{AreFirst}
use Rattle.bh_blocks.specs.Named.{body_at}
use Rattle.bh_blocks.proofs.groups.store_digested.Given as goal

-- what is stored so far, and then the rest, is all
abbrev pub invariant-storing : goal.invariant-storing
invariant-storing g l = record {
  within : StateWithin (state g.S.Store g.P.Shelf l.fn.connection) (state g.S.Store g.P.Shelf l.connection);
  opens : IsIntact (state g.S.Store g.P.Shelf l.connection) → IsOpen (state g.S.Store g.P.Shelf l.fn.connection) → IsOpen (state g.S.Store g.P.Shelf l.connection);
  inside : IsStateClean (state g.S.Store g.P.Shelf l.connection) → IsInside (standing (state g.S.Store g.P.Shelf l.connection));
  copies : IsStateClean (state g.S.Store g.P.Shelf l.connection) → AreCopies l.fn.cache (tables_at (state g.S.Store g.P.Shelf l.connection)).blocks;
  small : l.place < 2 ^ 63;
  rest : l.rest ≡ drop (l.j * l.size) l.fn.bytes;
  goes : IsStateClean (state g.S.Store g.P.Shelf l.connection) → (digest_of : Octets → Octets) (more : Octets) → AreFirst digest_of l.count l.size l.fn.bytes l.digests
      → body_stored digest_of (body_at l.from) l.place (pieces l.size (l.rest ++ more)) (tables_at (state g.S.Store g.P.Shelf l.connection))
      ≡ body_stored digest_of (body_at l.from) l.from.place (pieces l.size (l.fn.bytes ++ more)) (tables_at (state g.S.Store g.P.Shelf l.fn.connection));
}
