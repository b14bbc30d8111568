use Rattle.std.proofs.Common.{IsSome}
use Rattle.bh_stored.specs.Stores.{HasRead}
use Rattle.bh_stored.proofs.trees.tree_rows.Given as goal

abbrev pub invariant-reading : goal.invariant-reading
invariant-reading g l = record {
  live : IsSome ((g.S.Store.view l.store).cursors 0);
  read : HasRead (g.S.Store.view l.fn.store) (g.S.Store.view l.store) 0 l.tree l.rows.items;
}
