use Rattle.std.proofs.Common.{◌++◌, ◌∷◌, [], ap, ◌∙◌, sym, subst}
use Rattle.sqlite_trees.specs.Tree.{order_of, from_key}
use Rattle.sqlite_trees.specs.View.{IsClean, Advances, with_cursor}
use Rattle.bh_stored.specs.Stores.{HasRead}
use Rattle.bh_stored.proofs.Reading.{clean_before, begun, stepped, ended}
use Rattle.bh_stored.proofs.trees.tree_rows.Goals as goal

pub reading-init : goal.reading-init
reading-init g c =
    let old = g.S.Store.view c.args.store.now in
    let new = g.S.Store.view c.seek-2.new.self in
    let order = order_of (old.shape c.args.tree) in
    record {
      live = c.in_ok-seek.ensures.live;
      read = subst (HasRead old new 0 c.args.tree) (sym c.new-rows.ensures.items)
          (begun old new c.args.tree order (clean_before old new c.seek-2.ensures.quiet.clean) c.in_ok-seek.ensures.sound
          (λ clean. c.in_ok-seek.ensures.ok clean ∙ ap (λ key. with_cursor old 0 (from_key order key (old.trees c.args.tree))) c.new.ensures));
    }

pub reading-preserved : goal.reading-preserved
reading-preserved g c =
    let first = g.S.Store.view c.args.store.now in
    let old = g.S.Store.view c.reading.store in
    let new = g.S.Store.view c.next.new.self in
    let items = c.in_ok-push.ensures.items ∙ ap (λ x. c.reading.rows.items ++ x ∷ []) c.in_ok-copy.ensures in
    record {
      live = c.in_ok-next.ensures.stay 0 c.reading.invariant.live;
      read = subst (HasRead first new 0 c.args.tree) (sym items)
          (stepped first old new c.args.tree c.reading.rows.items c.reading.invariant.read (clean_before old new c.next.ensures.quiet.clean) c.next.new.row
          (subst (λ b. IsClean new → Advances old new 0 c.next.new.row b) c.if-not-branch.false c.in_ok-next.ensures.ok));
    }

pub returns-then-not-branch : goal.returns-then-not-branch
returns-then-not-branch g c =
    let first = g.S.Store.view c.args.store.now in
    let old = g.S.Store.view c.reading.store in
    let new = g.S.Store.view c.next.new.self in
    let end = ended first old new c.args.tree c.reading.rows.items c.reading.invariant.read (clean_before old new c.next.ensures.quiet.clean) c.next.new.row
    (subst (λ b. IsClean new → Advances old new 0 c.next.new.row b) c.if-not-branch.true c.in_ok-next.ensures.ok) in
    record { keeps = end.0; rows = end.1 }
