use Rattle.std.proofs.Common.{◌≡◌, true, sym, ap, ◌∙◌, subst}
use Rattle.std.specs.List.{All, AllByRecursion}
use Rattle.bh_base.specs.Connections.{state}
use Rattle.bh_rows.specs.Means.{is_trouble}
use Rattle.bh_tables.specs.Typed.{BlockRow, tables_in}
use Rattle.bh_tables.specs.Shown.{is_unreferenced, unreferenced, shown_name}
use Rattle.bh_view.specs.Becomes.{KeepsBodies}
use Rattle.bh_view.proofs.BlockChanges.{blocks_removed}
use Rattle.bh_cache.specs.Kept.{Agrees}
use Rattle.bh_base.specs.Layer.{Standing, IsStateClean}
use Rattle.bh_schema.specs.Working.{tables_at}
use Rattle.bh_schema.proofs.Finds.{handed_on}
use Rattle.bh_blocks.specs.Uses.{IsShownUnused}
use Rattle.bh_blocks.proofs.Loops.{all_shown}
use Rattle.bh_blocks.proofs.Keeping.{resolved_at, still_inside}
use Rattle.bh_blocks.proofs.Removing.{left, unreferenced_are}
use Rattle.bh_blocks.proofs.removal.remove_unreferenced.Goals as goal

pub remove_all-requires : goal.remove_all-requires
remove_all-requires g c =
    let first = rw c.from.ensures at c.in_ok-rows.ensures in
    record {
      inside = still_inside _ _ first.reads.within first.reads.same c.requires.inside;
      unused = λ clean.
          let old = tables_at (state g.S.Store g.P.Shelf c.args.connection.now) in
          subst (λ (x : Standing). All (λ row. IsShownUnused row (tables_in x.now).refs) c.deref.result.now) (sym (first.reads.same clean.intact))
          (subst (All (λ row. IsShownUnused row old.refs)) (sym (c.deref.ensures.value ∙ first.rows clean))
          (all_shown shown_name (λ (b : BlockRow). is_unreferenced old.refs b ≡ true) (unreferenced c.args.limit old.refs old.blocks) (unreferenced_are c.args.limit old.refs old.blocks)));
    }

pub returns-in_err-remove_all-clause-trouble : goal.returns-in_err-remove_all-clause-trouble
returns-in_err-remove_all-clause-trouble g c = handed_on _ _ _ c.from_residual-in_err-remove_all.ensures (λ e same intact unlimited.
    let old = tables_at (state g.S.Store g.P.Shelf c.args.connection.now) in
    let first = rw c.from.ensures at c.in_ok-rows.ensures in
    let then = c.in_err-remove_all.ensures in
    let before = then.within.follows.intact intact in
    let up = (first.reads.opens before).1 in
    let clean : IsStateClean (state g.S.Store g.P.Shelf c.unreferenced_rows.new.connection) = record { intact = before; is_open = up } in
    let refs = ap (λ (x : Standing). (tables_in x.now).refs) (first.reads.same before) in
    let gone = unreferenced c.args.limit old.refs old.blocks in
    ap is_trouble same ∙ then.trouble gone (c.deref.ensures.value ∙ first.rows clean) intact (first.reads.within.follows.limit ∙ unlimited)
    (up, subst (λ r. AllByRecursion (λ (b : BlockRow). is_unreferenced r b ≡ true) gone) (sym refs) (unreferenced_are c.args.limit old.refs old.blocks)))

pub returns-clause-keeps : goal.returns-clause-keeps
returns-clause-keeps g c digest clean sound digests =
    let old = tables_at (state g.S.Store g.P.Shelf c.args.connection.now) in
    let first = rw c.from.ensures at c.in_ok-rows.ensures in
    let then = c.in_ok-remove_all.ensures in
    let was = then.within.follows.clean clean in
    let same : tables_at (state g.S.Store g.P.Shelf c.unreferenced_rows.new.connection) ≡ old = ap (λ (x : Standing). tables_in x.now) (first.reads.same was.intact) in
    let gone = unreferenced c.args.limit old.refs old.blocks in
    subst (KeepsBodies digest old) (sym ((then.removed gone (c.deref.ensures.value ∙ first.rows was) clean).is ∙ ap (left gone) same))
    (blocks_removed digest old gone (unreferenced_are c.args.limit old.refs old.blocks) sound (resolved_at (state g.S.Store g.P.Shelf c.args.connection.now)) digests)

pub returns-clause-kept : goal.returns-clause-kept
returns-clause-kept g c clean agrees =
    let old = tables_at (state g.S.Store g.P.Shelf c.args.connection.now) in
    let first = rw c.from.ensures at c.in_ok-rows.ensures in
    let then = c.in_ok-remove_all.ensures in
    let was = then.within.follows.clean clean in
    then.kept (unreferenced c.args.limit old.refs old.blocks) (c.deref.ensures.value ∙ first.rows was) clean
    (subst (λ (x : Standing). Agrees c.args.cache.now (tables_in x.now).blocks) (sym (first.reads.same was.intact)) agrees)
