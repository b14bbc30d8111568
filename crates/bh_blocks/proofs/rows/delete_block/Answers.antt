use Rattle.std.proofs.Common.{ap, ◌∙◌}
use Rattle.std.proofs.lemmas.Result.{on_ok_weaker, IfErr-weaker}
use Rattle.std.specs.List.{list_any}
use Rattle.sqlite_keyed.specs.Lists.{delete_where}
use Rattle.bh_tables.specs.Shown.{Name, is_block, is_use}
use Rattle.bh_tables.specs.Typed.{Tables, tables_in, rebodied}
use Rattle.bh_base.specs.Connections.{state}
use Rattle.bh_base.specs.Layer.{standing, IsStateClean}
use Rattle.bh_base.proofs.PlaceCalls.{deleted_law}
use Rattle.bh_blocks.proofs.rows.delete_block.Goals as goal

pub returns-clause-rewrites : goal.returns-clause-rewrites
returns-clause-rewrites g c = on_ok_weaker c.delete_row.result (λ last clean sums by.
    let q : Name = (c.args.digest.now, c.args.ord) in
    let t = tables_in (standing (state g.S.Store g.P.Shelf c.args.connection.now)).now in
    let change = c.in_ok-drop_place.ensures.changes (c.delete_row.ensures.writes.within.follows.clean clean) in
    let h1 = change.holds sums by in
    let h2 = last clean sums h1.within in
    let less : Tables → Tables = λ x. rebodied x x.refs (delete_where (is_block q) x.blocks) in
    record { within = h2.within; is = h2.is ∙ ap less h1.is ∙ deleted_law t q change.change change.named }) c.delete_row.ensures.rewrites

-- references are what they were before the place was deleted
pub returns-clause-trouble : goal.returns-clause-trouble
returns-clause-trouble g c = IfErr-weaker c.delete_row.result _ _ (λ e trouble intact unlimited unused.
    let q : Name = (c.args.digest.now, c.args.ord) in
    let one = c.in_ok-drop_place.ensures in
    let still = c.delete_row.ensures.writes.within.follows.intact intact in
    let mid : IsStateClean (state g.S.Store g.P.Shelf c.drop_place.new.connection) = record { intact = still; is_open = (one.opened still).1 } in
    let m = c.requires.midst (one.writes.within.follows.clean mid) in
    let is = ((one.changes mid).holds m.sums m.by).is in
    trouble intact (one.writes.within.follows.limit ∙ unlimited) (ap (λ (t : Tables). list_any (is_use q) t.refs) is ∙ unused, one.dropped mid)) c.delete_row.ensures.trouble
