use Rattle.std.proofs.Common.{map, take, filter, ap, ◌∙◌}
use Rattle.std.proofs.lemmas.Result.{IfOk-weaker}
use Rattle.sqlite.specs.Held.{state}
use Rattle.sqlite_keyed.specs.Lists.{sort_by}
use Rattle.bh_tables.specs.Typed.{tables_in}
use Rattle.bh_tables.specs.Shown.{is_unused, by_use_name, shown_use_name}
use Rattle.bh_tables.proofs.TotalLemmas.{unused_names}
use Rattle.bh_base.specs.Connections.{backing}
use Rattle.bh_base.specs.Layer.{standing}
use Rattle.bh_base.specs.Shown.{shown}
use Rattle.bh_base.proofs.Calls.{reads_by, reads_inside}
use Rattle.bh_blocks.proofs.UseCalls.{unused_told, counts_at}
use Rattle.bh_blocks.proofs.uses.unreferenced_rows.Goals as goal

pub returns : goal.returns
returns g c =
    let h = rw c.number.ensures at c.query_all.ensures in
    let old = state g.S.Store c.args.connection.now.database in
    let a = backing g.P.Shelf c.args.connection.now.packs in
    let new = state g.S.Store c.query_all.new.self in
    let x = standing (shown a old) in
    let t = unused_told a old new (λ clean. reads_by x (reads_inside x (c.requires.inside clean))) c.args.limit (λ v. v.items) c.query_all.result h.ok h.err h.survives in
    record {
      reads = record { within = t.within; opens = t.opens; same = t.same };
      rows = IfOk-weaker c.query_all.result _ _ (λ v is clean.
          is clean ∙ ap (λ us. take c.args.limit (map shown_use_name (sort_by by_use_name (filter is_unused us)))) (counts_at a old (c.requires.inside (t.within.follows.clean clean)))
          ∙ unused_names c.args.limit (tables_in x.now).refs (tables_in x.now).blocks) t.rows;
      trouble = t.trouble;
    }
