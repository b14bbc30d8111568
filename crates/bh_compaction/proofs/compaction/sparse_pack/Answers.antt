use Rattle.std.proofs.Common.{◌∙◌}
use Rattle.sqlite.specs.Held.{state}
use Rattle.bh_tables.specs.Packs.{packs_in}
use Rattle.bh_compaction.proofs.Found.{found_sparse}
use Rattle.bh_compaction.proofs.compaction.sparse_pack.Goals as goal

pub returns-clause-found : goal.returns-clause-found
returns-clause-found g c clean =
    found_sparse c.args.sparse (packs_in (state g.S.Store c.args.connection.now.database).now.trees) _ c.in-Some.row.now (c.deref.ensures.value ∙ c.in_ok-rows.ensures.rows clean) c.in-Some.ensures.value
    c.in_ok-read_pack-in-Some.field-0 c.in_ok-read_pack-in-Some.ensures.read
