use Rattle.std.proofs.Common.{sym, subst}
use Rattle.std.specs.List.{AllByRecursion}
use Rattle.sqlite_trees.proofs.ListLemmas.{all-append}
use Rattle.bh_check.specs.Blocks.{HasDigest}
use Rattle.bh_check.proofs.groups.first_misnamed_in.Goals as goal

pub groups-preserved : goal.groups-preserved
groups-preserved g c more =
    let holds = HasDigest g.D.Digester.digest_of in
    let (eight, rest) = c.split_at.result in
    c.groups.invariant (subst (AllByRecursion holds) (sym c.split_at.ensures.by_index.0) (all-append holds eight.now rest.now (c.in_ok-row.ensures c.in_default.is) more))
