use Rattle.std.proofs.lemmas.Result.{on_ok_weaker}
use Rattle.bh_migration.proofs.Made.{then_rows}
use Rattle.bh_migration.proofs.making.complete_third.Goals as goal

pub complete_fourth-requires : goal.complete_fourth-requires
complete_fourth-requires g c clean = let it = c.in_ok-make_fourth.ensures.made clean in record { inside = it.inside; schema = it.schema }

pub returns-clause-made : goal.returns-clause-made
returns-clause-made g c = on_ok_weaker c.complete_fourth.result (λ made clean. then_rows (made clean) (c.in_ok-make_fourth.ensures.made (c.complete_fourth.ensures.within.follows.clean clean)).rows) c.complete_fourth.ensures.made
