use Rattle.std.proofs.Common.{List, take}
use Rattle.sqlite.specs.Order.{Row}
use Rattle.bh_check.specs.Tallies.{AreEntryTotals, AreTalliesOf}
use Rattle.bh_check.proofs.tallies.first_mistallied.Given as goal

-- of the tenants so far
abbrev pub invariant-loop-at : goal.invariant-loop-at
invariant-loop-at l = (rows : List Row) → AreEntryTotals rows l.totals → AreTalliesOf rows (take l.at l.tallies) (take l.at l.tenants)
