use Rattle.std.proofs.Common.{◌≡◌, List, map, take}
use Rattle.bh_schema.proofs.rows.reading.all_of.Given as goal

abbrev pub invariant-loop-row : goal.invariant-loop-row
invariant-loop-row g l = (ts : List g.R.FromRow.reading.Typed) → l.rows ≡ map g.R.FromRow.reading.shown ts → map g.R.FromRow.reading.meaning l.values.items ≡ map g.R.FromRow.reading.told (take l.row-index ts)
