use Rattle.std.proofs.Common.{◌≡◌, drop}
use Rattle.bh_pages.specs.Seen.{gathered_by}
use Rattle.bh_pages.specs.Taken.{rows_added, AreUnder}
use Rattle.bh_pages.proofs.gathering.Gathering.add_rows.Given as goal

-- with the rows that are left it comes to the same
abbrev pub invariant-loop-row : goal.invariant-loop-row
invariant-loop-row g l =
    AreUnder g.R.Row.spot l.asked l.fn.rows
    → rows_added g.R.Row.spot g.R.Row.item g.T.Single.seen l.asked (gathered_by g.T.Single.seen l.fn.self) l.fn.rows
    ≡ rows_added g.R.Row.spot g.R.Row.item g.T.Single.seen l.asked (gathered_by g.T.Single.seen l.self) (drop l.row-index l.rows)
