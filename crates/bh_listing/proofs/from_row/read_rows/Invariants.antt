use Rattle.std.proofs.Common.{◌≡◌, map, take, List}
use Rattle.bh_listing.proofs.from_row.read_rows.Given as goal

-- as many as were read
abbrev pub invariant-loop-row : goal.invariant-loop-row
invariant-loop-row g l =
    (rs : List g.L.FromRow.Of) → l.rows ≡ map g.L.FromRow.columns.shown rs
    → map g.L.FromRow.columns.see l.lines.items ≡ map g.L.FromRow.columns.told (take l.row-index rs)
