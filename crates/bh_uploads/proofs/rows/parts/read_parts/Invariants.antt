use Rattle.std.proofs.Common.{◌≡◌, List, map, take}
use Rattle.bh_tables.specs.Typed.{PartRow}
use Rattle.bh_tables.specs.Shown.{shown_part}
use Rattle.bh_uploads.specs.Rows.{seen_row, row_seen}
use Rattle.bh_uploads.proofs.rows.parts.read_parts.Given as goal

abbrev pub invariant-loop-row : goal.invariant-loop-row
invariant-loop-row l = (ps : List PartRow) → l.rows ≡ map shown_part ps
    → (map row_seen l.found.items ≡ map seen_row (take l.row-index ps)) × (l.bodies.items ≡ map (λ (p : PartRow). p.body) (take l.row-index ps))
