use Rattle.std.proofs.Common.{◌≡◌, true, map, drop}
use Rattle.std.specs.List.{AllByRecursion}
use Rattle.bh_model.specs.Pages.{begins}
use Rattle.bh_pages.specs.Seen.{seen, seen_line, rows_added}
use Rattle.bh_pages.proofs.gathering.Gathering+ObjectLine.add_all.Given as goal

-- with the rows that are left it comes to the same
abbrev pub invariant-loop-line : goal.invariant-loop-line
invariant-loop-line l = AllByRecursion (λ line. begins l.asked.prefix.now line.key.items ≡ true) l.fn.lines → rows_added l.asked (seen l.fn.self) (map seen_line l.fn.lines) ≡ rows_added l.asked (seen l.self) (map seen_line (drop l.line-index l.lines))
