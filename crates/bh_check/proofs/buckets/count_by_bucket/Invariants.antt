use Rattle.std.proofs.Common.{take}
use Rattle.bh_check.specs.Holds.{bucket_name, one}
use Rattle.bh_check.specs.Sums.{Keeps, total}
use Rattle.bh_check.proofs.buckets.count_by_bucket.Given as goal

-- of the rows so far
abbrev pub invariant-loop-row : goal.invariant-loop-row
invariant-loop-row l = Keeps (total (bucket_name l.at) one (take l.row-index l.fn.rows)) l.sums
