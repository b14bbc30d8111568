-- Terms of texts: a column that is to be a parameter, and a limit.
use Rattle.std.proofs.Common.{ℕ, pos}
use Rattle.sqlite.specs.Term.{Term, lit, col, op2}
use Rattle.sqlite.specs.declared.types.Value.TheVariants.{Int}
use Rattle.sqlite.specs.Collation.TheVariants.{Binary}
use Rattle.sqlite_sql.specs.declared.ops.BinaryOp.TheVariants.{Compare}
use Rattle.sqlite_sql.specs.declared.ops.CompareOp.TheVariants.{Eq}

abbrev pub is : ℕ → ℕ → Term
is column param = op2 (Compare Eq Binary) (col 1 column) (col 0 param)

-- LIMIT 1
abbrev pub one_row : Term
one_row = lit (Int (pos 1))

-- LIMIT 2
abbrev pub two_rows : Term
two_rows = lit (Int (pos 2))
