-- The queries of this store: columns of the rows of one table that pass a test, in an order, up to
-- a limit.
use Rattle.std.specs.Prelude.{ℕ, List, [], ◌∷◌, Some, None, false, pos, negsuc}
use Rattle.sqlite.specs.declared.types.Value.TheVariants.{Null, Int}
use Rattle.sqlite.specs.Term.{Term, lit, col, op2}
use Rattle.sqlite_sql.specs.declared.ops.BinaryOp.TheVariants.{Coalesce}
use Rattle.sqlite_sql.specs.declared.aggregate.AggregateOp.TheVariants.{Sum, CountRows}
use Rattle.sqlite_sql.specs.Group.{Grouping}
use Rattle.sqlite.specs.Query.{Query, inner, end}
use Rattle.sqlite.specs.Collation.TheVariants.{Binary}
use Rattle.sqlite_value.specs.declared.keys.Key.{Key}
use Rattle.sqlite_value.specs.Keys.{ascending}

-- columns of the rows of the tree in this place that pass the tests
abbrev pub scan : ℕ → List Term → List Term → List (Term × Key) → Term → Query
scan tree test show order limit = record {
  from = inner tree end;
  filter = test;
  group = None;
  project = show;
  distinct = false;
  collations = [];
  order = order;
  limit = limit;
  offset = lit (Int (pos 0));
}

-- all of them
abbrev pub no_limit : Term
no_limit = lit (Int (negsuc 0))

-- in the order of their numbers
abbrev pub by_rowid : List (Term × Key)
by_rowid = (col 1 0, ascending Binary) ∷ []

-- SELECT coalesce(sum(COLUMN), 0)
abbrev pub summing : ℕ → List Term → Term → Query
summing tree test arg = record (scan tree test (op2 Coalesce (col 1 0) (lit (Int (pos 0))) ∷ []) [] no_limit) {
  group = Some (record {
    keys = [];
    collations = [];
    aggregates = record { op = Sum; distinct = false; collation = Binary; argument = arg }
        ∷ [];
    having = [];
  });
}

-- SELECT count(*)
abbrev pub counting_rows : Grouping
counting_rows = record {
  keys = [];
  collations = [];
  aggregates = record { op = CountRows; distinct = false; collation = Binary; argument = lit Null } ∷ [];
  having = [];
}

-- over the rows that pass
abbrev pub counting : ℕ → List Term → Query
counting tree test = record (scan tree test (col 1 0 ∷ []) [] no_limit) { group = Some counting_rows }
