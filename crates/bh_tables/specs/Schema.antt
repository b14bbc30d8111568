-- The schema of a host as a value: twenty tables and five indexes, each as its CREATE statement
-- defines it. The fourth schema, of version 4, lacks the last table; the third, of version 3, lacks
-- six more; the second, of version 2, lacks one more, and the first, of version 1, two more.
use Rattle.std.specs.Prelude.{ℕ, true, false, [], ◌∷◌, ◌++◌, List, map, Some, None, codes, pos}
use Rattle.sqlite.specs.Collation.TheVariants.{Binary}
use Rattle.sqlite.specs.declared.types.Value.TheVariants.{Null, Int, Text as Words}
use Rattle.sqlite.specs.Table.{Table}
use Rattle.sqlite.specs.Schema.{Schema}
use Rattle.sqlite.specs.Term.{Term, lit, col, op2}
use Rattle.sqlite.specs.Kind.{Kind}
use Rattle.sqlite.specs.Kind.TheVariants.{Integer, Text, Blob}
use Rattle.sqlite_sql.specs.declared.ops.BinaryOp.TheVariants.{Compare, And, Or}
use Rattle.sqlite_sql.specs.declared.ops.CompareOp.TheVariants.{Eq, Le, Ge}
use Rattle.sqlite_schema.specs.declared.schema.Column.{Column}
use Rattle.sqlite_schema.specs.declared.schema.Index.{Index}
use Rattle.sqlite_schema.specs.declared.schema.Reference.{Reference}
use Rattle.sqlite_schema.specs.declared.schema.Action.TheVariants.{NoAction, Restrict}
use Rattle.sqlite_value.specs.Keys.{plain}

abbrev pub Octets : Type 0
Octets = List ℕ

-- ---- words for the columns and keys of a table

-- a column of a STRICT table that is NOT NULL
abbrev pub given : Octets → Kind → Column
given name kind = record { name = name; kind = kind; is_strict = true; not_null = true; default = Null; collation = Binary }

-- a column that may be NULL
abbrev pub maybe : Octets → Kind → Column
maybe name kind = record (given name kind) { not_null = false }

-- CHECK (column >= 0); the first column after the row's number is at place 1
abbrev pub is_natural : ℕ → Term
is_natural place = op2 (Compare Ge Binary) (col 1 place) (lit (Int (pos 0)))

-- CHECK (column <= 4611686018427387904), which is 2^62: one more, or a sum with a smaller number, is still a number of 64 bits
abbrev pub is_small : ℕ → Term
is_small place = op2 (Compare Le Binary) (col 1 place) (lit (Int (pos 4611686018427387904)))

-- a table with these columns, whose primary key and other keys are the columns at these places
abbrev pub table : Octets → List Column → List ℕ → List (List ℕ) → List Reference → List Term → Table
table name columns primary others references checks = record {
  name = name;
  tree = 0;
  columns = columns;
  key = None;
  primary = primary;
  uniques = primary ∷ others;
  orders = map (λ _. plain) (primary ∷ others);
  checks = checks;
  references = references;
  computed = [];
  stamps = record { places = []; terms = []; formats = [] };
  is_counted = false;
}

-- the columns at these places are the primary key of a row of the parent, which may not be deleted
abbrev pub refers : List ℕ → Octets → Reference
refers columns parent =
    record { columns = columns; parent = parent; parent_columns = []; on_delete = Restrict; on_update = NoAction; is_deferred = false }

-- ---- the tables

-- one row, whose id is the row's number
abbrev pub host_table : Table
host_table = record (table (codes "host") (maybe (codes "id") Integer ∷ given (codes "version") Integer ∷ given (codes "latest") Integer
    ∷ given (codes "min_part") Integer ∷ given (codes "max_body") Integer ∷ given (codes "digest") Integer ∷ []) (0 ∷ []) [] []
    (op2 (Compare Eq Binary) (col 1 0) (lit (Int (pos 1))) ∷ is_natural 2 ∷ is_natural 3 ∷ is_natural 4 ∷ is_natural 5 ∷ is_natural 6
    ∷ [])) {
      key = Some 0;
      uniques = [];
      orders = [];
    }

-- each with the bytes of its versions and parts
abbrev pub tenants_table : Table
tenants_table = table (codes "tenants") (given (codes "tenant") Text ∷ given (codes "quota") Integer ∷ given (codes "next_version") Integer
    ∷ given (codes "next_upload") Integer ∷ given (codes "next_entry") Integer ∷ given (codes "used") Integer ∷ [])
    (1 ∷ []) [] [] (is_natural 2 ∷ is_natural 3 ∷ is_natural 4 ∷ is_natural 5 ∷ is_natural 6 ∷ is_small 6 ∷ [])

abbrev pub keys_table : Table
keys_table = table (codes "keys") (given (codes "tenant") Text ∷ given (codes "name") Text ∷ given (codes "secret") Text ∷ [])
    (1 ∷ 2 ∷ []) [] (refers (1 ∷ []) (codes "tenants") ∷ []) []

-- state 0, 1, 2: Unversioned, Enabled, Suspended
abbrev pub buckets_table : Table
buckets_table = table (codes "buckets") (given (codes "tenant") Text ∷ given (codes "bucket") Text ∷ given (codes "created") Integer
    ∷ given (codes "state") Integer ∷ maybe (codes "days") Integer ∷ []) (1 ∷ 2 ∷ []) [] (refers (1 ∷ []) (codes "tenants") ∷ [])
    (is_natural 3 ∷ is_natural 4 ∷ op2 (Compare Le Binary) (col 1 4) (lit (Int (pos 2))) ∷ is_natural 5 ∷ [])

-- id 0 is `null`; a marker has size 0 and an empty sum
abbrev pub versions_table : Table
versions_table = table (codes "versions")
    (given (codes "tenant") Text ∷ given (codes "seq") Integer ∷ given (codes "bucket") Text ∷ given (codes "okey") Blob
    ∷ given (codes "id") Integer ∷ given (codes "marker") Integer
    ∷ given (codes "stamp") Integer ∷ given (codes "size") Integer ∷ given (codes "sum") Text ∷ [])
    (1 ∷ 2 ∷ []) ((1 ∷ 3 ∷ 4 ∷ 5 ∷ []) ∷ []) (refers (1 ∷ 3 ∷ []) (codes "buckets") ∷ [])
    (is_natural 2 ∷ is_natural 5 ∷ is_natural 6 ∷ is_natural 7 ∷ is_natural 8
    ∷ op2 Or (op2 (Compare Eq Binary) (col 1 6) (lit (Int (pos 0))))
    (op2 And (op2 (Compare Eq Binary) (col 1 8) (lit (Int (pos 0)))) (op2 (Compare Eq Binary) (col 1 9) (lit (Words [])))) ∷ [])

-- blocks of bytes, shared by all tenants: those of one digest differ by the ordinal
abbrev pub blocks_table : Table
blocks_table = table (codes "blocks") (given (codes "digest") Blob ∷ given (codes "ord") Integer ∷ given (codes "bytes") Blob ∷ [])
    (1 ∷ 2 ∷ []) [] [] (is_natural 2 ∷ [])

-- how many references name each block. It is not a column of blocks, since an UPDATE writes a row
-- whole, its bytes too
abbrev pub uses_table : Table
uses_table = table (codes "uses") (given (codes "digest") Blob ∷ given (codes "ord") Integer ∷ given (codes "uses") Integer ∷ [])
    (1 ∷ 2 ∷ []) [] [] (is_natural 2 ∷ is_natural 3 ∷ is_small 3 ∷ [])

-- the block at each place of a body, whose name is an entry number of the tenant
abbrev pub refs_table : Table
refs_table = table (codes "refs") (given (codes "tenant") Text ∷ given (codes "body") Integer ∷ given (codes "place") Integer
    ∷ given (codes "digest") Blob ∷ given (codes "ord") Integer ∷ given (codes "size") Integer ∷ [])
    (1 ∷ 2 ∷ 3 ∷ []) [] (refers (4 ∷ 5 ∷ []) (codes "blocks") ∷ []) (is_natural 2 ∷ is_natural 3 ∷ is_natural 5 ∷ is_natural 6 ∷ [])

-- unfinished uploads, each with the bytes of its parts
abbrev pub uploads_table : Table
uploads_table = table (codes "uploads") (given (codes "tenant") Text ∷ given (codes "upload") Integer ∷ given (codes "bucket") Text
    ∷ given (codes "okey") Blob ∷ given (codes "begun") Integer ∷ given (codes "bytes_kept") Integer ∷ [])
    (1 ∷ 2 ∷ []) [] (refers (1 ∷ 3 ∷ []) (codes "buckets") ∷ []) (is_natural 2 ∷ is_natural 5 ∷ is_natural 6 ∷ is_small 6 ∷ [])

-- the parts of uploads, each with its body, whose name is an entry number of the tenant
abbrev pub parts_table : Table
parts_table = table (codes "parts")
    (given (codes "tenant") Text ∷ given (codes "upload") Integer ∷ given (codes "number") Integer ∷ given (codes "size") Integer
    ∷ given (codes "sum") Text ∷ given (codes "stamp") Integer
    ∷ given (codes "body") Integer ∷ [])
    (1 ∷ 2 ∷ 3 ∷ []) ((1 ∷ 7 ∷ []) ∷ []) (refers (1 ∷ 2 ∷ []) (codes "uploads") ∷ [])
    (is_natural 2 ∷ is_natural 3 ∷ is_natural 4 ∷ is_natural 6 ∷ is_natural 7 ∷ [])

-- the buckets that are locked
abbrev pub locks_table : Table
locks_table = table (codes "locks") (given (codes "tenant") Text ∷ given (codes "bucket") Text ∷ []) (1 ∷ 2 ∷ []) []
    (refers (1 ∷ 2 ∷ []) (codes "buckets") ∷ []) []

-- the retention date of a version, in seconds since 1970
abbrev pub retains_table : Table
retains_table = table (codes "retains") (given (codes "tenant") Text ∷ given (codes "seq") Integer ∷ given (codes "until") Integer ∷ [])
    (1 ∷ 2 ∷ []) [] (refers (1 ∷ 2 ∷ []) (codes "versions") ∷ []) (is_natural 2 ∷ is_natural 3 ∷ [])

-- how many versions, markers and current versions each tenant has. They are not columns of tenants,
-- since the store can't add any
abbrev pub tallies_table : Table
tallies_table = table (codes "tallies") (given (codes "tenant") Text ∷ given (codes "versions") Integer ∷ given (codes "markers") Integer
    ∷ given (codes "objects") Integer ∷ []) (1 ∷ []) [] (refers (1 ∷ []) (codes "tenants") ∷ [])
    (is_natural 2 ∷ is_small 2 ∷ is_natural 3 ∷ is_small 3 ∷ is_natural 4 ∷ is_small 4 ∷ [])

-- of the tables that follow those of packs and of places have rows where blocks have their bytes in packs, and the others but the
-- last have none yet. Version 4 added them, since the store can't add a column

-- the packs of bytes of blocks, by their numbers: how many bytes of each are committed, and how many
-- of these a row of placed names. INT, since INTEGER would make the number that of the row
abbrev pub packs_table : Table
packs_table = table (codes "packs") (given (codes "pack") Integer ∷ given (codes "length") Integer ∷ given (codes "live") Integer ∷ [])
    (1 ∷ []) [] [] (is_natural 1 ∷ is_natural 2 ∷ is_small 2 ∷ is_natural 3 ∷ is_small 3 ∷ [])

-- where the bytes are of a block that has none in its row: so many from a place of a pack on, and
-- their sum, of 64 bits, as the number that has these bits
abbrev pub placed_table : Table
placed_table = table (codes "placed")
    (given (codes "digest") Blob ∷ given (codes "ord") Integer ∷ given (codes "pack") Integer ∷ given (codes "place") Integer
    ∷ given (codes "size") Integer ∷ given (codes "sum") Integer ∷ [])
    (1 ∷ 2 ∷ []) ((3 ∷ 4 ∷ []) ∷ []) (refers (1 ∷ 2 ∷ []) (codes "blocks") ∷ refers (3 ∷ []) (codes "packs") ∷ [])
    (is_natural 2 ∷ is_natural 3 ∷ is_natural 4 ∷ is_small 4 ∷ is_natural 5 ∷ is_small 5 ∷ [])

-- what a client said of a version beside its bytes, as one text of bytes
abbrev pub notes_table : Table
notes_table = table (codes "notes") (given (codes "tenant") Text ∷ given (codes "seq") Integer ∷ given (codes "note") Blob ∷ [])
    (1 ∷ 2 ∷ []) [] (refers (1 ∷ 2 ∷ []) (codes "versions") ∷ []) (is_natural 2 ∷ [])

-- and of an unfinished upload
abbrev pub upload_notes_table : Table
upload_notes_table = table (codes "upload_notes")
    (given (codes "tenant") Text ∷ given (codes "upload") Integer ∷ given (codes "note") Blob ∷ [])
    (1 ∷ 2 ∷ []) [] (refers (1 ∷ 2 ∷ []) (codes "uploads") ∷ []) (is_natural 2 ∷ [])

-- what a key may do; one without a row may do all
abbrev pub rights_table : Table
rights_table = table (codes "rights") (given (codes "tenant") Text ∷ given (codes "name") Text ∷ given (codes "rights") Text ∷ [])
    (1 ∷ 2 ∷ []) [] (refers (1 ∷ 2 ∷ []) (codes "keys") ∷ []) []

-- it never has a row: a program that makes files of version 4 keeps no count in it, and opens such files
-- without looking into it
abbrev pub garbage_table : Table
garbage_table = record (table (codes "garbage") (maybe (codes "id") Integer ∷ given (codes "bytes") Integer ∷ []) (0 ∷ []) [] []
    (op2 (Compare Eq Binary) (col 1 0) (lit (Int (pos 1))) ∷ is_natural 2 ∷ is_small 2 ∷ [])) {
      key = Some 0;
      uniques = [];
      orders = [];
    }

-- how many bytes of blocks no reference names, in one row
abbrev pub unneeded_table : Table
unneeded_table = record garbage_table { name = codes "unneeded" }

-- ---- the schema of all tables

-- the table in this tree
abbrev pub at : ℕ → Table → Table
at tree t = record t { tree = tree }

-- the index of a key
abbrev pub auto : Octets → ℕ → ℕ → List ℕ → Index
auto name tree owner columns = record { name = name; tree = tree; table = owner; columns = columns; order = plain; is_unique = true }

-- versions by bucket and key, the newest first. The order has an octal digit for each column, the
-- lowest for the first; 1 is DESC
abbrev pub newest : Index
newest = record {
  name = codes "newest";
  tree = 0;
  table = 7;
  columns = 1 ∷ 3 ∷ 4 ∷ 2 ∷ [];
  order = record { digits = 0o1000 };
  is_unique = false;
}

-- references by the block that they name
abbrev pub refs_by_block : Index
refs_by_block = record {
  name = codes "refs_by_block";
  tree = 0;
  table = 12;
  columns = 4 ∷ 5 ∷ [];
  order = record { digits = 0 };
  is_unique = false;
}

-- uploads by bucket, key and number
abbrev pub uploads_by_key : Index
uploads_by_key = record {
  name = codes "uploads_by_key";
  tree = 0;
  table = 16;
  columns = 1 ∷ 3 ∷ 4 ∷ 2 ∷ [];
  order = record { digits = 0 };
  is_unique = false;
}

-- uploads by bucket, beginning and number
abbrev pub uploads_by_moment : Index
uploads_by_moment = record {
  name = codes "uploads_by_moment";
  tree = 0;
  table = 16;
  columns = 1 ∷ 3 ∷ 5 ∷ 2 ∷ [];
  order = record { digits = 0 };
  is_unique = false;
}

-- blocks by the number of references to them, the unreferenced ones first
abbrev pub uses_by_count : Index
uses_by_count = record {
  name = codes "uses_by_count";
  tree = 0;
  table = 23;
  columns = 3 ∷ 1 ∷ 2 ∷ [];
  order = record { digits = 0 };
  is_unique = false;
}

abbrev pub no_schema : Schema
no_schema = record { tables = []; indexes = []; views = [] }

-- of version 1
abbrev pub first_schema : Schema
first_schema = record {
  tables = at 0 host_table ∷ at 1 tenants_table ∷ at 3 keys_table ∷ at 5 buckets_table ∷ at 7 versions_table ∷ at 10 blocks_table
      ∷ at 12 refs_table
      ∷ at 16 uploads_table ∷ at 18 parts_table ∷ at 23 uses_table ∷ [];
  indexes = auto (codes "sqlite_autoindex_tenants_1") 2 1 (1 ∷ []) ∷ auto (codes "sqlite_autoindex_keys_1") 4 3 (1 ∷ 2 ∷ [])
      ∷ auto (codes "sqlite_autoindex_buckets_1") 6 5 (1 ∷ 2 ∷ []) ∷ auto (codes "sqlite_autoindex_versions_1") 8 7 (1 ∷ 2 ∷ [])
      ∷ auto (codes "sqlite_autoindex_versions_2") 9 7 (1 ∷ 3 ∷ 4 ∷ 5 ∷ []) ∷ auto (codes "sqlite_autoindex_blocks_1") 11 10 (1 ∷ 2 ∷ [])
      ∷ auto (codes "sqlite_autoindex_refs_1") 13 12 (1 ∷ 2 ∷ 3 ∷ []) ∷ record newest { tree = 14 } ∷ record refs_by_block { tree = 15 }
      ∷ auto (codes "sqlite_autoindex_uploads_1") 17 16 (1 ∷ 2 ∷ []) ∷ auto (codes "sqlite_autoindex_parts_1") 19 18 (1 ∷ 2 ∷ 3 ∷ [])
      ∷ auto (codes "sqlite_autoindex_parts_2") 20 18 (1 ∷ 7 ∷ []) ∷ record uploads_by_key { tree = 21 }
      ∷ record uploads_by_moment { tree = 22 }
      ∷ auto (codes "sqlite_autoindex_uses_1") 24 23 (1 ∷ 2 ∷ []) ∷ record uses_by_count { tree = 25 } ∷ [];
  views = [];
}

-- of version 2
abbrev pub second_schema : Schema
second_schema = record {
  tables = first_schema.tables ++ at 26 locks_table ∷ at 28 retains_table ∷ [];
  indexes = first_schema.indexes ++ auto (codes "sqlite_autoindex_locks_1") 27 26 (1 ∷ 2 ∷ [])
      ∷ auto (codes "sqlite_autoindex_retains_1") 29 28 (1 ∷ 2 ∷ []) ∷ [];
  views = [];
}

-- of version 3
abbrev pub third_schema : Schema
third_schema = record {
  tables = second_schema.tables ++ at 30 tallies_table ∷ [];
  indexes = second_schema.indexes ++ auto (codes "sqlite_autoindex_tallies_1") 31 30 (1 ∷ []) ∷ [];
  views = [];
}

-- of version 4
abbrev pub fourth_schema : Schema
fourth_schema = record {
  tables = third_schema.tables ++ at 32 packs_table ∷ at 34 placed_table ∷ at 37 notes_table ∷ at 39 upload_notes_table
      ∷ at 41 rights_table ∷ at 43 garbage_table ∷ [];
  indexes = third_schema.indexes ++ auto (codes "sqlite_autoindex_packs_1") 33 32 (1 ∷ [])
      ∷ auto (codes "sqlite_autoindex_placed_1") 35 34 (1 ∷ 2 ∷ []) ∷ auto (codes "sqlite_autoindex_placed_2") 36 34 (3 ∷ 4 ∷ [])
      ∷ auto (codes "sqlite_autoindex_notes_1") 38 37 (1 ∷ 2 ∷ []) ∷ auto (codes "sqlite_autoindex_upload_notes_1") 40 39 (1 ∷ 2 ∷ [])
      ∷ auto (codes "sqlite_autoindex_rights_1") 42 41 (1 ∷ 2 ∷ []) ∷ [];
  views = [];
}

-- of version 5
abbrev pub host_schema : Schema
host_schema = record {
  tables = fourth_schema.tables ++ at 44 unneeded_table ∷ [];
  indexes = fourth_schema.indexes;
  views = [];
}
