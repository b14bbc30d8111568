-- A part's row with its bytes.
use Rattle.std.specs.Prelude.{ℕ, [], ◌∷◌, ◌++◌}
use Rattle.std.specs.String.{string_bytes}
use Rattle.bh_tables.specs.Schema.{Octets}
use Rattle.bh_tables.specs.Bodies.{whole, resolved_part}
use Rattle.bh_tables.specs.Typed.{PartRow, PartColumns, Tables}
use Rattle.bh_moved.specs.declared.parts.ReadPart.{ReadPart}

-- with the bytes of its body in the tables
abbrev pub part_of : Octets → Tables → PartRow → PartRow
part_of t tables p = record p { tenant = t; bytes = whole tables.refs tables.blocks (t, p.body) }

abbrev pub own_part : Octets → PartRow → PartRow
own_part t p = record p { tenant = t }

abbrev pub part_row_after : PartColumns → Tables → Tables
part_row_after c tables = record tables { parts = tables.parts ++ resolved_part tables.refs tables.blocks c ∷ [] }

pub record SeenPart : Type 0 where
  pub upload : ℕ
  pub number : ℕ
  pub size : ℕ
  pub checksum : Octets
  pub stamp : ℕ
  pub body : ℕ

abbrev pub seen_part : PartRow → SeenPart
seen_part p = record { upload = p.upload; number = p.part; size = p.size; checksum = p.checksum; stamp = p.stamp; body = p.body }

abbrev pub part_seen : ReadPart → SeenPart
part_seen p = record {
  upload = p.upload;
  number = p.number;
  size = p.size;
  checksum = string_bytes p.checksum;
  stamp = p.stamp;
  body = p.body;
}
