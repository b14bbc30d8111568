-- A block's name, and a reference, as their columns.
use Rattle.std.specs.Prelude.{ℕ}
use Rattle.bh_tables.specs.Schema.{Octets}
use Rattle.bh_tables.specs.Typed.{RefRow}
use Rattle.bh_tables.specs.Shown.{Name}
use Rattle.bh_blocks.specs.declared.rows.StoredName.{StoredName}
use Rattle.bh_blocks.specs.declared.refs.BlockRef.{BlockRef}
use Rattle.bh_blocks.specs.declared.refs.Place.{Place}

abbrev pub stored_name : StoredName → Name
stored_name n = (n.digest.items, n.ord)

abbrev pub named_by : BlockRef → Name
named_by b = (b.digest.items, b.ord)

-- the reference to a block at this place
abbrev pub placed_at : Place → Octets → ℕ → ℕ → RefRow
placed_at at digest ord size = record { tenant = at.tenant.now; body = at.body; place = at.place; digest = digest; ord = ord; size = size }

abbrev pub body_at : Place → Name
body_at at = (at.tenant.now, at.body)
