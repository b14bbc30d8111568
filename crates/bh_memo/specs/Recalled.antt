-- A storage's view, given what is remembered of its tables.
use Rattle.std.specs.Prelude.{if◌then◌else◌}
use Rattle.bh_tables.specs.Typed.{no_rows}
use Rattle.bh_storage.specs.Calls.{Seen}
use Rattle.bh_memo.specs.Facts.{Facts, holds}

-- if a remembered fact is wrong, there are no rows
unfoldable pub recalled : Facts → Seen → Seen
recalled facts s = record s { now = if holds facts s.now then s.now else no_rows }
