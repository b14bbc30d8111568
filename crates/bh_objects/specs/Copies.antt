-- A copy's reads of its source, and its writes.
use Rattle.std.specs.Prelude.{ℕ, Option}
use Rattle.bh_types.specs.Counts.{Counts}
use Rattle.bh_types.specs.declared.bucket_state.BucketState.{BucketState}
use Rattle.bh_model.specs.Entries.{Version}
use Rattle.bh_model.specs.State.{Octets}
use Rattle.bh_tables.specs.Bodies.{whole}
use Rattle.bh_tables.specs.Typed.{Tables}
use Rattle.bh_view.specs.Bodies.{body_copied}
use Rattle.bh_view.specs.View.{id_of}
use Rattle.bh_schema.specs.Rows.{SeenHead}
use Rattle.bh_objects.specs.Writes.{with_counters, without_replaced, with_version}
use Rattle.bh_objects.specs.declared.quotas.Replaced.{Replaced}

-- a tenant's version whose head was read: its bytes are those of its body
abbrev pub version_read : Octets → Tables → SeenHead → Version
version_read tenant tables head =
    record { id = id_of head.id; moment = head.stamp; bytes = whole tables.refs tables.blocks (tenant, head.seq); checksum = head.checksum }

-- a copy has the source's size and checksum; its body gets the source's blocks before the replaced
-- entry is removed, which may be the source
abbrev pub copy_written : BucketState → Counts → Counts → Option Replaced → Octets → Octets → Octets → ℕ → SeenHead → Tables → Tables
copy_written mode before after replaced tenant bucket key moment head tables =
    with_version mode before tenant bucket key moment head.size head.checksum
    (without_replaced tenant bucket key replaced (body_copied (tenant, head.seq) (tenant, before.entry)
    (with_counters mode after tenant tables)))
