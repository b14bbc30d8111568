-- What the tables have about an access key.
use Rattle.std.specs.Prelude.{is_some, find, if◌then◌else◌}
use Rattle.bh_tables.specs.Schema.{Octets}
use Rattle.bh_tables.specs.Typed.{Tables}
use Rattle.bh_tables.specs.Shown.{is_tenant, is_key}
use Rattle.bh_schema.specs.declared.rows.known.Known.{Known}
use Rattle.bh_schema.specs.declared.rows.known.Known.TheVariants.{NoTenant, NoKey, Key}

abbrev pub key_known : Tables → Octets → Octets → Known
key_known tables tenant name =
    if is_some (find (is_tenant tenant) tables.tenants) then (if is_some
    (find (is_key tenant name) tables.keys) then Key else NoKey) else NoTenant
