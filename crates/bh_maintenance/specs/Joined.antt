-- A host that was opened, joined with its packs.
use Rattle.bh_open.specs.declared.open.Opened.{Opened}
use Rattle.bh_maintenance.specs.declared.joined.Joined.{Joined}

abbrev pub joined : {S P : Type 0} → Opened S → P → Joined S P
joined host packs = record {
  connection = record { database = host.connection; packs = packs };
  limits = host.limits;
  tuning = host.tuning;
  digest = host.digest;
  latest = host.latest;
}
