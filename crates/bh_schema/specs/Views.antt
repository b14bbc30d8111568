-- Owned values, as their columns, and how the rows are read that have them.
use Rattle.std.specs.Prelude.{ℕ, Option}
use Rattle.std.specs.Str.{IsUtf8}
use Rattle.std.specs.String.{string_bytes}
use Rattle.bh_tables.specs.Schema.{Octets}
use Rattle.bh_tables.specs.Typed.{TenantRow, Tables, totals_of}
use Rattle.bh_tables.specs.Shown.{shown_tenant, shown_account, shown_bucket, shown_entry, shown_rule, shown_head}
use Rattle.bh_schema.specs.Reading.{Reading, read_as, textless}
use Rattle.bh_schema.specs.Rows.{SeenHead, tenant_numbers, tenant_account, bucket_numbers, entry_in, rule_in, seen_head}
use Rattle.bh_schema.specs.declared.rows.tenants.TenantNumbers.{TenantNumbers}
use Rattle.bh_schema.specs.declared.rows.tenants.TenantAccount.{TenantAccount}
use Rattle.bh_schema.specs.declared.rows.buckets.BucketNumbers.{BucketNumbers}
use Rattle.bh_schema.specs.declared.rows.buckets.ListedBucket.{ListedBucket}
use Rattle.bh_schema.specs.declared.rows.rules.BucketRule.{BucketRule}
use Rattle.bh_schema.specs.declared.rows.versions.VersionHead.{VersionHead}

abbrev pub entry_seen : ListedBucket → Octets × ℕ
entry_seen b = (string_bytes b.name, b.created)

abbrev pub rule_seen : BucketRule → Octets × Option ℕ
rule_seen r = (string_bytes r.bucket, r.days)

abbrev pub head_seen : VersionHead → SeenHead
head_seen v = record { seq = v.seq; id = v.id; marker = v.marker; stamp = v.stamp; size = v.size; checksum = string_bytes v.checksum }

-- ---- how rows are read

abbrev pub numbers_reading : Reading TenantNumbers
numbers_reading = textless shown_tenant tenant_numbers

-- the row of a tenant beside the tables that it is in
abbrev pub account_reading : Reading TenantAccount
account_reading = textless (λ (t : Tables × TenantRow). shown_account (totals_of t.0) t.1) (λ t. tenant_account t.0 t.1)

abbrev pub bucket_reading : Reading BucketNumbers
bucket_reading = textless shown_bucket bucket_numbers

abbrev pub entry_reading : Reading ListedBucket
entry_reading = read_as shown_entry entry_seen entry_in (λ b. IsUtf8 b.bucket)

abbrev pub rule_reading : Reading BucketRule
rule_reading = read_as shown_rule rule_seen rule_in (λ b. IsUtf8 b.bucket)

abbrev pub head_reading : Reading VersionHead
head_reading = read_as shown_head head_seen seen_head (λ v. IsUtf8 v.checksum)
