-- The rows of a database that was checked are sound: tenants, keys, buckets and blocks.
use Rattle.std.proofs.Common.{◌≤◌, length, filter, sym, ap, ◌∙◌, subst}
use Rattle.sqlite.specs.Effect.{Database, IsDatabase}
use Rattle.sqlite.specs.Tree.{Trees}
use Rattle.sqlite_keyed.proofs.ListLemmas.{all_map, all_weaker, all-filter, filter-map}
use Rattle.sqlite_typed.specs.Tests.{bytes_eq}
use Rattle.bh_tables.specs.Schema.{Octets, host_schema}
use Rattle.bh_tables.specs.Typed.{Totals, totals_of, tables_in, TenantRow, KeyRow, BucketRow, BlockRow, tenant_of, key_of, bucket_of, block_of}
use Rattle.bh_view.specs.Blocks.{AreStored}
use Rattle.bh_view.specs.Grouped.{HasUnique}
use Rattle.bh_view.specs.Sound.{IsTenantRow, IsKeyRow, IsBucketRow, AreTenants, AreKeys, AreBuckets}
use Rattle.bh_view.specs.View.{rows_of}
use Rattle.bh_view.proofs.FilterLemmas.{filter_both}
use Rattle.bh_check.specs.Blocks.{block_octets}
use Rattle.bh_stored.specs.Stored.{seen}
use Rattle.bh_stored.specs.declared.stored.Edition.{Edition}
use Rattle.bh_check.specs.Checked.{IsChecked}
use Rattle.bh_check.specs.Holds.{Holds}
use Rattle.bh_check.specs.declared.rows.Table.TheVariants as table
use Rattle.bh_check.proofs.Counted.{length_map}
use Rattle.bh_check.proofs.HostIs.{held_is}
use Rattle.bh_check.proofs.Schemas.{over, kept}
use Rattle.bh_check.proofs.OneLemmas.{one_tenant, one_key, one_bucket, one_block}
use Rattle.bh_check.proofs.Parents.{keys_owned, buckets_owned, refs_named}

module _ (edition : Edition) (digest : Octets → Octets) (trees : Trees) (c : IsChecked edition digest (seen edition trees)) (sound : IsDatabase (record { schema = over edition; trees = trees })) where
  abbrev d : Trees
  d = seen edition trees

  abbrev db : Database
  db = record { schema = host_schema; trees = d }

  abbrev sums : Totals
  sums = kept edition (totals_of (tables_in db))

  -- no two blocks hold equal bytes, as they are shown
  once_shown : HasUnique bytes_eq (λ (b : BlockRow). b.bytes) (tables_in db).blocks
  once_shown k = subst (λ n. n ≤ 1) (sym (ap length (filter-map (λ (b : BlockRow). bytes_eq b.bytes k) block_of (d 10)) ∙ length_map block_of (filter (λ r. bytes_eq (block_octets r) k) (d 10)))) (c.bytes.once k)

  pub stored_are : AreStored (tables_in db).refs (tables_in db).blocks
  stored_are = record { one = λ q. one_block sums edition trees sound (held_is edition digest trees c) q.0 q.1; once = once_shown; named = refs_named sums edition trees sound (held_is edition digest trees c) }

  module _ (t : Octets) where
    pub tenants_are : AreTenants (rows_of t (tables_in db)).tenants
    tenants_are = record {
      each = all-filter IsTenantRow (λ (r : TenantRow). bytes_eq r.tenant t) (tables_in db).tenants
          (all_map IsTenantRow tenant_of (d 1) (all_weaker (Holds d c.latest table.Tenants) (λ r. IsTenantRow (tenant_of r)) (λ r h. h.good) (d 1) c.rows.tenants));
      one = one_tenant sums edition trees sound (held_is edition digest trees c) t;
    }

    pub keys_are : AreKeys (rows_of t (tables_in db)).tenants (rows_of t (tables_in db)).keys
    keys_are = record {
      each = all-filter IsKeyRow (λ (r : KeyRow). bytes_eq r.tenant t) (tables_in db).keys (all_map IsKeyRow key_of (d 3) c.rows.keys);
      one = λ name. subst (λ l. length l ≤ 1) (sym (filter_both (λ (r : KeyRow). bytes_eq r.tenant t) (λ r. bytes_eq r.name name) (tables_in db).keys)) (one_key sums edition trees sound (held_is edition digest trees c) t name);
      owned = keys_owned sums edition trees sound (held_is edition digest trees c) t;
    }

    pub buckets_are : AreBuckets c.latest (rows_of t (tables_in db)).tenants (rows_of t (tables_in db)).buckets
    buckets_are = record {
      each = all-filter (IsBucketRow c.latest) (λ (r : BucketRow). bytes_eq r.tenant t) (tables_in db).buckets (all_map (IsBucketRow c.latest) bucket_of (d 5) c.rows.buckets);
      one = λ name. subst (λ l. length l ≤ 1) (sym (filter_both (λ (r : BucketRow). bytes_eq r.tenant t) (λ r. bytes_eq r.bucket name) (tables_in db).buckets)) (one_bucket sums edition trees sound (held_is edition digest trees c) t name);
      owned = buckets_owned sums edition trees sound (held_is edition digest trees c) t;
    }
