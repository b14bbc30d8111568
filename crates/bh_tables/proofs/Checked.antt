-- What the CHECKs say of typed rows.
use Rattle.std.proofs.Common.{inl, inr, arith, ◌≡◌, ◌≤◌, ℕ, ℤ, pos, ◌∷◌, [], not, true, Bool, Option, Some, None, refl, ◌∙◌, int_le}
use Rattle.std.proofs.lemmas.Int.{ints}
use Rattle.std.specs.Cmp.Derive.{both_true}
use Rattle.std.proofs.lemmas.Bool.{and_parts}
use Rattle.sqlite.specs.Collation.TheVariants.{Binary}
use Rattle.sqlite.specs.declared.types.Value.TheVariants.{Int}
use Rattle.sqlite_sql.specs.declared.ops.BinaryOp.TheVariants.{Compare}
use Rattle.sqlite_sql.specs.declared.ops.CompareOp.TheVariants.{Ge, Le, Eq}
use Rattle.sqlite_sql.specs.Ops.{binary, is_false}
use Rattle.sqlite_typed.specs.Columns.{or_null}
use Rattle.sqlite_typed.specs.Tests.{null_or}
use Rattle.sqlite_typed.proofs.TestLemmas.{at_ints, at_texts, at_and, at_or, at_nullable}
use Rattle.sqlite.specs.Order.{Row}
use Rattle.sqlite.specs.Table.{Table}
use Rattle.sqlite.specs.Term.{Term, eval}
use Rattle.sqlite_rules.specs.Lists.{Has}
use Rattle.sqlite_rules.proofs.ListLemmas.{test_has}
use Rattle.sqlite_schema.specs.Rules.{passes_checks}
use Rattle.bh_tables.specs.Schema.{Octets, is_natural, is_small, host_table, tenants_table, buckets_table, versions_table, blocks_table, refs_table, uploads_table, parts_table, uses_table, packs_table, retains_table, tallies_table, unneeded_table}
use Rattle.bh_tables.specs.Typed.{HostRow, host_columns, TenantRow, tenant_columns, BucketRow, bucket_columns, VersionColumns, version_columns, BlockRow, block_columns, use_columns, RefRow, ref_columns, UploadRow, upload_columns, PartColumns, part_columns, RetainRow, retain_columns, tally_columns, GarbageRow, garbage_columns, weight, number}
use Rattle.bh_tables.specs.Rows.{PackRow, pack_columns}
use Rattle.bh_tables.specs.Bodies.{bare}
use Rattle.bh_tables.specs.Shown.{is_marked_right}

twice : (b : Bool) → b ≡ true → not (not b) ≡ true
twice b h = rw h refl

-- a number is at least 0
natural : (n : ℕ) → not (is_false (binary (Compare Ge Binary) (number n) (number 0))) ≡ true
natural n = twice _ (at_ints true Ge (pos n) (pos 0) ∙ grind (arith, ints))

at_most : (n m : ℕ) → n ≤ m → not (is_false (binary (Compare Le Binary) (number n) (number m))) ≡ true
at_most n m h = twice _ (at_ints true Le (pos n) (pos m) ∙ grind (arith, ints, h))

maybe_natural : (o : Option ℕ) → not (is_false (binary (Compare Ge Binary) (or_null number o) (number 0))) ≡ true
maybe_natural o = twice _ (at_nullable number true Ge (λ a b. int_le (pos b) (pos a)) (λ a b. at_ints true Ge (pos a) (pos b)) o (Some 0) ∙ go o)
  where
    go : (o : Option ℕ) → null_or (λ a b. int_le (pos b) (pos a)) o (Some 0) ≡ true
    go None = refl
    go (Some n) = grind (arith, ints)

-- a number up to 2^62
small : (n : ℕ) → n ≤ 4611686018427387904 → not (is_false (binary (Compare Le Binary) (number n) (number 4611686018427387904))) ≡ true
small n low = at_most n 4611686018427387904 low

pub tenant_checked : (id : ℤ) (used : ℕ) (t : TenantRow) → used ≤ 4611686018427387904 → passes_checks tenants_table (Int id ∷ tenant_columns (pos used) t) ≡ true
tenant_checked id used t low = both_true (natural t.quota) (both_true (natural t.next_version) (both_true (natural t.next_upload) (both_true (natural t.next_entry) (both_true (natural used) (both_true (small used low) refl)))))

-- each CHECK of a row that passes them all
pub check_at : (table : Table) (row : Row) (t : Term) → Has table.checks t → passes_checks table row ≡ true → not (is_false (eval t ([] ∷ row ∷ []))) ≡ true
check_at table row t has was = test_has (λ (c : Term). not (is_false (eval c ([] ∷ row ∷ [])))) table.checks t was has

-- and stays so with other numbers beside its total
pub tenant_checked_still : (id used : ℤ) (t u : TenantRow) → passes_checks tenants_table (Int id ∷ tenant_columns used t) ≡ true → passes_checks tenants_table (Int id ∷ tenant_columns used u) ≡ true
tenant_checked_still id used t u was =
    let row = Int id ∷ tenant_columns used t in
    let least = check_at tenants_table row (is_natural 6) (inr (inr (inr (inr (inl refl))))) was in
    let most = check_at tenants_table row (is_small 6) (inr (inr (inr (inr (inr (inl refl)))))) was in
    both_true (natural u.quota) (both_true (natural u.next_version) (both_true (natural u.next_upload) (both_true (natural u.next_entry) (both_true least (both_true most refl)))))

pub bucket_checked : (id : ℤ) (b : BucketRow) → b.state ≤ 2 → passes_checks buckets_table (Int id ∷ bucket_columns b) ≡ true
bucket_checked id b low = both_true (natural b.created) (both_true (natural b.state) (both_true (at_most b.state 2 low) (both_true (maybe_natural b.days) refl)))

-- and stays so under another rule
pub bucket_checked_still : (id : ℤ) (b : BucketRow) (days : Option ℕ) → passes_checks buckets_table (Int id ∷ bucket_columns b) ≡ true → passes_checks buckets_table (Int id ∷ bucket_columns (record b { days = days })) ≡ true
bucket_checked_still id b days was = both_true (natural b.created) (both_true (natural b.state) (both_true (and_parts _ _ (and_parts _ _ (and_parts _ _ was).1).1).0 (both_true (maybe_natural days) refl)))

pub version_checked : (id : ℤ) (v : VersionColumns) → is_marked_right (bare v) ≡ true → passes_checks versions_table (Int id ∷ version_columns v) ≡ true
version_checked id v right = both_true (natural v.seq) (both_true (natural v.id) (both_true (natural v.marker) (both_true (natural v.stamp) (both_true (natural v.size) (both_true (twice _ (
    at_or true _ _ (at_ints true Eq (pos v.marker) (pos 0)) (at_and true _ _ (at_ints true Eq (pos v.size) (pos 0)) (at_texts true Eq v.checksum [])) ∙ right)) refl)))))

pub block_checked : (id : ℤ) (b : BlockRow) → passes_checks blocks_table (Int id ∷ block_columns b) ≡ true
block_checked id b = both_true (natural b.ord) refl

pub use_checked : (id : ℤ) (digest : Octets) (ord uses : ℕ) → uses ≤ 4611686018427387904 → passes_checks uses_table (Int id ∷ use_columns (record { digest = digest; ord = ord; uses = pos uses })) ≡ true
use_checked id digest ord uses low = both_true (natural ord) (both_true (natural uses) (both_true (small uses low) refl))

pub ref_checked : (id : ℤ) (r : RefRow) → passes_checks refs_table (Int id ∷ ref_columns r) ≡ true
ref_checked id r = both_true (natural r.body) (both_true (natural r.place) (both_true (natural r.ord) (both_true (natural r.size) refl)))

pub upload_checked : (id : ℤ) (kept : ℕ) (u : UploadRow) → kept ≤ 4611686018427387904 → passes_checks uploads_table (Int id ∷ upload_columns (pos kept) u) ≡ true
upload_checked id kept u low = both_true (natural u.upload) (both_true (natural u.begun) (both_true (natural kept) (both_true (small kept low) refl)))

pub part_checked : (id : ℤ) (p : PartColumns) → passes_checks parts_table (Int id ∷ part_columns p) ≡ true
part_checked id p = both_true (natural p.upload) (both_true (natural p.part) (both_true (natural p.size) (both_true (natural p.stamp) (both_true (natural p.body) refl))))

pub pack_checked : (id : ℤ) (p : PackRow) → p.length ≤ 4611686018427387904 → p.live ≤ 4611686018427387904 → passes_checks packs_table (Int id ∷ pack_columns p) ≡ true
pack_checked id p short few = both_true (natural p.pack) (both_true (natural p.length) (both_true (small p.length short) (both_true (natural p.live) (both_true (small p.live few) refl))))

pub retain_checked : (id : ℤ) (r : RetainRow) → passes_checks retains_table (Int id ∷ retain_columns r) ≡ true
retain_checked id r = both_true (natural r.seq) (both_true (natural r.until) refl)

pub tally_checked : (id : ℤ) (tenant : Octets) (versions markers objects : ℕ) → versions ≤ 4611686018427387904 → markers ≤ 4611686018427387904 → objects ≤ 4611686018427387904
    → passes_checks tallies_table (Int id ∷ tally_columns (record { tenant = tenant; versions = pos versions; markers = pos markers; objects = pos objects })) ≡ true
tally_checked id tenant versions markers objects few fewer fewest =
    both_true (natural versions) (both_true (small versions few) (both_true (natural markers) (both_true (small markers fewer) (both_true (natural objects) (both_true (small objects fewest) refl)))))

-- the row number of what nobody needs is 1
pub garbage_checked : (n : ℕ) → n ≤ 4611686018427387904 → passes_checks unneeded_table (number 1 ∷ garbage_columns (weight n)) ≡ true
garbage_checked n low = both_true (twice _ (at_ints true Eq (pos 1) (pos 1))) (both_true (natural n) (both_true (small n low) refl))

-- and stays so under another number of bytes
pub garbage_checked_still : (id : ℤ) (g : GarbageRow) (n : ℕ) → n ≤ 4611686018427387904 → passes_checks unneeded_table (Int id ∷ garbage_columns g) ≡ true → passes_checks unneeded_table (Int id ∷ garbage_columns (weight n)) ≡ true
garbage_checked_still id g n low was = both_true (and_parts _ _ was).0 (both_true (natural n) (both_true (small n low) refl))

-- the row number of the host is 1
pub host_checked : (h : HostRow) → passes_checks host_table (number 1 ∷ host_columns h) ≡ true
host_checked h = both_true (twice _ (at_ints true Eq (pos 1) (pos 1))) (both_true (natural h.version) (both_true (natural h.latest) (both_true (natural h.min_part) (both_true (natural h.max_body) (both_true (natural h.digest) refl)))))

-- and stays so under another last stamp
pub host_checked_still : (id : ℤ) (h : HostRow) (n : ℕ) → passes_checks host_table (Int id ∷ host_columns h) ≡ true → passes_checks host_table (Int id ∷ host_columns (record h { latest = n })) ≡ true
host_checked_still id h n was = both_true (and_parts _ _ was).0 (both_true (natural h.version) (both_true (natural n) (both_true (natural h.min_part) (both_true (natural h.max_body) (both_true (natural h.digest) refl)))))

-- and under another version
pub version_checked_still : (id : ℤ) (h : HostRow) (n : ℕ) → passes_checks host_table (Int id ∷ host_columns h) ≡ true → passes_checks host_table (Int id ∷ host_columns (record h { version = n })) ≡ true
version_checked_still id h n was = both_true (and_parts _ _ was).0 (both_true (natural n) (both_true (natural h.latest) (both_true (natural h.min_part) (both_true (natural h.max_body) (both_true (natural h.digest) refl)))))
