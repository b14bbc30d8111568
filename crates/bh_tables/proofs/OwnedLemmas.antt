-- What the foreign keys of a host's schema say of its rows: no bucket is without its tenant, no version without its bucket, no part
-- without its upload, and no reference without its block. So nothing is kept of a row that is new.
use Rattle.std.proofs.Common.{◌≡◌, inl, inr, ℕ, pos, Bool, true, false, true≢false, ◌&&◌, ◌||◌, not, length, filter, List, [], ◌∷◌, map, refl, sym, ap, subst, ◌∙◌, codes, arith}
use Rattle.std.specs.List.{list_any, AllByRecursion}
use Rattle.std.specs.Ordering.{int_eq}
use Rattle.std.specs.Cmp.Derive.{both_true}
use Rattle.std.proofs.lemmas.Bool.{and_parts, false_from_ne_true, both_ways}
use Rattle.sqlite.specs.Effect.{Database, IsDatabase}
use Rattle.sqlite_value.specs.Keys.{plain, first_key}
use Rattle.sqlite_sql.specs.declared.ops.CompareOp.TheVariants.{Eq}
use Rattle.sqlite_rules.specs.Lists.{Has}
use Rattle.sqlite_rules.proofs.ListLemmas.{some_has, some_from}
use Rattle.sqlite_tied.specs.Compute.{everything}
use Rattle.sqlite_typed.specs.Tests.{bytes_eq}
use Rattle.sqlite_typed.proofs.TestLemmas.{same_bytes, at_texts, at_blobs, at_ints, last_term, then_term}
use Rattle.sqlite_keyed.proofs.KeyedLemmas.{same_int}
use Rattle.sqlite_keyed.proofs.ListLemmas.{filter_none, all_weaker}
use Rattle.bh_rows.specs.Form.{typed}
use Rattle.bh_rows.proofs.ObeyedLemmas.{has_parents}
use Rattle.bh_tables.specs.Schema.{Octets, host_schema, placed_table, buckets_table, versions_table, refs_table, uploads_table, parts_table, at, refers}
use Rattle.bh_tables.specs.Typed.{Totals, TenantRow, tally_of, BucketRow, VersionColumns, VersionRow, PartColumns, PartRow, RefRow, UploadRow, tenant_form, bucket_form, version_form, block_form, ref_form, upload_form, part_form, IsHostBy, tables_in, bytes_used, bytes_kept}
use Rattle.bh_tables.specs.Rows.{PlaceRow, place_form}
use Rattle.bh_tables.specs.Packs.{place_name, is_place, places_in}
use Rattle.bh_tables.specs.Bodies.{Name, ref_name, block_name, resolved, resolved_part}
use Rattle.bh_tables.specs.Shown.{is_tenant, is_bucket, is_upload, is_block, is_use, is_later}
use Rattle.bh_tables.proofs.TotalLemmas.{total_none, name_Decides}

-- rows that name a row that is not there are none
none_without : {X P : Type 0} (k : X → Bool) (q : X → P → Bool) (kp : P → Bool) (xs : List X) (ps : List P) → ((x : X) → Has xs x → list_any (q x) ps ≡ true) → ((x : X) (p : P) → k x ≡ true → q x p ≡ true → kp p ≡ true)
    → list_any kp ps ≡ false → list_any k xs ≡ false
none_without k q kp xs ps there same none = false_from_ne_true _ (λ some.
    let x = some_has k xs some in
    let p = some_has (q x.0) ps (there x.0 x.1) in
    both_ways _ none (some_from kp ps p.0 p.1 (same x.0 p.0 x.2 p.2)))

same_owner : (a b c : Octets) → bytes_eq a c ≡ true → bytes_eq b a ≡ true → bytes_eq b c ≡ true
same_owner a b c is eq = subst (λ x. bytes_eq x c ≡ true) (sym (same_bytes b a eq)) is

module _ (sums : Totals) (db : Database) (sound : IsDatabase (record { schema = host_schema; trees = db.trees })) (host : IsHostBy sums db) where
  bucket_has : (b : BucketRow) → Has (typed bucket_form (db.trees 5)) b → list_any (is_tenant b.tenant) (tables_in db).tenants ≡ true
  unfolding everything first_key
  bucket_has = has_parents (tenant_form sums) bucket_form host_schema db.trees sound (at 5 buckets_table) (inr (inr (inr (inl refl)))) (refers (1 ∷ []) (codes "tenants")) (inl refl) (1, 1 ∷ [], plain) refl (λ id b. refl)
      (λ b t. is_tenant b.tenant t) (λ i b j t. last_term (at_texts false Eq t.tenant b.tenant)) host.held.tenants host.held.buckets

  version_has : (v : VersionColumns) → Has (typed version_form (db.trees 7)) v → list_any (is_bucket v.tenant v.bucket) (tables_in db).buckets ≡ true
  unfolding everything first_key
  version_has = has_parents bucket_form version_form host_schema db.trees sound (at 7 versions_table) (inr (inr (inr (inr (inl refl))))) (refers (1 ∷ 3 ∷ []) (codes "buckets")) (inl refl) (5, 1 ∷ 2 ∷ [], plain) refl (λ id v. refl)
      (λ v b. is_bucket v.tenant v.bucket b) (λ i v j b. then_term (at_texts false Eq b.tenant v.tenant) (last_term (at_texts false Eq b.bucket v.bucket))) host.held.buckets host.held.versions

  upload_has : (u : UploadRow) → Has (tables_in db).uploads u → list_any (is_bucket u.tenant u.bucket) (tables_in db).buckets ≡ true
  unfolding everything first_key
  upload_has = has_parents bucket_form (upload_form sums) host_schema db.trees sound (at 16 uploads_table) (inr (inr (inr (inr (inr (inr (inr (inl refl)))))))) (refers (1 ∷ 3 ∷ []) (codes "buckets")) (inl refl) (5, 1 ∷ 2 ∷ [], plain) refl (λ id u. refl)
      (λ u b. is_bucket u.tenant u.bucket b) (λ i u j b. then_term (at_texts false Eq b.tenant u.tenant) (last_term (at_texts false Eq b.bucket u.bucket))) host.held.buckets host.held.uploads

  part_has : (p : PartColumns) → Has (typed part_form (db.trees 18)) p → list_any (is_upload p.tenant p.upload) (tables_in db).uploads ≡ true
  unfolding everything first_key
  part_has = has_parents (upload_form sums) part_form host_schema db.trees sound (at 18 parts_table) (inr (inr (inr (inr (inr (inr (inr (inr (inl refl))))))))) (refers (1 ∷ 2 ∷ []) (codes "uploads")) (inl refl) (16, 1 ∷ 2 ∷ [], plain) refl (λ id p. refl)
      (λ p u. is_upload p.tenant p.upload u) (λ i p j u. then_term (at_texts false Eq u.tenant p.tenant) (last_term (at_ints false Eq (pos u.upload) (pos p.upload)))) host.held.uploads host.held.parts

  ref_has : (r : RefRow) → Has (tables_in db).refs r → list_any (is_block (ref_name r)) (tables_in db).blocks ≡ true
  unfolding everything first_key
  ref_has = has_parents block_form ref_form host_schema db.trees sound (at 12 refs_table) (inr (inr (inr (inr (inr (inr (inl refl))))))) (refers (4 ∷ 5 ∷ []) (codes "blocks")) (inl refl) (10, 1 ∷ 2 ∷ [], plain) refl (λ id r. refl)
      (λ r b. is_block (ref_name r) b) (λ i r j b. then_term (at_blobs false Eq b.digest r.digest) (last_term (at_ints false Eq (pos b.ord) (pos r.ord)))) host.held.blocks host.held.refs

  -- no reference names a block that is not there
  pub block_unused : (q : Name) → list_any (is_block q) (tables_in db).blocks ≡ false → list_any (is_use q) (tables_in db).refs ≡ false
  block_unused q free = none_without (is_use q) (λ r b. is_block (ref_name r) b) (is_block q) (tables_in db).refs (tables_in db).blocks ref_has
      (λ r b names is. (name_Decides (block_name b) q).1 ((name_Decides (block_name b) (ref_name r)).0 is ∙ (name_Decides (ref_name r) q).0 names)) free

  place_has : (p : PlaceRow) → Has (places_in db.trees) p → list_any (is_block (place_name p)) (tables_in db).blocks ≡ true
  unfolding everything first_key
  place_has = has_parents block_form place_form host_schema db.trees sound (at 34 placed_table) (inr (inr (inr (inr (inr (inr (inr (inr (inr (inr (inr (inr (inr (inr (inl refl))))))))))))))) (refers (1 ∷ 2 ∷ []) (codes "blocks")) (inl refl) (10, 1 ∷ 2 ∷ [], plain) refl (λ id p. refl)
      (λ p b. is_block (place_name p) b) (λ i p j b. then_term (at_blobs false Eq b.digest p.digest) (last_term (at_ints false Eq (pos b.ord) (pos p.ord)))) host.held.blocks host.held.places

  -- nor has it a place
  pub block_unplaced : (q : Name) → list_any (is_block q) (tables_in db).blocks ≡ false → list_any (is_place q) (places_in db.trees) ≡ false
  block_unplaced q free = none_without (is_place q) (λ p b. is_block (place_name p) b) (is_block q) (places_in db.trees) (tables_in db).blocks place_has
      (λ p b names is. (name_Decides (block_name b) q).1 ((name_Decides (block_name b) (place_name p)).0 is ∙ (name_Decides (place_name p) q).0 names)) free

  -- a tenant that is not there has no bucket, and so no version and no part
  no_bucket : (tenant : Octets) → list_any (is_tenant tenant) (tables_in db).tenants ≡ false → list_any (λ (b : BucketRow). bytes_eq b.tenant tenant) (tables_in db).buckets ≡ false
  no_bucket tenant free = none_without (λ (b : BucketRow). bytes_eq b.tenant tenant) (λ b t. is_tenant b.tenant t) (is_tenant tenant) (tables_in db).buckets (tables_in db).tenants bucket_has (λ b t its is. same_owner b.tenant t.tenant tenant its is) free

  no_version : (tenant : Octets) → list_any (is_tenant tenant) (tables_in db).tenants ≡ false → list_any (λ (v : VersionColumns). bytes_eq v.tenant tenant) (typed version_form (db.trees 7)) ≡ false
  no_version tenant free = none_without (λ (v : VersionColumns). bytes_eq v.tenant tenant) (λ v b. is_bucket v.tenant v.bucket b) (λ (b : BucketRow). bytes_eq b.tenant tenant) (typed version_form (db.trees 7)) (tables_in db).buckets version_has
      (λ v b its is. same_owner v.tenant b.tenant tenant its (and_parts _ _ is).0) (no_bucket tenant free)

  no_upload : (tenant : Octets) → list_any (is_tenant tenant) (tables_in db).tenants ≡ false → list_any (λ (u : UploadRow). bytes_eq u.tenant tenant) (tables_in db).uploads ≡ false
  no_upload tenant free = none_without (λ (u : UploadRow). bytes_eq u.tenant tenant) (λ u b. is_bucket u.tenant u.bucket b) (λ (b : BucketRow). bytes_eq b.tenant tenant) (tables_in db).uploads (tables_in db).buckets upload_has
      (λ u b its is. same_owner u.tenant b.tenant tenant its (and_parts _ _ is).0) (no_bucket tenant free)

  no_part : (tenant : Octets) → list_any (is_tenant tenant) (tables_in db).tenants ≡ false → list_any (λ (p : PartColumns). bytes_eq p.tenant tenant) (typed part_form (db.trees 18)) ≡ false
  no_part tenant free = none_without (λ (p : PartColumns). bytes_eq p.tenant tenant) (λ p u. is_upload p.tenant p.upload u) (λ (u : UploadRow). bytes_eq u.tenant tenant) (typed part_form (db.trees 18)) (tables_in db).uploads part_has
      (λ p u its is. same_owner p.tenant u.tenant tenant its (and_parts _ _ is).0) (no_upload tenant free)

  -- a test that none passes, of rows as they are stored
  each_fails : {X Y : Type 0} (g : X → Y) (m : Y → Bool) (xs : List X) → list_any (λ x. m (g x)) xs ≡ false → AllByRecursion (λ y. m y ≡ false) (map g xs)
  each_fails g m [] none = tt
  each_fails g m (x ∷ xs) none = go (m (g x)) refl none (each_fails g m xs)
    where
      go : (b : Bool) → m (g x) ≡ b → (b || list_any (λ y. m (g y)) xs) ≡ false → (list_any (λ y. m (g y)) xs ≡ false → AllByRecursion (λ y. m y ≡ false) (map g xs)) → (m (g x) ≡ false) × AllByRecursion (λ y. m y ≡ false) (map g xs)
      go true is h rest = absurd (true≢false h)
      go false is h rest = (is, rest h)

  -- so it uses nothing
  pub tenant_unused : (tenant : Octets) → list_any (is_tenant tenant) (tables_in db).tenants ≡ false → bytes_used (tables_in db).versions (tables_in db).parts tenant ≡ 0
  tenant_unused tenant free =
      let refs = (tables_in db).refs in
      let blocks = (tables_in db).blocks in
      let versions = total_none (λ (v : VersionRow). v.size) (λ v. bytes_eq v.tenant tenant) (tables_in db).versions (each_fails (resolved refs blocks) (λ (v : VersionRow). bytes_eq v.tenant tenant) (typed version_form (db.trees 7)) (no_version tenant free)) in
      let parts = total_none (λ (p : PartRow). p.size) (λ p. bytes_eq p.tenant tenant) (tables_in db).parts (each_fails (resolved_part refs blocks) (λ (p : PartRow). bytes_eq p.tenant tenant) (typed part_form (db.trees 18)) (no_part tenant free)) in
      omega (arith, versions, parts)

  -- and of an upload that is not there nothing is kept
  pub upload_unused : (tenant : Octets) (upload : ℕ) → list_any (is_upload tenant upload) (tables_in db).uploads ≡ false → bytes_kept (tables_in db).parts tenant upload ≡ 0
  upload_unused tenant upload free =
      total_none (λ (p : PartRow). p.size) (λ p. bytes_eq p.tenant tenant && int_eq (pos p.upload) (pos upload)) (tables_in db).parts
      (each_fails (resolved_part (tables_in db).refs (tables_in db).blocks) (λ (p : PartRow). bytes_eq p.tenant tenant && int_eq (pos p.upload) (pos upload)) (typed part_form (db.trees 18))
      (none_without (λ (p : PartColumns). bytes_eq p.tenant tenant && int_eq (pos p.upload) (pos upload)) (λ p u. is_upload p.tenant p.upload u) (is_upload tenant upload) (typed part_form (db.trees 18)) (tables_in db).uploads part_has
      (λ p u its is. let a = and_parts _ _ its in let b = and_parts _ _ is in both_true (same_owner p.tenant u.tenant tenant a.0 b.0) (subst (λ n. int_eq n (pos upload) ≡ true) (sym (same_int (pos u.upload) (pos p.upload) b.1)) a.1)) free))

  -- and has no version and no marker
  pub tenant_untallied : (t : TenantRow) → list_any (is_tenant t.tenant) (tables_in db).tenants ≡ false → tally_of (tables_in db).versions t ≡ record { tenant = t.tenant; versions = pos 0; markers = pos 0; objects = pos 0 }
  tenant_untallied t free = λ i. record {
    tenant = t.tenant;
    versions = pos (length (nothing (λ v. int_eq (pos v.marker) (pos 0)) i));
    markers = pos (length (nothing (λ v. int_eq (pos v.marker) (pos 1)) i));
    objects = pos (length (nothing (λ v. int_eq (pos v.marker) (pos 0) && not (list_any (is_later v) (tables_in db).versions)) i));
  }
    where
      nothing : (q : VersionRow → Bool) → filter (λ v. bytes_eq v.tenant t.tenant && q v) (tables_in db).versions ≡ []
      nothing q = filter_none (λ v. bytes_eq v.tenant t.tenant && q v) (tables_in db).versions
          (all_weaker _ _ (λ v none. ap (λ b. b && q v) none) (tables_in db).versions (each_fails (resolved (tables_in db).refs (tables_in db).blocks) (λ (v : VersionRow). bytes_eq v.tenant t.tenant) (typed version_form (db.trees 7)) (no_version t.tenant free)))
