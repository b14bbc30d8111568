-- The foreign keys of a host's schema: where a parent is not there, no row names it.
use Rattle.std.proofs.Common.{◌≡◌, inl, inr, ℕ, pos, Bool, true, false, ◌&&◌, ◌||◌, List, [], ◌∷◌, filter, Some, None, cond, refl, sym, ap, subst, ◌∙◌, codes}
use Rattle.std.specs.List.{list_any}
use Rattle.std.specs.Ordering.{int_eq}
use Rattle.std.specs.Cmp.Derive.{both_true}
use Rattle.std.proofs.lemmas.Bool.{and_parts, false_from_ne_true, both_ways}
use Rattle.sqlite.specs.Effect.{Database, IsDatabase}
use Rattle.sqlite.specs.Tree.{Trees}
use Rattle.sqlite_value.specs.Keys.{plain, first_key}
use Rattle.sqlite_sql.specs.declared.ops.CompareOp.TheVariants.{Eq}
use Rattle.sqlite_rules.specs.Lists.{Has}
use Rattle.sqlite_rules.proofs.ListLemmas.{some_has, some_from}
use Rattle.sqlite_tied.specs.Compute.{everything}
use Rattle.sqlite_typed.specs.Tests.{bytes_eq}
use Rattle.sqlite_typed.proofs.TestLemmas.{same_bytes, at_texts, at_blobs, at_ints, last_term, then_term}
use Rattle.sqlite_keyed.proofs.KeyedLemmas.{same_int}
use Rattle.sqlite_keyed.proofs.ListLemmas.{none_from_any, filter_none}
use Rattle.bh_rows.specs.Form.{typed}
use Rattle.bh_rows.proofs.ObeyedLemmas.{has_parents}
use Rattle.bh_tables.specs.Schema.{Octets, host_schema, keys_table, buckets_table, versions_table, refs_table, uploads_table, parts_table, locks_table, retains_table, at, refers}
use Rattle.bh_tables.specs.Typed.{Totals, KeyRow, BucketRow, VersionColumns, PartColumns, RefRow, UploadRow, tenant_form, key_form, bucket_form, version_form, block_form, ref_form, upload_form, part_form, LockRow, RetainRow, lock_form, retain_form, raw, AreHeld, tables_in}
use Rattle.bh_tables.specs.Bodies.{Name, same_name, ref_name, block_name, first}
use Rattle.bh_tables.specs.Shown.{is_tenant, is_bucket, is_upload, is_block}
use Rattle.bh_tables.proofs.TotalLemmas.{name_Decides}
use Rattle.bh_stored.specs.Stored.{seen}
use Rattle.bh_stored.specs.declared.stored.Edition.{Edition}
use Rattle.bh_stored.specs.declared.stored.Edition.TheVariants.{First, Second, Third, Fourth, Fifth}
use Rattle.bh_check.proofs.Schemas.{over}

first_none : {P : Type 0} (m : P → Bool) (ps : List P) → first (filter m ps) ≡ None → list_any m ps ≡ false
first_none m [] h = refl
first_none {P} m (p ∷ ps) h = go (m p) refl (first_none m ps)
  where
    some_none : Some p ≡ None → ⊥
    some_none e = cc

    go : (b : Bool) → m p ≡ b → (first (filter m ps) ≡ None → list_any m ps ≡ false) → list_any m (p ∷ ps) ≡ false
    go true is rest = absurd (some_none (ap (λ b. first (cond b (p ∷ filter m ps) (filter m ps))) (sym is) ∙ h))
    go false is rest = ap (λ b. b || list_any m ps) is ∙ rest (ap (λ b. first (cond b (p ∷ filter m ps) (filter m ps))) (sym is) ∙ h)

-- no child names a parent that is not there
none_named : {C P : Type 0} (mc : C → Bool) (q : C → P → Bool) (mp : P → Bool) (children : List C) (parents : List P) → ((c : C) → Has children c → list_any (q c) parents ≡ true)
    → ((c : C) (p : P) → mc c ≡ true → q c p ≡ true → mp p ≡ true) → first (filter mp parents) ≡ None → filter mc children ≡ []
none_named mc q mp children parents there same none = filter_none mc children (none_from_any mc children (false_from_ne_true _ (λ some.
    let c = some_has mc children some in
    let p = some_has (q c.0) parents (there c.0 c.1) in
    both_ways _ (first_none mp parents none) (some_from mp parents p.0 p.1 (same c.0 p.0 c.2 p.2)))))

same_owner : (a b c : Octets) → bytes_eq a c ≡ true → bytes_eq b a ≡ true → bytes_eq b c ≡ true
same_owner a b c is eq = subst (λ x. bytes_eq x c ≡ true) (sym (same_bytes b a eq)) is

same_count : (a b n : ℕ) → int_eq (pos a) (pos n) ≡ true → int_eq (pos b) (pos a) ≡ true → int_eq (pos b) (pos n) ≡ true
same_count a b n is eq = subst (λ x. int_eq x (pos n) ≡ true) (sym (same_int (pos b) (pos a) eq)) is

module _ (sums : Totals) (edition : Edition) (trees : Trees) (sound : IsDatabase (record { schema = over edition; trees = trees })) (held : AreHeld sums (raw (seen edition trees))) where
  abbrev db : Database
  db = record { schema = host_schema; trees = seen edition trees }

  pub keys_owned : (t : Octets) → first (filter (is_tenant t) (tables_in db).tenants) ≡ None → filter (λ (k : KeyRow). bytes_eq k.tenant t) (tables_in db).keys ≡ []
  unfolding everything first_key
  keys_owned t = none_named (λ (k : KeyRow). bytes_eq k.tenant t) (λ k r. is_tenant k.tenant r) (is_tenant t) (tables_in db).keys (tables_in db).tenants
      (has_parents (tenant_form sums) key_form (over edition) trees sound (at 3 keys_table) (inr (inr (inl refl))) (refers (1 ∷ []) (codes "tenants")) (inl refl) (1, 1 ∷ [], plain) refl (λ id k. refl)
      (λ k r. is_tenant k.tenant r) (λ i k j r. last_term (at_texts false Eq r.tenant k.tenant)) held.tenants held.keys)
      (λ k r its is. same_owner k.tenant r.tenant t its is)

  pub buckets_owned : (t : Octets) → first (filter (is_tenant t) (tables_in db).tenants) ≡ None → filter (λ (b : BucketRow). bytes_eq b.tenant t) (tables_in db).buckets ≡ []
  unfolding everything first_key
  buckets_owned t = none_named (λ (b : BucketRow). bytes_eq b.tenant t) (λ b r. is_tenant b.tenant r) (is_tenant t) (tables_in db).buckets (tables_in db).tenants
      (has_parents (tenant_form sums) bucket_form (over edition) trees sound (at 5 buckets_table) (inr (inr (inr (inl refl)))) (refers (1 ∷ []) (codes "tenants")) (inl refl) (1, 1 ∷ [], plain) refl (λ id b. refl)
      (λ b r. is_tenant b.tenant r) (λ i b j r. last_term (at_texts false Eq r.tenant b.tenant)) held.tenants held.buckets)
      (λ b r its is. same_owner b.tenant r.tenant t its is)

  pub versions_owned : (t bucket : Octets) → first (filter (is_bucket t bucket) (tables_in db).buckets) ≡ None → filter (λ (v : VersionColumns). bytes_eq v.tenant t && bytes_eq v.bucket bucket) (typed version_form (trees 7)) ≡ []
  unfolding everything first_key
  versions_owned t bucket = none_named (λ (v : VersionColumns). bytes_eq v.tenant t && bytes_eq v.bucket bucket) (λ v b. is_bucket v.tenant v.bucket b) (is_bucket t bucket) (typed version_form (trees 7)) (tables_in db).buckets
      (has_parents bucket_form version_form (over edition) trees sound (at 7 versions_table) (inr (inr (inr (inr (inl refl))))) (refers (1 ∷ 3 ∷ []) (codes "buckets")) (inl refl) (5, 1 ∷ 2 ∷ [], plain) refl (λ id v. refl)
      (λ v b. is_bucket v.tenant v.bucket b) (λ i v j b. then_term (at_texts false Eq b.tenant v.tenant) (last_term (at_texts false Eq b.bucket v.bucket))) held.buckets held.versions)
      (λ v b its is. let x = and_parts _ _ its in let y = and_parts _ _ is in both_true (same_owner v.tenant b.tenant t x.0 y.0) (same_owner v.bucket b.bucket bucket x.1 y.1))

  pub uploads_owned : (t bucket : Octets) → first (filter (is_bucket t bucket) (tables_in db).buckets) ≡ None → filter (λ (u : UploadRow). bytes_eq u.tenant t && bytes_eq u.bucket bucket) (tables_in db).uploads ≡ []
  unfolding everything first_key
  uploads_owned t bucket = none_named (λ (u : UploadRow). bytes_eq u.tenant t && bytes_eq u.bucket bucket) (λ u b. is_bucket u.tenant u.bucket b) (is_bucket t bucket) (tables_in db).uploads (tables_in db).buckets
      (has_parents bucket_form (upload_form sums) (over edition) trees sound (at 16 uploads_table) (inr (inr (inr (inr (inr (inr (inr (inl refl)))))))) (refers (1 ∷ 3 ∷ []) (codes "buckets")) (inl refl) (5, 1 ∷ 2 ∷ [], plain) refl (λ id u. refl)
      (λ u b. is_bucket u.tenant u.bucket b) (λ i u j b. then_term (at_texts false Eq b.tenant u.tenant) (last_term (at_texts false Eq b.bucket u.bucket))) held.buckets held.uploads)
      (λ u b its is. let x = and_parts _ _ its in let y = and_parts _ _ is in both_true (same_owner u.tenant b.tenant t x.0 y.0) (same_owner u.bucket b.bucket bucket x.1 y.1))

  pub parts_owned : (t : Octets) (upload : ℕ) → first (filter (is_upload t upload) (tables_in db).uploads) ≡ None → filter (λ (p : PartColumns). bytes_eq p.tenant t && int_eq (pos p.upload) (pos upload)) (typed part_form (trees 18)) ≡ []
  unfolding everything first_key
  parts_owned t upload = none_named (λ (p : PartColumns). bytes_eq p.tenant t && int_eq (pos p.upload) (pos upload)) (λ p u. is_upload p.tenant p.upload u) (is_upload t upload) (typed part_form (trees 18)) (tables_in db).uploads
      (has_parents (upload_form sums) part_form (over edition) trees sound (at 18 parts_table) (inr (inr (inr (inr (inr (inr (inr (inr (inl refl))))))))) (refers (1 ∷ 2 ∷ []) (codes "uploads")) (inl refl) (16, 1 ∷ 2 ∷ [], plain) refl (λ id p. refl)
      (λ p u. is_upload p.tenant p.upload u) (λ i p j u. then_term (at_texts false Eq u.tenant p.tenant) (last_term (at_ints false Eq (pos u.upload) (pos p.upload)))) held.uploads held.parts)
      (λ p u its is. let x = and_parts _ _ its in let y = and_parts _ _ is in both_true (same_owner p.tenant u.tenant t x.0 y.0) (same_count p.upload u.upload upload x.1 y.1))

  pub refs_named : (q : Name) → first (filter (is_block q) (tables_in db).blocks) ≡ None → filter (λ (r : RefRow). same_name (ref_name r) q) (tables_in db).refs ≡ []
  unfolding everything first_key
  refs_named q = none_named (λ (r : RefRow). same_name (ref_name r) q) (λ r b. is_block (ref_name r) b) (is_block q) (tables_in db).refs (tables_in db).blocks
      (has_parents block_form ref_form (over edition) trees sound (at 12 refs_table) (inr (inr (inr (inr (inr (inr (inl refl))))))) (refers (4 ∷ 5 ∷ []) (codes "blocks")) (inl refl) (10, 1 ∷ 2 ∷ [], plain) refl (λ id r. refl)
      (λ r b. is_block (ref_name r) b) (λ i r j b. then_term (at_blobs false Eq b.digest r.digest) (last_term (at_ints false Eq (pos b.ord) (pos r.ord)))) held.blocks held.refs)
      (λ r b its is. (name_Decides (block_name b) q).1 ((name_Decides (block_name b) (ref_name r)).0 is ∙ (name_Decides (ref_name r) q).0 its))

-- ---- locks and dates: none is there where their tables aren't

module _ (sums : Totals) (trees : Trees) where
  pub locks_owned : (edition : Edition) → IsDatabase (record { schema = over edition; trees = trees }) → AreHeld sums (raw (seen edition trees)) → (t bucket : Octets) → first (filter (is_bucket t bucket) (typed bucket_form (trees 5))) ≡ None
      → filter (λ (l : LockRow). bytes_eq l.tenant t && bytes_eq l.bucket bucket) (typed lock_form (seen edition trees 26)) ≡ []
  unfolding everything first_key
  locks_owned First sound held t bucket = λ none. refl
  locks_owned Second sound held t bucket = none_named (λ (l : LockRow). bytes_eq l.tenant t && bytes_eq l.bucket bucket) (λ l b. is_bucket l.tenant l.bucket b) (is_bucket t bucket) (typed lock_form (trees 26)) (typed bucket_form (trees 5))
      (has_parents bucket_form lock_form (over Second) trees sound (at 26 locks_table) (inr (inr (inr (inr (inr (inr (inr (inr (inr (inr (inl refl))))))))))) (refers (1 ∷ 2 ∷ []) (codes "buckets")) (inl refl) (5, 1 ∷ 2 ∷ [], plain) refl (λ id l. refl)
      (λ l b. is_bucket l.tenant l.bucket b) (λ i l j b. then_term (at_texts false Eq b.tenant l.tenant) (last_term (at_texts false Eq b.bucket l.bucket))) held.buckets held.locks)
      (λ l b its is. let x = and_parts _ _ its in let y = and_parts _ _ is in both_true (same_owner l.tenant b.tenant t x.0 y.0) (same_owner l.bucket b.bucket bucket x.1 y.1))
  locks_owned Third sound held t bucket = none_named (λ (l : LockRow). bytes_eq l.tenant t && bytes_eq l.bucket bucket) (λ l b. is_bucket l.tenant l.bucket b) (is_bucket t bucket) (typed lock_form (trees 26)) (typed bucket_form (trees 5))
      (has_parents bucket_form lock_form (over Third) trees sound (at 26 locks_table) (inr (inr (inr (inr (inr (inr (inr (inr (inr (inr (inl refl))))))))))) (refers (1 ∷ 2 ∷ []) (codes "buckets")) (inl refl) (5, 1 ∷ 2 ∷ [], plain) refl (λ id l. refl)
      (λ l b. is_bucket l.tenant l.bucket b) (λ i l j b. then_term (at_texts false Eq b.tenant l.tenant) (last_term (at_texts false Eq b.bucket l.bucket))) held.buckets held.locks)
      (λ l b its is. let x = and_parts _ _ its in let y = and_parts _ _ is in both_true (same_owner l.tenant b.tenant t x.0 y.0) (same_owner l.bucket b.bucket bucket x.1 y.1))
  locks_owned Fourth sound held t bucket = none_named (λ (l : LockRow). bytes_eq l.tenant t && bytes_eq l.bucket bucket) (λ l b. is_bucket l.tenant l.bucket b) (is_bucket t bucket) (typed lock_form (trees 26)) (typed bucket_form (trees 5))
      (has_parents bucket_form lock_form (over Fourth) trees sound (at 26 locks_table) (inr (inr (inr (inr (inr (inr (inr (inr (inr (inr (inl refl))))))))))) (refers (1 ∷ 2 ∷ []) (codes "buckets")) (inl refl) (5, 1 ∷ 2 ∷ [], plain) refl (λ id l. refl)
      (λ l b. is_bucket l.tenant l.bucket b) (λ i l j b. then_term (at_texts false Eq b.tenant l.tenant) (last_term (at_texts false Eq b.bucket l.bucket))) held.buckets held.locks)
      (λ l b its is. let x = and_parts _ _ its in let y = and_parts _ _ is in both_true (same_owner l.tenant b.tenant t x.0 y.0) (same_owner l.bucket b.bucket bucket x.1 y.1))
  locks_owned Fifth sound held t bucket = none_named (λ (l : LockRow). bytes_eq l.tenant t && bytes_eq l.bucket bucket) (λ l b. is_bucket l.tenant l.bucket b) (is_bucket t bucket) (typed lock_form (trees 26)) (typed bucket_form (trees 5))
      (has_parents bucket_form lock_form (over Fifth) trees sound (at 26 locks_table) (inr (inr (inr (inr (inr (inr (inr (inr (inr (inr (inl refl))))))))))) (refers (1 ∷ 2 ∷ []) (codes "buckets")) (inl refl) (5, 1 ∷ 2 ∷ [], plain) refl (λ id l. refl)
      (λ l b. is_bucket l.tenant l.bucket b) (λ i l j b. then_term (at_texts false Eq b.tenant l.tenant) (last_term (at_texts false Eq b.bucket l.bucket))) held.buckets held.locks)
      (λ l b its is. let x = and_parts _ _ its in let y = and_parts _ _ is in both_true (same_owner l.tenant b.tenant t x.0 y.0) (same_owner l.bucket b.bucket bucket x.1 y.1))

  pub retains_owned : (edition : Edition) → IsDatabase (record { schema = over edition; trees = trees }) → AreHeld sums (raw (seen edition trees)) → (t : Octets) (seq : ℕ)
      → first (filter (λ (v : VersionColumns). bytes_eq v.tenant t && int_eq (pos v.seq) (pos seq)) (typed version_form (trees 7))) ≡ None → filter (λ (r : RetainRow). bytes_eq r.tenant t && int_eq (pos r.seq) (pos seq)) (typed retain_form (seen edition trees 28)) ≡ []
  unfolding everything first_key
  retains_owned First sound held t seq = λ none. refl
  retains_owned Second sound held t seq = none_named (λ (r : RetainRow). bytes_eq r.tenant t && int_eq (pos r.seq) (pos seq)) (λ r (v : VersionColumns). bytes_eq v.tenant r.tenant && int_eq (pos v.seq) (pos r.seq)) (λ (v : VersionColumns). bytes_eq v.tenant t && int_eq (pos v.seq) (pos seq))
      (typed retain_form (trees 28)) (typed version_form (trees 7))
      (has_parents version_form retain_form (over Second) trees sound (at 28 retains_table) (inr (inr (inr (inr (inr (inr (inr (inr (inr (inr (inr (inl refl)))))))))))) (refers (1 ∷ 2 ∷ []) (codes "versions")) (inl refl) (7, 1 ∷ 2 ∷ [], plain) refl (λ id r. refl)
      (λ r v. bytes_eq v.tenant r.tenant && int_eq (pos v.seq) (pos r.seq)) (λ i r j v. then_term (at_texts false Eq v.tenant r.tenant) (last_term (at_ints false Eq (pos v.seq) (pos r.seq)))) held.versions held.retains)
      (λ r v its is. let x = and_parts _ _ its in let y = and_parts _ _ is in both_true (same_owner r.tenant v.tenant t x.0 y.0) (same_count r.seq v.seq seq x.1 y.1))
  retains_owned Third sound held t seq = none_named (λ (r : RetainRow). bytes_eq r.tenant t && int_eq (pos r.seq) (pos seq)) (λ r (v : VersionColumns). bytes_eq v.tenant r.tenant && int_eq (pos v.seq) (pos r.seq)) (λ (v : VersionColumns). bytes_eq v.tenant t && int_eq (pos v.seq) (pos seq))
      (typed retain_form (trees 28)) (typed version_form (trees 7))
      (has_parents version_form retain_form (over Third) trees sound (at 28 retains_table) (inr (inr (inr (inr (inr (inr (inr (inr (inr (inr (inr (inl refl)))))))))))) (refers (1 ∷ 2 ∷ []) (codes "versions")) (inl refl) (7, 1 ∷ 2 ∷ [], plain) refl (λ id r. refl)
      (λ r v. bytes_eq v.tenant r.tenant && int_eq (pos v.seq) (pos r.seq)) (λ i r j v. then_term (at_texts false Eq v.tenant r.tenant) (last_term (at_ints false Eq (pos v.seq) (pos r.seq)))) held.versions held.retains)
      (λ r v its is. let x = and_parts _ _ its in let y = and_parts _ _ is in both_true (same_owner r.tenant v.tenant t x.0 y.0) (same_count r.seq v.seq seq x.1 y.1))
  retains_owned Fourth sound held t seq = none_named (λ (r : RetainRow). bytes_eq r.tenant t && int_eq (pos r.seq) (pos seq)) (λ r (v : VersionColumns). bytes_eq v.tenant r.tenant && int_eq (pos v.seq) (pos r.seq)) (λ (v : VersionColumns). bytes_eq v.tenant t && int_eq (pos v.seq) (pos seq))
      (typed retain_form (trees 28)) (typed version_form (trees 7))
      (has_parents version_form retain_form (over Fourth) trees sound (at 28 retains_table) (inr (inr (inr (inr (inr (inr (inr (inr (inr (inr (inr (inl refl)))))))))))) (refers (1 ∷ 2 ∷ []) (codes "versions")) (inl refl) (7, 1 ∷ 2 ∷ [], plain) refl (λ id r. refl)
      (λ r v. bytes_eq v.tenant r.tenant && int_eq (pos v.seq) (pos r.seq)) (λ i r j v. then_term (at_texts false Eq v.tenant r.tenant) (last_term (at_ints false Eq (pos v.seq) (pos r.seq)))) held.versions held.retains)
      (λ r v its is. let x = and_parts _ _ its in let y = and_parts _ _ is in both_true (same_owner r.tenant v.tenant t x.0 y.0) (same_count r.seq v.seq seq x.1 y.1))
  retains_owned Fifth sound held t seq = none_named (λ (r : RetainRow). bytes_eq r.tenant t && int_eq (pos r.seq) (pos seq)) (λ r (v : VersionColumns). bytes_eq v.tenant r.tenant && int_eq (pos v.seq) (pos r.seq)) (λ (v : VersionColumns). bytes_eq v.tenant t && int_eq (pos v.seq) (pos seq))
      (typed retain_form (trees 28)) (typed version_form (trees 7))
      (has_parents version_form retain_form (over Fifth) trees sound (at 28 retains_table) (inr (inr (inr (inr (inr (inr (inr (inr (inr (inr (inr (inl refl)))))))))))) (refers (1 ∷ 2 ∷ []) (codes "versions")) (inl refl) (7, 1 ∷ 2 ∷ [], plain) refl (λ id r. refl)
      (λ r v. bytes_eq v.tenant r.tenant && int_eq (pos v.seq) (pos r.seq)) (λ i r j v. then_term (at_texts false Eq v.tenant r.tenant) (last_term (at_ints false Eq (pos v.seq) (pos r.seq)))) held.versions held.retains)
      (λ r v its is. let x = and_parts _ _ its in let y = and_parts _ _ is in both_true (same_owner r.tenant v.tenant t x.0 y.0) (same_count r.seq v.seq seq x.1 y.1))
