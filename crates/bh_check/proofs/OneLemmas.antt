-- The unique indexes of a host's schema hold the rows apart: of each key there is one at most.
use Rattle.std.proofs.Common.{arith, ◌≡◌, inl, inr, ℕ, ◌≤◌, pos, Bool, true, false, ◌&&◌, List, [], ◌∷◌, length, filter, find, Option, Some, None, cond, refl, sym, ap, ◌∙◌, subst, codes}
use Rattle.std.specs.Cmp.{signed_Decides}
use Rattle.std.specs.Cmp.Derive.{both_true}
use Rattle.std.specs.Ordering.{int_eq}
use Rattle.std.proofs.lemmas.Bool.{and_parts, cases_Bool}
use Rattle.sqlite.specs.Effect.{IsDatabase}
use Rattle.sqlite.specs.Tree.{Trees}
use Rattle.sqlite_sql.specs.declared.ops.CompareOp.TheVariants.{Eq}
use Rattle.sqlite_value.specs.Keys.{first_key}
use Rattle.sqlite_schema.specs.declared.schema.Constraint.TheVariants.{Unique}
use Rattle.sqlite_tied.specs.Compute.{everything}
use Rattle.sqlite_typed.specs.Tests.{bytes_eq}
use Rattle.sqlite_typed.proofs.TestLemmas.{at_texts, at_blobs, at_ints, last_term, then_term}
use Rattle.bh_rows.specs.Form.{typed}
use Rattle.bh_rows.proofs.ObeyedLemmas.{one_passes}
use Rattle.bh_tables.specs.Schema.{Octets, tenants_table, keys_table, buckets_table, versions_table, blocks_table, uploads_table, parts_table, locks_table, retains_table, at, auto}
use Rattle.bh_tables.specs.Typed.{Totals, TenantRow, KeyRow, BucketRow, VersionColumns, BlockRow, UploadRow, PartColumns, tenant_form, key_form, bucket_form, version_form, block_form, upload_form, part_form, LockRow, RetainRow, lock_form, retain_form, raw, AreHeld}
use Rattle.bh_tables.proofs.TotalLemmas.{bytes_Decides}
use Rattle.bh_stored.specs.Stored.{seen}
use Rattle.bh_stored.specs.declared.stored.Edition.{Edition}
use Rattle.bh_stored.specs.declared.stored.Edition.TheVariants.{First, Second, Third, Fourth, Fifth}
use Rattle.bh_check.proofs.Schemas.{over}

pub same_texts : (a b t : Octets) → bytes_eq a t ≡ true → bytes_eq b t ≡ true → bytes_eq a b ≡ true
same_texts a b t h k = (bytes_Decides a b).1 ((bytes_Decides a t).0 h ∙ sym ((bytes_Decides b t).0 k))

pub same_numbers : (a b n : ℕ) → int_eq (pos a) (pos n) ≡ true → int_eq (pos b) (pos n) ≡ true → int_eq (pos a) (pos b) ≡ true
same_numbers a b n h k = (signed_Decides (pos a) (pos b)).1 ((signed_Decides (pos a) (pos n)).0 h ∙ sym ((signed_Decides (pos b) (pos n)).0 k))

-- rows of which one is found are one, and else none
pub at_most_one : {T : Type 0} (m : T → Bool) (xs : List T) → ((x : T) → find m xs ≡ Some x → filter m xs ≡ x ∷ []) → length (filter m xs) ≤ 1
at_most_one {T} m xs one = go (find m xs) refl
  where
    some_none : {x : T} → Some x ≡ None → ⊥
    some_none e = cc

    none_left : (ys : List T) → find m ys ≡ None → filter m ys ≡ []
    none_left [] none = refl
    none_left (y ∷ ys) none = elim (cases_Bool (m y)) [
      | inl on ↦ absurd (some_none (sym (ap (λ b. cond b (Some y) (find m ys)) on) ∙ none))
      | inr off ↦ ap (λ b. cond b (y ∷ filter m ys) (filter m ys)) off ∙ none_left ys (sym (ap (λ b. cond b (Some y) (find m ys)) off) ∙ none)
    ]

    go : (o : Option T) → find m xs ≡ o → length (filter m xs) ≤ 1
    go None is = subst (λ l. length l ≤ 1) (sym (none_left xs is)) (omega arith)
    go (Some x) is = subst (λ l. length l ≤ 1) (sym (one x is)) (omega arith)

module _ (sums : Totals) (edition : Edition) (trees : Trees) (sound : IsDatabase (record { schema = over edition; trees = trees })) (held : AreHeld sums (raw (seen edition trees))) where
  pub one_tenant : (t : Octets) → length (filter (λ (x : TenantRow). bytes_eq x.tenant t) (typed (tenant_form sums) (trees 1))) ≤ 1
  unfolding everything first_key
  one_tenant t = at_most_one (λ (x : TenantRow). bytes_eq x.tenant t) (typed (tenant_form sums) (trees 1))
      (one_passes (tenant_form sums) (over edition) (at 1 tenants_table) trees (sound.obeys.rules Unique) (inr (inl refl)) (auto (codes "sqlite_autoindex_tenants_1") 2 1 (1 ∷ [])) (inl refl) refl held.tenants (λ (x : TenantRow). bytes_eq x.tenant t)
      (λ a b x y h k. (last_term (at_texts false Eq x.tenant y.tenant)) ∙ (same_texts x.tenant y.tenant t h k)))

  pub one_key : (t name : Octets) → length (filter (λ (x : KeyRow). bytes_eq x.tenant t && bytes_eq x.name name) (typed key_form (trees 3))) ≤ 1
  unfolding everything first_key
  one_key t name = at_most_one (λ (x : KeyRow). bytes_eq x.tenant t && bytes_eq x.name name) (typed key_form (trees 3))
      (one_passes key_form (over edition) (at 3 keys_table) trees (sound.obeys.rules Unique) (inr (inr (inl refl))) (auto (codes "sqlite_autoindex_keys_1") 4 3 (1 ∷ 2 ∷ [])) (inr (inl refl)) refl held.keys (λ (x : KeyRow). bytes_eq x.tenant t && bytes_eq x.name name)
      (λ a b x y h k. (then_term (at_texts false Eq x.tenant y.tenant) (last_term (at_texts false Eq x.name y.name))) ∙ (let h0 = and_parts _ _ h in let k0 = and_parts _ _ k in both_true (same_texts x.tenant y.tenant t h0.0 k0.0) (same_texts x.name y.name name h0.1 k0.1))))

  pub one_bucket : (t bucket : Octets) → length (filter (λ (x : BucketRow). bytes_eq x.tenant t && bytes_eq x.bucket bucket) (typed bucket_form (trees 5))) ≤ 1
  unfolding everything first_key
  one_bucket t bucket = at_most_one (λ (x : BucketRow). bytes_eq x.tenant t && bytes_eq x.bucket bucket) (typed bucket_form (trees 5))
      (one_passes bucket_form (over edition) (at 5 buckets_table) trees (sound.obeys.rules Unique) (inr (inr (inr (inl refl)))) (auto (codes "sqlite_autoindex_buckets_1") 6 5 (1 ∷ 2 ∷ [])) (inr (inr (inl refl))) refl held.buckets (λ (x : BucketRow). bytes_eq x.tenant t && bytes_eq x.bucket bucket)
      (λ a b x y h k. (then_term (at_texts false Eq x.tenant y.tenant) (last_term (at_texts false Eq x.bucket y.bucket))) ∙ (let h0 = and_parts _ _ h in let k0 = and_parts _ _ k in both_true (same_texts x.tenant y.tenant t h0.0 k0.0) (same_texts x.bucket y.bucket bucket h0.1 k0.1))))

  pub one_entry : (t : Octets) (seq : ℕ) → length (filter (λ (x : VersionColumns). bytes_eq x.tenant t && int_eq (pos x.seq) (pos seq)) (typed version_form (trees 7))) ≤ 1
  unfolding everything first_key
  one_entry t seq = at_most_one (λ (x : VersionColumns). bytes_eq x.tenant t && int_eq (pos x.seq) (pos seq)) (typed version_form (trees 7))
      (one_passes version_form (over edition) (at 7 versions_table) trees (sound.obeys.rules Unique) (inr (inr (inr (inr (inl refl))))) (auto (codes "sqlite_autoindex_versions_1") 8 7 (1 ∷ 2 ∷ [])) (inr (inr (inr (inl refl)))) refl held.versions (λ (x : VersionColumns). bytes_eq x.tenant t && int_eq (pos x.seq) (pos seq))
      (λ a b x y h k. (then_term (at_texts false Eq x.tenant y.tenant) (last_term (at_ints false Eq (pos x.seq) (pos y.seq)))) ∙ (let h0 = and_parts _ _ h in let k0 = and_parts _ _ k in both_true (same_texts x.tenant y.tenant t h0.0 k0.0) (same_numbers x.seq y.seq seq h0.1 k0.1))))

  pub one_version : (t bucket okey : Octets) (id : ℕ) → length (filter (λ (x : VersionColumns). bytes_eq x.tenant t && (bytes_eq x.bucket bucket && (bytes_eq x.okey okey && int_eq (pos x.id) (pos id)))) (typed version_form (trees 7))) ≤ 1
  unfolding everything first_key
  one_version t bucket okey id = at_most_one (λ (x : VersionColumns). bytes_eq x.tenant t && (bytes_eq x.bucket bucket && (bytes_eq x.okey okey && int_eq (pos x.id) (pos id)))) (typed version_form (trees 7))
      (one_passes version_form (over edition) (at 7 versions_table) trees (sound.obeys.rules Unique) (inr (inr (inr (inr (inl refl))))) (auto (codes "sqlite_autoindex_versions_2") 9 7 (1 ∷ 3 ∷ 4 ∷ 5 ∷ [])) (inr (inr (inr (inr (inl refl))))) refl held.versions (λ (x : VersionColumns). bytes_eq x.tenant t && (bytes_eq x.bucket bucket && (bytes_eq x.okey okey && int_eq (pos x.id) (pos id))))
      (λ a b x y h k. (then_term (at_texts false Eq x.tenant y.tenant) (then_term (at_texts false Eq x.bucket y.bucket) (then_term (at_blobs false Eq x.okey y.okey) (last_term (at_ints false Eq (pos x.id) (pos y.id)))))) ∙ (let h0 = and_parts _ _ h in let k0 = and_parts _ _ k in let h1 = and_parts _ _ h0.1 in let k1 = and_parts _ _ k0.1 in let h2 = and_parts _ _ h1.1 in let k2 = and_parts _ _ k1.1 in both_true (same_texts x.tenant y.tenant t h0.0 k0.0) (both_true (same_texts x.bucket y.bucket bucket h1.0 k1.0) (both_true (same_texts x.okey y.okey okey h2.0 k2.0) (same_numbers x.id y.id id h2.1 k2.1))))))

  pub one_block : (digest : Octets) (ord : ℕ) → length (filter (λ (x : BlockRow). bytes_eq x.digest digest && int_eq (pos x.ord) (pos ord)) (typed block_form (trees 10))) ≤ 1
  unfolding everything first_key
  one_block digest ord = at_most_one (λ (x : BlockRow). bytes_eq x.digest digest && int_eq (pos x.ord) (pos ord)) (typed block_form (trees 10))
      (one_passes block_form (over edition) (at 10 blocks_table) trees (sound.obeys.rules Unique) (inr (inr (inr (inr (inr (inl refl)))))) (auto (codes "sqlite_autoindex_blocks_1") 11 10 (1 ∷ 2 ∷ [])) (inr (inr (inr (inr (inr (inl refl)))))) refl held.blocks (λ (x : BlockRow). bytes_eq x.digest digest && int_eq (pos x.ord) (pos ord))
      (λ a b x y h k. (then_term (at_blobs false Eq x.digest y.digest) (last_term (at_ints false Eq (pos x.ord) (pos y.ord)))) ∙ (let h0 = and_parts _ _ h in let k0 = and_parts _ _ k in both_true (same_texts x.digest y.digest digest h0.0 k0.0) (same_numbers x.ord y.ord ord h0.1 k0.1))))

  pub one_upload : (t : Octets) (upload : ℕ) → length (filter (λ (x : UploadRow). bytes_eq x.tenant t && int_eq (pos x.upload) (pos upload)) (typed (upload_form sums) (trees 16))) ≤ 1
  unfolding everything first_key
  one_upload t upload = at_most_one (λ (x : UploadRow). bytes_eq x.tenant t && int_eq (pos x.upload) (pos upload)) (typed (upload_form sums) (trees 16))
      (one_passes (upload_form sums) (over edition) (at 16 uploads_table) trees (sound.obeys.rules Unique) (inr (inr (inr (inr (inr (inr (inr (inl refl)))))))) (auto (codes "sqlite_autoindex_uploads_1") 17 16 (1 ∷ 2 ∷ [])) (inr (inr (inr (inr (inr (inr (inr (inr (inr (inl refl)))))))))) refl held.uploads (λ (x : UploadRow). bytes_eq x.tenant t && int_eq (pos x.upload) (pos upload))
      (λ a b x y h k. (then_term (at_texts false Eq x.tenant y.tenant) (last_term (at_ints false Eq (pos x.upload) (pos y.upload)))) ∙ (let h0 = and_parts _ _ h in let k0 = and_parts _ _ k in both_true (same_texts x.tenant y.tenant t h0.0 k0.0) (same_numbers x.upload y.upload upload h0.1 k0.1))))

  pub one_part : (t : Octets) (upload part : ℕ) → length (filter (λ (x : PartColumns). bytes_eq x.tenant t && (int_eq (pos x.upload) (pos upload) && int_eq (pos x.part) (pos part))) (typed part_form (trees 18))) ≤ 1
  unfolding everything first_key
  one_part t upload part = at_most_one (λ (x : PartColumns). bytes_eq x.tenant t && (int_eq (pos x.upload) (pos upload) && int_eq (pos x.part) (pos part))) (typed part_form (trees 18))
      (one_passes part_form (over edition) (at 18 parts_table) trees (sound.obeys.rules Unique) (inr (inr (inr (inr (inr (inr (inr (inr (inl refl))))))))) (auto (codes "sqlite_autoindex_parts_1") 19 18 (1 ∷ 2 ∷ 3 ∷ [])) (inr (inr (inr (inr (inr (inr (inr (inr (inr (inr (inl refl))))))))))) refl held.parts (λ (x : PartColumns). bytes_eq x.tenant t && (int_eq (pos x.upload) (pos upload) && int_eq (pos x.part) (pos part)))
      (λ a b x y h k. (then_term (at_texts false Eq x.tenant y.tenant) (then_term (at_ints false Eq (pos x.upload) (pos y.upload)) (last_term (at_ints false Eq (pos x.part) (pos y.part))))) ∙ (let h0 = and_parts _ _ h in let k0 = and_parts _ _ k in let h1 = and_parts _ _ h0.1 in let k1 = and_parts _ _ k0.1 in both_true (same_texts x.tenant y.tenant t h0.0 k0.0) (both_true (same_numbers x.upload y.upload upload h1.0 k1.0) (same_numbers x.part y.part part h1.1 k1.1)))))

  pub one_body : (t : Octets) (body : ℕ) → length (filter (λ (x : PartColumns). bytes_eq x.tenant t && int_eq (pos x.body) (pos body)) (typed part_form (trees 18))) ≤ 1
  unfolding everything first_key
  one_body t body = at_most_one (λ (x : PartColumns). bytes_eq x.tenant t && int_eq (pos x.body) (pos body)) (typed part_form (trees 18))
      (one_passes part_form (over edition) (at 18 parts_table) trees (sound.obeys.rules Unique) (inr (inr (inr (inr (inr (inr (inr (inr (inl refl))))))))) (auto (codes "sqlite_autoindex_parts_2") 20 18 (1 ∷ 7 ∷ [])) (inr (inr (inr (inr (inr (inr (inr (inr (inr (inr (inr (inl refl)))))))))))) refl held.parts (λ (x : PartColumns). bytes_eq x.tenant t && int_eq (pos x.body) (pos body))
      (λ a b x y h k. (then_term (at_texts false Eq x.tenant y.tenant) (last_term (at_ints false Eq (pos x.body) (pos y.body)))) ∙ (let h0 = and_parts _ _ h in let k0 = and_parts _ _ k in both_true (same_texts x.tenant y.tenant t h0.0 k0.0) (same_numbers x.body y.body body h0.1 k0.1))))

-- ---- locks and dates: none is there where their tables aren't

module _ (sums : Totals) (trees : Trees) where
  pub one_lock : (edition : Edition) → IsDatabase (record { schema = over edition; trees = trees }) → AreHeld sums (raw (seen edition trees)) → (t bucket : Octets) → length (filter (λ (x : LockRow). bytes_eq x.tenant t && bytes_eq x.bucket bucket) (typed lock_form (seen edition trees 26))) ≤ 1
  unfolding everything first_key
  one_lock First sound held t bucket = omega arith
  one_lock Second sound held t bucket = at_most_one (λ (x : LockRow). bytes_eq x.tenant t && bytes_eq x.bucket bucket) (typed lock_form (trees 26))
      (one_passes lock_form (over Second) (at 26 locks_table) trees (sound.obeys.rules Unique) (inr (inr (inr (inr (inr (inr (inr (inr (inr (inr (inl refl))))))))))) (auto (codes "sqlite_autoindex_locks_1") 27 26 (1 ∷ 2 ∷ [])) (inr (inr (inr (inr (inr (inr (inr (inr (inr (inr (inr (inr (inr (inr (inr (inr (inl refl))))))))))))))))) refl held.locks (λ (x : LockRow). bytes_eq x.tenant t && bytes_eq x.bucket bucket)
      (λ a b x y h k. (then_term (at_texts false Eq x.tenant y.tenant) (last_term (at_texts false Eq x.bucket y.bucket))) ∙ (let h0 = and_parts _ _ h in let k0 = and_parts _ _ k in both_true (same_texts x.tenant y.tenant t h0.0 k0.0) (same_texts x.bucket y.bucket bucket h0.1 k0.1))))
  one_lock Third sound held t bucket = at_most_one (λ (x : LockRow). bytes_eq x.tenant t && bytes_eq x.bucket bucket) (typed lock_form (trees 26))
      (one_passes lock_form (over Third) (at 26 locks_table) trees (sound.obeys.rules Unique) (inr (inr (inr (inr (inr (inr (inr (inr (inr (inr (inl refl))))))))))) (auto (codes "sqlite_autoindex_locks_1") 27 26 (1 ∷ 2 ∷ [])) (inr (inr (inr (inr (inr (inr (inr (inr (inr (inr (inr (inr (inr (inr (inr (inr (inl refl))))))))))))))))) refl held.locks (λ (x : LockRow). bytes_eq x.tenant t && bytes_eq x.bucket bucket)
      (λ a b x y h k. (then_term (at_texts false Eq x.tenant y.tenant) (last_term (at_texts false Eq x.bucket y.bucket))) ∙ (let h0 = and_parts _ _ h in let k0 = and_parts _ _ k in both_true (same_texts x.tenant y.tenant t h0.0 k0.0) (same_texts x.bucket y.bucket bucket h0.1 k0.1))))
  one_lock Fourth sound held t bucket = at_most_one (λ (x : LockRow). bytes_eq x.tenant t && bytes_eq x.bucket bucket) (typed lock_form (trees 26))
      (one_passes lock_form (over Fourth) (at 26 locks_table) trees (sound.obeys.rules Unique) (inr (inr (inr (inr (inr (inr (inr (inr (inr (inr (inl refl))))))))))) (auto (codes "sqlite_autoindex_locks_1") 27 26 (1 ∷ 2 ∷ [])) (inr (inr (inr (inr (inr (inr (inr (inr (inr (inr (inr (inr (inr (inr (inr (inr (inl refl))))))))))))))))) refl held.locks (λ (x : LockRow). bytes_eq x.tenant t && bytes_eq x.bucket bucket)
      (λ a b x y h k. (then_term (at_texts false Eq x.tenant y.tenant) (last_term (at_texts false Eq x.bucket y.bucket))) ∙ (let h0 = and_parts _ _ h in let k0 = and_parts _ _ k in both_true (same_texts x.tenant y.tenant t h0.0 k0.0) (same_texts x.bucket y.bucket bucket h0.1 k0.1))))
  one_lock Fifth sound held t bucket = at_most_one (λ (x : LockRow). bytes_eq x.tenant t && bytes_eq x.bucket bucket) (typed lock_form (trees 26))
      (one_passes lock_form (over Fifth) (at 26 locks_table) trees (sound.obeys.rules Unique) (inr (inr (inr (inr (inr (inr (inr (inr (inr (inr (inl refl))))))))))) (auto (codes "sqlite_autoindex_locks_1") 27 26 (1 ∷ 2 ∷ [])) (inr (inr (inr (inr (inr (inr (inr (inr (inr (inr (inr (inr (inr (inr (inr (inr (inl refl))))))))))))))))) refl held.locks (λ (x : LockRow). bytes_eq x.tenant t && bytes_eq x.bucket bucket)
      (λ a b x y h k. (then_term (at_texts false Eq x.tenant y.tenant) (last_term (at_texts false Eq x.bucket y.bucket))) ∙ (let h0 = and_parts _ _ h in let k0 = and_parts _ _ k in both_true (same_texts x.tenant y.tenant t h0.0 k0.0) (same_texts x.bucket y.bucket bucket h0.1 k0.1))))

  pub one_retain : (edition : Edition) → IsDatabase (record { schema = over edition; trees = trees }) → AreHeld sums (raw (seen edition trees)) → (t : Octets) (seq : ℕ) → length (filter (λ (x : RetainRow). bytes_eq x.tenant t && int_eq (pos x.seq) (pos seq)) (typed retain_form (seen edition trees 28))) ≤ 1
  unfolding everything first_key
  one_retain First sound held t seq = omega arith
  one_retain Second sound held t seq = at_most_one (λ (x : RetainRow). bytes_eq x.tenant t && int_eq (pos x.seq) (pos seq)) (typed retain_form (trees 28))
      (one_passes retain_form (over Second) (at 28 retains_table) trees (sound.obeys.rules Unique) (inr (inr (inr (inr (inr (inr (inr (inr (inr (inr (inr (inl refl)))))))))))) (auto (codes "sqlite_autoindex_retains_1") 29 28 (1 ∷ 2 ∷ [])) (inr (inr (inr (inr (inr (inr (inr (inr (inr (inr (inr (inr (inr (inr (inr (inr (inr (inl refl)))))))))))))))))) refl held.retains (λ (x : RetainRow). bytes_eq x.tenant t && int_eq (pos x.seq) (pos seq))
      (λ a b x y h k. (then_term (at_texts false Eq x.tenant y.tenant) (last_term (at_ints false Eq (pos x.seq) (pos y.seq)))) ∙ (let h0 = and_parts _ _ h in let k0 = and_parts _ _ k in both_true (same_texts x.tenant y.tenant t h0.0 k0.0) (same_numbers x.seq y.seq seq h0.1 k0.1))))
  one_retain Third sound held t seq = at_most_one (λ (x : RetainRow). bytes_eq x.tenant t && int_eq (pos x.seq) (pos seq)) (typed retain_form (trees 28))
      (one_passes retain_form (over Third) (at 28 retains_table) trees (sound.obeys.rules Unique) (inr (inr (inr (inr (inr (inr (inr (inr (inr (inr (inr (inl refl)))))))))))) (auto (codes "sqlite_autoindex_retains_1") 29 28 (1 ∷ 2 ∷ [])) (inr (inr (inr (inr (inr (inr (inr (inr (inr (inr (inr (inr (inr (inr (inr (inr (inr (inl refl)))))))))))))))))) refl held.retains (λ (x : RetainRow). bytes_eq x.tenant t && int_eq (pos x.seq) (pos seq))
      (λ a b x y h k. (then_term (at_texts false Eq x.tenant y.tenant) (last_term (at_ints false Eq (pos x.seq) (pos y.seq)))) ∙ (let h0 = and_parts _ _ h in let k0 = and_parts _ _ k in both_true (same_texts x.tenant y.tenant t h0.0 k0.0) (same_numbers x.seq y.seq seq h0.1 k0.1))))
  one_retain Fourth sound held t seq = at_most_one (λ (x : RetainRow). bytes_eq x.tenant t && int_eq (pos x.seq) (pos seq)) (typed retain_form (trees 28))
      (one_passes retain_form (over Fourth) (at 28 retains_table) trees (sound.obeys.rules Unique) (inr (inr (inr (inr (inr (inr (inr (inr (inr (inr (inr (inl refl)))))))))))) (auto (codes "sqlite_autoindex_retains_1") 29 28 (1 ∷ 2 ∷ [])) (inr (inr (inr (inr (inr (inr (inr (inr (inr (inr (inr (inr (inr (inr (inr (inr (inr (inl refl)))))))))))))))))) refl held.retains (λ (x : RetainRow). bytes_eq x.tenant t && int_eq (pos x.seq) (pos seq))
      (λ a b x y h k. (then_term (at_texts false Eq x.tenant y.tenant) (last_term (at_ints false Eq (pos x.seq) (pos y.seq)))) ∙ (let h0 = and_parts _ _ h in let k0 = and_parts _ _ k in both_true (same_texts x.tenant y.tenant t h0.0 k0.0) (same_numbers x.seq y.seq seq h0.1 k0.1))))
  one_retain Fifth sound held t seq = at_most_one (λ (x : RetainRow). bytes_eq x.tenant t && int_eq (pos x.seq) (pos seq)) (typed retain_form (trees 28))
      (one_passes retain_form (over Fifth) (at 28 retains_table) trees (sound.obeys.rules Unique) (inr (inr (inr (inr (inr (inr (inr (inr (inr (inr (inr (inl refl)))))))))))) (auto (codes "sqlite_autoindex_retains_1") 29 28 (1 ∷ 2 ∷ [])) (inr (inr (inr (inr (inr (inr (inr (inr (inr (inr (inr (inr (inr (inr (inr (inr (inr (inl refl)))))))))))))))))) refl held.retains (λ (x : RetainRow). bytes_eq x.tenant t && int_eq (pos x.seq) (pos seq))
      (λ a b x y h k. (then_term (at_texts false Eq x.tenant y.tenant) (last_term (at_ints false Eq (pos x.seq) (pos y.seq)))) ∙ (let h0 = and_parts _ _ h in let k0 = and_parts _ _ k in both_true (same_texts x.tenant y.tenant t h0.0 k0.0) (same_numbers x.seq y.seq seq h0.1 k0.1))))
