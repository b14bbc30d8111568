-- A tenant's rows are as they are read, and come together as they come one after another.
use Rattle.std.proofs.Common.{◌≡◌, ℕ, List, [], ◌∷◌, map, append_assoc, append-nil, refl, sym, ap, ◌∙◌}
use Rattle.sqlite_keyed.proofs.ListLemmas.{all_weaker, all-filter, all_both}
use Rattle.bh_model.specs.State.{Octets}
use Rattle.bh_tables.specs.Bodies.{whole}
use Rattle.bh_tables.specs.Typed.{KeyRow, BucketRow, VersionRow, UploadRow, PartRow, LockRow, RetainRow, Tables}
use Rattle.bh_view.specs.Bodies.{IsResolved}
use Rattle.bh_view.specs.View.{rows_of}
use Rattle.bh_view.proofs.JoinLemmas.{map_itself}
use Rattle.bh_view.proofs.Keys.{octets}
use Rattle.bh_tenant_rows.proofs.Lists.{are_of}
use Rattle.bh_tenant_rows.specs.Brought.{with_keys, with_buckets, with_locks, with_uploads, with_retains, with_version, with_versions, with_part, with_parts}
use Rattle.bh_moved.specs.Parts.{part_of}
use Rattle.bh_moved.specs.Rows.{all_added, key_of, bucket_of, lock_of, upload_of, retain_of, version_of}

-- rows without bodies: where nothing is put nothing changes, and two puts are one
module _ {R : Type 0} (own : R → R) (put : List R → Tables → Tables) (none : (x : Tables) → put [] x ≡ x) (more : (r : R) (rs : List R) (x : Tables) → put rs (put (r ∷ []) x) ≡ put (r ∷ rs) x) where
  all_put : (rs : List R) (x : Tables) → all_added (λ r. put (own r ∷ [])) rs x ≡ put (map own rs) x
  all_put [] x = sym (none x)
  all_put (r ∷ rs) x = all_put rs (put (own r ∷ []) x) ∙ more (own r) (map own rs) x

  pub all_come : (rs : List R) → map own rs ≡ rs → (x : Tables) → all_added (λ r. put (own r ∷ [])) rs x ≡ put rs x
  all_come rs is x = all_put rs x ∙ ap (λ l. put l x) is

module _ (t : Octets) (from : Tables) where
  pub keys_come : (old : Tables) → all_added (λ r. with_keys (key_of t r ∷ [])) (rows_of t from).keys old ≡ with_keys (rows_of t from).keys old
  keys_come = all_come (key_of t) with_keys (λ x. ap (λ l. record x { keys = l }) (append-nil x.keys)) (λ r rs x. ap (λ l. record x { keys = l }) (append_assoc x.keys (r ∷ []) rs)) _
      (map_itself (key_of t) _ (all_weaker _ _ (λ (r : KeyRow) is. (λ i. record r { tenant = sym ((octets.decides r.tenant t).0 is) i })) _ (are_of (λ (r : KeyRow). r.tenant) t from.keys)))

  pub buckets_come : (old : Tables) → all_added (λ r. with_buckets (bucket_of t r ∷ [])) (rows_of t from).buckets old ≡ with_buckets (rows_of t from).buckets old
  buckets_come = all_come (bucket_of t) with_buckets (λ x. ap (λ l. record x { buckets = l }) (append-nil x.buckets)) (λ r rs x. ap (λ l. record x { buckets = l }) (append_assoc x.buckets (r ∷ []) rs)) _
      (map_itself (bucket_of t) _ (all_weaker _ _ (λ (r : BucketRow) is. (λ i. record r { tenant = sym ((octets.decides r.tenant t).0 is) i })) _ (are_of (λ (r : BucketRow). r.tenant) t from.buckets)))

  pub locks_come : (old : Tables) → all_added (λ r. with_locks (lock_of t r ∷ [])) (rows_of t from).locks old ≡ with_locks (rows_of t from).locks old
  locks_come = all_come (lock_of t) with_locks (λ x. ap (λ l. record x { locks = l }) (append-nil x.locks)) (λ r rs x. ap (λ l. record x { locks = l }) (append_assoc x.locks (r ∷ []) rs)) _
      (map_itself (lock_of t) _ (all_weaker _ _ (λ (r : LockRow) is. (λ i. record r { tenant = sym ((octets.decides r.tenant t).0 is) i })) _ (are_of (λ (r : LockRow). r.tenant) t from.locks)))

  pub uploads_come : (old : Tables) → all_added (λ r. with_uploads (upload_of t r ∷ [])) (rows_of t from).uploads old ≡ with_uploads (rows_of t from).uploads old
  uploads_come = all_come (upload_of t) with_uploads (λ x. ap (λ l. record x { uploads = l }) (append-nil x.uploads)) (λ r rs x. ap (λ l. record x { uploads = l }) (append_assoc x.uploads (r ∷ []) rs)) _
      (map_itself (upload_of t) _ (all_weaker _ _ (λ (r : UploadRow) is. (λ i. record r { tenant = sym ((octets.decides r.tenant t).0 is) i })) _ (are_of (λ (r : UploadRow). r.tenant) t from.uploads)))

  pub retains_come : (old : Tables) → all_added (λ r. with_retains (retain_of t r ∷ [])) (rows_of t from).retains old ≡ with_retains (rows_of t from).retains old
  retains_come = all_come (retain_of t) with_retains (λ x. ap (λ l. record x { retains = l }) (append-nil x.retains)) (λ r rs x. ap (λ l. record x { retains = l }) (append_assoc x.retains (r ∷ []) rs)) _
      (map_itself (retain_of t) _ (all_weaker _ _ (λ (r : RetainRow) is. (λ i. record r { tenant = sym ((octets.decides r.tenant t).0 is) i })) _ (are_of (λ (r : RetainRow). r.tenant) t from.retains)))

  -- ---- with the bytes of their bodies

  versions_are : IsResolved from → map (version_of t from) (rows_of t from).versions ≡ (rows_of t from).versions
  versions_are resolved = map_itself (version_of t from) _ (all_both _ _ _ (λ (v : VersionRow) is its. (λ i. record v { tenant = sym ((octets.decides v.tenant t).0 is) i; bytes = (ap (λ q. whole from.refs from.blocks (q, v.seq)) (sym ((octets.decides v.tenant t).0 is)) ∙ sym its) i })) _ (are_of (λ (v : VersionRow). v.tenant) t from.versions) (all-filter _ _ from.versions resolved.versions))

  parts_are : IsResolved from → map (part_of t from) (rows_of t from).parts ≡ (rows_of t from).parts
  parts_are resolved = map_itself (part_of t from) _ (all_both _ _ _ (λ (p : PartRow) is its. (λ i. record p { tenant = sym ((octets.decides p.tenant t).0 is) i; bytes = (ap (λ q. whole from.refs from.blocks (q, p.body)) (sym ((octets.decides p.tenant t).0 is)) ∙ sym its) i })) _ (are_of (λ (p : PartRow). p.tenant) t from.parts) (all-filter _ _ from.parts resolved.parts))

  module _ (digest : Octets → Octets) (size : ℕ) where
    versions_put : (vs : List VersionRow) (old : Tables) → all_added (λ v. with_version digest size (version_of t from v)) vs old ≡ with_versions digest size (map (version_of t from) vs) old
    versions_put [] old = refl
    versions_put (v ∷ vs) old = versions_put vs (with_version digest size (version_of t from v) old)

    parts_put : (ps : List PartRow) (old : Tables) → all_added (λ p. with_part digest size (part_of t from p)) ps old ≡ with_parts digest size (map (part_of t from) ps) old
    parts_put [] old = refl
    parts_put (p ∷ ps) old = parts_put ps (with_part digest size (part_of t from p) old)

    pub versions_come : IsResolved from → (old : Tables) → all_added (λ v. with_version digest size (version_of t from v)) (rows_of t from).versions old ≡ with_versions digest size (rows_of t from).versions old
    versions_come resolved old = versions_put (rows_of t from).versions old ∙ ap (λ l. with_versions digest size l old) (versions_are resolved)

    pub parts_come : IsResolved from → (old : Tables) → all_added (λ p. with_part digest size (part_of t from p)) (rows_of t from).parts old ≡ with_parts digest size (rows_of t from).parts old
    parts_come resolved old = parts_put (rows_of t from).parts old ∙ ap (λ l. with_parts digest size l old) (parts_are resolved)
