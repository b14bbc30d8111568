-- The rows of a database that was checked are sound: versions, uploads and parts, of each tenant.
use Rattle.std.proofs.Common.{◌≡◌, inl, inr, ℕ, ◌<◌, ◌≤◌, Bool, true, false, ◌&&◌, cond, List, [], ◌∷◌, length, map, filter, refl, sym, ap, ◌∙◌, subst, sum_by}
use Rattle.std.specs.List.{AllByRecursion, list_any}
use Rattle.std.proofs.lemmas.Bool.{cases_Bool}
use Rattle.sqlite.specs.Effect.{Database, IsDatabase}
use Rattle.sqlite.specs.Order.{Row, column}
use Rattle.sqlite.specs.Tree.{Trees}
use Rattle.sqlite_keyed.proofs.ListLemmas.{all_map, all_weaker, all_both, filter-map}
use Rattle.sqlite_typed.specs.Columns.{bytes_of}
use Rattle.sqlite_typed.specs.Tests.{bytes_eq}
use Rattle.sqlite_typed.proofs.TestLemmas.{same_bytes}
use Rattle.bh_types.specs.Checksums.{checksum_text}
use Rattle.bh_rows.specs.Form.{typed}
use Rattle.bh_tables.specs.Schema.{Octets, host_schema}
use Rattle.bh_tables.specs.Bodies.{first, whole, resolved, resolved_part}
use Rattle.bh_tables.specs.Shown.{is_tenant}
use Rattle.bh_tables.specs.Typed.{Totals, totals_of, tables_in, TenantRow, BucketRow, VersionRow, VersionColumns, UploadRow, PartRow, PartColumns, RefRow, BlockRow, tenant_of, version_of, version_form, upload_of, part_of, part_form, ref_form, block_form}
use Rattle.bh_view.specs.Grouped.{same_number}
use Rattle.bh_view.specs.Sound.{IsVersionRow, IsBelow, AreVersions, IsUploadRow, AreUploads, IsPartRow, AreParts}
use Rattle.bh_view.specs.View.{rows_of, in_bucket}
use Rattle.bh_view.proofs.FilterLemmas.{filter_both}
use Rattle.bh_check.specs.Blocks.{HasChecksum}
use Rattle.bh_stored.specs.Stored.{seen}
use Rattle.bh_stored.specs.declared.stored.Edition.{Edition}
use Rattle.bh_check.specs.Checked.{IsChecked}
use Rattle.bh_check.specs.Holds.{owner, first_two, part_body, number_at, next_entry, next_version, next_upload, body_versions, Holds}
use Rattle.bh_check.specs.Sums.{total}
use Rattle.bh_check.specs.declared.rows.Table.TheVariants as table
use Rattle.bh_check.proofs.Counted.{none_has, any_in, any_map, length_map, sum_of_one}
use Rattle.bh_check.proofs.HostIs.{held_is}
use Rattle.bh_check.proofs.Schemas.{over, kept}
use Rattle.bh_check.proofs.TallyCounts.{and_true}
use Rattle.bh_check.proofs.OneLemmas.{one_tenant, one_entry, one_version, one_upload, one_part, one_body}
use Rattle.bh_check.proofs.Parents.{versions_owned, uploads_owned, parts_owned}
use Rattle.bh_check.proofs.SoundBodies.{are_named, whole_length, whole_none, whole_stored}
use Rattle.bh_check.proofs.TotalIs.{total_is}

-- what holds of the rows that pass a test
pub all_in : {X : Type 0} (P : X → Type 0) (p : X → Bool) (xs : List X) → AllByRecursion (λ x. p x ≡ true → P x) xs → AllByRecursion P (filter p xs)
all_in P p [] h = tt
all_in P p (x ∷ xs) h = elim (cases_Bool (p x)) [
  | inl is ↦ subst (λ b. AllByRecursion P (cond b (x ∷ filter p xs) (filter p xs))) (sym is) (h.0 is, all_in P p xs h.1)
  | inr not ↦ subst (λ b. AllByRecursion P (cond b (x ∷ filter p xs) (filter p xs))) (sym not) (all_in P p xs h.1)
]

-- at most one of the rows as they are shown
one_shown : {C T : Type 0} (shown : C → T) (m : T → Bool) (cs : List C) → length (filter (λ c. m (shown c)) cs) ≤ 1 → length (filter m (map shown cs)) ≤ 1
one_shown shown m cs low = subst (λ n. n ≤ 1) (sym (ap length (filter-map m shown cs) ∙ length_map shown (filter (λ c. m (shown c)) cs))) low

none_shown : {C T : Type 0} (shown : C → T) (m : T → Bool) (cs : List C) → filter (λ c. m (shown c)) cs ≡ [] → filter m (map shown cs) ≡ []
none_shown shown m cs none = filter-map m shown cs ∙ ap (map shown) none

module _ (edition : Edition) (digest : Octets → Octets) (trees : Trees) (c : IsChecked edition digest (seen edition trees)) (sound : IsDatabase (record { schema = over edition; trees = trees })) (t : Octets) where
  abbrev d : Trees
  d = seen edition trees

  abbrev db : Database
  db = record { schema = host_schema; trees = d }

  abbrev sums : Totals
  sums = kept edition (totals_of (tables_in db))

  abbrev refs : List RefRow
  refs = typed ref_form (d 12)

  abbrev blocks : List BlockRow
  blocks = typed block_form (d 10)

  abbrev latest : ℕ
  latest = c.latest

  abbrev tenants : List TenantRow
  tenants = (rows_of t (tables_in db)).tenants

  abbrev buckets : List BucketRow
  buckets = (rows_of t (tables_in db)).buckets

  -- ---- a tenant's next numbers

  one_row : length tenants ≤ 1
  one_row = one_tenant sums edition trees sound (held_is edition digest trees c) t

  -- the sum over its rows is the number in each of them
  next_is : (number : TenantRow → ℕ) (at : Row → ℕ) → ((r : Row) → number (tenant_of r) ≡ at r) → AllByRecursion (λ (r : TenantRow). total owner at (d 1) (t, 0) ≡ number r) tenants
  next_is number at same = all_weaker (λ (r : TenantRow). sum_by number tenants ≡ number r) (λ (r : TenantRow). total owner at (d 1) (t, 0) ≡ number r)
      (λ r is. sym (total_is tenant_of (is_tenant t) number owner at (t, 0) (λ r. and_true (bytes_eq (bytes_of (column r 1)) t)) same (d 1)) ∙ is) tenants (sum_of_one number tenants one_row)

  -- ---- versions

  abbrev shown : VersionColumns → VersionRow
  shown = resolved refs blocks

  abbrev versions : List VersionRow
  versions = (rows_of t (tables_in db)).versions

  abbrev mine : VersionRow → Bool
  mine v = bytes_eq v.tenant t

  version_is : (r : Row) → Holds d latest table.Versions r → IsVersionRow latest (shown (version_of r))
  version_is r h = record {
    key = h.key;
    text = h.text;
    marker = h.marker;
    bare = λ marker. (whole_none edition digest trees c sound (first_two r) (h.bare marker).0, (h.bare marker).1);
    stamp = h.stamp;
    size = h.size ∙ whole_length edition digest trees c sound (first_two r);
  }

  abbrev IsUnder : VersionRow → Type 0
  IsUnder v = (v.seq < next_entry d (t, 0)) × (v.id < next_version d (t, 0))

  under : (r : Row) → Holds d latest table.Versions r → mine (shown (version_of r)) ≡ true → IsUnder (shown (version_of r))
  under r h is = (
    subst (λ x. number_at 2 r < next_entry d (x, 0)) (same_bytes (bytes_of (column r 1)) t is) h.seq,
    subst (λ x. number_at 5 r < next_version d (x, 0)) (same_bytes (bytes_of (column r 1)) t is) h.id,
  )

  all_versions : (P : VersionRow → Type 0) → ((r : Row) → Holds d latest table.Versions r → mine (shown (version_of r)) ≡ true → P (shown (version_of r))) → AllByRecursion P versions
  all_versions P each = all_in P mine (map shown (map version_of (d 7)))
      (all_map (λ v. mine v ≡ true → P v) shown (map version_of (d 7)) (all_map (λ x. mine (shown x) ≡ true → P (shown x)) version_of (d 7)
      (all_weaker (Holds d latest table.Versions) (λ r. mine (shown (version_of r)) ≡ true → P (shown (version_of r))) each (d 7) c.rows.versions)))

  below : AllByRecursion (λ (r : TenantRow). AllByRecursion (λ v. IsBelow v r) versions) tenants
  below = all_both (λ (r : TenantRow). next_entry d (t, 0) ≡ r.next_entry) (λ (r : TenantRow). next_version d (t, 0) ≡ r.next_version) (λ r. AllByRecursion (λ v. IsBelow v r) versions)
      (λ r entry version. all_weaker IsUnder (λ v. IsBelow v r) (λ v u. record { seq = subst (λ n. v.seq < n) entry u.0; id = subst (λ n. v.id < n) version u.1 }) versions (all_versions IsUnder under))
      tenants (next_is (λ r. r.next_entry) (number_at 5) (λ r. refl)) (next_is (λ r. r.next_version) (number_at 3) (λ r. refl))

  pub versions_are : AreVersions latest tenants buckets versions
  versions_are = record {
    each = all_versions (IsVersionRow latest) (λ r h is. version_is r h);
    one_seq = λ n. subst (λ l. length l ≤ 1) (sym (filter_both mine (λ v. same_number v.seq n) (tables_in db).versions))
        (one_shown shown (λ v. mine v && same_number v.seq n) (typed version_form (d 7)) (one_entry sums edition trees sound (held_is edition digest trees c) t n));
    one_id = λ bucket okey n. subst (λ l. length l ≤ 1)
        (sym (filter_both (λ (v : VersionRow). bytes_eq v.okey okey) (λ v. same_number v.id n) (in_bucket bucket versions)
        ∙ filter_both (λ (v : VersionRow). bytes_eq v.bucket bucket) (λ v. bytes_eq v.okey okey && same_number v.id n) versions
        ∙ filter_both mine (λ v. bytes_eq v.bucket bucket && (bytes_eq v.okey okey && same_number v.id n)) (tables_in db).versions))
        (one_shown shown (λ v. mine v && (bytes_eq v.bucket bucket && (bytes_eq v.okey okey && same_number v.id n))) (typed version_form (d 7)) (one_version sums edition trees sound (held_is edition digest trees c) t bucket okey n));
    owned = λ bucket none. filter_both mine (λ v. bytes_eq v.bucket bucket) (tables_in db).versions
        ∙ none_shown shown (λ v. mine v && bytes_eq v.bucket bucket) (typed version_form (d 7))
        (versions_owned sums edition trees sound (held_is edition digest trees c) t bucket (sym (ap first (filter_both (λ (b : BucketRow). bytes_eq b.tenant t) (λ b. bytes_eq b.bucket bucket) (tables_in db).buckets)) ∙ none));
    given = below;
  }

  -- ---- uploads

  abbrev uploads : List UploadRow
  uploads = (rows_of t (tables_in db)).uploads

  abbrev my_upload : UploadRow → Bool
  my_upload u = bytes_eq u.tenant t

  all_uploads : (P : UploadRow → Type 0) → ((r : Row) → Holds d latest table.Uploads r → my_upload (upload_of r) ≡ true → P (upload_of r)) → AllByRecursion P uploads
  all_uploads P each = all_in P my_upload (map upload_of (d 16)) (all_map (λ u. my_upload u ≡ true → P u) upload_of (d 16)
      (all_weaker (Holds d latest table.Uploads) (λ r. my_upload (upload_of r) ≡ true → P (upload_of r)) each (d 16) c.rows.uploads))

  uploads_given : AllByRecursion (λ (u : UploadRow). u.upload < next_upload d (t, 0)) uploads
  uploads_given = all_uploads (λ (u : UploadRow). u.upload < next_upload d (t, 0)) (λ r h is. subst (λ x. number_at 2 r < next_upload d (x, 0)) (same_bytes (bytes_of (column r 1)) t is) h.given)

  pub uploads_are : AreUploads latest tenants buckets uploads
  uploads_are = record {
    each = all_uploads (IsUploadRow latest) (λ r h is. record { key = h.key; text = h.text; begun = h.begun });
    one = λ n. subst (λ l. length l ≤ 1) (sym (filter_both my_upload (λ u. same_number u.upload n) (tables_in db).uploads)) (one_upload sums edition trees sound (held_is edition digest trees c) t n);
    owned = λ bucket none. filter_both my_upload (λ u. bytes_eq u.bucket bucket) (tables_in db).uploads
        ∙ uploads_owned sums edition trees sound (held_is edition digest trees c) t bucket (sym (ap first (filter_both (λ (b : BucketRow). bytes_eq b.tenant t) (λ b. bytes_eq b.bucket bucket) (tables_in db).buckets)) ∙ none);
    given = all_weaker (λ (r : TenantRow). next_upload d (t, 0) ≡ r.next_upload) (λ (r : TenantRow). AllByRecursion (λ (u : UploadRow). u.upload < r.next_upload) uploads)
        (λ r is. all_weaker (λ (u : UploadRow). u.upload < next_upload d (t, 0)) (λ (u : UploadRow). u.upload < r.next_upload) (λ u low. subst (λ n. u.upload < n) is low) uploads uploads_given)
        tenants (next_is (λ r. r.next_upload) (number_at 4) (λ r. refl));
  }

  -- ---- parts

  abbrev part_shown : PartColumns → PartRow
  part_shown = resolved_part refs blocks

  abbrev parts : List PartRow
  parts = (rows_of t (tables_in db)).parts

  abbrev my_part : PartRow → Bool
  my_part p = bytes_eq p.tenant t

  abbrev IsSummed : Row → Type 0
  IsSummed r = bytes_of (column r 5) ≡ checksum_text (whole refs blocks (part_body r))

  abbrev HoldsPart : Row → Type 0
  HoldsPart r = Holds d latest table.Parts r × IsSummed r

  hold_parts : AllByRecursion HoldsPart (d 18)
  hold_parts = all_both (Holds d latest table.Parts) (HasChecksum (d 12) (d 10)) HoldsPart (λ r h sum. (h, sum ∙ ap checksum_text (whole_stored edition digest trees c sound (part_body r)))) (d 18) c.rows.parts (c.bodies.checksums (are_named edition digest trees c sound))

  all_parts : (P : PartRow → Type 0) → ((r : Row) → HoldsPart r → my_part (part_shown (part_of r)) ≡ true → P (part_shown (part_of r))) → AllByRecursion P parts
  all_parts P each = all_in P my_part (map part_shown (map part_of (d 18)))
      (all_map (λ p. my_part p ≡ true → P p) part_shown (map part_of (d 18)) (all_map (λ x. my_part (part_shown x) ≡ true → P (part_shown x)) part_of (d 18)
      (all_weaker HoldsPart (λ r. my_part (part_shown (part_of r)) ≡ true → P (part_shown (part_of r))) each (d 18) hold_parts)))

  part_is : (r : Row) → HoldsPart r → IsPartRow latest (part_shown (part_of r))
  part_is r h = record {
    least = h.0.least;
    most = h.0.most;
    stamp = h.0.stamp;
    size = h.0.size ∙ whole_length edition digest trees c sound (part_body r);
    checksum = h.1;
  }

  -- no version has its body
  apart_is : (r : Row) → Holds d latest table.Parts r → my_part (part_shown (part_of r)) ≡ true → list_any (λ (v : VersionRow). same_number v.seq (number_at 7 r)) versions ≡ false
  apart_is r h is =
      any_in mine (λ (v : VersionRow). same_number v.seq (number_at 7 r)) (tables_in db).versions
      ∙ any_map shown (λ v. mine v && same_number v.seq (number_at 7 r)) (typed version_form (d 7))
      ∙ any_map version_of (λ x. mine (shown x) && same_number (shown x).seq (number_at 7 r)) (d 7)
      ∙ none_has first_two (d 7) (t, number_at 7 r) (subst (λ x. body_versions d (x, number_at 7 r) ≡ 0) (same_bytes (bytes_of (column r 1)) t is) h.apart)

  parts_given : AllByRecursion (λ (p : PartRow). p.body < next_entry d (t, 0)) parts
  parts_given = all_parts (λ (p : PartRow). p.body < next_entry d (t, 0)) (λ r h is. subst (λ x. number_at 7 r < next_entry d (x, 0)) (same_bytes (bytes_of (column r 1)) t is) h.0.given)

  pub parts_are : AreParts latest tenants versions uploads parts
  parts_are = record {
    each = all_parts (IsPartRow latest) (λ r h is. part_is r h);
    one = λ upload n. subst (λ l. length l ≤ 1)
        (sym (filter_both (λ (p : PartRow). same_number p.upload upload) (λ p. same_number p.part n) parts ∙ filter_both my_part (λ p. same_number p.upload upload && same_number p.part n) (tables_in db).parts))
        (one_shown part_shown (λ p. my_part p && (same_number p.upload upload && same_number p.part n)) (typed part_form (d 18)) (one_part sums edition trees sound (held_is edition digest trees c) t upload n));
    one_body = λ n. subst (λ l. length l ≤ 1) (sym (filter_both my_part (λ p. same_number p.body n) (tables_in db).parts))
        (one_shown part_shown (λ p. my_part p && same_number p.body n) (typed part_form (d 18)) (one_body sums edition trees sound (held_is edition digest trees c) t n));
    apart = all_parts (λ (p : PartRow). list_any (λ (v : VersionRow). same_number v.seq p.body) versions ≡ false) (λ r h is. apart_is r h.0 is);
    owned = λ upload none. filter_both my_part (λ p. same_number p.upload upload) (tables_in db).parts
        ∙ none_shown part_shown (λ p. my_part p && same_number p.upload upload) (typed part_form (d 18))
        (parts_owned sums edition trees sound (held_is edition digest trees c) t upload (sym (ap first (filter_both my_upload (λ u. same_number u.upload upload) (tables_in db).uploads)) ∙ none));
    given = all_weaker (λ (r : TenantRow). next_entry d (t, 0) ≡ r.next_entry) (λ (r : TenantRow). AllByRecursion (λ (p : PartRow). p.body < r.next_entry) parts)
        (λ r is. all_weaker (λ (p : PartRow). p.body < next_entry d (t, 0)) (λ (p : PartRow). p.body < r.next_entry) (λ p low. subst (λ n. p.body < n) is low) parts parts_given)
        tenants (next_is (λ r. r.next_entry) (number_at 5) (λ r. refl));
  }
