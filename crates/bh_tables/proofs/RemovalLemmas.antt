-- What is kept of tenants once one of them goes: the sums over the rows of the others stay.
use Rattle.std.proofs.Common.{◌≡◌, ℕ, pos, ◌+◌, Bool, true, false, not, ◌&&◌, List, [], ◌∷◌, map, filter, length, sum_by, cond, refl, sym, ap, ap₂, subst, ◌∙◌}
use Rattle.std.specs.List.{AllByRecursion}
use Rattle.std.specs.Ordering.{int_eq}
use Rattle.std.proofs.lemmas.Bool.{and_parts}
use Rattle.sqlite.specs.declared.types.Value.TheVariants.{Int}
use Rattle.sqlite.specs.Order.{Row}
use Rattle.sqlite.specs.Tree.{rowid}
use Rattle.sqlite.specs.Edit.{id_in}
use Rattle.sqlite.specs.Effect.{Database}
use Rattle.sqlite_keyed.specs.Lists.{delete_where}
use Rattle.sqlite_keyed.proofs.ListLemmas.{filter-filter}
use Rattle.sqlite_typed.specs.Tests.{bytes_eq}
use Rattle.sqlite_typed.proofs.TestLemmas.{same_bytes}
use Rattle.bh_tables.specs.Schema.{Octets}
use Rattle.bh_tables.specs.Typed.{VersionRow, PartRow, UploadRow, TenantRow, tenant_of, tenant_columns, upload_of, upload_columns, tally, tally_of, is_tally, tallied, bytes_used, bytes_kept, Totals, Tables, totals_of, tables_in, IsHostBy, IsHost}
use Rattle.bh_tables.specs.Shown.{is_tenant, is_version_of, is_owned_upload, is_part_used, has_marker, is_later, is_current, current_versions}
use Rattle.bh_tables.specs.Removal.{without_rows}
use Rattle.bh_tables.proofs.TallyLemmas.{within}

-- ---- other sums beside the same rows

module _ (was now : Totals) where
  tenants_again : (rows : List Row) → AllByRecursion (λ r. r ≡ Int (id_in (rowid r)) ∷ tenant_columns (was.used (tenant_of r).tenant) (tenant_of r)) rows → AllByRecursion (λ (t : TenantRow). was.used t.tenant ≡ now.used t.tenant) (map tenant_of rows)
      → AllByRecursion (λ r. r ≡ Int (id_in (rowid r)) ∷ tenant_columns (now.used (tenant_of r).tenant) (tenant_of r)) rows
  tenants_again [] h same = tt
  tenants_again (r ∷ rows) h same = (h.0 ∙ ap (λ n. Int (id_in (rowid r)) ∷ tenant_columns n (tenant_of r)) same.0, tenants_again rows h.1 same.1)

  uploads_again : (rows : List Row) → AllByRecursion (λ r. r ≡ Int (id_in (rowid r)) ∷ upload_columns (was.kept ((upload_of r).tenant, (upload_of r).upload)) (upload_of r)) rows
      → AllByRecursion (λ (u : UploadRow). was.kept (u.tenant, u.upload) ≡ now.kept (u.tenant, u.upload)) (map upload_of rows)
      → AllByRecursion (λ r. r ≡ Int (id_in (rowid r)) ∷ upload_columns (now.kept ((upload_of r).tenant, (upload_of r).upload)) (upload_of r)) rows
  uploads_again [] h same = tt
  uploads_again (r ∷ rows) h same = (h.0 ∙ ap (λ n. Int (id_in (rowid r)) ∷ upload_columns n (upload_of r)) same.0, uploads_again rows h.1 same.1)

  -- the database of one is that of the other, if they agree at its rows
  host_again : (db : Database) → IsHostBy was db → AllByRecursion (λ (t : TenantRow). was.used t.tenant ≡ now.used t.tenant) (tables_in db).tenants
      → AllByRecursion (λ (u : UploadRow). was.kept (u.tenant, u.upload) ≡ now.kept (u.tenant, u.upload)) (tables_in db).uploads → was.uses ≡ now.uses → was.tallies ≡ now.tallies
      → was.garbage ≡ now.garbage → was.measured ≡ now.measured → IsHostBy now db
  host_again db host used kept uses tallies garbage measured = record {
    schema = host.schema;
    held = record {
      host = host.held.host;
      tenants = record { each = tenants_again (db.trees 1) host.held.tenants.each used; rises = host.held.tenants.rises };
      keys = host.held.keys;
      buckets = host.held.buckets;
      versions = host.held.versions;
      blocks = host.held.blocks;
      refs = host.held.refs;
      uploads = record { each = uploads_again (db.trees 16) host.held.uploads.each kept; rises = host.held.uploads.rises };
      parts = host.held.parts;
      uses = host.held.uses;
      counts = host.held.counts ∙ uses;
      locks = host.held.locks;
      retains = host.held.retains;
      tallies = host.held.tallies;
      tallied = host.held.tallied ∙ tallies;
      garbage = host.held.garbage;
      weighed = host.held.weighed ∙ garbage;
      measured = sym measured ∙ host.held.measured;
      packs = host.held.packs;
      places = host.held.places;
      unfilled = host.held.unfilled;
    };
  }

-- ---- the sums over the rows of others

-- what holds of each row that a DELETE leaves
each_left : {X : Type 0} (P : X → Type 0) (test : X → Bool) → ((x : X) → test x ≡ false → P x) → (xs : List X) → AllByRecursion P (delete_where test xs)
each_left P test h [] = tt
each_left P test h (x ∷ xs) = go (test x) refl (each_left P test h xs)
  where
    go : (b : Bool) → test x ≡ b → AllByRecursion P (delete_where test xs) → AllByRecursion P (cond (not b) (x ∷ delete_where test xs) (delete_where test xs))
    go true is rest = rest
    go false is rest = (h x is, rest)

module _ (tenant : Octets) where
  abbrev versions_left : List VersionRow → List VersionRow
  versions_left = delete_where (is_version_of tenant)

  abbrev parts_left : List PartRow → List PartRow
  parts_left = delete_where (is_part_used tenant)

  module _ (x : Octets) (other : bytes_eq x tenant ≡ false) where
    -- no row of another tenant is this one's
    apart : (y : Octets) → bytes_eq y x ≡ true → not (bytes_eq y tenant) ≡ true
    apart y is = ap (λ o. not (bytes_eq o tenant)) (same_bytes y x is) ∙ ap not other

    used_left : (vs : List VersionRow) (ps : List PartRow) → pos (bytes_used vs ps x) ≡ pos (bytes_used (versions_left vs) (parts_left ps) x)
    used_left vs ps =
        ap₂ (λ a b. pos (sum_by (λ (v : VersionRow). v.size) a + sum_by (λ (p : PartRow). p.size) b))
        (sym (filter-filter (λ (v : VersionRow). bytes_eq v.tenant x) (λ v. not (is_version_of tenant v)) (λ v is. apart v.tenant is) vs))
        (sym (filter-filter (λ (p : PartRow). bytes_eq p.tenant x) (λ p. not (is_part_used tenant p)) (λ p is. apart p.tenant is) ps))

    kept_left : (upload : ℕ) (ps : List PartRow) → pos (bytes_kept ps x upload) ≡ pos (bytes_kept (parts_left ps) x upload)
    kept_left upload ps =
        ap (λ l. pos (sum_by (λ (p : PartRow). p.size) l))
        (sym (filter-filter (λ (p : PartRow). bytes_eq p.tenant x && int_eq (pos p.upload) (pos upload)) (λ p. not (is_part_used tenant p)) (λ p is. apart p.tenant (and_parts _ _ is).0) ps))

    marked_left : (marker : ℕ) (vs : List VersionRow) → filter (has_marker x marker) (versions_left vs) ≡ filter (has_marker x marker) vs
    marked_left marker vs = filter-filter (has_marker x marker) (λ v. not (is_version_of tenant v)) (λ v is. apart v.tenant (and_parts _ _ is).0) vs

    -- a later entry of a key is the same tenant's
    alike : (v w : VersionRow) → is_later v w ≡ true → is_version_of tenant w ≡ is_version_of tenant v
    alike v w late = ap (λ o. bytes_eq o tenant) (same_bytes w.tenant v.tenant (and_parts _ _ late).0)

    current_left : (vs : List VersionRow) → current_versions x (versions_left vs) ≡ current_versions x vs
    current_left vs =
        sym (within x (is_version_of tenant) alike vs (λ v. not (is_version_of tenant v)) (λ v w on late. ap not (alike v w late) ∙ on))
        ∙ filter-filter (is_current x vs) (λ v. not (is_version_of tenant v)) (λ v is. apart v.tenant (and_parts _ _ is).0) vs

  tally_left : (vs : List VersionRow) (t : TenantRow) → is_tenant tenant t ≡ false → tally_of vs t ≡ tally_of (versions_left vs) t
  tally_left vs t other = λ i. tally t.tenant (length (sym (marked_left t.tenant other 0 vs) i)) (length (sym (marked_left t.tenant other 1 vs) i)) (length (sym (current_left t.tenant other vs) i))

  tallies_left : (vs : List VersionRow) (ts : List TenantRow) → delete_where (is_tally tenant) (map (tally_of vs) ts) ≡ map (tally_of (versions_left vs)) (delete_where (is_tenant tenant) ts)
  tallies_left vs [] = refl
  tallies_left vs (t ∷ ts) = go (is_tenant tenant t) refl (tallies_left vs ts)
    where
      go : (b : Bool) → is_tenant tenant t ≡ b → delete_where (is_tally tenant) (map (tally_of vs) ts) ≡ map (tally_of (versions_left vs)) (delete_where (is_tenant tenant) ts)
          → cond (not b) (tally_of vs t ∷ delete_where (is_tally tenant) (map (tally_of vs) ts)) (delete_where (is_tally tenant) (map (tally_of vs) ts)) ≡ map (tally_of (versions_left vs)) (cond (not b) (t ∷ delete_where (is_tenant tenant) ts) (delete_where (is_tenant tenant) ts))
      go true is rest = rest
      go false is rest = ap₂ ◌∷◌ (tally_left vs t is) rest

  -- so once its rows are gone, and its tally, all sums are right
  pub rows_gone : (t : Tables) (db : Database) → IsHostBy (tallied (delete_where (is_tally tenant)) (totals_of t)) db → tables_in db ≡ without_rows tenant t → IsHost db
  rows_gone t db host is =
      let gone = without_rows tenant t in
      let was = tallied (delete_where (is_tally tenant)) (totals_of t) in
      subst (λ (x : Tables). IsHostBy (totals_of x) db) (sym is)
      (host_again was (totals_of gone) db host
      (subst (λ (x : Tables). AllByRecursion (λ (r : TenantRow). was.used r.tenant ≡ (totals_of gone).used r.tenant) x.tenants) (sym is)
      (each_left (λ (r : TenantRow). was.used r.tenant ≡ (totals_of gone).used r.tenant) (is_tenant tenant) (λ r other. used_left r.tenant other t.versions t.parts) t.tenants))
      (subst (λ (x : Tables). AllByRecursion (λ (u : UploadRow). was.kept (u.tenant, u.upload) ≡ (totals_of gone).kept (u.tenant, u.upload)) x.uploads) (sym is)
      (each_left (λ (u : UploadRow). was.kept (u.tenant, u.upload) ≡ (totals_of gone).kept (u.tenant, u.upload)) (is_owned_upload tenant) (λ u other. kept_left u.tenant other u.upload t.parts) t.uploads))
      refl (tallies_left t.versions t.tenants) refl refl)
