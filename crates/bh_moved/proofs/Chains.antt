-- A tenant's rows come table by table, and its numbers are found.
use Rattle.std.proofs.Common.{◌≡◌, ℕ, true, false, ◌||◌, cond, List, [], ◌∷◌, ◌++◌, find, filter, Some, None, option_map, unwrap_or, refl, sym, ap, ◌∙◌}
use Rattle.std.specs.List.{list_any}
use Rattle.std.specs.Option.{option_map_or}
use Rattle.sqlite.specs.Order.{Row, column}
use Rattle.sqlite.specs.declared.types.Value.TheVariants.{Text}
use Rattle.sqlite_keyed.specs.Lists.{update_where}
use Rattle.bh_model.specs.State.{Octets}
use Rattle.bh_tables.specs.Bodies.{resolved_part}
use Rattle.bh_tables.specs.Typed.{HostRow, TenantRow, VersionRow, PartColumns, Tables}
use Rattle.bh_tables.specs.Shown.{is_tenant, is_part}
use Rattle.bh_view.specs.Bodies.{IsResolved}
use Rattle.bh_view.specs.Grouped.{first}
use Rattle.bh_view.specs.View.{rows_of, TenantRows, latest_of}
use Rattle.bh_view.proofs.FactLemmas.{none_first}
use Rattle.bh_view.proofs.FilterLemmas.{same_Some, delete_none}
use Rattle.bh_view.proofs.FindLemmas.{first_find}
use Rattle.bh_view.proofs.Keys.{octets}
use Rattle.bh_schema.specs.Rows.{latest_in, tenant_numbers}
use Rattle.bh_schema.specs.declared.rows.tenants.TenantNumbers.{TenantNumbers}
use Rattle.bh_tenant_rows.specs.Brought.{with_tenants, with_keys, with_buckets, with_locks, with_uploads, with_retains, with_version, with_versions, with_part, with_parts, with_names, with_contents, with_rows, IsNext}
use Rattle.bh_tenant_rows.specs.Shown.{shown_name}
use Rattle.bh_uploads.specs.Writes.{part_placed}
use Rattle.bh_moved.specs.Parts.{part_of, part_row_after}
use Rattle.bh_moved.specs.Rows.{all_added, tenant_row, key_of, bucket_of, lock_of, upload_of, retain_of, version_of}
use Rattle.bh_moved.proofs.Owned.{version_tenants}
use Rattle.bh_moved.proofs.OwnRows.{keys_come, buckets_come, locks_come, uploads_come, retains_come, versions_come, parts_come}
use Rattle.bh_moved.proofs.Steps.{update_last}

-- ---- what is found

pub latest_found : (tables : Tables) → unwrap_or (option_map latest_in (find (λ _. true) tables.host)) 0 ≡ latest_of tables
unfolding latest_of
latest_found tables = go tables.host
  where
    go : (l : List HostRow) → unwrap_or (option_map latest_in (find (λ _. true) l)) 0 ≡ option_map_or (λ (r : HostRow). r.latest) (first l) 0
    go [] = refl
    go (h ∷ hs) = refl

pub none_there : (t : Octets) (rows : List TenantRow) → find (is_tenant t) rows ≡ None → list_any (is_tenant t) rows ≡ false
none_there t [] none = refl
none_there t (r ∷ rs) none = elim (is_tenant t r) as (λ b. cond b (Some r) (find (is_tenant t) rs) ≡ None → (b || list_any (is_tenant t) rs) ≡ false) [ true ↦ λ h. absurd (cc) | false ↦ λ h. none_there t rs h ] none

pub numbers_found : (t : Octets) (n : TenantNumbers) (rows : List TenantRow) → Some n ≡ option_map tenant_numbers (find (is_tenant t) rows) → find (is_tenant t) rows ≡ Some (tenant_row t n)
numbers_found t n [] is = absurd (cc)
numbers_found t n (r ∷ rs) is = elim (is_tenant t r) as (λ b. is_tenant t r ≡ b → Some n ≡ option_map tenant_numbers (cond b (Some r) (find (is_tenant t) rs)) → cond b (Some r) (find (is_tenant t) rs) ≡ Some (tenant_row t n)) [
  | true ↦ λ e h. (λ i. Some (record r { tenant = (octets.decides r.tenant t).0 e i })) ∙ ap (λ m. Some (tenant_row t m)) (sym (same_Some h))
  | false ↦ λ e h. numbers_found t n rs h
] refl is

-- the text in the one column
pub text_read : (t : TenantRow) (row : Row) (name : Octets) → row ≡ shown_name t → column row 0 ≡ Text name → t.tenant ≡ name
text_read t row name is reads = let same : Text t.tenant ≡ Text name = ap (λ r. column r 0) (sym is) ∙ reads in cc

-- ---- a part that is new

pub part_new : (p : PartColumns) (next : ℕ) (tables : Tables) → find (is_part p.tenant p.upload p.part) tables.parts ≡ None → IsNext p.tenant next tables → part_placed p next tables ≡ part_row_after p tables
part_new p next tables none is =
    let test = is_part p.tenant p.upload p.part in
    let same = delete_none test tables.parts (none_first (filter test tables.parts) (first_find test tables.parts ∙ none)) in
    λ i. record tables { tenants = is i; parts = same i ++ resolved_part tables.refs tables.blocks p ∷ [] }

-- ---- its own row

-- a tenant that is added has the next entry number that it is given
pub next_given : (t : Octets) (n : TenantNumbers) (rows : TenantRows) (old : Tables) → list_any (is_tenant t) old.tenants ≡ false → IsNext t n.next_entry (with_names (tenant_row t n ∷ []) rows old)
next_given t n rows old absent = update_last t (λ r. record r { next_entry = n.next_entry }) old.tenants (tenant_row t n) absent refl

module _ (t : Octets) (q v u e : ℕ) (old one two three : Tables) (absent : list_any (is_tenant t) old.tenants ≡ false) where
  -- added, and given its numbers one after another
  pub account_chain : one ≡ record old { tenants = old.tenants ++ record { tenant = t; quota = q; next_version = 1; next_upload = 1; next_entry = 1 } ∷ [] }
      → two ≡ record one { tenants = update_where (is_tenant t) (λ r. record r { next_version = v; next_entry = e }) one.tenants }
      → three ≡ record two { tenants = update_where (is_tenant t) (λ r. record r { next_upload = u }) two.tenants }
      → three ≡ with_tenants (record { tenant = t; quota = q; next_version = v; next_upload = u; next_entry = e } ∷ []) old
  account_chain first second third =
      third
      ∙ (λ i. record (second i) { tenants = update_where (is_tenant t) (λ r. record r { next_upload = u }) (second i).tenants })
      ∙ (λ i. record (first i) { tenants = update_where (is_tenant t) (λ r. record r { next_upload = u }) (update_where (is_tenant t) (λ r. record r { next_version = v; next_entry = e }) (first i).tenants) })
      ∙ ap (λ l. record old { tenants = update_where (is_tenant t) (λ r. record r { next_upload = u }) l }) (update_last t (λ r. record r { next_version = v; next_entry = e }) old.tenants (record { tenant = t; quota = q; next_version = 1; next_upload = 1; next_entry = 1 }) absent refl)
      ∙ ap (λ l. record old { tenants = l }) (update_last t (λ r. record r { next_upload = u }) old.tenants (record { tenant = t; quota = q; next_version = v; next_upload = 1; next_entry = e }) absent refl)

-- ---- table by table, each row after the other

module _ (t : Octets) (from : Tables) where
  pub names_chain : (own : List TenantRow) (second third old a k b l : Tables) → second ≡ from → third ≡ from → a ≡ with_tenants own old → k ≡ all_added (λ r. with_keys (key_of t r ∷ [])) (rows_of t from).keys a
      → b ≡ all_added (λ r. with_buckets (bucket_of t r ∷ [])) (rows_of t second).buckets k → l ≡ all_added (λ r. with_locks (lock_of t r ∷ [])) (rows_of t third).locks b → l ≡ with_names own (rows_of t from) old
  names_chain own second third old a k b l two three first keys buckets locks =
      locks ∙ locks_come t third b
      ∙ (λ i. with_locks (rows_of t (three i)).locks ((buckets ∙ buckets_come t second k) i))
      ∙ (λ i. with_locks (rows_of t from).locks (with_buckets (rows_of t (two i)).buckets ((keys ∙ keys_come t from a) i)))
      ∙ ap (λ (x : Tables). with_locks (rows_of t from).locks (with_buckets (rows_of t from).buckets (with_keys (rows_of t from).keys x))) first

  module _ (digest : Octets → Octets) (size : ℕ) where
    versions_tenants : (vs : List VersionRow) (tables : Tables) → (with_versions digest size vs tables).tenants ≡ tables.tenants
    versions_tenants [] tables = refl
    versions_tenants (v ∷ vs) tables = versions_tenants vs (with_version digest size v tables) ∙ version_tenants digest size v tables

    module _ (second old v u : Tables) (resolved : IsResolved from) (versions : v ≡ all_added (λ r. with_version digest size (version_of t from r)) (rows_of t from).versions old) (uploads : u ≡ all_added (λ r. with_uploads (upload_of t r ∷ [])) (rows_of t second).uploads v) where
      -- until the parts come, no tenant changes
      pub tenants_kept : old.tenants ≡ u.tenants
      tenants_kept = sym (ap (λ (x : Tables). x.tenants) (uploads ∙ uploads_come t second v) ∙ ap (λ (x : Tables). x.tenants) (versions ∙ versions_come t from digest size resolved old) ∙ versions_tenants (rows_of t from).versions old)

      pub contents_chain : (third fourth p r : Tables) → IsResolved third → second ≡ from → third ≡ from → fourth ≡ from → p ≡ all_added (λ x. with_part digest size (part_of t third x)) (rows_of t third).parts u
          → r ≡ all_added (λ x. with_retains (retain_of t x ∷ [])) (rows_of t fourth).retains p → r ≡ with_contents digest size (rows_of t from) old
      contents_chain third fourth p r whole two three four parts retains =
          retains ∙ retains_come t fourth p
          ∙ (λ i. with_retains (rows_of t (four i)).retains ((parts ∙ parts_come t third digest size whole u) i))
          ∙ (λ i. with_retains (rows_of t from).retains (with_parts digest size (rows_of t (three i)).parts ((uploads ∙ uploads_come t second v) i)))
          ∙ (λ i. with_retains (rows_of t from).retains (with_parts digest size (rows_of t from).parts (with_uploads (rows_of t (two i)).uploads ((versions ∙ versions_come t from digest size resolved old) i))))

    pub rows_chain : (own : List TenantRow) (second old m r : Tables) → second ≡ from → own ≡ (rows_of t from).tenants → m ≡ with_names own (rows_of t from) old → r ≡ with_contents digest size (rows_of t second) m → r ≡ with_rows digest size (rows_of t from) old
    rows_chain own second old m r two its names contents =
        contents ∙ (λ i. with_contents digest size (rows_of t (two i)) (names i)) ∙ ap (λ l. with_contents digest size (rows_of t from) (with_names l (rows_of t from) old)) its
