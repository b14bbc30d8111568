-- A row of a table that comes to a tenant, with its body or without.
use Rattle.std.proofs.Common.{◌≡◌, ◌≢◌, ℕ, true, false, if◌then◌else◌, map, Some, None, refl, sym, ap, ◌∙◌}
use Rattle.sqlite.specs.Order.{Row, column}
use Rattle.bh_tables.specs.Schema.{Octets}
use Rattle.bh_tables.specs.Bodies.{version_name, whole}
use Rattle.bh_tables.specs.Typed.{VersionRow, Tables, number}
use Rattle.bh_view.specs.Bodies.{pieces, body_stored}
use Rattle.bh_view.specs.Grouped.{same_number}
use Rattle.bh_view.specs.View.{TenantRows}
use Rattle.bh_view.proofs.FilterLemmas.{same_Some}
use Rattle.bh_view.proofs.GroupedLemmas.{is_itself, is_other}
use Rattle.bh_view.proofs.Keys.{numbers}
use Rattle.bh_tenant_rows.specs.Brought.{version_after, with_version, part_after}
use Rattle.bh_tenant_rows.specs.Owned.{shown_in}
use Rattle.bh_tenant_rows.specs.declared.reads.Owned.{Owned}
use Rattle.bh_tenant_rows.specs.declared.reads.Owned.TheVariants as owned
use Rattle.bh_moved.specs.Owned.{RowIn, shown_row, rows_in, IfBodied, body_in, row_after, row_added}
use Rattle.bh_moved.specs.Parts.{own_part}
use Rattle.bh_moved.specs.Rows.{own_version, version_of}

pub if_bodied : {P Q : Type 0} → (table : Owned) → (P → Q) → IfBodied table P → IfBodied table Q
if_bodied owned.Keys f p = tt
if_bodied owned.Buckets f p = tt
if_bodied owned.Locks f p = tt
if_bodied owned.Versions f p = f p
if_bodied owned.Uploads f p = tt
if_bodied owned.Parts f p = f p
if_bodied owned.Retains f p = tt

-- what is shown of a tenant's rows is shown of each
pub shown_rows : (table : Owned) (rows : TenantRows) → shown_in table rows ≡ map (shown_row table) (rows_in table rows)
shown_rows owned.Keys rows = refl
shown_rows owned.Buckets rows = refl
shown_rows owned.Locks rows = refl
shown_rows owned.Versions rows = refl
shown_rows owned.Uploads rows = refl
shown_rows owned.Parts rows = refl
shown_rows owned.Retains rows = refl

-- ---- bodies

pub body_there : (v : VersionRow) → v.marker ≡ 0 → Some v.seq ≡ body_in owned.Versions v
body_there v is = sym (ap (λ b. if b then Some v.seq else None) (ap (λ m. same_number m 0) is ∙ is_itself numbers 0))

pub body_missing : (v : VersionRow) → v.marker ≢ 0 → None ≡ body_in owned.Versions v
body_missing v apart = sym (ap (λ b. if b then Some v.seq else None) (is_other numbers v.marker 0 apart))

-- as the columns of a row tell it
module _ (row : Row) where
  pub version_body : (table : Owned) (marker seq : ℕ) → table ≡ owned.Versions → ((m : ℕ) → column row 4 ≡ number m → marker ≡ m) → ((m : ℕ) → column row 0 ≡ number m → seq ≡ m) → marker ≡ 0
      → (r : RowIn table) → row ≡ shown_row table r → Some seq ≡ body_in table r
  version_body owned.Versions marker seq e marks seqs zero v is = ap Some (seqs v.seq (ap (λ x. column x 0) is)) ∙ body_there v (sym (marks v.marker (ap (λ x. column x 4) is)) ∙ zero)
  version_body owned.Keys marker seq e marks seqs zero v is = absurd (cc)
  version_body owned.Buckets marker seq e marks seqs zero v is = absurd (cc)
  version_body owned.Locks marker seq e marks seqs zero v is = absurd (cc)
  version_body owned.Uploads marker seq e marks seqs zero v is = absurd (cc)
  version_body owned.Parts marker seq e marks seqs zero v is = absurd (cc)
  version_body owned.Retains marker seq e marks seqs zero v is = absurd (cc)

  pub marker_body : (table : Owned) (marker : ℕ) → table ≡ owned.Versions → ((m : ℕ) → column row 4 ≡ number m → marker ≡ m) → marker ≢ 0
      → (r : RowIn table) → row ≡ shown_row table r → None ≡ body_in table r
  marker_body owned.Versions marker e marks apart v is = body_missing v (λ zero. apart (marks v.marker (ap (λ x. column x 4) is) ∙ zero))
  marker_body owned.Keys marker e marks apart v is = absurd (cc)
  marker_body owned.Buckets marker e marks apart v is = absurd (cc)
  marker_body owned.Locks marker e marks apart v is = absurd (cc)
  marker_body owned.Uploads marker e marks apart v is = absurd (cc)
  marker_body owned.Parts marker e marks apart v is = absurd (cc)
  marker_body owned.Retains marker e marks apart v is = absurd (cc)

  pub part_body : (table : Owned) (body : ℕ) → table ≡ owned.Parts → ((m : ℕ) → column row 5 ≡ number m → body ≡ m) → (r : RowIn table) → row ≡ shown_row table r → Some body ≡ body_in table r
  part_body owned.Parts body e bodies p is = ap Some (bodies p.body (ap (λ x. column x 5) is))
  part_body owned.Keys body e bodies p is = absurd (cc)
  part_body owned.Buckets body e bodies p is = absurd (cc)
  part_body owned.Locks body e bodies p is = absurd (cc)
  part_body owned.Versions body e bodies p is = absurd (cc)
  part_body owned.Uploads body e bodies p is = absurd (cc)
  part_body owned.Retains body e bodies p is = absurd (cc)

-- only rows that may have bodies have one
pub needs_body : {P : Type 0} → (table : Owned) (r : RowIn table) (b : ℕ) → Some b ≡ body_in table r → IfBodied table P → P
needs_body owned.Keys r b is p = absurd (cc)
needs_body owned.Buckets r b is p = absurd (cc)
needs_body owned.Locks r b is p = absurd (cc)
needs_body owned.Versions r b is p = p
needs_body owned.Uploads r b is p = absurd (cc)
needs_body owned.Parts r b is p = p
needs_body owned.Retains r b is p = absurd (cc)

-- ---- what a row becomes

-- a version that comes changes no tenant
pub version_tenants : (digest : Octets → Octets) (size : ℕ) (v : VersionRow) (tables : Tables)
    → (with_version digest size v tables).tenants ≡ tables.tenants
version_tenants digest size v tables =
    let body = body_stored digest (version_name v) 0 (pieces size v.bytes) tables in
    elim (same_number v.marker 0) as (λ b. (if b then version_after v body else version_after v tables).tenants ≡ tables.tenants)
    [ true ↦ refl | false ↦ refl ]

module _ (digest : Octets → Octets) (size : ℕ) (t : Octets) (from : Tables) where
  -- nor does any other row
  pub tenants_stay : (table : Owned) (r : RowIn table) (old : Tables) → (row_added digest size t from table r old).tenants ≡ old.tenants
  tenants_stay owned.Keys r old = refl
  tenants_stay owned.Buckets r old = refl
  tenants_stay owned.Locks r old = refl
  tenants_stay owned.Versions r old = version_tenants digest size (version_of t from r) old
  tenants_stay owned.Uploads r old = refl
  tenants_stay owned.Parts r old = refl
  tenants_stay owned.Retains r old = refl

  -- once its body is there the row is added
  pub with_body : (table : Owned) (r : RowIn table) (b : ℕ) (old : Tables) → Some b ≡ body_in table r
      → row_after t table r (body_stored digest (t, b) 0 (pieces size (whole from.refs from.blocks (t, b))) old) ≡ row_added digest size t from table r old
  with_body owned.Keys r b old is = absurd (cc)
  with_body owned.Buckets r b old is = absurd (cc)
  with_body owned.Locks r b old is = absurd (cc)
  with_body owned.Versions v b old is =
      elim (same_number v.marker 0) as (λ x. Some b ≡ (if x then Some v.seq else None) → version_after (own_version t v) (body_stored digest (t, b) 0 (pieces size (whole from.refs from.blocks (t, b))) old)
      ≡ (if x then version_after (version_of t from v) (body_stored digest (t, v.seq) 0 (pieces size (whole from.refs from.blocks (t, v.seq))) old) else version_after (version_of t from v) old)) [
        | true ↦ λ h. ap (λ n. version_after (own_version t v) (body_stored digest (t, n) 0 (pieces size (whole from.refs from.blocks (t, n))) old)) (same_Some h)
        | false ↦ λ h. absurd (cc)
      ] is
  with_body owned.Uploads r b old is = absurd (cc)
  with_body owned.Parts p b old is = ap (λ n. part_after (own_part t p) (body_stored digest (t, n) 0 (pieces size (whole from.refs from.blocks (t, n))) old)) (same_Some is)
  with_body owned.Retains r b old is = absurd (cc)

  -- it has none
  pub without_body : (table : Owned) (r : RowIn table) (old : Tables) → None ≡ body_in table r → row_after t table r old ≡ row_added digest size t from table r old
  without_body owned.Keys r old is = refl
  without_body owned.Buckets r old is = refl
  without_body owned.Locks r old is = refl
  without_body owned.Versions v old is =
      elim (same_number v.marker 0) as (λ x. None ≡ (if x then Some v.seq else None) → version_after (own_version t v) old
      ≡ (if x then version_after (version_of t from v) (body_stored digest (t, v.seq) 0 (pieces size (whole from.refs from.blocks (t, v.seq))) old) else version_after (version_of t from v) old)) [
        | true ↦ λ h. absurd (cc)
        | false ↦ λ h. refl
      ] is
  without_body owned.Uploads r old is = refl
  without_body owned.Parts p old is = absurd (cc)
  without_body owned.Retains r old is = refl
