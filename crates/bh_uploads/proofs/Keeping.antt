-- What is kept of a tenant and of an upload, once parts come or go.
use Rattle.std.proofs.Common.{◌≡◌, ℕ, pos, true, List, [], ◌∷◌, map, filter, Some, None, Ok, Err, Result, IfOk, IfErr, slice_get, refl, sym, ap, ◌∙◌, unsigned_abs}
use Rattle.std.proofs.lemmas.Bool.{and_parts}
use Rattle.sqlite.specs.Order.{Row}
use Rattle.sqlite.specs.State.{State}
use Rattle.sqlite.specs.declared.error.Error.{Error}
use Rattle.sqlite_keyed.proofs.KeyedLemmas.{same_int}
use Rattle.sqlite_typed.proofs.TestLemmas.{same_bytes}
use Rattle.bh_rows.specs.Means.{is_trouble}
use Rattle.bh_tables.specs.Schema.{Octets}
use Rattle.bh_tables.specs.Typed.{totals_of, number, bytes_kept, used_changed, kept_changed, PartColumns, PartRow, UploadRow, Tables, tables_in}
use Rattle.bh_tables.specs.Bodies.{resolved_part}
use Rattle.bh_tables.specs.Shown.{is_tenant, is_part, is_part_of, is_upload, shown_kept}
use Rattle.bh_tables.proofs.AloneLemmas.{part_bytes}
use Rattle.bh_tables.proofs.PartTotals.{upload_name, totals_parts_deleted, totals_part_replaced}
use Rattle.bh_tables.proofs.TallyLemmas.{totals_tenant_changed}
use Rattle.bh_view.proofs.FilterLemmas.{first_passes}
use Rattle.bh_view.proofs.FindLemmas.{first_find}
use Rattle.bh_base.specs.Layer.{standing, IsIntact, IsStateClean, IsInside}
use Rattle.bh_schema.proofs.Finds.{row_of}
use Rattle.bh_schema.proofs.VersionSteps.{IsObeyed, sound_at}
use Rattle.bh_uploads.specs.Found.{part_bytes_in}
use Rattle.bh_uploads.specs.Writes.{with_next_entry, part_placed, without_parts}

-- an error that is trouble under no premise
pub alone : (old new : State) (r : Result ℕ Error) → IfErr r (λ e. IsIntact new → (standing old).limit ≡ None → Unit {0} → is_trouble e ≡ true) → IfErr r (λ e. IsIntact new → (standing old).limit ≡ None → is_trouble e ≡ true)
alone old new (Ok n) h = tt
alone old new (Err e) h = λ intact unlimited. h intact unlimited tt

number_same : (m n : ℕ) → pos m ≡ pos n → m ≡ n
number_same m n e = ap unsigned_abs e

own_number : (tenant : Octets) (upload part : ℕ) (p : PartRow) → is_part tenant upload part p ≡ true → upload_name p ≡ (tenant, upload)
own_number tenant upload part p is =
    let one = and_parts _ _ is in
    let two = and_parts _ _ one.1 in
    λ i. (same_bytes p.tenant tenant one.0 i, number_same p.upload upload (same_int (pos p.upload) (pos upload) two.0) i)

own_upload : (tenant : Octets) (upload : ℕ) (p : PartRow) → is_part_of tenant upload p ≡ true → upload_name p ≡ (tenant, upload)
own_upload tenant upload p is =
    let one = and_parts _ _ is in
    λ i. (same_bytes p.tenant tenant one.0 i, number_same p.upload upload (same_int (pos p.upload) (pos upload) one.1) i)

-- a part comes in the place of another
pub placed_law : (s : State) → IsObeyed s → IsStateClean s → IsInside (standing s) → (p : PartColumns) (next less : ℕ) → part_bytes_in p.tenant p.upload p.part (tables_in (standing s).now) ≡ less
    → kept_changed (p.tenant, p.upload) p.size less (used_changed p.tenant p.size less (totals_of (tables_in (standing s).now))) ≡ totals_of (part_placed p next (tables_in (standing s).now))
placed_law s live clean inside p next less held =
    let t = tables_in (standing s).now in
    let bytes = part_bytes (totals_of t) (standing s).now (sound_at s live clean inside) inside.host p.tenant p.upload p.part ∙ held in
    sym (totals_part_replaced (with_next_entry p.tenant next t) (is_part p.tenant p.upload p.part) (resolved_part t.refs t.blocks p) less (own_number p.tenant p.upload p.part) bytes
    ∙ ap (λ s. kept_changed (p.tenant, p.upload) p.size less (used_changed p.tenant p.size less s)) (totals_tenant_changed t (is_tenant p.tenant) (λ x. record x { next_entry = next }) (λ x. refl)))

-- the parts of an upload go
pub taken_law : (t : Tables) (tenant : Octets) (upload less : ℕ) → bytes_kept t.parts tenant upload ≡ less → kept_changed (tenant, upload) 0 less (used_changed tenant 0 less (totals_of t)) ≡ totals_of (without_parts tenant upload t)
taken_law t tenant upload less held = sym (totals_parts_deleted t (is_part_of tenant upload) (tenant, upload) less (own_upload tenant upload) held)

-- what an upload's row shows
module _ (t : Tables) (tenant : Octets) (upload : ℕ) where
  shown_is : (u : UploadRow) → is_upload tenant upload u ≡ true → shown_kept (totals_of t) u ≡ number (bytes_kept t.parts tenant upload) ∷ []
  shown_is u is =
      let one = and_parts _ _ is in
      λ i. number (bytes_kept t.parts (same_bytes u.tenant tenant one.0 i) (number_same u.upload upload (same_int (pos u.upload) (pos upload) one.1) i)) ∷ []

  -- the number that is read of it
  pub kept_read : (new : State) (items : List Row) (row : Row) (result : Result ℕ Error) → IfOk result (λ n. (m : ℕ) → row ≡ number m ∷ [] → n ≡ m)
      → (IsStateClean new → items ≡ map (shown_kept (totals_of t)) (filter (is_upload tenant upload) t.uploads)) → Some row ≡ slice_get items 0 → IfOk result (λ n. IsStateClean new → bytes_kept t.parts tenant upload ≡ n)
  kept_read new items row (Err e) read all value = tt
  kept_read new items row (Ok n) read all value = λ clean. row_of (shown_kept (totals_of t)) (is_upload tenant upload) t.uploads items (all clean) row value (λ u found is.
      sym (read (bytes_kept t.parts tenant upload) (is ∙ shown_is u (first_passes (is_upload tenant upload) t.uploads u (first_find (is_upload tenant upload) t.uploads ∙ found)))))
