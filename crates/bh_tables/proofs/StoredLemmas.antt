-- A write to a column that keeps what other rows have: the rows as they are stored, whatever that is, and what the database then is.
use Rattle.std.proofs.Common.{◌≡◌, inl, inr, ℕ, ℤ, Bool, true, false, List, [], ◌∷◌, map, cond, refl, sym, ap, ap₂, subst, ◌∙◌}
use Rattle.std.proofs.lemmas.Bool.{cases_Bool}
use Rattle.std.specs.List.{AllByRecursion}
use Rattle.sqlite.specs.declared.types.Value.TheVariants.{Int}
use Rattle.sqlite.specs.Order.{Row, column}
use Rattle.sqlite.specs.Tree.{rowid}
use Rattle.sqlite.specs.Edit.{id_in}
use Rattle.sqlite.specs.Effect.{Database}
use Rattle.sqlite.specs.State.{State}
use Rattle.sqlite_keyed.specs.Lists.{update_where}
use Rattle.sqlite_keyed.proofs.ListLemmas.{map-map}
use Rattle.sqlite_typed.specs.Columns.{int_of}
use Rattle.bh_rows.specs.Form.{Form, AreRows, typed}
use Rattle.bh_rows.specs.Texts.{Leaves}
use Rattle.bh_tables.specs.Schema.{host_schema}
use Rattle.bh_tables.specs.Typed.{Totals, TenantColumns, tenant_form, tenant_columns, stored_tenant_form, UploadColumns, upload_form, upload_columns, stored_upload_form, UseRow, use_form, TallyRow, tally_form, GarbageRow, garbage_form, raw, AreHeld, IsHostBy, tables, tables_of}
use Rattle.bh_tables.proofs.RawLemmas.{raw_changed}

-- ---- rows as they are shown, and as they are stored

module _ {T C : Type 0} (form : Form T) (stored : Form C) (shown : C → T) (Counts : C → Type 0) (reads : (r : Row) → form.decode r ≡ shown (stored.decode r)) (writes : (c : C) → Counts c → stored.encode c ≡ form.encode (shown c))
    (counts : (r : Row) → r ≡ Int (id_in (rowid r)) ∷ form.encode (form.decode r) → Counts (stored.decode r)) where
  each_stored : (rows : List Row) → AllByRecursion (λ r. r ≡ Int (id_in (rowid r)) ∷ form.encode (form.decode r)) rows → AllByRecursion (λ r. r ≡ Int (id_in (rowid r)) ∷ stored.encode (stored.decode r)) rows
  each_stored [] h = tt
  each_stored (r ∷ rows) h = (h.0 ∙ ap (λ x. Int (id_in (rowid r)) ∷ form.encode x) (reads r) ∙ ap (λ l. Int (id_in (rowid r)) ∷ l) (sym (writes (stored.decode r) (counts r h.0))), each_stored rows h.1)

  pub held_stored : (rows : List Row) → AreRows form rows → AreRows stored rows
  held_stored rows h = record { each = each_stored rows h.each; rises = h.rises }

  each_counts : (rows : List Row) → AllByRecursion (λ r. r ≡ Int (id_in (rowid r)) ∷ form.encode (form.decode r)) rows → AllByRecursion Counts (typed stored rows)
  each_counts [] h = tt
  each_counts (r ∷ rows) h = (counts r h.0, each_counts rows h.1)

  pub all_count : (rows : List Row) → AreRows form rows → AllByRecursion Counts (typed stored rows)
  all_count rows h = each_counts rows h.each

  each_shown : (rows : List Row) → AllByRecursion (λ r. r ≡ Int (id_in (rowid r)) ∷ stored.encode (stored.decode r)) rows → AllByRecursion Counts (typed stored rows) → AllByRecursion (λ r. r ≡ Int (id_in (rowid r)) ∷ form.encode (form.decode r)) rows
  each_shown [] h u = tt
  each_shown (r ∷ rows) h u = (h.0 ∙ ap (λ l. Int (id_in (rowid r)) ∷ l) (writes (stored.decode r) u.0) ∙ ap (λ x. Int (id_in (rowid r)) ∷ form.encode x) (sym (reads r)), each_shown rows h.1 u.1)

  pub held_shown : (rows : List Row) → AreRows stored rows → AllByRecursion Counts (typed stored rows) → AreRows form rows
  held_shown rows h u = record { each = each_shown rows h.each u; rises = h.rises }

-- ---- an UPDATE of rows as they are stored

-- is one of rows as they are shown
pub shown_updated : {T C : Type 0} (shown : C → T) (m : T → Bool) (f : C → C) (g : T → T) → ((c : C) → shown (f c) ≡ g (shown c)) → (cs : List C) → map shown (update_where (λ c. m (shown c)) f cs) ≡ update_where m g (map shown cs)
shown_updated shown m f g same [] = refl
shown_updated shown m f g same (c ∷ cs) = ap₂ ◌∷◌ (elim (m (shown c)) as (λ b. shown (cond b (f c) c) ≡ cond b (g (shown c)) (shown c)) [ true ↦ same c | false ↦ refl ]) (shown_updated shown m f g same cs)

pub facts_after : {C : Type 0} (m : C → Bool) (f : C → C) (F G : C → Type 0) → ((c : C) → m c ≡ true → F c → G (f c)) → ((c : C) → m c ≡ false → F c → G c) → (cs : List C) → AllByRecursion F cs → AllByRecursion G (update_where m f cs)
facts_after m f F G on off [] h = tt
facts_after m f F G on off (c ∷ cs) h = (
  elim (cases_Bool (m c)) [
    | inl is ↦ subst (λ b. G (cond b (f c) c)) (sym is) (on c is h.0)
    | inr not ↦ subst (λ b. G (cond b (f c) c)) (sym not) (off c not h.0)
  ],
  facts_after m f F G on off cs h.1,
)

-- ---- tenants

abbrev pub Uses : Totals → TenantColumns → Type 0
Uses sums c = c.used ≡ sums.used c.row.tenant

pub tenants_stored : (sums : Totals) (rows : List Row) → AreRows (tenant_form sums) rows → AreRows stored_tenant_form rows
tenants_stored sums = held_stored (tenant_form sums) stored_tenant_form (λ c. c.row) (Uses sums) (λ r. refl) (λ c k. ap (λ n. tenant_columns n c.row) k) (λ r h. ap (λ x. int_of (column x 6)) h)

pub tenants_count : (sums : Totals) (rows : List Row) → AreRows (tenant_form sums) rows → AllByRecursion (Uses sums) (typed stored_tenant_form rows)
tenants_count sums = all_count (tenant_form sums) stored_tenant_form (λ c. c.row) (Uses sums) (λ r. refl) (λ c k. ap (λ n. tenant_columns n c.row) k) (λ r h. ap (λ x. int_of (column x 6)) h)

tenants_shown : (sums : Totals) (rows : List Row) → AreRows stored_tenant_form rows → AllByRecursion (Uses sums) (typed stored_tenant_form rows) → AreRows (tenant_form sums) rows
tenants_shown sums = held_shown (tenant_form sums) stored_tenant_form (λ c. c.row) (Uses sums) (λ r. refl) (λ c k. ap (λ n. tenant_columns n c.row) k) (λ r h. ap (λ x. int_of (column x 6)) h)

-- the database keeps this of tenants, who are these, and else is as it was
pub tenants_turned : (before : Totals) (used : List ℕ → ℤ) (cs : List TenantColumns) (old new : State) → IsHostBy before old.now → AllByRecursion (Uses (record before { used = used })) cs → Leaves stored_tenant_form host_schema 1 old new cs
    → IsHostBy (record before { used = used }) new.now × (tables new ≡ record (tables old) { tenants = map (λ c. c.row) cs })
tenants_turned before used cs old new host all l =
    let was = raw old.now.trees in
    let rows = l.next 1 in
    let after : Totals = record before { used = used } in
    let now_is : raw new.now.trees ≡ record was { tenants = rows } = ap (λ (d : Database). raw d.trees) l.now ∙ raw_changed 1 old.now.trees l.next l.others in
    let held : AreHeld after (record was { tenants = rows }) = record {
      host = host.held.host;
      tenants = tenants_shown after rows l.held (subst (AllByRecursion (Uses after)) (sym l.rows) all);
      keys = host.held.keys;
      buckets = host.held.buckets;
      versions = host.held.versions;
      blocks = host.held.blocks;
      refs = host.held.refs;
      uploads = host.held.uploads;
      parts = host.held.parts;
      uses = host.held.uses;
      counts = host.held.counts;
      locks = host.held.locks;
      retains = host.held.retains;
      tallies = host.held.tallies;
      tallied = host.held.tallied;
      garbage = host.held.garbage;
      weighed = host.held.weighed;
      measured = host.held.measured;
      packs = host.held.packs;
      places = host.held.places;
      unfilled = host.held.unfilled;
    } in (
      record { schema = ap (λ (d : Database). d.schema) l.now; held = subst (AreHeld after) (sym now_is) held },
      ap tables_of now_is ∙ ap (λ ts. record (tables_of was) { tenants = ts }) (sym (map-map (λ (c : TenantColumns). c.row) stored_tenant_form.decode rows) ∙ ap (map (λ (c : TenantColumns). c.row)) l.rows),
    )

-- ---- uploads

abbrev pub Keeps : Totals → UploadColumns → Type 0
Keeps sums c = c.kept ≡ sums.kept (c.row.tenant, c.row.upload)

pub uploads_stored : (sums : Totals) (rows : List Row) → AreRows (upload_form sums) rows → AreRows stored_upload_form rows
uploads_stored sums = held_stored (upload_form sums) stored_upload_form (λ c. c.row) (Keeps sums) (λ r. refl) (λ c k. ap (λ n. upload_columns n c.row) k) (λ r h. ap (λ x. int_of (column x 6)) h)

pub uploads_count : (sums : Totals) (rows : List Row) → AreRows (upload_form sums) rows → AllByRecursion (Keeps sums) (typed stored_upload_form rows)
uploads_count sums = all_count (upload_form sums) stored_upload_form (λ c. c.row) (Keeps sums) (λ r. refl) (λ c k. ap (λ n. upload_columns n c.row) k) (λ r h. ap (λ x. int_of (column x 6)) h)

uploads_shown : (sums : Totals) (rows : List Row) → AreRows stored_upload_form rows → AllByRecursion (Keeps sums) (typed stored_upload_form rows) → AreRows (upload_form sums) rows
uploads_shown sums = held_shown (upload_form sums) stored_upload_form (λ c. c.row) (Keeps sums) (λ r. refl) (λ c k. ap (λ n. upload_columns n c.row) k) (λ r h. ap (λ x. int_of (column x 6)) h)

pub uploads_turned : (before : Totals) (kept : List ℕ × ℕ → ℤ) (cs : List UploadColumns) (old new : State) → IsHostBy before old.now → AllByRecursion (Keeps (record before { kept = kept })) cs → Leaves stored_upload_form host_schema 16 old new cs
    → IsHostBy (record before { kept = kept }) new.now × (tables new ≡ record (tables old) { uploads = map (λ c. c.row) cs })
uploads_turned before kept cs old new host all l =
    let was = raw old.now.trees in
    let rows = l.next 16 in
    let after : Totals = record before { kept = kept } in
    let now_is : raw new.now.trees ≡ record was { uploads = rows } = ap (λ (d : Database). raw d.trees) l.now ∙ raw_changed 16 old.now.trees l.next l.others in
    let held : AreHeld after (record was { uploads = rows }) = record {
      host = host.held.host;
      tenants = host.held.tenants;
      keys = host.held.keys;
      buckets = host.held.buckets;
      versions = host.held.versions;
      blocks = host.held.blocks;
      refs = host.held.refs;
      uploads = uploads_shown after rows l.held (subst (AllByRecursion (Keeps after)) (sym l.rows) all);
      parts = host.held.parts;
      uses = host.held.uses;
      counts = host.held.counts;
      locks = host.held.locks;
      retains = host.held.retains;
      tallies = host.held.tallies;
      tallied = host.held.tallied;
      garbage = host.held.garbage;
      weighed = host.held.weighed;
      measured = host.held.measured;
      packs = host.held.packs;
      places = host.held.places;
      unfilled = host.held.unfilled;
    } in (
      record { schema = ap (λ (d : Database). d.schema) l.now; held = subst (AreHeld after) (sym now_is) held },
      ap tables_of now_is ∙ ap (λ us. record (tables_of was) { uploads = us }) (sym (map-map (λ (c : UploadColumns). c.row) stored_upload_form.decode rows) ∙ ap (map (λ (c : UploadColumns). c.row)) l.rows),
    )

-- ---- counts of uses

-- the database keeps these counts, and else is as it was
pub uses_turned : (sums : Totals) (us : List UseRow) (old new : State) → IsHostBy sums old.now → Leaves use_form host_schema 23 old new us → IsHostBy (record sums { uses = us }) new.now × (tables new ≡ tables old)
uses_turned sums us old new host l =
    let was = raw old.now.trees in
    let now_is : raw new.now.trees ≡ record was { uses = l.next 23 } = ap (λ (d : Database). raw d.trees) l.now ∙ raw_changed 23 old.now.trees l.next l.others in
    let held : AreHeld (record sums { uses = us }) (record was { uses = l.next 23 }) = record {
      host = host.held.host;
      tenants = host.held.tenants;
      keys = host.held.keys;
      buckets = host.held.buckets;
      versions = host.held.versions;
      blocks = host.held.blocks;
      refs = host.held.refs;
      uploads = host.held.uploads;
      parts = host.held.parts;
      uses = l.held;
      counts = l.rows;
      locks = host.held.locks;
      retains = host.held.retains;
      tallies = host.held.tallies;
      tallied = host.held.tallied;
      garbage = host.held.garbage;
      weighed = host.held.weighed;
      measured = host.held.measured;
      packs = host.held.packs;
      places = host.held.places;
      unfilled = host.held.unfilled;
    } in (
      record { schema = ap (λ (d : Database). d.schema) l.now; held = subst (AreHeld (record sums { uses = us })) (sym now_is) held },
      ap tables_of now_is,
    )

-- ---- tallies

-- the database keeps these tallies, and else is as it was
pub tallies_turned : (sums : Totals) (ts : List TallyRow) (old new : State) → IsHostBy sums old.now → Leaves tally_form host_schema 30 old new ts → IsHostBy (record sums { tallies = ts }) new.now × (tables new ≡ tables old)
tallies_turned sums ts old new host l =
    let was = raw old.now.trees in
    let now_is : raw new.now.trees ≡ record was { tallies = l.next 30 } = ap (λ (d : Database). raw d.trees) l.now ∙ raw_changed 30 old.now.trees l.next l.others in
    let held : AreHeld (record sums { tallies = ts }) (record was { tallies = l.next 30 }) = record {
      host = host.held.host;
      tenants = host.held.tenants;
      keys = host.held.keys;
      buckets = host.held.buckets;
      versions = host.held.versions;
      blocks = host.held.blocks;
      refs = host.held.refs;
      uploads = host.held.uploads;
      parts = host.held.parts;
      uses = host.held.uses;
      counts = host.held.counts;
      locks = host.held.locks;
      retains = host.held.retains;
      tallies = l.held;
      tallied = l.rows;
      garbage = host.held.garbage;
      weighed = host.held.weighed;
      measured = host.held.measured;
      packs = host.held.packs;
      places = host.held.places;
      unfilled = host.held.unfilled;
    } in (
      record { schema = ap (λ (d : Database). d.schema) l.now; held = subst (AreHeld (record sums { tallies = ts })) (sym now_is) held },
      ap tables_of now_is,
    )

-- ---- what nobody needs

-- the database keeps this row of it, and else is as it was
pub garbage_turned : (sums : Totals) (gs : List GarbageRow) (old new : State) → IsHostBy sums old.now → Leaves garbage_form host_schema 44 old new gs → IsHostBy (record sums { garbage = gs }) new.now × (tables new ≡ tables old)
garbage_turned sums gs old new host l =
    let was = raw old.now.trees in
    let now_is : raw new.now.trees ≡ record was { garbage = l.next 44 } = ap (λ (d : Database). raw d.trees) l.now ∙ raw_changed 44 old.now.trees l.next l.others in
    let held : AreHeld (record sums { garbage = gs }) (record was { garbage = l.next 44 }) = record {
      host = host.held.host;
      tenants = host.held.tenants;
      keys = host.held.keys;
      buckets = host.held.buckets;
      versions = host.held.versions;
      blocks = host.held.blocks;
      refs = host.held.refs;
      uploads = host.held.uploads;
      parts = host.held.parts;
      uses = host.held.uses;
      counts = host.held.counts;
      locks = host.held.locks;
      retains = host.held.retains;
      tallies = host.held.tallies;
      tallied = host.held.tallied;
      garbage = l.held;
      weighed = l.rows;
      measured = host.held.measured;
      packs = host.held.packs;
      places = host.held.places;
      unfilled = host.held.unfilled;
    } in (
      record { schema = ap (λ (d : Database). d.schema) l.now; held = subst (AreHeld (record sums { garbage = gs })) (sym now_is) held },
      ap tables_of now_is,
    )
