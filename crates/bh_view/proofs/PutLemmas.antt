-- A new version or delete marker: the counters go on, the entry `null` that it replaces is taken out, and its row is added.
use Rattle.std.proofs.Common.{◌≡◌, length, ℕ, zero, suc, ◌&&◌, is_ok, ◌<◌, ◌≤◌, ◌+◌, Bool, true, false, true≢false, cond, List, [], ◌∷◌, ◌++◌, Some, Result, Ok, Err, IsTrue, filter, unwrap_or, refl, sym, ap, ◌∙◌, subst, arith, leb-true}
use Rattle.std.specs.Str.{IsUtf8}
use Rattle.std.specs.List.{AllByRecursion}
use Rattle.std.specs.FinMap.{get}
use Rattle.std.proofs.lemmas.Bool.{and_parts}
use Rattle.sqlite_keyed.specs.Lists.{delete_where, update_where}
use Rattle.sqlite_keyed.proofs.ListLemmas.{all_weaker, all-filter, filter_none}
use Rattle.bh_types.specs.Counts.{Counts, AreCounters}
use Rattle.bh_types.specs.Names.{is_object_key}
use Rattle.bh_types.specs.declared.bucket_state.BucketState.{BucketState}
use Rattle.bh_types.specs.declared.refusal.Refusal.TheVariants.{CounterExhausted}
use Rattle.bh_types.specs.declared.bucket_state.BucketState.TheVariants.{Unversioned, Enabled, Suspended}
use Rattle.bh_types.specs.declared.id.VersionId.{VersionId}
use Rattle.bh_types.specs.declared.id.VersionId.TheVariants.{Null, Numbered}
use Rattle.bh_model.specs.FinMaps.{non_empty}
use Rattle.bh_model.specs.State.{Octets, Content, Content.Marker, Content.Body, Entry, Bucket, State, content_size}
use Rattle.bh_types.specs.Checksums.{checksum_text}
use Rattle.bh_model.specs.Counting.{counts, with_counts, can_give, after_entry}
use Rattle.bh_model.specs.Entries.{Version, without, added, deleted_current}
use Rattle.bh_model.specs.Operations.{with_bucket, with_entries, with_object, with_copy, listed}
use Rattle.bh_tables.specs.Typed.{TenantRow, VersionRow, PartRow, Tables}
use Rattle.bh_tables.specs.Shown.{is_tenant, is_version}
use Rattle.bh_view.specs.Grouped.{same_number}
use Rattle.bh_view.specs.View.{rows_of, id_of, entry_of, view, latest_of}
use Rattle.bh_view.specs.Sound.{IsVersionRow, IsBelow, IsSound}
use Rattle.bh_view.specs.Becomes.{Becomes}
use Rattle.bh_view.specs.Put.{marker_number, checksum_in, bytes_in, entry_row, row_number, counters_row, rows_left}
use Rattle.bh_view.proofs.Keys.{octets, numbers}
use Rattle.bh_view.proofs.FilterLemmas.{delete_all}
use Rattle.bh_view.proofs.FactLemmas.{all_first}
use Rattle.bh_view.proofs.GroupedLemmas.{get_here, set_at_again, is_other, unwrapped}
use Rattle.bh_view.proofs.OwnLemmas.{mine_deleted}
use Rattle.bh_view.proofs.ViewLemmas.{own_row, own_rows, becomes_then}
use Rattle.bh_view.proofs.TenantChanges.{next_entry_set, numbers_set}
use Rattle.bh_view.proofs.VersionChanges.{one_version, null_undated, version_added, version_removed}

-- ---- the machine's words

-- what is put into a key that was just changed
pub listed_here : (k : Octets) (entries : List Entry) (B : Bucket) → listed k (with_entries k entries B) ≡ entries
listed_here k entries B = ap (λ o. unwrap_or o []) (get_here octets B.objects k (non_empty entries)) ∙ unwrapped entries

pub entries_again : (k : Octets) (one two : List Entry) (B : Bucket) → with_entries k two (with_entries k one B) ≡ with_entries k two B
entries_again k one two B = ap (λ m. record B { objects = m }) (set_at_again octets B.objects k (non_empty one) (non_empty two))

pub bucket_again : (b : Octets) (one two : Bucket) (s : State) → with_bucket b two (with_bucket b one s) ≡ with_bucket b two s
bucket_again b one two s = ap (λ m. record s { buckets = m }) (set_at_again octets s.buckets b (Some one) (Some two))

abbrev value_or : {X E : Type 0} → X → Result X E → X
value_or other (Ok x) = x
value_or other (Err e) = other

-- a counter's next number was there to give
was_given : (b : Bool) (x c : Counts) → cond b (Ok x) (Err CounterExhausted) ≡ Ok c → (b ≡ true) × (x ≡ c)
was_given true x c h = (refl, ap (value_or x) h)
was_given false x c h = absurd (true≢false (sym (ap is_ok h)))

-- an id that is not 0 is a number
pub numbered_id : (n : ℕ) → 1 ≤ n → id_of n ≡ Numbered n
numbered_id zero low = absurd (omega arith)
numbered_id (suc n) low = refl

-- ---- what sound rows say of the next numbers

module _ (tables : Tables) (t : Octets) (s : State) (sound : IsSound tables) (is : view tables t ≡ Some s) where
  pub counters_good : AreCounters s.next_version s.next_upload s.next_entry
  counters_good =
      let row = own_row tables t s is in
      subst (λ (x : State). AreCounters x.next_version x.next_upload x.next_entry) row.2 (all_first _ _ row.0 row.1 (sound.tenants t).tenants.each).counters

  pub below_next : AllByRecursion (λ v. (v.seq < s.next_entry) × (v.id < s.next_version)) (rows_of t tables).versions
  below_next =
      let row = own_row tables t s is in
      let given : AllByRecursion (λ v. IsBelow v row.0) (rows_of t tables).versions = (subst (AllByRecursion (λ (r : TenantRow). AllByRecursion (λ v. IsBelow v r) (rows_of t tables).versions)) (own_rows tables t s sound is) (sound.tenants t).versions.given).0 in
      all_weaker _ _ (λ v below. (subst (λ (x : State). v.seq < x.next_entry) row.2 below.seq, subst (λ (x : State). v.id < x.next_version) row.2 below.id)) _ given

  -- no row has the next version number
  pub next_fresh : (b k : Octets) → filter (is_version t b k s.next_version) tables.versions ≡ []
  next_fresh b k = sym (one_version t b k s.next_version tables.versions)
      ∙ filter_none _ _ (all-filter _ _ _ (all-filter _ _ _ (all_weaker _ (λ v. same_number v.id s.next_version ≡ false) (λ v less. is_other numbers v.id s.next_version (λ e. absurd (omega (arith, less.1, e)))) _ below_next)))

  pub older : AllByRecursion (λ v. v.seq < s.next_entry) (rows_of t tables).versions
  older = all_weaker _ _ (λ v less. less.0) _ below_next

  -- no part has a later body
  pub parts_older : AllByRecursion (λ (p : PartRow). p.body < s.next_entry) (rows_of t tables).parts
  parts_older =
      let row = own_row tables t s is in
      subst (λ (x : State). AllByRecursion (λ (p : PartRow). p.body < x.next_entry) (rows_of t tables).parts) row.2 (all_first _ _ row.0 row.1 (sound.tenants t).parts.given)

-- ---- the columns of an entry

marker_small : (c : Content) → marker_number c ≤ 1
marker_small Marker = omega arith
marker_small (Body bytes checksum) = omega arith

marker_bare : (c : Content) → marker_number c ≡ 1 → (bytes_in c ≡ []) × (checksum_in c ≡ [])
marker_bare Marker one = (refl, refl)
marker_bare (Body bytes checksum) one = absurd (omega (arith, one))

content_sized : (c : Content) → content_size c ≡ length (bytes_in c)
content_sized Marker = refl
content_sized (Body bytes checksum) = refl

abbrev entry : VersionId → ℕ → Content → Entry
entry id moment content = record { id = id; moment = moment; content = content }

entry_shown : (t b k : Octets) (seq id moment : ℕ) (c : Content) → entry_of (entry_row t b k seq id moment c) ≡ entry (id_of id) moment c
entry_shown t b k seq id moment Marker = refl
entry_shown t b k seq id moment (Body bytes checksum) = refl

-- ---- the put

module _ (old new : Tables) (t : Octets) (s : State) (sound : IsSound old) (is : view old t ≡ Some s) (b k : Octets) (B : Bucket) (at : get s.buckets b ≡ Some B)
    (moment : ℕ) (early : moment ≤ latest_of old) (good : IsTrue (is_object_key k)) (text : IsUtf8 k) where
  module _ (content : Content) where
    row_good : (seq id : ℕ) (tables : Tables) → latest_of tables ≡ latest_of old → IsVersionRow (latest_of tables) (entry_row t b k seq id moment content)
    row_good seq id tables same = record { key = good; text = text; marker = marker_small content; bare = marker_bare content; stamp = subst (λ n. moment ≤ n) (sym same) early; size = content_sized content }

    -- the entry `null` is replaced
    put_replacing : can_give s.next_entry ≡ true
        → new ≡ record old { tenants = update_where (is_tenant t) (λ r. record r { next_entry = s.next_entry + 1 }) old.tenants; versions = delete_where (is_version t b k 0) old.versions ++ entry_row t b k s.next_entry 0 moment content ∷ [] }
        → Becomes t (Some (with_bucket b (with_entries k (entry Null moment content ∷ without Null (listed k B)) B) (record s { next_entry = s.next_entry + 1 }))) old new
    put_replacing room e =
        let one : Tables = record old { tenants = update_where (is_tenant t) (λ r. record r { next_entry = s.next_entry + 1 }) old.tenants } in
        let two : Tables = record one { versions = delete_where (is_version t b k 0) old.versions } in
        let s1 : State = record s { next_entry = s.next_entry + 1 } in
        let B1 = with_entries k (without Null (listed k B)) B in
        let first = next_entry_set old one t s sound is (s.next_entry + 1) (omega arith) (omega (arith, leb-true _ _ room)) refl in
        let second = version_removed one two t s1 first.sound first.shown b k 0 B at (null_undated b k _ _ _ (first.sound.tenants t).retains.kept) refl in
        let third = version_added two new (with_bucket b B1 s1) (entry_row t b k s.next_entry 0 moment content) B1 second.sound second.shown (get_here octets s.buckets b (Some B1))
        (row_good s.next_entry 0 two (second.latest ∙ first.latest)) (omega arith) (omega (arith, (counters_good old t s sound is).0.0))
        (subst (AllByRecursion (λ x. x.seq < s.next_entry)) (sym (mine_deleted (λ (x : VersionRow). x.tenant) t _ old.versions)) (all-filter _ _ _ (older old t s sound is))) (parts_older old t s sound is) (delete_all (is_version t b k 0) old.versions) e in
        subst (λ (x : State). Becomes t (Some x) old new)
        (bucket_again b B1 _ s1 ∙ ap (λ x. with_bucket b x s1)
        (ap (λ (x : Entry). with_entries k (x ∷ listed k B1) B1) (entry_shown t b k s.next_entry 0 moment content)
        ∙ ap (λ l. with_entries k (entry Null moment content ∷ l) B1) (listed_here k (without Null (listed k B)) B)
        ∙ entries_again k (without Null (listed k B)) (entry Null moment content ∷ without Null (listed k B)) B))
        (becomes_then t _ _ old two new (becomes_then t _ _ old one two first second) third)

    -- a numbered entry is added
    put_numbered : can_give s.next_version ≡ true → can_give s.next_entry ≡ true
        → new ≡ record old { tenants = update_where (is_tenant t) (λ r. record r { next_version = s.next_version + 1; next_entry = s.next_entry + 1 }) old.tenants; versions = old.versions ++ entry_row t b k s.next_entry s.next_version moment content ∷ [] }
        → Becomes t (Some (with_bucket b (with_entries k (entry (Numbered s.next_version) moment content ∷ listed k B) B) (record s { next_version = s.next_version + 1; next_entry = s.next_entry + 1 }))) old new
    put_numbered version room e =
        let one : Tables = record old { tenants = update_where (is_tenant t) (λ r. record r { next_version = s.next_version + 1; next_entry = s.next_entry + 1 }) old.tenants } in
        let s1 : State = record s { next_version = s.next_version + 1; next_entry = s.next_entry + 1 } in
        let first = numbers_set old one t s sound is (s.next_version + 1) (s.next_entry + 1) (omega arith) (omega (arith, leb-true _ _ version)) (omega arith) (omega (arith, leb-true _ _ room)) refl in
        let second = version_added one new s1 (entry_row t b k s.next_entry s.next_version moment content) B first.sound first.shown at
        (row_good s.next_entry s.next_version one first.latest) (omega arith) (omega arith) (older old t s sound is) (parts_older old t s sound is) (next_fresh old t s sound is b k) e in
        subst (λ (x : Entry). Becomes t (Some (with_bucket b (with_entries k (x ∷ listed k B) B) s1)) old new)
        (entry_shown t b k s.next_entry s.next_version moment content ∙ ap (λ id. entry id moment content) (numbered_id s.next_version (counters_good old t s sound is).0.0))
        (becomes_then t _ _ old one new first second)

    -- the entries that the machine makes, in a bucket of any state
    put_in : (mode : BucketState) (c : Counts) → after_entry mode (counts s) ≡ Ok c
        → new ≡ record old { tenants = update_where (is_tenant t) (counters_row mode c) old.tenants; versions = rows_left mode t b k old.versions ++ entry_row t b k s.next_entry (row_number mode s.next_version) moment content ∷ [] }
        → Becomes t (Some (with_bucket b (with_entries k (added mode s.next_version moment content (listed k B)) B) (with_counts c s))) old new
    put_in Unversioned c given e =
        let g = was_given (can_give s.next_entry) _ c given in
        subst (λ (x : Counts). Becomes t (Some (with_bucket b (with_entries k (entry Null moment content ∷ without Null (listed k B)) B) (with_counts x s))) old new) g.1
        (put_replacing g.0 (e ∙ ap (λ (x : Counts). record old { tenants = update_where (is_tenant t) (λ r. record r { next_entry = x.entry }) old.tenants; versions = delete_where (is_version t b k 0) old.versions ++ entry_row t b k s.next_entry 0 moment content ∷ [] }) (sym g.1)))
    put_in Enabled c given e =
        let g = was_given (can_give s.next_version && can_give s.next_entry) _ c given in
        let both = and_parts _ _ g.0 in
        subst (λ (x : Counts). Becomes t (Some (with_bucket b (with_entries k (entry (Numbered s.next_version) moment content ∷ listed k B) B) (with_counts x s))) old new) g.1
        (put_numbered both.0 both.1 (e ∙ ap (λ (x : Counts). record old { tenants = update_where (is_tenant t) (λ r. record r { next_version = x.version; next_entry = x.entry }) old.tenants; versions = old.versions ++ entry_row t b k s.next_entry s.next_version moment content ∷ [] }) (sym g.1)))
    put_in Suspended c given e =
        let g = was_given (can_give s.next_entry) _ c given in
        subst (λ (x : Counts). Becomes t (Some (with_bucket b (with_entries k (entry Null moment content ∷ without Null (listed k B)) B) (with_counts x s))) old new) g.1
        (put_replacing g.0 (e ∙ ap (λ (x : Counts). record old { tenants = update_where (is_tenant t) (λ r. record r { next_entry = x.entry }) old.tenants; versions = delete_where (is_version t b k 0) old.versions ++ entry_row t b k s.next_entry 0 moment content ∷ [] }) (sym g.1)))

  -- the tables with a new entry
  abbrev with_row : BucketState → Counts → Content → Tables
  with_row mode c content = record old { tenants = update_where (is_tenant t) (counters_row mode c) old.tenants; versions = rows_left mode t b k old.versions ++ entry_row t b k s.next_entry (row_number mode s.next_version) moment content ∷ [] }

  -- an object is put: the machine's state then
  pub object_put : (bytes : Octets) (c : Counts) → after_entry B.mode (counts s) ≡ Ok c → new ≡ with_row B.mode c (Body bytes (checksum_text bytes))
      → Becomes t (Some (with_bucket b (with_object moment k s.next_version bytes B) (with_counts c s))) old new
  object_put bytes c given e = put_in (Body bytes (checksum_text bytes)) B.mode c given e

  -- a version is copied
  pub copy_put : (v : Version) (c : Counts) → after_entry B.mode (counts s) ≡ Ok c → new ≡ with_row B.mode c (Body v.bytes v.checksum)
      → Becomes t (Some (with_bucket b (with_copy moment k s.next_version v B) (with_counts c s))) old new
  copy_put v c given e = put_in (Body v.bytes v.checksum) B.mode c given e

  -- a delete marker is made, where versions are or were numbered
  pub marker_put : (mode : BucketState) (c : Counts) → (mode ≡ Unversioned → ⊥) → after_entry mode (counts s) ≡ Ok c → new ≡ with_row mode c Marker
      → Becomes t (Some (with_bucket b (with_entries k (deleted_current mode s.next_version moment (listed k B)) B) (with_counts c s))) old new
  marker_put Unversioned c versioned given e = absurd (versioned refl)
  marker_put Enabled c versioned given e = put_in Marker Enabled c given e
  marker_put Suspended c versioned given e = put_in Marker Suspended c given e
