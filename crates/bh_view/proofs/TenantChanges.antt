-- A row of `tenants` added or changed: a tenant with its quota and nothing else, or other counters.
use Rattle.std.proofs.Common.{◌≡◌, ℕ, ◌≤◌, ◌<◌, ◌^◌, List, [], ◌∷◌, ◌++◌, Some, None, option_map, cond, IsTrue, refl, sym, ap, ◌∙◌, subst, arith}
use Rattle.sqlite_keyed.specs.Lists.{update_where}
use Rattle.sqlite_keyed.proofs.ListLemmas.{all_weaker}
use Rattle.sqlite_typed.specs.Tests.{bytes_eq}
use Rattle.bh_types.specs.Counts.{Counts, AreCounters}
use Rattle.bh_types.specs.Limits.{IsQuota}
use Rattle.bh_types.specs.Names.{is_tenant_name}
use Rattle.bh_model.specs.State.{Octets, State, new_tenant}
use Rattle.bh_model.specs.Counting.{counts, with_counts, AtMost}
use Rattle.bh_tables.specs.Typed.{TenantRow, BucketRow, VersionRow, UploadRow, PartRow, LockRow, RetainRow, Tables}
use Rattle.bh_tables.specs.Shown.{is_tenant}
use Rattle.bh_view.specs.Grouped.{first, matching, same_number, grouped}
use Rattle.bh_view.specs.View.{TenantRows, rows_of, state_of, state_shown, view, latest_of}
use Rattle.bh_view.specs.Sound.{IsTenantRow, IsBelow, AreSound, IsSound}
use Rattle.bh_view.specs.Becomes.{Becomes}
use Rattle.bh_view.proofs.Keys.{octets, numbers}
use Rattle.bh_view.proofs.FilterLemmas.{none_some, none_mapped, first_passes, update_here}
use Rattle.bh_view.proofs.FactLemmas.{all_first, none_first, no_keys}
use Rattle.bh_view.proofs.OwnLemmas.{rows_at, others_pushed, others_updated, mine_pushed, within_own}
use Rattle.bh_view.proofs.ViewLemmas.{view_is, own_row, own_rows, becomes}

abbrev own : TenantRow → Octets
own r = r.tenant

-- its next numbers
abbrev row_counts : TenantRow → Counts
row_counts r = record { version = r.next_version; upload = r.next_upload; entry = r.next_entry }

-- numbers that were given stay so where counters do not go back
below_later : (v : VersionRow) (a b : TenantRow) → AtMost (row_counts a) (row_counts b) → IsBelow v a → IsBelow v b
below_later v a b up below = record { seq = omega (arith, below.seq, up.2); id = omega (arith, below.id, up.0) }

-- a tenant's row after an UPDATE of it
row_updated : (f : TenantRow → TenantRow) → ((r : TenantRow) → (f r).tenant ≡ r.tenant) → (t : Octets) (rows : List TenantRow) (r : TenantRow) → rows_at own t rows ≡ r ∷ []
    → rows_at own t (update_where (is_tenant t) f rows) ≡ f r ∷ []
row_updated f keeps t rows r one =
    update_here (is_tenant t) (is_tenant t) f (λ x _. ap (λ z. bytes_eq z t) (keeps x)) rows
    ∙ ap (update_where (is_tenant t) f) one ∙ ap (λ b. cond b (f r) r ∷ []) (first_passes (is_tenant t) rows r (ap first one))

module _ (old new : Tables) (t : Octets) (s : State) (sound : IsSound old) (is : view old t ≡ Some s) where
  -- an UPDATE of the tenant's row, whatever it sets
  pub tenant_updated : (f : TenantRow → TenantRow) (change : State → State) → ((r : TenantRow) → (f r).tenant ≡ r.tenant) → ((r : TenantRow) → state_of (rows_of t old) (f r) ≡ change (state_of (rows_of t old) r))
      → ((r : TenantRow) → IsTenantRow r → state_of (rows_of t old) r ≡ s → IsTenantRow (f r) × AtMost (row_counts r) (row_counts (f r)))
      → new ≡ record old { tenants = update_where (is_tenant t) f old.tenants } → Becomes t (Some (change s)) old new
  tenant_updated f change keeps same good e =
      let mine = rows_of t old in
      let all = sound.tenants t in
      let row = own_row old t s is in
      let r = row.0 in
      let one = own_rows old t s sound is in
      let fine = good r (all_first _ _ r row.1 all.tenants.each) row.2 in
      let after : Tables = record old { tenants = update_where (is_tenant t) f old.tenants } in
      let here = row_updated f keeps t old.tenants r one in
      subst (Becomes t (Some (change s)) old) (sym e)
      (becomes t (Some (change s)) old after sound refl refl refl (λ u apart i. record (rows_of u old) { tenants = others_updated own t (is_tenant t) (within_own own t) f keeps old.tenants u apart i })
      (ap (λ l. option_map (state_of mine) (first l)) here ∙ ap Some (same r ∙ ap change row.2))
      (subst (λ l. AreSound (latest_of old) (record mine { tenants = l })) (sym here) (record {
        tenants = record { each = (fine.0, tt); one = omega arith };
        keys = record { each = all.keys.each; one = all.keys.one; owned = λ none. absurd (none_some (sym none)) };
        buckets = record { each = all.buckets.each; one = all.buckets.one; owned = λ none. absurd (none_some (sym none)) };
        versions = record {
          each = all.versions.each;
          one_seq = all.versions.one_seq;
          one_id = all.versions.one_id;
          owned = all.versions.owned;
          given = (all_weaker (λ v. IsBelow v r) (λ v. IsBelow v (f r)) (λ v. below_later v r (f r) fine.1) mine.versions (all_first _ _ r row.1 all.versions.given), tt);
        };
        uploads = record {
          each = all.uploads.each;
          one = all.uploads.one;
          owned = all.uploads.owned;
          given = (all_weaker (λ (u : UploadRow). u.upload < r.next_upload) (λ u. u.upload < (f r).next_upload) (λ u less. omega (arith, less, fine.1.1)) mine.uploads (all_first _ _ r row.1 all.uploads.given), tt);
        };
        parts = record {
          each = all.parts.each;
          one = all.parts.one;
          one_body = all.parts.one_body;
          apart = all.parts.apart;
          owned = all.parts.owned;
          given = (all_weaker (λ (p : PartRow). p.body < r.next_entry) (λ p. p.body < (f r).next_entry) (λ p less. omega (arith, less, fine.1.2)) mine.parts (all_first _ _ r row.1 all.parts.given), tt);
        };
        locks = all.locks;
        retains = all.retains;
      })))

  -- counters that do not go back
  pub counters_set : (c : Counts) → AreCounters c.version c.upload c.entry → AtMost (counts s) c
      → new ≡ record old { tenants = update_where (is_tenant t) (λ r. record r { next_version = c.version; next_upload = c.upload; next_entry = c.entry }) old.tenants } → Becomes t (Some (with_counts c s)) old new
  counters_set c good up = tenant_updated (λ r. record r { next_version = c.version; next_upload = c.upload; next_entry = c.entry }) (with_counts c) (λ r. refl) (λ r. refl)
      (λ r fine shows. let high : AtMost (row_counts r) c = subst (λ (x : State). AtMost (counts x) c) (sym shows) up in
      (record { name = fine.name; quota = fine.quota; counters = good }, high))

  -- another quota
  pub quota_set : (n : ℕ) → IsQuota n → new ≡ record old { tenants = update_where (is_tenant t) (λ r. record r { quota = n }) old.tenants } → Becomes t (Some (record s { quota = n })) old new
  quota_set n few = tenant_updated (λ r. record r { quota = n }) (λ (x : State). record x { quota = n }) (λ r. refl) (λ r. refl)
      (λ r fine shows. (record { name = fine.name; quota = few; counters = fine.counters }, (omega arith, omega arith, omega arith)))

  -- the number of the next entry alone, which does not go back
  pub next_entry_set : (n : ℕ) → s.next_entry ≤ n → n ≤ 2 ^ 62 → new ≡ record old { tenants = update_where (is_tenant t) (λ r. record r { next_entry = n }) old.tenants } → Becomes t (Some (record s { next_entry = n })) old new
  next_entry_set n up high = tenant_updated (λ r. record r { next_entry = n }) (λ (x : State). record x { next_entry = n }) (λ r. refl) (λ r. refl)
      (λ r fine shows. let more : r.next_entry ≤ n = subst (λ (x : State). x.next_entry ≤ n) (sym shows) up in
      (record { name = fine.name; quota = fine.quota; counters = (fine.counters.0, fine.counters.1, (omega (arith, fine.counters.2.0, more), high)) }, (omega arith, omega arith, more)))

  -- the numbers of the next version and of the next entry
  pub numbers_set : (m n : ℕ) → s.next_version ≤ m → m ≤ 2 ^ 62 → s.next_entry ≤ n → n ≤ 2 ^ 62
      → new ≡ record old { tenants = update_where (is_tenant t) (λ r. record r { next_version = m; next_entry = n }) old.tenants } → Becomes t (Some (record s { next_version = m; next_entry = n })) old new
  numbers_set m n up_version high_version up high = tenant_updated (λ r. record r { next_version = m; next_entry = n }) (λ (x : State). record x { next_version = m; next_entry = n }) (λ r. refl) (λ r. refl)
      (λ r fine shows.
      let more : r.next_entry ≤ n = subst (λ (x : State). x.next_entry ≤ n) (sym shows) up in
      let later : r.next_version ≤ m = subst (λ (x : State). x.next_version ≤ m) (sym shows) up_version in
      (record { name = fine.name; quota = fine.quota; counters = ((omega (arith, fine.counters.0.0, later), high_version), fine.counters.1, (omega (arith, fine.counters.2.0, more), high)) }, (later, omega arith, more)))

abbrev pub no_tenant_rows : TenantRows
no_tenant_rows = record { tenants = []; keys = []; buckets = []; versions = []; uploads = []; parts = []; locks = []; retains = [] }

-- a tenant that is not there has no rows
pub absent_rows : (tables : Tables) (t : Octets) → IsSound tables → view tables t ≡ None → rows_of t tables ≡ no_tenant_rows
absent_rows tables t sound is =
    let mine = rows_of t tables in
    let all = sound.tenants t in
    let none : first mine.tenants ≡ None = none_mapped (state_of mine) _ (sym (view_is tables t) ∙ is) in
    let no_buckets : mine.buckets ≡ [] = all.buckets.owned none in
    let none_named : (b : Octets) → first (matching bytes_eq (λ (r : BucketRow). r.bucket) b mine.buckets) ≡ None = λ b. ap (λ l. first (matching bytes_eq (λ (r : BucketRow). r.bucket) b l)) no_buckets in
    let no_versions : mine.versions ≡ [] = no_keys octets (λ (v : VersionRow). v.bucket) mine.versions (λ b. all.versions.owned b (none_named b)) in
    let no_uploads : mine.uploads ≡ [] = no_keys octets (λ (u : UploadRow). u.bucket) mine.uploads (λ b. all.uploads.owned b (none_named b)) in
    λ i. record {
      tenants = none_first mine.tenants none i;
      keys = all.keys.owned none i;
      buckets = no_buckets i;
      versions = no_versions i;
      uploads = no_uploads i;
      parts = no_keys numbers (λ (p : PartRow). p.upload) mine.parts (λ u. all.parts.owned u (ap (λ l. first (matching same_number (λ (x : UploadRow). x.upload) u l)) no_uploads)) i;
      locks = no_keys octets (λ (l : LockRow). l.bucket) mine.locks (λ b. all.locks.owned b (none_named b)) i;
      retains = no_keys numbers (λ (r : RetainRow). r.seq) mine.retains (λ n. all.retains.owned n (ap (λ l. first (matching same_number (λ (v : VersionRow). v.seq) n l)) no_versions)) i;
    }

pub tenant_added : (old new : Tables) (t : Octets) (quota : ℕ) → IsSound old → view old t ≡ None → IsTrue (is_tenant_name t) → IsQuota quota
    → new ≡ record old { tenants = old.tenants ++ record { tenant = t; quota = quota; next_version = 1; next_upload = 1; next_entry = 1 } ∷ [] } → Becomes t (Some (new_tenant quota)) old new
unfolding grouped
tenant_added old new t quota sound is name few e =
    let r : TenantRow = record { tenant = t; quota = quota; next_version = 1; next_upload = 1; next_entry = 1 } in
    let after : Tables = record old { tenants = old.tenants ++ r ∷ [] } in
    let none = absent_rows old t sound is in
    let here : rows_of t after ≡ record no_tenant_rows { tenants = r ∷ [] } = λ i. record (none i) { tenants = (mine_pushed own old.tenants r ∙ ap (λ m. m.tenants ++ r ∷ []) none) i } in
    subst (Becomes t (Some (new_tenant quota)) old) (sym e)
    (becomes t (Some (new_tenant quota)) old after sound refl refl refl (λ u apart i. record (rows_of u old) { tenants = others_pushed own old.tenants r u apart i })
    (ap state_shown here)
    (subst (AreSound (latest_of old)) (sym here) (record {
      tenants = record { each = (record { name = name; quota = few; counters = ((omega arith, omega arith), (omega arith, omega arith), (omega arith, omega arith)) }, tt); one = omega arith };
      keys = record { each = tt; one = λ q. omega arith; owned = λ gone. refl };
      buckets = record { each = tt; one = λ q. omega arith; owned = λ gone. refl };
      versions = record { each = tt; one_seq = λ q. omega arith; one_id = λ b k q. omega arith; owned = λ q gone. refl; given = (tt, tt) };
      uploads = record { each = tt; one = λ q. omega arith; owned = λ q gone. refl; given = (tt, tt) };
      parts = record { each = tt; one = λ u q. omega arith; one_body = λ q. omega arith; apart = tt; owned = λ q gone. refl; given = (tt, tt) };
      locks = record { one = λ q. omega arith; owned = λ q gone. refl; enabled = tt };
      retains = record { each = tt; one = λ q. omega arith; owned = λ q gone. refl; kept = tt };
    })))
