-- All rows of a tenant come to tables in which it isn't.
use Rattle.std.proofs.Common.{◌≡◌, ◌≢◌, ◌⊎◌, inl, inr, ℕ, zero, suc, ◌≤◌, max, true, false, true≢false, [], ◌∷◌, ◌++◌, map, None, refl, sym, ap, ◌∙◌, subst, arith}
use Rattle.std.specs.List.{AllByRecursion, list_any}
use Rattle.std.proofs.Math.Nat.{le-max_left, le-max_right, max-le}
use Rattle.std.proofs.lemmas.List.{map-append}
use Rattle.sqlite_keyed.proofs.ListLemmas.{all_weaker, all_both, none_from_any}
use Rattle.sqlite_typed.specs.Tests.{bytes_eq}
use Rattle.bh_model.specs.State.{Octets}
use Rattle.bh_model.specs.QuotaLaws.{IsBounded}
use Rattle.bh_model.specs.Runs.{last_reading}
use Rattle.bh_tables.specs.Bodies.{same_name, version_name, part_name}
use Rattle.bh_tables.specs.Typed.{HostRow, TenantRow, KeyRow, BucketRow, VersionRow, UploadRow, PartRow, LockRow, RetainRow, Tables}
use Rattle.bh_view.specs.Grouped.{same_number}
use Rattle.bh_view.specs.View.{TenantRows, rows_of, view, latest_of, with_latest}
use Rattle.bh_view.specs.Bodies.{IsResolved, IsUnnamed, IsSoundHost}
use Rattle.bh_view.specs.Sound.{IsVersionRow, AreSound, IsSound}
use Rattle.bh_view.proofs.BoundLemmas.{bounded_but}
use Rattle.bh_view.proofs.GroupedLemmas.{is_other}
use Rattle.bh_view.proofs.HostChanges.{latest_is, limits_are, sound_later}
use Rattle.bh_view.proofs.Keys.{octets, numbers}
use Rattle.bh_view.proofs.NameLemmas.{none_either, each_unnamed}
use Rattle.bh_view.proofs.TenantChanges.{no_tenant_rows, absent_rows}
use Rattle.bh_view.proofs.ViewLemmas.{same_view, same_latest}
use Rattle.bh_view.proofs.WriteLemmas.{same_whole, whole_of}
use Rattle.bh_tenant_rows.specs.Brought.{with_tenants, with_keys, with_buckets, with_locks, with_uploads, with_versions, with_parts, with_rows, IsBrought}
use Rattle.bh_tenant_rows.proofs.Lists.{are_of, mine_after, others_after, differ}
use Rattle.bh_tenant_rows.proofs.Coming.{IsMore, IsEither, none_named, names_differ, versions_come, parts_come}

-- ---- rows

kind : (n : ℕ) {A B : Type 0} → n ≤ 1 → (n ≡ 1 → A × B) → (n ≡ 0) ⊎ ((n ≡ 1) × A)
kind zero low bare = inl refl
kind (suc zero) low bare = inr (refl, (bare refl).0)
kind (suc (suc n)) low bare = absurd (omega (arith, low))

swapped : (m n : ℕ) → same_number m n ≡ false → same_number n m ≡ false
swapped m n apart = is_other numbers n m (λ same. true≢false (sym ((numbers.decides m n).1 (sym same)) ∙ apart))

module _ (digest digest_from : Octets → Octets) (size : ℕ) (low : 1 ≤ size) (t : Octets) (from old : Tables) (given : IsSoundHost digest_from from) (host : IsSoundHost digest old) (resolved : IsResolved old) (absent : view old t ≡ None) where
  abbrev mine : TenantRows
  mine = rows_of t from

  fine : AreSound (latest_of from) mine
  fine = given.sound.tenants t

  none : rows_of t old ≡ no_tenant_rows
  none = absent_rows old t host.sound absent

  -- ---- versions and their bodies

  abbrev before : Tables
  before = with_locks mine.locks (with_buckets mine.buckets (with_keys mine.keys (with_tenants mine.tenants old)))

  -- no version and no part has the name of a body of the tenant
  unnamed : (own : Octets) (n : ℕ) → bytes_eq own t ≡ true → IsUnnamed (own, n) old
  unnamed own n is = subst (λ q. IsUnnamed (q, n) old) (sym ((octets.decides own t).0 is)) (record {
    versions = none_named (λ (v : VersionRow). v.tenant) (λ v. v.seq) t n old.versions (ap (λ (r : TenantRows). r.versions) none);
    parts = none_named (λ (p : PartRow). p.tenant) (λ p. p.body) t n old.parts (ap (λ (r : TenantRows). r.parts) none);
  })

  fresh_versions : AllByRecursion (λ v. IsUnnamed (version_name v) before) mine.versions
  fresh_versions = all_weaker _ _ (λ v is. let it = unnamed v.tenant v.seq is in record { versions = it.versions; parts = it.parts }) mine.versions (are_of (λ (v : VersionRow). v.tenant) t from.versions)

  kinds : AllByRecursion IsEither mine.versions
  kinds = all_weaker (IsVersionRow (latest_of from)) IsEither (λ v good. kind v.marker good.marker good.bare) mine.versions fine.versions.each

  abbrev between : Tables
  between = with_versions digest size mine.versions before

  first : IsMore digest before between (old.versions ++ mine.versions) old.parts
  first = versions_come digest size low mine.versions before (same_whole old before refl refl refl refl [] (whole_of old host.sound host.bodies resolved)) host.digests fresh_versions (differ (λ (v : VersionRow). v.seq) mine.versions fine.versions.one_seq) kinds

  -- ---- parts and their bodies

  abbrev then : Tables
  then = with_uploads mine.uploads between

  fresh_parts : AllByRecursion (λ p. IsUnnamed (part_name p) then) mine.parts
  fresh_parts = all_both _ _ _ (λ (p : PartRow) is apart. let it = unnamed p.tenant p.body is in record {
    versions = ap (λ (x : Tables). list_any (same_name (part_name p)) (map version_name x.versions)) first.is ∙ ap (list_any (same_name (part_name p))) (map-append version_name old.versions mine.versions)
        ∙ none_either (same_name (part_name p)) (map version_name old.versions) (map version_name mine.versions) it.versions
        (each_unnamed version_name (part_name p) mine.versions (all_weaker _ _ (λ (v : VersionRow) other. names_differ p.tenant v.tenant p.body v.seq (swapped v.seq p.body other)) mine.versions (none_from_any _ mine.versions apart)));
    parts = ap (λ (x : Tables). list_any (same_name (part_name p)) (map part_name x.parts)) first.is ∙ it.parts;
  }) mine.parts (are_of (λ (p : PartRow). p.tenant) t from.parts) fine.parts.apart

  abbrev after : Tables
  after = with_parts digest size mine.parts then

  second : IsMore digest then after then.versions (then.parts ++ mine.parts)
  second = parts_come digest size low mine.parts then (same_whole between then refl refl refl refl [] first.whole) first.digests fresh_parts (differ (λ (p : PartRow). p.body) mine.parts fine.parts.one_body)

  -- ---- all rows

  abbrev all : Tables
  all = with_rows digest size mine old

  all_are : all ≡ record old {
    tenants = old.tenants ++ mine.tenants;
    keys = old.keys ++ mine.keys;
    buckets = old.buckets ++ mine.buckets;
    versions = old.versions ++ mine.versions;
    uploads = old.uploads ++ mine.uploads;
    parts = old.parts ++ mine.parts;
    locks = old.locks ++ mine.locks;
    retains = old.retains ++ mine.retains;
    refs = after.refs;
    blocks = after.blocks;
  }
  all_are = ap (λ (x : Tables). record x { retains = x.retains ++ mine.retains }) (second.is ∙ ap (λ (x : Tables). record x { uploads = x.uploads ++ mine.uploads; parts = x.parts ++ mine.parts; refs = after.refs; blocks = after.blocks }) first.is)

  -- the last stamp is the same for now
  pub all_latest : latest_of all ≡ latest_of old
  all_latest = same_latest old all (ap (λ (x : Tables). x.host) all_are)

  own_rows : rows_of t all ≡ mine
  own_rows = ap (rows_of t) all_are ∙ (λ i. record {
    tenants = mine_after (λ (r : TenantRow). r.tenant) t old.tenants mine.tenants (ap (λ (r : TenantRows). r.tenants) none) (are_of (λ (r : TenantRow). r.tenant) t from.tenants) i;
    keys = mine_after (λ (r : KeyRow). r.tenant) t old.keys mine.keys (ap (λ (r : TenantRows). r.keys) none) (are_of (λ (r : KeyRow). r.tenant) t from.keys) i;
    buckets = mine_after (λ (r : BucketRow). r.tenant) t old.buckets mine.buckets (ap (λ (r : TenantRows). r.buckets) none) (are_of (λ (r : BucketRow). r.tenant) t from.buckets) i;
    versions = mine_after (λ (r : VersionRow). r.tenant) t old.versions mine.versions (ap (λ (r : TenantRows). r.versions) none) (are_of (λ (r : VersionRow). r.tenant) t from.versions) i;
    uploads = mine_after (λ (r : UploadRow). r.tenant) t old.uploads mine.uploads (ap (λ (r : TenantRows). r.uploads) none) (are_of (λ (r : UploadRow). r.tenant) t from.uploads) i;
    parts = mine_after (λ (r : PartRow). r.tenant) t old.parts mine.parts (ap (λ (r : TenantRows). r.parts) none) (are_of (λ (r : PartRow). r.tenant) t from.parts) i;
    locks = mine_after (λ (r : LockRow). r.tenant) t old.locks mine.locks (ap (λ (r : TenantRows). r.locks) none) (are_of (λ (r : LockRow). r.tenant) t from.locks) i;
    retains = mine_after (λ (r : RetainRow). r.tenant) t old.retains mine.retains (ap (λ (r : TenantRows). r.retains) none) (are_of (λ (r : RetainRow). r.tenant) t from.retains) i;
  })

  other_rows : (u : Octets) → u ≢ t → rows_of u all ≡ rows_of u old
  other_rows u apart = ap (rows_of u) all_are ∙ (λ i. record {
    tenants = others_after (λ (r : TenantRow). r.tenant) t u apart old.tenants mine.tenants (are_of (λ (r : TenantRow). r.tenant) t from.tenants) i;
    keys = others_after (λ (r : KeyRow). r.tenant) t u apart old.keys mine.keys (are_of (λ (r : KeyRow). r.tenant) t from.keys) i;
    buckets = others_after (λ (r : BucketRow). r.tenant) t u apart old.buckets mine.buckets (are_of (λ (r : BucketRow). r.tenant) t from.buckets) i;
    versions = others_after (λ (r : VersionRow). r.tenant) t u apart old.versions mine.versions (are_of (λ (r : VersionRow). r.tenant) t from.versions) i;
    uploads = others_after (λ (r : UploadRow). r.tenant) t u apart old.uploads mine.uploads (are_of (λ (r : UploadRow). r.tenant) t from.uploads) i;
    parts = others_after (λ (r : PartRow). r.tenant) t u apart old.parts mine.parts (are_of (λ (r : PartRow). r.tenant) t from.parts) i;
    locks = others_after (λ (r : LockRow). r.tenant) t u apart old.locks mine.locks (are_of (λ (r : LockRow). r.tenant) t from.locks) i;
    retains = others_after (λ (r : RetainRow). r.tenant) t u apart old.retains mine.retains (are_of (λ (r : RetainRow). r.tenant) t from.retains) i;
  })

  -- ---- with the later stamp

  abbrev stamp : ℕ
  stamp = max (latest_of old) (latest_of from)

  abbrev new : Tables
  new = with_latest stamp all

  abbrev row : HostRow
  row = record host.sound.host.row { latest = stamp }

  alone : new.host ≡ row ∷ []
  alone = ap (λ (x : Tables). map (λ (r : HostRow). record r { latest = stamp }) x.host) all_are ∙ ap (map (λ (r : HostRow). record r { latest = stamp })) host.sound.host.alone

  stamped : latest_of new ≡ stamp
  stamped = latest_is new row alone

  old_latest : latest_of old ≤ last_reading
  old_latest = subst (λ n. n ≤ last_reading) (sym (latest_is old host.sound.host.row host.sound.host.alone)) host.sound.host.good.latest

  from_latest : latest_of from ≤ last_reading
  from_latest = subst (λ n. n ≤ last_reading) (sym (latest_is from given.sound.host.row given.sound.host.alone)) given.sound.host.good.latest

  others : (u : Octets) → u ≢ t → view new u ≡ view old u
  others u apart = same_view u old new (other_rows u apart)

  shown : view new t ≡ view from t
  shown = same_view t from new own_rows

  each_sound : (u : Octets) → AreSound stamp (rows_of u new)
  each_sound u = elim (bytes_eq u t) as (λ b. bytes_eq u t ≡ b → AreSound stamp (rows_of u new)) [
    | true ↦ λ e. subst (λ q. AreSound stamp (rows_of q new)) (sym ((octets.decides u t).0 e)) (subst (AreSound stamp) (sym own_rows) (sound_later (latest_of from) stamp (le-max_right (latest_of old) (latest_of from)) mine fine))
    | false ↦ λ e. subst (AreSound stamp) (sym (other_rows u (λ same. true≢false (sym ((octets.decides u t).1 same) ∙ e)))) (sound_later (latest_of old) stamp (le-max_left (latest_of old) (latest_of from)) (rows_of u old) (host.sound.tenants u))
  ] refl

  sound : IsSound new
  sound = record {
    host = record { row = row; alone = alone; good = record { version = host.sound.host.good.version; digest = host.sound.host.good.digest; latest = max-le old_latest from_latest; limits = host.sound.host.good.limits } };
    tenants = λ u. subst (λ n. AreSound n (rows_of u new)) (sym stamped) (each_sound u);
    stored = second.whole.stored;
  }

  pub tenant_brought : IsBrought digest t from old new
  tenant_brought = record {
    sound = record { sound = sound; bodies = second.whole.bodies; digests = second.digests; bounded = bounded_but t old new others (subst IsBounded (sym shown) (given.bounded t)) host.bounded };
    shown = shown;
    others = others;
    limits = limits_are new row alone ∙ sym (limits_are old host.sound.host.row host.sound.host.alone);
    named = ap (map (λ (r : HostRow). r.digest)) alone ∙ sym (ap (map (λ (r : HostRow). r.digest)) host.sound.host.alone);
    latest = stamped;
  }
