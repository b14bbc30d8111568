-- The row of `host`: the first of a new host, and a later stamp.
use Rattle.std.proofs.Common.{◌≡◌, ℕ, ◌≤◌, [], ◌∷◌, map, None, refl, sym, ap, ◌∙◌, subst, arith, le_trans}
use Rattle.std.specs.List.{AllByRecursion}
use Rattle.sqlite_keyed.proofs.ListLemmas.{all_weaker}
use Rattle.bh_types.specs.Limits.{AreLimits}
use Rattle.bh_model.specs.State.{Octets}
use Rattle.bh_model.specs.Runs.{last_reading}
use Rattle.bh_tables.specs.Typed.{HostRow, Tables, no_rows}
use Rattle.bh_view.specs.View.{TenantRows, rows_of, view, latest_of, limits_in, with_latest}
use Rattle.bh_view.specs.Sound.{IsBucketRow, IsVersionRow, IsUploadRow, IsPartRow, AreSound, IsSound}
use Rattle.bh_view.specs.Becomes.{IsStamped}
use Rattle.bh_view.specs.Laws.{new_host}
use Rattle.bh_view.proofs.ViewLemmas.{view_is, same_view}

-- the last stamp is that of the one row
pub latest_is : (tables : Tables) (row : HostRow) → tables.host ≡ row ∷ [] → latest_of tables ≡ row.latest
unfolding latest_of
latest_is tables row alone = ap (λ rows. latest_of (record tables { host = rows })) alone

-- and the limits are that row's
pub limits_are : (tables : Tables) (row : HostRow) → tables.host ≡ row ∷ [] → limits_in tables ≡ record { min_part = row.min_part; max_body = row.max_body }
unfolding limits_in
limits_are tables row alone = ap (λ rows. limits_in (record tables { host = rows })) alone

-- rows that are sound at a stamp are so at a later one
pub sound_later : (m n : ℕ) → m ≤ n → (rows : TenantRows) → AreSound m rows → AreSound n rows
sound_later m n up rows all =
    let buckets : AllByRecursion (IsBucketRow n) rows.buckets = all_weaker (IsBucketRow m) (IsBucketRow n) (λ r good. record { name = good.name; created = le_trans good.created up; state = good.state; days = good.days }) rows.buckets all.buckets.each in
    let versions : AllByRecursion (IsVersionRow n) rows.versions = all_weaker (IsVersionRow m) (IsVersionRow n) (λ v good. record { key = good.key; text = good.text; marker = good.marker; bare = good.bare; stamp = le_trans good.stamp up; size = good.size }) rows.versions all.versions.each in
    let uploads : AllByRecursion (IsUploadRow n) rows.uploads = all_weaker (IsUploadRow m) (IsUploadRow n) (λ u good. record { key = good.key; text = good.text; begun = le_trans good.begun up }) rows.uploads all.uploads.each in
    let parts : AllByRecursion (IsPartRow n) rows.parts = all_weaker (IsPartRow m) (IsPartRow n) (λ p good. record { least = good.least; most = good.most; stamp = le_trans good.stamp up; size = good.size; checksum = good.checksum }) rows.parts all.parts.each in
    record {
      tenants = all.tenants;
      keys = all.keys;
      buckets = record { each = buckets; one = all.buckets.one; owned = all.buckets.owned };
      versions = record { each = versions; one_seq = all.versions.one_seq; one_id = all.versions.one_id; owned = all.versions.owned; given = all.versions.given };
      uploads = record { each = uploads; one = all.uploads.one; owned = all.uploads.owned; given = all.uploads.given };
      parts = record { each = parts; one = all.parts.one; one_body = all.parts.one_body; apart = all.parts.apart; owned = all.parts.owned; given = all.parts.given };
      locks = all.locks;
      retains = all.retains;
    }

-- no rows are sound
pub nothing_sound : (n : ℕ) → AreSound n (rows_of [] no_rows)
nothing_sound n = record {
  tenants = record { each = tt; one = omega arith };
  keys = record { each = tt; one = λ q. omega arith; owned = λ gone. refl };
  buckets = record { each = tt; one = λ q. omega arith; owned = λ gone. refl };
  versions = record { each = tt; one_seq = λ q. omega arith; one_id = λ b k q. omega arith; owned = λ q gone. refl; given = tt };
  uploads = record { each = tt; one = λ q. omega arith; owned = λ q gone. refl; given = tt };
  parts = record { each = tt; one = λ u q. omega arith; one_body = λ q. omega arith; apart = tt; owned = λ q gone. refl; given = tt };
  locks = record { one = λ q. omega arith; owned = λ q gone. refl; enabled = tt };
  retains = record { each = tt; one = λ q. omega arith; owned = λ q gone. refl; kept = tt };
}

-- a stamp that is not before the last one
pub stamped : (old new : Tables) (n : ℕ) → IsSound old → latest_of old ≤ n → n ≤ last_reading → new ≡ with_latest n old → IsStamped n old new
stamped old new n sound up top e =
    let row = sound.host.row in
    let alone : (with_latest n old).host ≡ record row { latest = n } ∷ [] = ap (map (λ (r : HostRow). record r { latest = n })) sound.host.alone in
    let latest = latest_is (with_latest n old) (record row { latest = n }) alone in
    subst (IsStamped n old) (sym e) (record {
      latest = latest;
      limits = limits_are (with_latest n old) (record row { latest = n }) alone ∙ sym (limits_are old row sound.host.alone);
      views = λ u. same_view u old (with_latest n old) refl;
      sound = record {
        host = record { row = record row { latest = n }; alone = alone; good = record { version = sound.host.good.version; digest = sound.host.good.digest; latest = top; limits = sound.host.good.limits } };
        tenants = λ t. subst (λ m. AreSound m (rows_of t old)) (sym latest) (sound_later (latest_of old) n up (rows_of t old) (sound.tenants t));
        stored = sound.stored;
      };
    })

-- to write the last stamp again changes nothing
pub stamped_again : (tables : Tables) → IsSound tables → with_latest (latest_of tables) tables ≡ tables
stamped_again tables sound =
    let row = sound.host.row in
    let alone = sound.host.alone in
    let rows : map (λ (r : HostRow). record r { latest = latest_of tables }) tables.host ≡ tables.host =
    ap (map (λ (r : HostRow). record r { latest = latest_of tables })) alone ∙ ap (λ n. record row { latest = n } ∷ []) (latest_is tables row alone) ∙ sym alone in
    ap (λ l. record tables { host = l }) rows

-- a new host: no tenant is there, and the limits are those that it was made with
pub created : (tables : Tables) (min_part max_body digest : ℕ) → AreLimits min_part max_body → digest ≤ 1 → tables ≡ new_host min_part max_body digest
    → IsSound tables × (latest_of tables ≡ 0) × ((t : Octets) → view tables t ≡ None) × (limits_in tables ≡ record { min_part = min_part; max_body = max_body })
created tables min_part max_body digest limits known e =
    let row : HostRow = record { version = 5; latest = 0; min_part = min_part; max_body = max_body; digest = digest } in
    subst (λ (x : Tables). IsSound x × (latest_of x ≡ 0) × ((t : Octets) → view x t ≡ None) × (limits_in x ≡ record { min_part = min_part; max_body = max_body })) (sym e) (
      record {
        host = record { row = row; alone = refl; good = record { version = refl; digest = known; latest = omega arith; limits = limits } };
        tenants = λ t. nothing_sound (latest_of (new_host min_part max_body digest));
        stored = record { one = λ q. omega arith; once = λ q. omega arith; named = λ q gone. refl };
      },
      latest_is (new_host min_part max_body digest) row refl,
      λ t. view_is (new_host min_part max_body digest) t,
      limits_are (new_host min_part max_body digest) row refl,
    )
