-- The tables of a database that was checked are those of a sound host.
use Rattle.std.proofs.Common.{◌≡◌, ◌+◌, ◌≤◌, ◌^◌, true, ◌==◌, ◌&&◌, List, [], ◌∷◌, length, map, Option, Some, None, refl, sym, ap, ◌∙◌, subst}
use Rattle.std.specs.List.{AllByRecursion, list_all}
use Rattle.std.specs.Option.{option_map_or}
use Rattle.std.proofs.lemmas.Bool.{and_from, eq-eqb}
use Rattle.sqlite.specs.Effect.{Database, IsDatabase}
use Rattle.sqlite.specs.Order.{column}
use Rattle.sqlite.specs.Schema.{Schema}
use Rattle.sqlite.specs.Tree.{Trees}
use Rattle.sqlite_keyed.proofs.ListLemmas.{all_map, all_weaker}
use Rattle.sqlite_typed.specs.Columns.{bytes_of}
use Rattle.sqlite_typed.specs.Tests.{bytes_eq}
use Rattle.sqlite_typed.proofs.TestLemmas.{same_bytes}
use Rattle.bh_model.specs.QuotaLaws.{IsBounded}
use Rattle.bh_model.specs.State.{State, used}
use Rattle.bh_tables.specs.Schema.{Octets, first_schema, second_schema, third_schema, fourth_schema, host_schema}
use Rattle.bh_tables.specs.Bodies.{first, ref_name, block_at, has_size}
use Rattle.bh_tables.specs.Hosts.{with_version, is_of_version, brought_over, tables_opened}
use Rattle.bh_tables.specs.Typed.{Tables, totals_of, tables_in, raw, AreHeld, HostRow, TenantRow, BlockRow, RefRow, tenant_of, block_of}
use Rattle.bh_tables.proofs.HostTests.{host_opens, first_opens, second_opens, third_opens, fourth_opens}
use Rattle.bh_view.specs.Blocks.{AreDigests}
use Rattle.bh_view.specs.Bodies.{AreBounded, IsSoundHost}
use Rattle.bh_view.specs.Sound.{IsTenantRow, AreSound, IsSound}
use Rattle.bh_view.specs.View.{view, rows_of, latest_of}
use Rattle.bh_view.proofs.FactLemmas.{all_first}
use Rattle.bh_view.proofs.UsedLemmas.{used_is}
use Rattle.bh_view.proofs.ViewLemmas.{own_row}
use Rattle.bh_stored.specs.Stored.{seen}
use Rattle.bh_stored.specs.declared.stored.Edition.{Edition}
use Rattle.bh_stored.specs.declared.stored.Edition.TheVariants.{First, Second, Third, Fourth, Fifth}
use Rattle.bh_check.specs.Checked.{IsChecked, MakesSound}
use Rattle.bh_check.specs.Holds.{version_bytes, part_bytes, Holds}
use Rattle.bh_check.specs.declared.rows.Table.TheVariants as table
use Rattle.bh_check.proofs.HostIs.{held_is, used_sum}
use Rattle.bh_check.proofs.Schemas.{over, over_is, kept}
use Rattle.bh_check.proofs.SoundBodies.{have_bodies}
use Rattle.bh_check.proofs.SoundLocks.{locks_are, retains_are}
use Rattle.bh_check.proofs.SoundOwned.{all_in, versions_are, uploads_are, parts_are}
use Rattle.bh_check.proofs.SoundRows.{stored_are, tenants_are, keys_are, buckets_are}

module _ (edition : Edition) (digest : Octets → Octets) (trees : Trees) (c : IsChecked edition digest (seen edition trees)) (sound : IsDatabase (record { schema = over edition; trees = trees })) where
  abbrev d : Trees
  d = seen edition trees

  abbrev db : Database
  db = record { schema = host_schema; trees = d }

  -- as they are once they are opened
  abbrev shown : Tables
  shown = brought_over (tables_in db)

  abbrev host : HostRow
  host = c.host.host

  alone : shown.host ≡ with_version 5 host ∷ []
  alone = ap (map (with_version 5)) c.host.alone

  latest_is : latest_of shown ≡ c.latest
  unfolding latest_of
  latest_is = ap (λ rows. option_map_or (λ (r : HostRow). r.latest) (first rows) 0) alone ∙ c.host.latest_is

  rows_sound : (t : Octets) → AreSound c.latest (rows_of t shown)
  rows_sound t = record {
    tenants = tenants_are edition digest trees c sound t;
    keys = keys_are edition digest trees c sound t;
    buckets = buckets_are edition digest trees c sound t;
    versions = versions_are edition digest trees c sound t;
    uploads = uploads_are edition digest trees c sound t;
    parts = parts_are edition digest trees c sound t;
    locks = locks_are edition digest trees c sound t;
    retains = retains_are edition digest trees c sound t;
  }

  are_sound : (t : Octets) → AreSound (latest_of shown) (rows_of t shown)
  are_sound t = subst (λ n. AreSound n (rows_of t shown)) (sym latest_is) (rows_sound t)

  is_sound : IsSound shown
  is_sound = record { host = record { row = with_version 5 host; alone = alone; good = c.host.good.good }; tenants = are_sound; stored = stored_are edition digest trees c sound }

  -- ---- what a tenant uses is at most 2^60 bytes

  abbrev IsSmall : Octets → Type 0
  IsSmall t = version_bytes d (t, 0) + part_bytes d (t, 0) ≤ 2 ^ 60

  are_small : (t : Octets) → AllByRecursion (λ (_ : TenantRow). IsSmall t) (rows_of t shown).tenants
  are_small t = all_in (λ (_ : TenantRow). IsSmall t) (λ (r : TenantRow). bytes_eq r.tenant t) (map tenant_of (d 1)) (all_map (λ (r : TenantRow). bytes_eq r.tenant t ≡ true → IsSmall t) tenant_of (d 1)
      (all_weaker (Holds d c.latest table.Tenants) (λ r. bytes_eq (bytes_of (column r 1)) t ≡ true → IsSmall t)
      (λ r h is. subst IsSmall (same_bytes (bytes_of (column r 1)) t is) (subst (λ n. n ≤ 2 ^ 60) h.used h.bounded)) (d 1) c.rows.tenants))

  are_bounded : AreBounded shown
  are_bounded t = go (view shown t) refl
    where
      go : (o : Option State) → view shown t ≡ o → IsBounded o
      go None is = tt
      go (Some s) is =
          let row = own_row shown t s is in
          let good = all_first IsTenantRow (rows_of t shown).tenants row.0 row.1 (tenants_are edition digest trees c sound t).each in
          let small = all_first (λ (_ : TenantRow). IsSmall t) (rows_of t shown).tenants row.0 row.1 (are_small t) in
          (subst (λ (x : State). x.quota ≤ 2 ^ 60) row.2 good.quota, subst (λ n. n ≤ 2 ^ 60) (sym (used_is shown t s is_sound is ∙ used_sum edition digest trees c t)) small)

  are_digests : AreDigests digest shown.blocks
  are_digests = all_map (λ (b : BlockRow). b.digest ≡ digest b.bytes) block_of (d 10) c.bytes.digests

  pub sound_tables : IsSoundHost digest shown
  sound_tables = record {
    sound = is_sound;
    bodies = have_bodies edition digest trees c sound;
    digests = are_digests;
    bounded = are_bounded;
  }

-- ---- each reference has the size of its block

all_sized : (blocks : List BlockRow) (refs : List RefRow) → AllByRecursion (λ (r : RefRow). r.size ≡ length (block_at blocks (ref_name r))) refs → list_all (has_size blocks) refs ≡ true
all_sized blocks [] h = refl
all_sized blocks (r ∷ refs) h = and_from _ _ (eq-eqb r.size _ h.0) (all_sized blocks refs h.1)

-- so the rows are held by the sums of these tables
held_so : (edition : Edition) (digest : Octets → Octets) (trees : Trees) (c : IsChecked edition digest (seen edition trees)) → IsDatabase (record { schema = over edition; trees = trees })
    → let sums = totals_of (tables_in (record { schema = host_schema; trees = seen edition trees })) in AreHeld (record (kept edition sums) { measured = sums.measured }) (raw (seen edition trees))
held_so edition digest trees c sound =
    let t = tables_in (record { schema = host_schema; trees = seen edition trees }) in
    subst (λ b. AreHeld (record (kept edition (totals_of t)) { measured = b }) (raw (seen edition trees))) (sym (all_sized t.blocks t.refs (have_bodies edition digest trees c sound).measured)) (held_is edition digest trees c)

-- ---- of each edition

module _ (digest : Octets → Octets) (d : Trees) where
  fifth_sound : IsDatabase (record { schema = host_schema; trees = d }) → IsChecked Fifth digest (seen Fifth d) → IsSoundHost digest (tables_opened (record { schema = host_schema; trees = d }))
  fifth_sound sound c =
      let db : Database = record { schema = host_schema; trees = d } in
      let joined = subst (λ (s : Schema). IsDatabase (record { schema = s; trees = d })) (over_is Fifth) sound in
      let host = c.host.host in
      let hosts : map (with_version 5) (tables_in db).host ≡ (tables_in db).host =
      ap (map (with_version 5)) c.host.alone ∙ ap (λ n. with_version n host ∷ []) (sym c.host.good.version_is) ∙ sym c.host.alone in
      subst (IsSoundHost digest) (ap (λ rows. record (tables_in db) { host = rows }) hosts ∙ sym (host_opens db (record { schema = refl; held = held_so Fifth digest d c joined })))
      (sound_tables Fifth digest d c joined)

  fourth_sound : IsDatabase (record { schema = fourth_schema; trees = d }) → IsChecked Fourth digest (seen Fourth d) → IsSoundHost digest (tables_opened (record { schema = fourth_schema; trees = d }))
  fourth_sound sound c =
      let db : Database = record { schema = fourth_schema; trees = d } in
      let joined = subst (λ (s : Schema). IsDatabase (record { schema = s; trees = d })) (over_is Fourth) sound in
      subst (IsSoundHost digest)
      (sym (fourth_opens db (record { fourth = record { schema = refl; held = held_so Fourth digest d c joined }; version = ap (list_all (is_of_version 4)) c.host.alone ∙ ap (λ n. (n == 4) && true) c.host.good.version_is })))
      (sound_tables Fourth digest d c joined)

  third_sound : IsDatabase (record { schema = third_schema; trees = d }) → IsChecked Third digest (seen Third d) → IsSoundHost digest (tables_opened (record { schema = third_schema; trees = d }))
  third_sound sound c =
      let db : Database = record { schema = third_schema; trees = d } in
      let joined = subst (λ (s : Schema). IsDatabase (record { schema = s; trees = d })) (over_is Third) sound in
      subst (IsSoundHost digest)
      (sym (third_opens db (record { third = record { schema = refl; held = held_so Third digest d c joined }; version = ap (list_all (is_of_version 3)) c.host.alone ∙ ap (λ n. (n == 3) && true) c.host.good.version_is })))
      (sound_tables Third digest d c joined)

  second_sound : IsDatabase (record { schema = second_schema; trees = d }) → IsChecked Second digest (seen Second d) → IsSoundHost digest (tables_opened (record { schema = second_schema; trees = d }))
  second_sound sound c =
      let db : Database = record { schema = second_schema; trees = d } in
      let joined = subst (λ (s : Schema). IsDatabase (record { schema = s; trees = d })) (over_is Second) sound in
      subst (IsSoundHost digest)
      (sym (second_opens db (record { second = record { schema = refl; held = held_so Second digest d c joined }; version = ap (list_all (is_of_version 2)) c.host.alone ∙ ap (λ n. (n == 2) && true) c.host.good.version_is })))
      (sound_tables Second digest d c joined)

  first_sound : IsDatabase (record { schema = first_schema; trees = d }) → IsChecked First digest (seen First d) → IsSoundHost digest (tables_opened (record { schema = first_schema; trees = d }))
  first_sound sound c =
      let db : Database = record { schema = first_schema; trees = d } in
      let joined = subst (λ (s : Schema). IsDatabase (record { schema = s; trees = d })) (over_is First) sound in
      subst (IsSoundHost digest)
      (sym (first_opens db (record { first = record { schema = refl; held = held_so First digest d c joined }; version = ap (list_all (is_of_version 1)) c.host.alone ∙ ap (λ n. (n == 1) && true) c.host.good.version_is })))
      (sound_tables First digest d c joined)

pub makes_sound : MakesSound
makes_sound First digest d sound c = first_sound digest d sound c
makes_sound Second digest d sound c = second_sound digest d sound c
makes_sound Third digest d sound c = third_sound digest d sound c
makes_sound Fourth digest d sound c = fourth_sound digest d sound c
makes_sound Fifth digest d sound c = fifth_sound digest d sound c
