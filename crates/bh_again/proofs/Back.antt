-- From a crash to the host that is opened after it.
use mathlib.Core.HLevel.{⊥_prop}
use Rattle.std.proofs.Common.{◌≡◌, ◌⊎◌, inl, inr, ℕ, ◌≤◌, zero, suc, true, cond, IsTrue, List, [], ◌∷◌, map, length, refl, sym, ap, subst, ◌∙◌, arith}
use Rattle.std.specs.List.{list_all}
use Rattle.std.proofs.Math.Logic.{∥∥₁_elim, ∥∥₁_map}
use Rattle.std.proofs.lemmas.Bool.{cases_Bool, and_parts, eqb-true}
use Rattle.sqlite_disk.specs.declared.Disk.{Ghosts}
use Rattle.sqlite_store.specs.declared.store.FileStore.{FileStore}
use Rattle.sqlite.specs.Effect.{Database, IsDatabase}
use Rattle.sqlite.specs.Held.{Held, state}
use Rattle.sqlite.specs.Tree.{Trees}
use Rattle.sqlite_trees.specs.declared.store.Store.{Ghosts as Stores}
use Rattle.sqlite.specs.State.{State, Opens, IsLive, HasCleanDisk}
use Rattle.bh_types.specs.BlockDigests.{digest_number}
use Rattle.bh_types.specs.Limits.{HostLimits, AreLimits}
use Rattle.bh_types.specs.declared.block_digest.BlockDigest.{BlockDigest}
use Rattle.bh_types.specs.declared.block_digest.BlockDigest.TheVariants.{Sha256, Fast}
use Rattle.bh_model.specs.State.{Octets}
use Rattle.bh_shelf.specs.Contents.{Contents}
use Rattle.bh_tables.specs.Hosts.{is_of_version, with_version, tables_shown, tables_opened}
use Rattle.bh_tables.specs.Schema.{host_schema}
use Rattle.bh_tables.specs.Typed.{HostRow, Tables, tables_in, first_tables_in}
use Rattle.bh_tables.proofs.HostTests.{host_opens, first_opens, second_opens, third_opens, fourth_opens, opened_host, others_open, other_schema, unlike_second, unlike_third, unlike_fourth}
use Rattle.bh_view.specs.Bodies.{IsSoundHost}
use Rattle.bh_view.specs.View.{latest_of}
use Rattle.bh_storage.specs.Calls.{IsAtRest}
use Rattle.bh_base.specs.Layer.{standing, IsIntact, IsOpen, IsStateClean, Leaves, KeepsDisk}
use Rattle.bh_base.specs.Placed.{filled}
use Rattle.bh_schema.proofs.Committing.{same_database}
use Rattle.bh_schema.proofs.Storing.{sound_host}
use Rattle.bh_open.specs.Opening.{digest_in, IsRowOf, IsHostOf}
use Rattle.bh_open.specs.Packed.{is_earlier_host, tables_beside}
use Rattle.bh_open.specs.Versions.{IsHostsSchema, IsTypedIfEarlier}
use Rattle.bh_open.specs.declared.found.HostVersion.TheVariants.{First, Second, Third, Fourth, Fifth}
use Rattle.bh_open.specs.declared.open.Opened.{Opened}
use Rattle.bh_again.specs.Stops.{seen_again, IsCleanAgain, ComesBack}

-- ---- a host that was opened, once its database is known

module _ {D : Type 0} {g : Ghosts D} (packs : Contents) (opened : Opened (FileStore D g)) (clean : IsCleanAgain opened) (db : Database)
    (schema : IsHostsSchema db.schema)
    (shows : IsCleanAgain opened → IsTypedIfEarlier db → (seen_again packs opened).now ≡ tables_beside packs db)
    (rest : (digest : Octets → Octets) → IsCleanAgain opened → IsTypedIfEarlier db → IsSoundHost digest (seen_again packs opened).now → IsAtRest (IsSoundHost digest) (seen_again packs opened))
    (latest : (digest : Octets → Octets) → IsCleanAgain opened → IsTypedIfEarlier db → IsSoundHost digest (seen_again packs opened).now → opened.latest ≡ latest_of (seen_again packs opened).now)
    (named : (digest : Octets → Octets) → IsCleanAgain opened → IsTypedIfEarlier db → IsSoundHost digest (seen_again packs opened).now → digest_number opened.digest ≡ digest_in (seen_again packs opened).now) where
  comes : ComesBack packs db opened
  comes = record {
    schema = schema;
    came_back = λ typed.
        let is = shows clean typed in
        let here : (digest : Octets → Octets) → IsSoundHost digest (tables_beside packs db) → IsSoundHost digest (seen_again packs opened).now = λ digest sound. subst (IsSoundHost digest) (sym is) sound in
        record {
          tables = is;
          rest = λ digest sound. rest digest clean typed (here digest sound);
          latest = λ digest sound. latest digest clean typed (here digest sound) ∙ ap latest_of is;
          named = λ digest sound. named digest clean typed (here digest sound) ∙ ap digest_in is;
        };
  }

  pub comes_back : (it : Database) → db ≡ it → ComesBack packs it opened
  comes_back it is = subst (λ (x : Database). ComesBack packs x opened) is comes

-- ---- what a crash leaves of a connection that no fault has shut

pub left_settled : {S : Type 0} (g : Stores S) (settles : (s : S) (db : Trees) → IsTrue (g.view s).is_open → g.recovers s db → db ≡ (g.view s).committed) (c : Held S) → IsOpen (state g c)
    → (db : Trees) → Leaves (state g c) db → db ≡ (standing (state g c)).kept.trees
unfolding standing Leaves IsOpen
left_settled g settles c up db may = settles c.store db up may

pub left_alone : (s : State) → IsLive s → IsOpen s → ((db : Trees) → Leaves s db → db ≡ (standing s).kept.trees) → (db : Database) → Leaves s db.trees × IsDatabase db → db ≡ (standing s).kept
unfolding standing IsOpen
left_alone s live up settled db it = same_database db s.committed it.1.lists (live up).1.lists (settled db.trees it.0)

-- ---- the database that was found

module _ (old mid new : State) (follows : KeepsDisk mid new) (opened : HasCleanDisk mid → Opens mid × IsLive mid) where
  was : IsStateClean new → HasCleanDisk mid
  unfolding IsIntact
  was clean = (follows.clean clean).intact

  pub was_intact : (HasCleanDisk mid → HasCleanDisk old) → IsStateClean new → IsIntact old
  unfolding IsIntact
  was_intact before clean = before (was clean)

  -- it is one that a crash may leave
  pub found_left : (HasCleanDisk mid → ∥ old.may_leave mid.committed.trees ∥₁) → IsStateClean new → ∥ ((db : Database) × (Leaves old db.trees × IsDatabase db) × ((standing mid).now ≡ db)) ∥₁
  unfolding Leaves standing
  found_left left clean =
      let all = opened (was clean) in
      ∥∥₁_map (left (was clean)) (λ may. let r : (db : Database) × (Leaves old db.trees × IsDatabase db) × ((standing mid).now ≡ db) = (mid.committed, (may, (all.1 all.0.is_open).1), all.0.clean) in r)

  -- of a connection that no fault has shut, what was committed
  pub found_kept : (found : HasCleanDisk mid → (kept : Database) → IsDatabase kept → ((db : Trees) → old.may_leave db → db ≡ kept.trees) → mid.now ≡ kept)
      → IsLive old → (IsOpen old → (db : Trees) → Leaves old db → db ≡ (standing old).kept.trees) → IsStateClean new → IsOpen old → (standing mid).now ≡ (standing old).kept
  unfolding standing IsOpen Leaves
  found_kept found live settled clean up = found (was clean) old.committed (live up).1 (settled up)

-- ---- sound tables are a host's, of any version

-- their row has the number of a function that is known
named_by : (n : ℕ) → n ≤ 1 → (named : BlockDigest) × (digest_number named ≡ n)
named_by zero known = (Sha256, refl)
named_by (suc zero) known = (Fast, refl)
named_by (suc (suc n)) known = absurd (omega arith)

-- the one row that was brought over
one_before : (n : ℕ) (rows : List HostRow) (row : HostRow) → map (with_version 5) rows ≡ row ∷ [] → list_all (is_of_version n) rows ≡ true
    → (h : HostRow) × (rows ≡ h ∷ []) × (with_version 5 h ≡ row) × (h.version ≡ n)
one_before n [] row is told = absurd (cc)
one_before n (h ∷ []) row is told = (h, refl, (let e = is in cc), eqb-true h.version n (and_parts _ _ told).0)
one_before n (h ∷ k ∷ rows) row is told = let e = ap length is in absurd (omega (arith, e))

row_before : (n : ℕ) (rows : List HostRow) (row : HostRow) (named : BlockDigest) → AreLimits row.min_part row.max_body → digest_number named ≡ row.digest → map (with_version 5) rows ≡ row ∷ [] → list_all (is_of_version n) rows ≡ true
    → IsRowOf n (record { min_part = row.min_part; max_body = row.max_body }) rows
row_before n rows row named range number brought told =
    let one = one_before n rows row brought told in
    let same : with_version 5 one.0 ≡ row = one.2 in
    record {
      row = one.0;
      alone = one.1;
      version_is = one.3;
      range = subst (λ (r : HostRow). AreLimits r.min_part r.max_body) (sym same) range;
      limits_are = ap (λ (r : HostRow). record { min_part = r.min_part; max_body = r.max_body }) (sym same);
      named = named;
      number = number ∙ ap (λ (r : HostRow). r.digest) (sym same);
    }

hosts_database : (digest : Octets → Octets) (db : Database) → IsSoundHost digest (tables_opened db) → (limits : HostLimits) × IsHostOf limits db
hosts_database digest db sound =
    let it = sound.sound.host in
    let by = named_by it.row.digest it.good.digest in
    let limits : HostLimits = record { min_part = it.row.min_part; max_body = it.row.max_body } in
    elim (opened_host db it.row it.alone) [
      | inl host ↦
          let there : (tables_in db).host ≡ it.row ∷ [] = ap (λ (t : Tables). t.host) (sym (host_opens db host)) ∙ it.alone in (
            limits,
            (
              Fifth,
              record {
                host = host;
                row = record { row = it.row; alone = there; version_is = it.good.version; range = it.good.limits; limits_are = refl; named = by.0; number = by.1 };
              },
            ),
          )
      | inr earlier ↦ elim earlier [
        | inl one ↦
            let there : map (with_version 5) (first_tables_in db).host ≡ it.row ∷ [] = ap (λ (t : Tables). t.host) (sym (first_opens db one)) ∙ it.alone in
            (limits, (First, record { host = one.first; row = row_before 1 (first_tables_in db).host it.row by.0 it.good.limits by.1 there one.version }))
        | inr later ↦ elim later [
          | inl two ↦
              let there : map (with_version 5) (tables_in db).host ≡ it.row ∷ [] = ap (λ (t : Tables). t.host) (sym (second_opens db two)) ∙ it.alone in
              (limits, (Second, record { host = two.second; row = row_before 2 (tables_in db).host it.row by.0 it.good.limits by.1 there two.version }))
          | inr latest ↦ elim latest [
            | inl three ↦
                let there : map (with_version 5) (tables_in db).host ≡ it.row ∷ [] = ap (λ (t : Tables). t.host) (sym (third_opens db three)) ∙ it.alone in
                (limits, (Third, record { host = three.third; row = row_before 3 (tables_in db).host it.row by.0 it.good.limits by.1 there three.version }))
            | inr four ↦
                let there : map (with_version 5) (tables_in db).host ≡ it.row ∷ [] = ap (λ (t : Tables). t.host) (sym (fourth_opens db four)) ∙ it.alone in
                (limits, (Fourth, record { host = four.fourth; row = row_before 4 (tables_in db).host it.row by.0 it.good.limits by.1 there four.version }))
          ]
        ]
      ]
    ]

-- one of the present version opens as it is
pub present_opens : (db : Database) → db.schema ≡ host_schema → tables_opened db ≡ tables_shown db
present_opens db is = others_open db (other_schema db is) (unlike_second db is) (unlike_third db is) (unlike_fourth db is)

-- so beside packs they are a host's, or, with the bytes of these, a host's
beside_database : (digest : Octets → Octets) (packs : Contents) (db : Database) → IsSoundHost digest (tables_beside packs db)
    → ((limits : HostLimits) × IsHostOf limits db) ⊎ ((limits : HostLimits) × IsHostOf limits (filled packs db))
unfolding tables_beside
beside_database digest packs db sound = elim (cases_Bool (is_earlier_host db)) [
  | inl earlier ↦ inl (hosts_database digest db (subst (λ b. IsSoundHost digest (cond b (tables_opened db) (tables_shown (filled packs db)))) earlier sound))
  | inr present ↦
      let here : IsSoundHost digest (tables_shown (filled packs db)) = subst (λ b. IsSoundHost digest (cond b (tables_opened db) (tables_shown (filled packs db)))) present sound in
      let opens = present_opens (filled packs db) (sound_host (filled packs db) here.sound).schema in
      inr (hosts_database digest (filled packs db) (subst (IsSoundHost digest) (sym opens) here))
]

-- and they aren't refused as none
pub never_none : (digest : Octets → Octets) (packs : Contents) (old mid : State) → ∥ old.may_leave mid.committed.trees ∥₁ → Opens mid × IsLive mid
    → ((db : Database) → Leaves old db.trees × IsDatabase db → IsSoundHost digest (tables_beside packs db))
    → ((limits : HostLimits) → ¬ IsHostOf limits (standing mid).now) → ((limits : HostLimits) → ¬ IsHostOf limits (filled packs (standing mid).now)) → ⊥
unfolding Leaves standing
never_none digest packs old mid left opens sound none without = ∥∥₁_elim left ⊥_prop (λ may.
    let was = sound mid.committed (may, (opens.1 opens.0.is_open).1) in
    let it = beside_database digest packs mid.now (subst (λ (db : Database). IsSoundHost digest (tables_beside packs db)) (sym opens.0.clean) was) in
    elim it [
      | inl host ↦ none host.0 host.1
      | inr host ↦ without host.0 host.1
    ])
