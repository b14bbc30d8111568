-- What the check of a host's file finds, from layer to layer.
use Rattle.std.proofs.Common.{◌≡◌, ◌≢◌, inl, inr, ℕ, List, map, Option, None, Result, Ok, IfOk, refl, sym, ap, ◌∙◌, subst}
use Rattle.std.specs.Option.{option_map_or}
use Rattle.sqlite.specs.Effect.{Database}
use Rattle.sqlite.specs.Schema.{Schema}
use Rattle.sqlite.specs.State.{State}
use Rattle.bh_shelf.specs.Contents.{Contents}
use Rattle.bh_shelf.specs.Listed.{HasListed}
use Rattle.bh_shelf.specs.declared.closed.Listed.{Listed}
use Rattle.bh_types.specs.BlockDigests.{digest_number}
use Rattle.bh_tables.specs.Hosts.{with_version, tables_shown, tables_opened}
use Rattle.bh_tables.specs.Schema.{Octets, host_schema}
use Rattle.bh_tables.specs.Typed.{HostRow, IsHost, tables_in}
use Rattle.bh_tables.proofs.HostTests.{host_shows, first_opens, second_opens, third_opens, fourth_opens, other_schema, unlike_second, unlike_third, unlike_fourth}
use Rattle.bh_view.specs.Bodies.{IsSoundHost}
use Rattle.bh_view.specs.Grouped.{first}
use Rattle.bh_base.specs.Layer.{Standing, standing, taken_back, IsStateClean, KeepsDisk}
use Rattle.bh_base.specs.Placed.{filled_trees, filled}
use Rattle.bh_schema.proofs.Storing.{sound_host}
use Rattle.bh_blocks.specs.Digests.{digest_by}
use Rattle.bh_migration.specs.Listing.{Lists}
use Rattle.bh_open.specs.Opening.{digest_in, Tells, FindsHost, IsSettled}
use Rattle.bh_open.specs.Packed.{tables_beside}
use Rattle.bh_open.specs.Versions.{schema_of, IsHostsSchema}
use Rattle.bh_open.specs.declared.found.FoundHost.{FoundHost}
use Rattle.bh_open.specs.declared.found.HostVersion.{HostVersion}
use Rattle.bh_open.specs.declared.found.HostVersion.TheVariants.{First, Second, Third, Fourth, Fifth}
use Rattle.bh_open.proofs.Beside.{beside_present, beside_earlier, beside_told, filled_listed, packs_typed}
use Rattle.bh_maintenance.specs.Checks.{IsVerdict}
use Rattle.bh_maintenance.specs.Found.{HasListedOf, IsSoundByItsRow}
use Rattle.bh_maintenance.specs.declared.printed.Printed.{Printed}

-- a verdict on one thing is one on what follows from it
pub verdict_weaker : (P Q : Type 0) (printed : Printed) → (P → Q) → IsVerdict P printed → IsVerdict Q printed
verdict_weaker P Q printed more (inl fine) = inl (fine.0, more fine.1)
verdict_weaker P Q printed more (inr other) = inr other

-- nothing was found
pub ok_none : {A E X : Type 0} (r : Result (Option A) E) → r ≡ Ok None → IfOk r (λ found. found ≡ None → X) → X
ok_none {A} {E} {X} r is it = subst (λ r. IfOk r (λ found. found ≡ None → X)) is it refl

-- ---- a database that was looked at

-- it is one of a host's
pub one_of_all : (version : HostVersion) (schema : Schema) → schema ≡ schema_of version → IsHostsSchema schema
one_of_all First schema is = inl is
one_of_all Second schema is = inr (inl is)
one_of_all Third schema is = inr (inr (inl is))
one_of_all Fourth schema is = inr (inr (inr (inl is)))
one_of_all Fifth schema is = inr (inr (inr (inr is)))

-- in terms of its state
pub schema_now : (s : State) → (standing s).now.schema ≡ host_schema → s.now.schema ≡ host_schema
unfolding standing
schema_now s is = is

pub hosts_now : (s : State) (version : HostVersion) → (standing s).now.schema ≡ schema_of version → IsHostsSchema s.now.schema
unfolding standing
hosts_now s version is = one_of_all version s.now.schema is

-- no transaction is open over it
pub settled_same : (old new : State) → IsSettled old → KeepsDisk old new → (IsStateClean new → standing new ≡ standing old) → IsStateClean new → taken_back (standing new) ≡ standing new
settled_same old new settled follows same clean =
    let was = follows.clean clean in
    let kept : (standing old).now ≡ (standing old).kept = settled.committed was.is_open in
    let back : taken_back (standing old) ≡ standing old =
    λ i. record { now = sym kept i; kept = (standing old).kept; inside = sym settled.outside i; limit = (standing old).limit } in
    ap taken_back (same clean) ∙ back ∙ sym (same clean)

-- what is sound of it was so before
pub sound_before : (packs : Contents) (digest : Octets → Octets) (old new : State) → KeepsDisk old new → (IsStateClean new → standing new ≡ standing old)
    → IsStateClean new × IsSoundHost digest (tables_beside packs new.now) → IsStateClean old × IsSoundHost digest (tables_beside packs old.now)
unfolding standing
sound_before packs digest old new follows same sound = (
  follows.clean sound.0,
  subst (λ (x : Standing). IsSoundHost digest (tables_beside packs x.now)) (same sound.0) sound.1,
)

-- ---- its packs

-- packs that were opened by rows have what these list
pub listed_now : (s : State) (rows : List Listed) (packs kept seen : Contents) → Lists (standing s).now rows → HasListed rows packs kept → seen ≡ kept → HasListedOf packs seen s.now
unfolding standing
listed_now s rows packs kept seen lists has same typed = subst (HasListed _ packs) (sym same) (subst (λ r. HasListed r packs kept) (lists typed) has)

-- beside packs that have what is listed of their files, one of the present version is sound if it is with them
pub sound_listed : (digest : Octets → Octets) (packs seen : Contents) (db : Database) → db.schema ≡ host_schema → HasListedOf packs seen db → IsSoundHost digest (tables_beside seen db)
    → IsSoundHost digest (tables_beside packs db)
sound_listed digest packs seen db schema listed sound =
    let shown : IsSoundHost digest (tables_shown (filled seen db)) = subst (IsSoundHost digest) (beside_present seen db schema) sound in
    let host : IsHost (filled seen db) = sound_host (filled seen db) shown.sound in
    let same : filled seen db ≡ filled packs db = filled_listed db packs seen (listed (packs_typed seen db host)) in
    subst (IsSoundHost digest) (ap tables_shown same ∙ sym (beside_present packs db schema)) shown

-- one of an earlier version has none
pub sound_earlier : (digest : Octets → Octets) (packs : Contents) (s : State) (version : HostVersion) → version ≢ Fifth → (standing s).now.schema ≡ schema_of version → IsSoundHost digest (tables_opened s.now)
    → IsSoundHost digest (tables_beside packs s.now)
unfolding standing
sound_earlier digest packs s version earlier schema sound =
    let db = s.now in
    subst (IsSoundHost digest) (sym (beside_earlier packs db sound.sound.host.row sound.sound.host.alone (λ present. earlier (is_fifth version schema present)))) sound
  where
    is_fifth : (v : HostVersion) → s.now.schema ≡ schema_of v → s.now.schema ≡ host_schema → v ≡ Fifth
    is_fifth First is host = absurd (other_schema s.now host is)
    is_fifth Second is host = absurd (unlike_second s.now host is)
    is_fifth Third is host = absurd (unlike_third s.now host is)
    is_fifth Fourth is host = absurd (unlike_fourth s.now host is)
    is_fifth Fifth is host = refl

-- ---- its row

-- it tells the same once the host is opened
abbrev digest_at : List HostRow → ℕ
digest_at rows = option_map_or (λ (r : HostRow). r.digest) (first rows) 0

row_told : (version : HostVersion) (db : Database) (found : FoundHost) → Tells version (tables_in db).host found → digest_number found.digest ≡ digest_at (tables_in db).host
row_told version db found told = told.2 ∙ sym (ap digest_at told.0.alone)

brought_told : (version : HostVersion) (db : Database) (found : FoundHost) → Tells version (tables_in db).host found → digest_number found.digest ≡ digest_at (map (with_version 5) (tables_in db).host)
brought_told version db found told = told.2 ∙ sym (ap (λ rows. digest_at (map (with_version 5) rows)) told.0.alone)

module _ (packs : Contents) (db : Database) (found : FoundHost) (finds : FindsHost db found) where
  -- packs have no part in it
  filled_told : IsHost (filled packs db) → digest_number found.digest ≡ digest_at (tables_in (filled packs db)).host
  unfolding filled_trees
  filled_told host = row_told found.version db found (finds host.held.host)

  opened_told : IsSoundHost (digest_by found.digest) (tables_beside packs db) → digest_number found.digest ≡ digest_in (tables_beside packs db)
  unfolding digest_in
  opened_told it = elim (beside_told packs db it.sound.host.row it.sound.host.alone) [
    | inl host ↦ filled_told host ∙ ap (λ t. digest_at t.host) (sym (beside_present packs db host.schema ∙ host_shows (filled packs db) host))
    | inr earlier ↦ elim earlier.0 [
      | inl one ↦ brought_told found.version db found (finds one.first.held.host) ∙ ap (λ t. digest_at t.host) (sym (earlier.1 ∙ first_opens db one))
      | inr later ↦ elim later [
        | inl two ↦ brought_told found.version db found (finds two.second.held.host) ∙ ap (λ t. digest_at t.host) (sym (earlier.1 ∙ second_opens db two))
        | inr latest ↦ elim latest [
          | inl three ↦ brought_told found.version db found (finds three.third.held.host) ∙ ap (λ t. digest_at t.host) (sym (earlier.1 ∙ third_opens db three))
          | inr four ↦ brought_told found.version db found (finds four.fourth.held.host) ∙ ap (λ t. digest_at t.host) (sym (earlier.1 ∙ fourth_opens db four))
        ]
      ]
    ]
  ]

  by_its_row : IsSoundHost (digest_by found.digest) (tables_beside packs db) → IsSoundByItsRow (tables_beside packs db)
  by_its_row it = record { digest = found.digest; row = opened_told it; sound = it }

-- a host that was looked at is that which stood
pub found_sound : (packs : Contents) (found : FoundHost) (old new : State) → KeepsDisk old new → (IsStateClean new → standing new ≡ standing old)
    → (IsStateClean new → FindsHost (standing old).now found) → IsStateClean new × IsSoundHost (digest_by found.digest) (tables_beside packs new.now)
    → IsStateClean old × IsSoundByItsRow (tables_beside packs (standing old).now)
unfolding standing
found_sound packs found old new follows same finds sound =
    let was = sound_before packs (digest_by found.digest) old new follows same sound in
    (was.0, by_its_row packs old.now found (finds sound.0) was.1)
