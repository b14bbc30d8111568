-- From what an event does to what an open after a stop finds.
use Rattle.std.proofs.Common.{◌≡◌, ◌⊎◌, inl, inr, List, Some, None, refl, sym, ap, subst, ◌∙◌}
use Rattle.std.proofs.Math.Logic.{∥∥₁_map}
use Rattle.sqlite_disk.specs.declared.Disk.{Ghosts}
use Rattle.sqlite_store.specs.declared.store.FileStore.{FileStore}
use Rattle.sqlite.specs.Effect.{Database}
use Rattle.sqlite.specs.Files.{over_files, file_state}
use Rattle.sqlite.specs.State.{State}
use Rattle.bh_types.specs.Limits.{HostLimits}
use Rattle.bh_model.specs.State.{Octets}
use Rattle.bh_event.specs.Events.{Arrival}
use Rattle.bh_shelf.specs.Contents.{Contents, Within}
use Rattle.bh_shelf.specs.declared.shelf.Shelf.{Ghosts as Shelves}
use Rattle.bh_tables.specs.Hosts.{tables_shown}
use Rattle.bh_tables.specs.Schema.{host_schema}
use Rattle.bh_tables.specs.Typed.{Tables}
use Rattle.bh_tables.proofs.HostTests.{other_schema, unlike_second, unlike_third, unlike_fourth}
use Rattle.bh_view.specs.Bodies.{IsSoundHost}
use Rattle.bh_storage.specs.Calls.{Seen, IsAtRest}
use Rattle.bh_host.specs.declared.storage.Storage as storage
use Rattle.bh_cache.specs.Kept.{KeptBlocks}
use Rattle.bh_base.specs.Connections.{backing}
use Rattle.bh_base.specs.Layer.{standing}
use Rattle.bh_base.specs.Placed.{filled, IsWhole}
use Rattle.bh_base.specs.Shown.{Backing, shown}
use Rattle.bh_schema.specs.declared.host.Host.{Host}
use Rattle.bh_schema.specs.Storage.{IsIntact, IsOpen, seen, seen_in, beside, left}
use Rattle.bh_schema.proofs.Storing.{sound_host}
use Rattle.bh_open.specs.Versions.{IsEarlierSchema, IsHostsSchema, IsTypedIfEarlier}
use Rattle.bh_open.specs.declared.open.Opened.{Opened}
use Rattle.bh_open.proofs.Beside.{beside_present}
use Rattle.bh_host.specs.Runs.{Told, MayRemain}
use Rattle.bh_host.specs.Turns.{Applied, WouldApply}
use Rattle.bh_kept.specs.Over.{StandsOver, KeptStandsOver}
use Rattle.bh_connection.specs.Connections.{IsApplied, HasAnswered}
use Rattle.bh_connection.specs.declared.served.End.{End}
use Rattle.bh_schema.specs.declared.host.Digester as digester
use Rattle.bh_kept.specs.declared.host.BlockSize as size
use Rattle.bh_kept.specs.declared.host.KeptHost.{KeptHost}
use Rattle.bh_again.specs.Found as storages
use Rattle.bh_again.specs.Stops.{seen_again, IsCleanAgain, CameBack, ComesBack, AllLeft, AllShown, MayFind, kept_of, IsLeft, IsOlder, IsReopened, IsReady, AfterStop, AfterGroup, AfterReply, AfterKeptStop, AfterKeptReply, AfterKeptGroup, OpensSound, StaysSound}
use Rattle.bh_again.proofs.Packs.{LeavesKept, left_filled, stood_left, keeps_bytes}
use Rattle.bh_again.proofs.Remaining.{remains_last}

-- ---- a database of the present version, and one of sound tables

not_earlier : (db : Database) → db.schema ≡ host_schema → IsEarlierSchema db.schema → ⊥
not_earlier db is (inl first) = other_schema db is first
not_earlier db is (inr (inl second)) = unlike_second db is second
not_earlier db is (inr (inr (inl third))) = unlike_third db is third
not_earlier db is (inr (inr (inr fourth))) = unlike_fourth db is fourth

present_typed : (db : Database) → db.schema ≡ host_schema → IsTypedIfEarlier db
present_typed db is = record { first = λ first. absurd (other_schema db is first); second = λ second. absurd (unlike_second db is second); third = λ third. absurd (unlike_third db is third); fourth = λ fourth. absurd (unlike_fourth db is fourth) }

present_back : {D : Type 0} {g : Ghosts D} (packs : Contents) (opened : Opened (FileStore D g)) (db : Database) → db.schema ≡ host_schema → ComesBack packs db opened
    → CameBack packs (tables_shown (filled packs db)) opened
present_back packs opened db is it = subst (λ (x : Tables). CameBack packs x opened) (beside_present packs db is) (it.came_back (present_typed db is))

sound_schema : (digest : Octets → Octets) (db : Database) → IsSoundHost digest (tables_shown db) → db.schema ≡ host_schema
sound_schema digest db sound = (sound_host db sound.sound).schema

-- each place of a sound host has its bytes
sound_whole : (digest : Octets → Octets) (db : Database) → IsSoundHost digest (tables_shown db) → IsWhole db
sound_whole digest db sound = (sound_host db sound.sound).held.blocks

kept_shown : (a : Backing) (kept : KeptBlocks) (l : HostLimits) (s : State) → (beside kept (seen_in l (shown a s))).kept ≡ tables_shown (filled a.kept (standing s).kept)
unfolding seen_in beside standing
kept_shown a kept l s = refl

module _ {D P G : Type 0} {g : Ghosts D} (h : Shelves P) (host : Host (FileStore D g) P G) (digest : Octets → Octets) (all : AllLeft h (IsSoundHost digest) host) where
  found_sound : (packs : Contents) → Within (h.stood host.connection.packs) packs → (db : Database) → IsLeft host db → IsSoundHost digest (tables_shown (filled packs db))
  found_sound packs within db it = all (tables_shown (filled packs db)) (left_filled h host packs within db it)

  left_schema : (db : Database) → IsLeft host db → db.schema ≡ host_schema
  left_schema db it =
      let stood = h.stood host.connection.packs in
      sound_schema digest (filled stood db) (found_sound stood (λ pack offset size bytes has. has) db it)

  all_shown : LeavesKept h → AllShown h (IsSoundHost digest) host
  all_shown laws db it packs may =
      subst (IsSoundHost digest) (sym (beside_present packs db (left_schema db it))) (found_sound packs (stood_left h host laws packs may) db it)

  none_older : (packs : Contents) (x : Tables) → ¬ IsOlder h host packs x
  none_older packs x older = not_earlier older.db (left_schema older.db older.may) older.schema

pub opens_sound : {D P G : Type 0} {g : Ghosts D} (h : Shelves P) → LeavesKept h → (digest : Octets → Octets) → OpensSound g h G digest
opens_sound h laws digest host all = (all_shown h host digest all laws, none_older h host digest all)

pub stays_sound : {D P G : Type 0} {g : Ghosts D} (h : Shelves P) (digest : Octets → Octets) → StaysSound g h G digest
stays_sound h digest old new adds were intact x leaves = elim (adds intact x leaves) [
  | inl before ↦ were x before
  | inr sound ↦ sound
]

-- ---- after a stop

module _ {D P G : Type 0} {g : Ghosts D} (h : Shelves P) (laws : LeavesKept h) (digest : Octets → Octets) (host : Host (FileStore D g) P G) (opened : Opened (FileStore D g))
    (packs : Contents) (ready : IsReady h digest host) (again : IsReopened h host opened) (clean : IsCleanAgain opened) (may : MayFind h host packs) where
  -- of a store that no fault has shut, what stood before the stop
  came_back : IsOpen over_files h host → CameBack packs (seen over_files h host).now opened
  came_back up =
      let it = ready (again.intact clean may.clean, up) in
      let a = backing h host.connection.packs in
      let db = kept_of host in
      let shows : (seen over_files h host).kept ≡ tables_shown (filled a.kept db) = kept_shown a host.cache host.limits (file_state host.connection.database) in
      let whole = sound_whole digest (filled a.kept db) (subst (IsSoundHost digest) (sym it.committed ∙ shows) it.sound) in
      let stood : tables_shown (filled packs db) ≡ (seen over_files h host).now = ap tables_shown (keeps_bytes h host laws packs may whole) ∙ sym shows ∙ it.committed in
      let schema = sound_schema digest (filled packs db) (subst (IsSoundHost digest) (sym stood) it.sound) in
      subst (λ (x : Tables). CameBack packs x opened) stood (present_back packs opened db schema (again.came_back clean up packs))

  merely_rests : AllLeft h (IsSoundHost digest) host → ∥ IsAtRest (IsSoundHost digest) (seen_again packs opened) ∥₁
  merely_rests all = ∥∥₁_map (again.merely clean) (λ it.
      (present_back packs opened it.0 (left_schema h host digest all it.0 it.1) (it.2 packs)).rest digest
      (found_sound h host digest all packs (stood_left h host laws packs may) it.0 it.1))

  -- what is said of all that a crash may leave is said of what an open finds, or that was brought over
  found : (Says : Tables → Type 0) → ((x : Tables) → left over_files h host x → Says x) → ∥ (Says (seen_again packs opened).now ⊎ IsOlder h host packs (seen_again packs opened).now) ∥₁
  found Says says = ∥∥₁_map (again.merely clean) (λ it. each it.0 it.1 (it.2 packs))
    where
      each : (db : Database) → IsLeft host db → ComesBack packs db opened → Says (seen_again packs opened).now ⊎ IsOlder h host packs (seen_again packs opened).now
      each db it back = told back.schema
        where
          older : IsEarlierSchema db.schema → Says (seen_again packs opened).now ⊎ IsOlder h host packs (seen_again packs opened).now
          older earlier = inr (record { db = db; may = it; schema = earlier; shown = λ typed. (back.came_back typed).tables })

          told : IsHostsSchema db.schema → Says (seen_again packs opened).now ⊎ IsOlder h host packs (seen_again packs opened).now
          told (inl first) = older (inl first)
          told (inr (inl second)) = older (inr (inl second))
          told (inr (inr (inl third))) = older (inr (inr (inl third)))
          told (inr (inr (inr (inl fourth)))) = older (inr (inr (inr fourth)))
          told (inr (inr (inr (inr fifth)))) =
              let shows : (seen_again packs opened).now ≡ tables_shown (filled packs db) = (present_back packs opened db fifth back).tables in
              inl (subst Says (sym shows) (says (tables_shown (filled packs db)) (left_filled h host packs (stood_left h host laws packs may) db it)))

-- ---- after an event on a storage that stands over a host

module _ {D P G H : Type 0} {g : Ghosts D} (h : Shelves P) (laws : LeavesKept h) (IsIntactOf IsOpenOf : H → Type 0) (seen_of : H → Seen) (left_of : H → Tables → Type 0) (digest : Octets → Octets)
    (old new : H) (host : Host (FileStore D g) P G) (opened : Opened (FileStore D g)) (packs : Contents) (over : StandsOver h IsIntactOf IsOpenOf (IsSoundHost digest) seen_of left_of new host)
    (ready : storages.IsReady IsIntactOf IsOpenOf seen_of left_of digest new) (again : IsReopened h host opened) (clean : IsCleanAgain opened) (may : MayFind h host packs) where
  whole : IsIntactOf new
  whole = over.intact.1 (again.intact clean may.clean)

  host_ready : IsReady h digest host
  host_ready c = let it = ready (over.intact.1 c.0, over.opened.1 c.1) in subst (IsAtRest (IsSoundHost digest)) (over.same it) it

  came : IsOpenOf new → CameBack packs (seen_of new).now opened
  came up = subst (λ (s : Seen). CameBack packs s.now opened) (sym (over.same (ready (whole, up)))) (came_back h laws digest host opened packs host_ready again clean may (over.opened.0 up))

  rests : IsOpenOf new → IsAtRest (IsSoundHost digest) (seen_again packs opened)
  rests up = (came up).rest digest (ready (whole, up)).sound

  merely : storages.AddsSound IsIntactOf IsOpenOf seen_of left_of digest old new → storages.AllLeft IsIntactOf IsOpenOf seen_of left_of (IsSoundHost digest) old → ∥ IsAtRest (IsSoundHost digest) (seen_again packs opened) ∥₁
  merely adds were = merely_rests h laws digest host opened packs host_ready again clean may (λ x leaves. elim (adds whole x ((over.leaves x).1 leaves)) [
    | inl before ↦ were x before
    | inr sound ↦ sound
  ])

  found_of : (Says : Tables → Type 0) → ((x : Tables) → left_of new x → Says x) → ∥ (Says (seen_again packs opened).now ⊎ IsOlder h host packs (seen_again packs opened).now) ∥₁
  found_of Says says = found h laws digest host opened packs host_ready again clean may Says (λ x leaves. says x ((over.leaves x).1 leaves))

  leaves : (event : Arrival) (told : Told) → IsApplied IsIntactOf IsOpenOf seen_of left_of event told old new → storages.IsLeftBy IsIntactOf IsOpenOf seen_of left_of (IsOlder h host packs) event told old new (seen_again packs opened).now
  leaves event (None, reply) applied = (
    λ up. (came up).tables ∙ (applied.applied whole up).1,
    found_of (λ x. left_of old x ⊎ (IsOpenOf old × WouldApply event (seen_of old).now x)) (applied.crash whole),
  )
  leaves event (Some m, reply) applied =
      let did = applied.applied whole in
      subst (λ (x : Tables). Applied event (seen_of old).now x (Some m) reply) (sym (came did.1).tables) did.2

  pub survives : (event : Arrival) (told : Told) → IsApplied IsIntactOf IsOpenOf seen_of left_of event told old new
      → storages.Survives IsIntactOf IsOpenOf seen_of left_of digest (storages.IsLeftBy IsIntactOf IsOpenOf seen_of left_of (IsOlder h host packs) event told old new) old new (seen_again packs opened)
  survives event told applied = record { tables = leaves event told applied; rest = rests; merely = merely }

  -- a reply went out since
  leaves_since : (event : Arrival) (told : Told) (ended : End) → HasAnswered IsIntactOf IsOpenOf seen_of left_of event told ended old new
      → storages.IsLeftSince IsIntactOf IsOpenOf seen_of left_of (IsOlder h host packs) event told old new (seen_again packs opened).now
  leaves_since event (None, reply) ended did =
      let applied = did.applied whole in
      let was = did.kept.intact whole in (
        λ up. (let (before, same) = did.kept.same whole up in (came up).tables ∙ same ∙ (applied.applied was before).1),
        found_of (λ x. left_of old x ⊎ (IsOpenOf old × WouldApply event (seen_of old).now x)) (λ x leaves. applied.crash was x (did.kept.survives whole x leaves)),
      )
  leaves_since event (Some m, reply) ended did =
      let applied = did.applied whole in
      let was = did.kept.intact whole in
      let end = (seen_of did.mid).now in (
        end,
        (applied.applied was).2,
        λ up. (came up).tables ∙ (did.kept.same whole up).1,
        found_of (λ x. x ≡ end) (λ x leaves. applied.acknowledged was x (did.kept.survives whole x leaves)),
      )

  pub survives_since : (event : Arrival) (told : Told) (ended : End) → HasAnswered IsIntactOf IsOpenOf seen_of left_of event told ended old new
      → storages.Survives IsIntactOf IsOpenOf seen_of left_of digest (storages.IsLeftSince IsIntactOf IsOpenOf seen_of left_of (IsOlder h host packs) event told old new) old new (seen_again packs opened)
  survives_since event told ended did = record { tables = leaves_since event told ended did; rest = rests; merely = merely }

  -- after events that were applied together
  pub all_survive : (events : List Arrival) (tolds : List Told) → storages.HaveApplied IsIntactOf IsOpenOf seen_of left_of events tolds old new
      → storages.Survives IsIntactOf IsOpenOf seen_of left_of digest (storages.AreLeftBy IsIntactOf IsOpenOf seen_of left_of (IsOlder h host packs) events tolds old new) old new (seen_again packs opened)
  all_survive events tolds applied =
      let ran = applied whole in
      let x = (seen_again packs opened).now in
      let remains = found_of (MayRemain events tolds (left_of old) ran.end) ran.crash in
      record {
        tables = record {
          end = ran.end;
          ran = ran.ran;
          opened = λ up. (came up).tables ∙ ran.now up;
          acknowledged = remains_last events tolds (left_of old) (seen_of old).now ran.end x (IsOlder h host packs x) ran.ran remains;
          crash = remains;
        };
        rest = rests;
        merely = merely;
      }

-- a host stands over itself
itself : {D P G : Type 0} {g : Ghosts D} (h : Shelves P) (digest : Octets → Octets) (host : Host (FileStore D g) P G)
    → StandsOver h (IsIntact over_files h) (IsOpen over_files h) (IsSoundHost digest) (seen over_files h) (left over_files h) host host
itself h digest host = record { intact = (λ i. i, λ i. i); opened = (λ o. o, λ o. o); leaves = λ x. (λ l. l, λ l. l); same = λ rest. refl }

pub after_stop : {D P G : Type 0} {g : Ghosts D} (h : Shelves P) → LeavesKept h → (digest : Octets → Octets) → AfterStop g h G digest
after_stop h laws digest event told old new opened packs applied ready again clean may =
    survives h laws (IsIntact over_files h) (IsOpen over_files h) (seen over_files h) (left over_files h) digest old new new opened packs (itself h digest new) ready again clean may event told applied

pub after_group : {D P G : Type 0} {g : Ghosts D} (h : Shelves P) → LeavesKept h → (digest : Octets → Octets) → AfterGroup g h G digest
after_group h laws digest events tolds old new opened packs applied ready again clean may =
    all_survive h laws (IsIntact over_files h) (IsOpen over_files h) (seen over_files h) (left over_files h) digest old new new opened packs (itself h digest new) ready again clean may events tolds applied

pub after_reply : {D P G : Type 0} {g : Ghosts D} (h : Shelves P) → LeavesKept h → (digest : Octets → Octets) → AfterReply g h G digest
after_reply h laws digest event told ended old new opened packs did ready again clean may =
    survives_since h laws (IsIntact over_files h) (IsOpen over_files h) (seen over_files h) (left over_files h) digest old new new opened packs (itself h digest new) ready again clean may event told ended did

-- ---- after one on a host that is served

pub after_kept_stop : {D P G K : Type 0} {g : Ghosts D} (h : Shelves P) → LeavesKept h → {d : digester.Ghosts G} {k : size.Ghosts K} (digest : Octets → Octets) (s : storage.Ghosts (KeptHost D P G K g h d k)) → s.IsSoundStore ≡ IsSoundHost digest
    → KeptStandsOver h s → AfterKeptStop digest s
after_kept_stop h laws digest s sound stands event told old new it opened packs did stays is again clean may =
    survives h laws s.IsIntact s.IsOpen s.seen s.left digest old new it.host opened packs
    (subst (λ (Sound : Tables → Type 0). StandsOver h s.IsIntact s.IsOpen Sound s.seen s.left new it.host) sound (stands new it is))
    (subst (λ (Sound : Tables → Type 0). s.IsIntact new × s.IsOpen new → IsAtRest Sound (s.seen new)) sound stays.ready) again clean may event told did

pub after_kept_reply : {D P G K : Type 0} {g : Ghosts D} (h : Shelves P) → LeavesKept h → {d : digester.Ghosts G} {k : size.Ghosts K} (digest : Octets → Octets) (s : storage.Ghosts (KeptHost D P G K g h d k)) → s.IsSoundStore ≡ IsSoundHost digest
    → KeptStandsOver h s → AfterKeptReply digest s
after_kept_reply h laws digest s sound stands event told ended old new it opened packs did stays is again clean may =
    survives_since h laws s.IsIntact s.IsOpen s.seen s.left digest old new it.host opened packs
    (subst (λ (Sound : Tables → Type 0). StandsOver h s.IsIntact s.IsOpen Sound s.seen s.left new it.host) sound (stands new it is))
    (subst (λ (Sound : Tables → Type 0). s.IsIntact new × s.IsOpen new → IsAtRest Sound (s.seen new)) sound stays.ready) again clean may event told ended did

pub after_kept_group : {D P G K : Type 0} {g : Ghosts D} (h : Shelves P) → LeavesKept h → {d : digester.Ghosts G} {k : size.Ghosts K} (digest : Octets → Octets) (s : storage.Ghosts (KeptHost D P G K g h d k)) → s.IsSoundStore ≡ IsSoundHost digest
    → KeptStandsOver h s → AfterKeptGroup digest s
after_kept_group h laws digest s sound stands events tolds old new it opened packs did stays is again clean may =
    all_survive h laws s.IsIntact s.IsOpen s.seen s.left digest old new it.host opened packs
    (subst (λ (Sound : Tables → Type 0). StandsOver h s.IsIntact s.IsOpen Sound s.seen s.left new it.host) sound (stands new it is))
    (subst (λ (Sound : Tables → Type 0). s.IsIntact new × s.IsOpen new → IsAtRest Sound (s.seen new)) sound stays.ready) again clean may events tolds did
