-- What files held when they were opened, and that empty ones hold no host.
use Rattle.std.proofs.Common.{◌≡◌, ◌∙◌, [], refl, sym, ap, subst, arith, inl, inr, map, filter}
use Rattle.std.specs.List.{AllZip}
use Rattle.sqlite_trees.specs.declared.store.Store.{Ghosts}
use Rattle.sqlite.specs.Held.{Held, state}
use Rattle.sqlite_wal.specs.Recovery.{Image}
use Rattle.sqlite_trees.specs.Tree.{Trees}
use Rattle.sqlite_trees.specs.Objects.{catalog_tree}
use Rattle.sqlite_catalog.specs.Listing.{IsTableRow, is_table_row}
use Rattle.sqlite.specs.Effect.{Database, IsDatabase}
use Rattle.sqlite.specs.Files.{AreFoundIn}
use Rattle.sqlite.specs.Schema.{Schema}
use Rattle.sqlite.specs.State.{State}
use Rattle.bh_rows.specs.Form.{AreRows}
use Rattle.bh_types.specs.BlockDigests.{digest_number}
use Rattle.bh_types.specs.Limits.{HostLimits}
use Rattle.bh_types.specs.declared.block_digest.BlockDigest.{BlockDigest}
use Rattle.bh_types.specs.declared.block_digest.BlockDigest.TheVariants.{Sha256, Fast}
use Rattle.bh_shelf.specs.Contents.{Contents}
use Rattle.bh_tables.specs.Hosts.{tables_shown}
use Rattle.bh_tables.specs.Schema.{Octets, first_schema, second_schema, third_schema, fourth_schema, host_schema}
use Rattle.bh_tables.specs.Packs.{packs_in}
use Rattle.bh_tables.specs.Rows.{pack_form}
use Rattle.bh_tables.specs.Typed.{Tables, IsHost}
use Rattle.bh_tables.proofs.HostTests.{other_schema, unlike_second, unlike_third, unlike_fourth, second_unlike_first, third_unlike_first, third_unlike_second, fourth_unlike_first, fourth_unlike_second, fourth_unlike_third}
use Rattle.bh_view.specs.Bodies.{IsSoundHost}
use Rattle.bh_view.specs.View.{latest_of}
use Rattle.bh_base.specs.Layer.{standing, IsIntact, IsOpen, IsStateClean, KeepsDisk}
use Rattle.bh_base.specs.Placed.{filled}
use Rattle.bh_storage.specs.Calls.{Seen, IsAtRest}
use Rattle.bh_schema.proofs.Storing.{sound_host}
use Rattle.bh_blocks.specs.Digests.{digest_by}
use Rattle.bh_migration.specs.Migration.{Settles}
use Rattle.bh_open.specs.Opening.{digest_in, LeavesOver}
use Rattle.bh_open.specs.Packed.{tables_beside, seen_beside, listed_of}
use Rattle.bh_open.specs.Versions.{IsEarlierSchema, IsHostsSchema, IsTypedIfEarlier}
use Rattle.bh_open.specs.declared.open.Opened.{Opened}
use Rattle.bh_open.proofs.Beside.{beside_is, beside_told, packs_typed}
use Rattle.bh_file.specs.Opened.{IsOpenedOn}
use Rattle.bh_maintenance.specs.Files.{HoldsSoundHost}
use Rattle.bh_maintenance.specs.Found.{IsSoundByItsRow, IsSoundIn, IsOpenedAs, IsHostIn, IsFoundIn}

-- ---- no file, or an empty one

abbrev nothing : Image
nothing = record { log = []; db = [] }

-- a database without a list of tables has none
no_tables : (db : Database) → IsDatabase db → db.trees catalog_tree ≡ [] → IsHostsSchema db.schema → ⊥
no_tables db sound none = go
  where
    unlisted : (schema : Schema) → db.schema ≡ schema → AllZip IsTableRow [] schema.tables
    unlisted schema is = subst (λ (s : Schema). AllZip IsTableRow [] s.tables) is (subst (λ o. AllZip IsTableRow (filter is_table_row o) db.schema.tables) none sound.lists.listed.tables)

    go : IsHostsSchema db.schema → ⊥
    go (inl first) = unlisted first_schema first
    go (inr (inl second)) = unlisted second_schema second
    go (inr (inr (inl third))) = unlisted third_schema third
    go (inr (inr (inr (inl fourth)))) = unlisted fourth_schema fourth
    go (inr (inr (inr (inr fifth)))) = unlisted host_schema fifth

found_in_nothing : (trees : Trees) → AreFoundIn nothing trees → trees catalog_tree ≡ []
found_in_nothing trees (inl it) = absurd (let some = it.3.found.present in omega arith)
found_in_nothing trees (inr it) = it.1.1

pub nothing_is_sound : (packs : Contents) → HoldsSoundHost packs nothing
nothing_is_sound packs tables it = absurd (no_tables it.db it.database (found_in_nothing it.db.trees it.found) it.schema)

pub is_clean : {s : State} → IsIntact s × IsOpen s → IsStateClean s
is_clean both = record { intact = both.0; is_open = both.1 }

-- ---- a database that was opened

pub sound_opened : (packs : Contents) (image : Image) (s : State) → HoldsSoundHost packs image → IsOpenedOn image s → IsSoundIn packs s
unfolding standing IsIntact
sound_opened packs image s sound start clean schema =
    let opens = start.opened clean.intact in
    sound (tables_beside packs s.now) (record {
      db = s.now;
      found = subst (λ (db : Database). AreFoundIn image db.trees) (sym opens.0.clean) (start.found clean.intact).reads;
      database = (opens.1 opens.0.is_open).0;
      schema = schema;
      shown = refl;
    })

-- ---- the tables of a host that was opened

-- no two functions have one number
sound_by : (tables : Tables) (digest : BlockDigest) → IsSoundByItsRow tables → digest_number digest ≡ digest_in tables → IsSoundHost (digest_by digest) tables
sound_by tables digest it row = subst (λ d. IsSoundHost (digest_by d) tables) (same it.digest digest (it.row ∙ sym row)) it.sound
  where
    same : (a b : BlockDigest) → digest_number a ≡ digest_number b → a ≡ b
    same Sha256 Sha256 e = refl
    same Sha256 Fast e = absurd (cc)
    same Fast Sha256 e = absurd (cc)
    same Fast Fast e = refl

-- sound tables are those of typed rows
opened_typed : (packs : Contents) (db : Database) → IsSoundByItsRow (tables_beside packs db) → IsTypedIfEarlier db
opened_typed packs db it = elim (beside_told packs db it.sound.sound.host.row it.sound.sound.host.alone) [
  | inl host ↦ record { first = λ first. absurd (other_schema db host.schema first); second = λ second. absurd (unlike_second db host.schema second); third = λ third. absurd (unlike_third db host.schema third); fourth = λ fourth. absurd (unlike_fourth db host.schema fourth) }
  | inr earlier ↦ elim earlier.0 [
    | inl one ↦ record { first = λ first. one.first; second = λ second. absurd (second_unlike_first db second one.first.schema); third = λ third. absurd (third_unlike_first db third one.first.schema); fourth = λ fourth. absurd (fourth_unlike_first db fourth one.first.schema) }
    | inr later ↦ elim later [
      | inl two ↦ record { first = λ first. absurd (second_unlike_first db two.second.schema first); second = λ second. two.second; third = λ third. absurd (third_unlike_second db third two.second.schema); fourth = λ fourth. absurd (fourth_unlike_second db fourth two.second.schema) }
      | inr latest ↦ elim latest [
        | inl three ↦ record { first = λ first. absurd (third_unlike_first db three.third.schema first); second = λ second. absurd (third_unlike_second db three.third.schema second); third = λ third. three.third; fourth = λ fourth. absurd (fourth_unlike_third db fourth three.third.schema) }
        | inr four ↦ record { first = λ first. absurd (fourth_unlike_first db four.fourth.schema first); second = λ second. absurd (fourth_unlike_second db four.fourth.schema second); third = λ third. absurd (fourth_unlike_third db four.fourth.schema third); fourth = λ fourth. four.fourth }
      ]
    ]
  ]
]

-- what its database shows beside packs
pub shown_now : (packs : Contents) (limits : HostLimits) (s : State) → (seen_beside packs limits s).now ≡ tables_shown (filled packs (standing s).now)
shown_now packs limits s = ap (λ (x : Seen). x.now) (beside_is packs limits s)

-- what an open says of a host
pub opened_as : (packs : Contents) (limits : HostLimits) (old new : State) → IsHostsSchema (standing old).now.schema → (IsStateClean new → (standing old).now.schema ≡ host_schema → standing new ≡ standing old)
    → (IsStateClean new → IsEarlierSchema (standing old).now.schema → Settles (standing old) (standing new))
    → (IsStateClean new → IsTypedIfEarlier (standing old).now → (seen_beside packs limits new).now ≡ tables_beside packs (standing old).now)
    → KeepsDisk old new → (IsOpen old → LeavesOver old new) → IsOpenedAs packs old new
opened_as packs limits old new schema same brought shows follows crash = record {
  schema = schema;
  same = same;
  brought = brought;
  shows = λ clean typed. sym (shown_now packs limits new) ∙ shows clean typed;
  follows = follows;
  crash = crash;
}

module _ (packs : Contents) (limits : HostLimits) (old new : State) (sound : IsSoundIn packs old) (opened : IsOpenedAs packs old new) where
  was_sound : IsStateClean new → IsSoundByItsRow (tables_beside packs (standing old).now)
  was_sound clean = sound (opened.follows.clean clean) opened.schema

  pub typed_when : IsStateClean new → IsTypedIfEarlier (standing old).now
  typed_when clean = opened_typed packs (standing old).now (was_sound clean)

  pub shows_seen : IsStateClean new → (seen_beside packs limits new).now ≡ tables_beside packs (standing old).now
  shows_seen clean = shown_now packs limits new ∙ opened.shows clean (typed_when clean)

  sound_row : IsStateClean new → IsSoundByItsRow (seen_beside packs limits new).now
  sound_row clean = subst IsSoundByItsRow (sym (shows_seen clean)) (was_sound clean)

  module _ (digest : BlockDigest)
      (row : (named : Octets → Octets) → IsStateClean new → IsTypedIfEarlier (standing old).now → IsSoundHost named (seen_beside packs limits new).now → digest_number digest ≡ digest_in (seen_beside packs limits new).now) where
    pub row_seen : IsStateClean new → digest_number digest ≡ digest_in (seen_beside packs limits new).now
    row_seen clean = let it = sound_row clean in row (digest_by it.digest) clean (typed_when clean) it.sound

    pub sound_seen : IsStateClean new → IsSoundHost (digest_by digest) (seen_beside packs limits new).now
    sound_seen clean = sound_by (seen_beside packs limits new).now digest (sound_row clean) (row_seen clean)

-- a database that was opened as a host, whatever packs are put beside it
module _ {S : Type 0} (g : Ghosts S) (held : Held S) (opened : Opened S) where
  abbrev old : State
  old = state g held

  abbrev new : State
  new = state g opened.connection

  module _ (schema : IsHostsSchema (standing old).now.schema) (same : IsStateClean new → (standing old).now.schema ≡ host_schema → standing new ≡ standing old)
      (brought : IsStateClean new → IsEarlierSchema (standing old).now.schema → Settles (standing old) (standing new)) (follows : KeepsDisk old new) (crash : IsOpen old → LeavesOver old new)
      (listed : IsStateClean new → AreRows pack_form ((standing new).now.trees 32) → opened.listed.items ≡ map listed_of (packs_in (standing new).now.trees))
      (committed : IsStateClean new → (standing new).kept ≡ (standing new).now)
      (shows : (packs : Contents) → IsStateClean new → IsTypedIfEarlier (standing old).now → (seen_beside packs opened.limits new).now ≡ tables_beside packs (standing old).now)
      (rest : (packs : Contents) (digest : Octets → Octets) → IsStateClean new → IsTypedIfEarlier (standing old).now → IsSoundHost digest (seen_beside packs opened.limits new).now
      → IsAtRest (IsSoundHost digest) (seen_beside packs opened.limits new))
      (latest : (packs : Contents) (digest : Octets → Octets) → IsStateClean new → IsTypedIfEarlier (standing old).now → IsSoundHost digest (seen_beside packs opened.limits new).now
      → opened.latest ≡ latest_of (seen_beside packs opened.limits new).now)
      (named : (packs : Contents) (digest : Octets → Octets) → IsStateClean new → IsTypedIfEarlier (standing old).now → IsSoundHost digest (seen_beside packs opened.limits new).now
      → digest_number opened.digest ≡ digest_in (seen_beside packs opened.limits new).now) where
    is_opened : (packs : Contents) → IsOpenedAs packs old new
    is_opened packs = opened_as packs opened.limits old new schema same brought (shows packs) follows crash

    module _ (packs : Contents) (sound : IsSoundIn packs old) where
      typed : IsStateClean new → IsTypedIfEarlier (standing old).now
      typed = typed_when packs opened.limits old new sound (is_opened packs)

      is_sound : IsStateClean new → IsSoundHost (digest_by opened.digest) (seen_beside packs opened.limits new).now
      is_sound = sound_seen packs opened.limits old new sound (is_opened packs) opened.digest (named packs)

      is_host : IsStateClean new → IsHost (filled packs (standing new).now)
      is_host clean = sound_host (filled packs (standing new).now) (subst (IsSoundHost (digest_by opened.digest)) (shown_now packs opened.limits new) (is_sound clean)).sound

      host_in : IsHostIn g packs held opened
      host_in = record {
        opened = is_opened packs;
        shows = λ clean. (is_opened packs).shows clean (typed clean);
        ready = record {
          ready = record {
            rest = λ clean. rest packs (digest_by opened.digest) clean (typed clean) (is_sound clean);
            latest = λ clean. latest packs (digest_by opened.digest) clean (typed clean) (is_sound clean);
            listed = λ clean. listed clean (packs_typed packs (standing new).now (is_host clean));
            committed = committed;
          };
          row = λ clean. row_seen packs opened.limits old new sound (is_opened packs) opened.digest (named packs) clean ∙ ap digest_in (shown_now packs opened.limits new);
        };
      }

    pub found_in : IsFoundIn g held opened
    found_in = record { opened = is_opened; sound = host_in; listed = listed; committed = committed }
