-- A host that is made for one tenant of another, and the copy of its file.
use Rattle.std.proofs.Common.{◌≡◌, inl, inr, ℕ, List, [], ◌∷◌, map, max, codes, Option, Some, None, MatchOption, refl, sym, ap, ◌∙◌, subst, arith}
use Rattle.std.specs.Option.{option_map_or}
use Rattle.sqlite_disk.specs.declared.Disk as disk
use Rattle.sqlite_disk.specs.declared.Files.{Files}
use Rattle.sqlite_trees.specs.declared.store.Store.{Ghosts}
use Rattle.sqlite_store.specs.declared.store.FileStore.{FileStore}
use Rattle.sqlite.specs.Closing.{IsCopied}
use Rattle.sqlite.specs.Files.{file_state, over_files}
use Rattle.sqlite.specs.Held.{Held, state as database_state}
use Rattle.sqlite.specs.State.{State}
use Rattle.bh_types.specs.BlockDigests.{digest_number}
use Rattle.bh_types.specs.declared.block_digest.BlockDigest.{BlockDigest}
use Rattle.bh_types.specs.declared.refusal.Refusal.{Refusal}
use Rattle.bh_shelf.specs.Contents.{Contents, nothing}
use Rattle.bh_shelf.specs.declared.no_shelf.NoShelf.{NoShelf}
use Rattle.bh_shelf.specs.declared.shelf.Shelf.{Ghosts as Shelves}
use Rattle.bh_tables.specs.Hosts.{tables_shown}
use Rattle.bh_tables.specs.Schema.{Octets}
use Rattle.bh_tables.specs.Typed.{HostRow, Tables, IsHost}
use Rattle.bh_view.specs.Bodies.{IsSoundHost}
use Rattle.bh_view.specs.Grouped.{first}
use Rattle.bh_view.specs.Laws.{new_host}
use Rattle.bh_view.specs.View.{view, latest_of}
use Rattle.bh_base.specs.Connections.{IsClean, state, without_packs}
use Rattle.bh_base.specs.Layer.{standing, IsIntact, IsOpen, IsStateClean}
use Rattle.bh_base.specs.Placed.{filled}
use Rattle.bh_base.specs.Shown.{shown}
use Rattle.bh_base.specs.declared.connection.Connection.{Connection}
use Rattle.bh_base.proofs.Lifting.{clean_shown}
use Rattle.bh_base.proofs.Placing.{same_filled}
use Rattle.bh_schema.specs.Storage.{seen_in}
use Rattle.bh_schema.proofs.Storing.{sound_host}
use Rattle.bh_bare.specs.Bare.{no_packs}
use Rattle.bh_create.specs.Creation.{IsNewHost}
use Rattle.bh_blocks.specs.Digests.{digest_by}
use Rattle.bh_moved.specs.Moves.{IsCommitted}
use Rattle.bh_open.specs.Opening.{digest_in}
use Rattle.bh_open.specs.Packed.{tables_beside}
use Rattle.bh_open.proofs.Beside.{beside_present}
use Rattle.bh_maintenance.proofs.Found.{is_clean}
use Rattle.bh_maintenance.proofs.Moving.{limits_shown, stays_here}
use Rattle.bh_maintenance.specs.Found.{IsJoinedByRow}
use Rattle.bh_maintenance.specs.Moves.{shown_by, HasCome, TellsMove, IsLike, HasOnly, HasExported, Exports, IsExport, ExportsTo, IsSavedIn, SavesMoved}
use Rattle.bh_maintenance.specs.Printing.{IsFault, IsLine, IsRefusal}
use Rattle.bh_maintenance.specs.declared.joined.Joined.{Joined}
use Rattle.bh_maintenance.specs.declared.printed.Printed.{Printed}

-- ---- the row of a host

digest_row : (a b : Tables) → map (λ (r : HostRow). r.digest) a.host ≡ map (λ (r : HostRow). r.digest) b.host → digest_in a ≡ digest_in b
unfolding digest_in
digest_row a b same = first_digest a.host ∙ ap head same ∙ sym (first_digest b.host)
  where
    head : List ℕ → ℕ
    head [] = 0
    head (n ∷ ns) = n

    first_digest : (rows : List HostRow) → option_map_or (λ (r : HostRow). r.digest) (first rows) 0 ≡ head (map (λ (r : HostRow). r.digest) rows)
    first_digest [] = refl
    first_digest (r ∷ rows) = refl

new_digest : (least most number : ℕ) → digest_in (new_host least most number) ≡ number
unfolding digest_in
new_digest least most number = refl

greater : (n m : ℕ) → n ≡ 0 → max n m ≡ m
greater n m zero = omega (arith, zero)

-- ---- a new host, which has no packs

-- the state of a database without
abbrev bare_state : {T : Type 0} → Ghosts T → Connection T NoShelf → State
bare_state h c = state h without_packs c

module _ {T : Type 0} (h : Ghosts T) (made : Joined T NoShelf) (clean : IsStateClean (bare_state h made.connection)) (fresh : IsNewHost made.limits made.digest (bare_state h made.connection)) where
  vacant : (u : Octets) → view (shown_by h without_packs made.connection) u ≡ None
  unfolding seen_in
  vacant = fresh.vacant

  unstamped : latest_of (shown_by h without_packs made.connection) ≡ 0
  unfolding seen_in
  unstamped = fresh.latest

  numbered : digest_in (shown_by h without_packs made.connection) ≡ digest_number made.digest
  unfolding seen_in
  numbered = ap digest_in fresh.tables ∙ new_digest made.limits.min_part made.limits.max_body (digest_number made.digest)

pub ready_new : {T : Type 0} (h : Ghosts T) (made : Joined T NoShelf) → made.latest ≡ 0 → (IsClean h without_packs made.connection → IsNewHost made.limits made.digest (bare_state h made.connection)) → IsJoinedByRow h without_packs made
ready_new h made zero new = record {
  ready = record {
    rest = λ clean. (new clean).rest (digest_by made.digest);
    latest = λ clean. zero ∙ sym (new clean).latest;
  };
  row = λ clean. sym (numbered h made clean (new clean));
}

-- it has all bytes in its rows, so any packs show the same
shown_beside : (packs : Contents) (s : State) → IsCommitted (standing (shown no_packs s)) → IsHost (standing (shown no_packs s)).now → tables_beside packs s.committed ≡ tables_shown (standing (shown no_packs s)).now
unfolding standing
shown_beside packs s committed host =
    let kept : IsHost (filled nothing s.committed) = subst IsHost (sym committed.kept) host in
    beside_present packs s.committed kept.schema ∙ ap tables_shown (sym (same_filled nothing packs (λ pack offset size bytes none. absurd (cc)) s.committed kept.held.blocks) ∙ committed.kept)

-- ---- an export

module _ {S P T : Type 0} (g : Ghosts S) (k : Shelves P) (h : Ghosts T) (tenant : Octets) (host : Joined S P) (ready : IsJoinedByRow g k host) (from_new : Connection S P) where
  -- nothing was done
  pub not_exported : (new : Held T) (printed : Printed) → IsFault printed → Exports g k tenant host host.connection printed h new
  not_exported new printed fault = inr (record { refusal = None; line = fault; from_stays = stays_here g k host.connection; missing = λ is. absurd (cc) })

  module _ (made : Joined T NoShelf) (like : IsLike h host made) (new : Connection T NoShelf) where
    only : HasCome g k h without_packs host.connection made.connection from_new new (digest_by made.digest) tenant → IsClean g k from_new → IsClean h without_packs new
        → HasOnly (digest_by host.digest) tenant (shown_by g k host.connection) (shown_by h without_packs new)
    only come reading clean =
        let was = come.from_stays.follows.clean reading in
        let had = come.follows.clean clean in
        let fresh = like.fresh had in
        let it = come.brought (reading, clean) in
        record {
          sound = subst (λ (d : BlockDigest). IsSoundHost (digest_by d) (shown_by h without_packs new)) like.digest it.sound;
          shown = it.shown;
          others = λ u apart. it.others u apart ∙ vacant h made had fresh u;
          limits = it.limits ∙ limits_shown h without_packs (digest_by made.digest) made like.ready.ready had ∙ like.limits ∙ sym (limits_shown g k (digest_by host.digest) host ready.ready was);
          named = digest_row (shown_by h without_packs new) (shown_by h without_packs made.connection) it.named ∙ numbered h made had fresh ∙ ap digest_number like.digest ∙ ready.row was;
          latest = it.latest ∙ greater (latest_of (shown_by h without_packs made.connection)) (latest_of (shown_by g k host.connection)) (unstamped h made had fresh);
        }

    only_beside : HasCome g k h without_packs host.connection made.connection from_new new (digest_by made.digest) tenant → IsClean g k from_new → IsStateClean (database_state h new.database) → (packs : Contents)
        → HasOnly (digest_by host.digest) tenant (shown_by g k host.connection) (tables_beside packs (database_state h new.database).committed)
    only_beside come reading clean packs =
        let s = database_state h new.database in
        let here : IsClean h without_packs new = clean_shown no_packs s clean refl in
        let it = only come reading here in
        subst (HasOnly (digest_by host.digest) tenant (shown_by g k host.connection)) (sym (shown_beside packs s (come.committed here) (sound_host (standing (shown no_packs s)).now it.sound.sound))) it

    pub exported : (line printed : Printed) → IsLine (codes "export") line → TellsMove g k h without_packs host.connection made.connection from_new new (digest_by made.digest) tenant line printed → Exports g k tenant host from_new printed h new.database
    exported line printed told (inl (come, is)) = inl (record {
      line = subst (IsLine (codes "export")) (sym is) told;
      from_stays = come.from_stays;
      alone = only_beside come;
    })
    exported line printed told (inr (refusal, not, why)) = inr (record { refusal = refusal; line = why; from_stays = not.from_stays; missing = not.missing })

-- ---- the copy

zero_and_one : (n : ℕ) → n ≡ 0 → n ≡ 1 → ⊥
zero_and_one n zero one = omega (arith, zero, one)

status_no : (refusal : Option Refusal) (printed : Printed) → MatchOption refusal (IsFault printed) (λ r. IsRefusal r printed) → printed.status ≡ 1
status_no None printed it = it.status
status_no (Some r) printed it = it.status

module _ {S P : Type 0} {M E : Type 0} {m : disk.Ghosts M} (g : Ghosts S) (k : Shelves P) (e : disk.Ghosts E) (tenant : Octets) (host : Joined S P) (from_new : Connection S P) (new : Held (FileStore M m)) (printed : Printed) where
  clean_when_copied : (files : Files M) → IsCopied new files → IsStateClean (file_state new)
  unfolding IsIntact IsOpen
  clean_when_copied files copied = is_clean (copied.was_clean, copied.was_open)

  export_of : HasExported g k tenant host from_new printed over_files new → (files : Files M) (copy : E) → IsSavedIn e new files copy → IsExport g k tenant host from_new printed m e files copy
  export_of it files copy saved = record {
    db = (file_state new).committed;
    line = it.line;
    from_stays = it.from_stays;
    copied = saved.copied;
    alone = λ intact reading packs. it.alone reading (clean_when_copied files (saved.kept intact)) packs;
  }

  pub exports_to : (files : Option (Files M)) (copy : Option E) → Exports g k tenant host from_new printed over_files new → SavesMoved e new printed files copy → ExportsTo g k tenant host from_new printed m e files copy
  exports_to files None (inl it) other = absurd (other it.line.status)
  exports_to files None (inr not) other = not
  exports_to None (Some c) it saves = absurd saves.1
  exports_to (Some f) (Some c) (inl it) saves = export_of it f c saves.1
  exports_to (Some f) (Some c) (inr not) saves = absurd (zero_and_one printed.status saves.0 (status_no not.refusal printed not.line))

  pub exports_as : (told : Printed) → told ≡ printed → (files : Option (Files M)) (copy : Option E) → Exports g k tenant host from_new printed over_files new → SavesMoved e new printed files copy → ExportsTo g k tenant host from_new told m e files copy
  exports_as told is files copy it saves = subst (λ (p : Printed). ExportsTo g k tenant host from_new p m e files copy) (sym is) (exports_to files copy it saves)
