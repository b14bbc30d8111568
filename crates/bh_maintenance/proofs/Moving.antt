-- A tenant that is moved between hosts that are ready.
use Rattle.std.proofs.Common.{◌≡◌, ◌≢◌, ℕ, inl, inr, false, true, [], ◌∷◌, codes, ◌++◌, Option, Some, None, Result, Ok, Err, IfOk, IfSome, is_some, refl, sym, ap, ◌∙◌, subst}
use Rattle.std.specs.Prelude.{MatchResult}
use Rattle.std.specs.String.{string_bytes}
use Rattle.std.specs.declared.alloc.Global.{Global}
use Rattle.std.specs.declared.string.String.{String}
use Rattle.sqlite_trees.specs.declared.store.Store.{Ghosts}
use Rattle.sqlite.specs.declared.error.Error.{Error}
use Rattle.sqlite.specs.Held.{state as database_state}
use Rattle.sqlite.specs.State.{State}
use Rattle.bh_types.specs.Limits.{HostLimits}
use Rattle.bh_types.specs.declared.refusal.Refusal.{Refusal}
use Rattle.bh_types.specs.declared.refusal.Refusal.TheVariants.{NoSuchTenant, TenantExists, NotAHostFile}
use Rattle.bh_shelf.specs.Contents.{Contents, Within}
use Rattle.bh_shelf.specs.declared.shelf.Shelf.{Ghosts as Shelves}
use Rattle.bh_tables.specs.Hosts.{tables_shown}
use Rattle.bh_tables.specs.Schema.{Octets}
use Rattle.bh_tables.specs.Typed.{Tables, IsHost}
use Rattle.bh_tables.proofs.HostTests.{host_shows}
use Rattle.bh_view.specs.Bodies.{IsSoundHost}
use Rattle.bh_view.specs.View.{view, latest_of, limits_in}
use Rattle.bh_storage.specs.Calls.{IsAtRest}
use Rattle.bh_base.specs.Connections.{IsClean, backing, state, tables}
use Rattle.bh_base.specs.Layer.{Standing, standing, KeepsDisk, Unwinds, taken_back}
use Rattle.bh_base.specs.Placed.{filled}
use Rattle.bh_base.specs.Shown.{Backing}
use Rattle.bh_base.specs.Shown as base
use Rattle.bh_base.specs.declared.connection.Connection.{Connection}
use Rattle.bh_base.proofs.Placing.{within_then, same_filled}
use Rattle.bh_schema.specs.Storage.{shown, seen_in}
use Rattle.bh_schema.proofs.Storing.{sound_host}
use Rattle.bh_blocks.specs.Digests.{digest_by}
use Rattle.bh_tenant_rows.specs.Brought.{IsBrought, IsMoved}
use Rattle.bh_moved.specs.Moves.{IsSettled, IsCommitted}
use Rattle.bh_maintenance.proofs.Refused.{keeps_disk}
use Rattle.bh_maintenance.specs.Clocks.{is_beyond, moment_of}
use Rattle.bh_maintenance.specs.Found.{IsJoinedBy}
use Rattle.bh_maintenance.specs.Moves.{shown_by, Stays, tenants_in, Tells, TellsName, AreBothClean, HasCome, Moves, TellsMove, HasNoName, IsOneName, Imports}
use Rattle.bh_maintenance.specs.Printing.{IsFault, IsLine}
use Rattle.bh_maintenance.specs.declared.clocks.ClockRead.{ClockRead}
use Rattle.bh_maintenance.specs.declared.joined.Joined.{Joined}
use Rattle.bh_maintenance.specs.declared.printed.Printed.{Printed}

-- ---- a host that is ready

module _ {S P : Type 0} (g : Ghosts S) (k : Shelves P) (digest : Octets → Octets) (host : Joined S P) (ready : IsJoinedBy g k digest host) where
  pub settled : IsClean g k host.connection → IsSettled (standing (state g k host.connection))
  unfolding seen_in
  settled clean = let it = ready.rest clean in record { outside = it.outside; host = sound_host (standing (state g k host.connection)).now it.sound.sound }

  pub shows : IsClean g k host.connection → shown_by g k host.connection ≡ tables g k host.connection
  shows clean = host_shows (standing (state g k host.connection)).now (settled clean).host

  pub sound_shown : IsClean g k host.connection → IsSoundHost digest (shown_by g k host.connection)
  unfolding seen_in
  sound_shown clean = (ready.rest clean).sound

  pub latest_shown : IsClean g k host.connection → host.latest ≡ latest_of (shown_by g k host.connection)
  unfolding seen_in
  latest_shown clean = ready.latest clean

  pub limits_shown : IsClean g k host.connection → limits_in (shown_by g k host.connection) ≡ host.limits
  unfolding seen_in
  limits_shown clean = (ready.rest clean).limits

  kept_shown : IsClean g k host.connection → tables_shown (standing (state g k host.connection)).kept ≡ shown_by g k host.connection
  unfolding seen_in
  kept_shown clean = (ready.rest clean).committed

  -- what stays shows the same
  pub stays_shown : (new : Connection S P) → Stays g k host.connection new → IsClean g k new → shown_by g k new ≡ shown_by g k host.connection
  stays_shown new stays clean = elim (stays.stands clean) [
    | inl same ↦ ap (λ (x : Standing). tables_shown x.now) same
    | inr back ↦ ap (λ (x : Standing). tables_shown x.now) back ∙ kept_shown (stays.follows.clean clean)
  ]

-- ---- what stays

rests_again : (digest : Octets → Octets) (l : HostLimits) (old new : State) → IsAtRest (IsSoundHost digest) (seen_in l old) → Unwinds (standing old) (standing new) → IsAtRest (IsSoundHost digest) (seen_in l new)
unfolding seen_in
rests_again digest l old new rest (inl same) = subst (λ (x : Standing). IsAtRest (IsSoundHost digest) (shown l x)) (sym same) rest
rests_again digest l old new rest (inr back) = subst (λ (x : Standing). IsAtRest (IsSoundHost digest) (shown l x)) (sym back) (record {
  outside = refl;
  committed = refl;
  sound = subst (IsSoundHost digest) (sym rest.committed) rest.sound;
  limits = subst (λ (t : Tables). limits_in t ≡ l) (sym rest.committed) rest.limits;
})

now_in : (limits : HostLimits) (s : State) → (seen_in limits s).now ≡ tables_shown (standing s).now
unfolding seen_in
now_in limits s = refl

module _ {S P : Type 0} (g : Ghosts S) (k : Shelves P) where
  pub stays_here : (c : Connection S P) → Stays g k c c
  stays_here c = record { follows = keeps_disk (state g k c); stands = λ clean. inl refl }

  pub stays_on : (a b c : Connection S P) → Stays g k a b → Stays g k b c → Stays g k a c
  stays_on a b c first second = record {
    follows = record {
      clean = λ clean. first.follows.clean (second.follows.clean clean);
      intact = λ intact. first.follows.intact (second.follows.intact intact);
      limit = second.follows.limit ∙ first.follows.limit;
    };
    stands = λ clean. elim (second.stands clean) [
      | inl same ↦ subst (λ (x : Standing). Unwinds (standing (state g k a)) x) (sym same) (first.stands (second.follows.clean clean))
      | inr back ↦ elim (first.stands (second.follows.clean clean)) [
        | inl same ↦ inr (back ∙ ap taken_back same)
        | inr earlier ↦ inr (back ∙ ap taken_back earlier)
      ]
    ];
  }

  -- a host that stays is ready still
  ready_on : (digest : Octets → Octets) (host : Joined S P) (c : Connection S P) → IsJoinedBy g k digest host → Stays g k host.connection c → IsJoinedBy g k digest (record host { connection = c })
  ready_on digest host c ready stays = record {
    rest = λ clean. rests_again digest host.limits (state g k host.connection) (state g k c) (ready.rest (stays.follows.clean clean)) (stays.stands clean);
    latest = λ clean. ready.latest (stays.follows.clean clean) ∙ ap latest_of (now_in host.limits (state g k host.connection) ∙ sym (stays_shown g k digest host ready c stays clean) ∙ sym (now_in host.limits (state g k c)));
  }

  pub ready_still : (host new : Joined S P) → new ≡ record host { connection = new.connection } → IsJoinedBy g k (digest_by host.digest) host → Stays g k host.connection new.connection → IsJoinedBy g k (digest_by new.digest) new
  ready_still host new is ready stays = subst (λ (x : Joined S P). IsJoinedBy g k (digest_by x.digest) x) (sym is) (ready_on (digest_by host.digest) host new.connection ready stays)

-- ---- what was committed

-- a host's database shows the same with all that stands of its packs
committed_shown : (a : Backing) (s : State) → Within a.kept a.stood → IsCommitted (standing (base.shown a s)) → IsHost (standing (base.shown a s)).now → (left : Contents) → Within a.stood left
    → tables_shown (filled left s.committed) ≡ tables_shown (standing (base.shown a s)).now
unfolding standing
committed_shown a s stands committed host left within =
    let kept : IsHost (filled a.kept s.committed) = subst IsHost (sym committed.kept) host in
    ap tables_shown (sym (same_filled a.kept left (within_then a.kept a.stood left stands within) s.committed kept.held.blocks) ∙ committed.kept)

-- ---- a move

module _ {S P T Q : Type 0} (g : Ghosts S) (k : Shelves P) (h : Ghosts T) (l : Shelves Q) (kept_stands : (packs : Q) → Within (l.kept packs) (l.stood packs)) (digest_from digest : Octets → Octets) (from : Joined S P) (to : Joined T Q)
    (from_ready : IsJoinedBy g k digest_from from) (to_ready : IsJoinedBy h l digest to) (tenant : Octets) (from_new : Connection S P) (to_new : Connection T Q)
    (from_follows : KeepsDisk (state g k from.connection) (state g k from_new))
    (from_back : IsClean g k from_new → standing (state g k from_new) ≡ taken_back (standing (state g k from.connection)))
    (follows : KeepsDisk (state h l to.connection) (state h l to_new)) where
  from_stays : Stays g k from.connection from_new
  from_stays = record { follows = from_follows; stands = λ clean. inr (from_back clean) }

  from_shows : IsClean g k from_new → shown_by g k from.connection ≡ tables g k from.connection
  from_shows clean = shows g k digest_from from from_ready (from_follows.clean clean)

  to_shows : IsClean h l to_new → shown_by h l to.connection ≡ tables h l to.connection
  to_shows clean = shows h l digest to to_ready (follows.clean clean)

  brought_shown : (both : AreBothClean g k h l from.connection to.connection from_new to_new) → IsHost (standing (state h l to_new)).now
      → IsMoved digest tenant (tables g k from.connection) (tables h l to.connection) (tables h l to_new) → IsBrought digest tenant (shown_by g k from.connection) (shown_by h l to.connection) (shown_by h l to_new)
  brought_shown both host moved =
      let one = from_shows both.0 in
      let two = to_shows both.1 in
      let it = moved digest_from (subst (IsSoundHost digest_from) one (sound_shown g k digest_from from from_ready (from_follows.clean both.0))) (subst (IsSoundHost digest) two (sound_shown h l digest to to_ready (follows.clean both.1))) in
      subst (λ (x : Tables). IsBrought digest tenant x (shown_by h l to.connection) (shown_by h l to_new)) (sym one)
      (subst (λ (x : Tables). IsBrought digest tenant (tables g k from.connection) x (shown_by h l to_new)) (sym two)
      (subst (λ (x : Tables). IsBrought digest tenant (tables g k from.connection) (tables h l to.connection) x) (sym (host_shows (standing (state h l to_new)).now host)) it))

  pub moves_of : (answer : Result (Option Refusal) Error)
      → (answer ≢ Ok None → IsClean h l to_new → standing (state h l to_new) ≡ taken_back (standing (state h l to.connection)))
      → (answer ≡ Ok None → IsClean h l to_new → IsCommitted (standing (state h l to_new)))
      → (answer ≡ Ok None → IsClean h l to_new → IsHost (standing (state h l to_new)).now)
      → IfOk answer (λ refused. refused ≡ None → IsClean g k from_new → IsClean h l to_new → IsMoved digest tenant (tables g k from.connection) (tables h l to.connection) (tables h l to_new))
      → IfOk answer (λ refused. refused ≡ Some TenantExists → IsClean h l to_new → is_some (view (tables h l to.connection) tenant) ≡ true)
      → IfOk answer (λ refused. refused ≡ Some NoSuchTenant → IsClean g k from_new → is_some (view (tables g k from.connection) tenant) ≡ false)
      → Moves g k h l from.connection to.connection from_new to_new digest tenant answer
  moves_of (Ok None) back committed host moved exists missing = record {
    from_stays = from_stays;
    follows = follows;
    committed = committed refl;
    brought = λ both. brought_shown both (host refl both.1) (moved refl both.0 both.1);
    kept = λ clean left within. committed_shown (backing l to_new.packs) (database_state h to_new.database) (kept_stands to_new.packs) (committed refl clean) (host refl clean) left within;
  }
  moves_of (Ok (Some r)) back committed host moved exists missing = record {
    from_stays = from_stays;
    to_stays = record { follows = follows; stands = λ clean. inr (back (λ e. cc) clean) };
    exists = λ is clean. subst (λ (x : Tables). is_some (view x tenant) ≡ true) (sym (to_shows clean)) (exists is clean);
    missing = λ is clean. subst (λ (x : Tables). is_some (view x tenant) ≡ false) (sym (from_shows clean)) (missing is clean);
  }
  moves_of (Err e) back committed host moved exists missing = record {
    from_stays = from_stays;
    to_stays = record { follows = follows; stands = λ clean. inr (back (λ e. cc) clean) };
    exists = λ is. absurd (cc);
    missing = λ is. absurd (cc);
  }

module _ {S P T Q : Type 0} (g : Ghosts S) (k : Shelves P) (h : Ghosts T) (l : Shelves Q) (from : Connection S P) (to : Connection T Q) (from_new : Connection S P) (to_new : Connection T Q) (digest : Octets → Octets) (tenant : Octets) (line printed : Printed) where
  pub told_of : (answer : Result (Option Refusal) Error) → Moves g k h l from to from_new to_new digest tenant answer → Tells line answer printed → TellsMove g k h l from to from_new to_new digest tenant line printed
  told_of (Ok None) moves tells = inl (moves, tells)
  told_of (Ok (Some r)) moves tells = inr (Some r, moves, tells)
  told_of (Err e) moves tells = inr (None, moves, tells)

-- ---- an import

module _ {S P : Type 0} (g : Ghosts S) (k : Shelves P) (digest : Octets → Octets) (host : Joined S P) (ready : IsJoinedBy g k digest host) (new : Connection S P) (follows : KeepsDisk (state g k host.connection) (state g k new)) where
  pub named_of : (found : Result (Option (String Global)) Error) (told : Result (String Global) Printed) → TellsName found told
      → IfOk found (λ f. IfSome f (λ name. IsClean g k new → tenants_in (tables g k host.connection) ≡ string_bytes name ∷ []))
      → MatchResult told (λ name. IsOneName g k host.connection new (string_bytes name)) HasNoName
  named_of (Ok (Some name)) told is sole = subst (λ (r : Result (String Global) Printed). MatchResult r (λ n. IsOneName g k host.connection new (string_bytes n)) HasNoName) (sym is)
      (λ clean. ap tenants_in (shows g k digest host ready (follows.clean clean)) ∙ sole clean)
  named_of (Ok None) (Ok name) told sole = absurd told
  named_of (Ok None) (Err printed) told sole = inl told
  named_of (Err e) (Ok name) told sole = absurd told
  named_of (Err e) (Err printed) told sole = inr told

module _ (clock : ClockRead) {S P T Q : Type 0} (g : Ghosts S) (k : Shelves P) (h : Ghosts T) (l : Shelves Q) (from : Joined S P) (to : Joined T Q) where
  -- nothing was done
  pub not_imported : (printed : Printed) → IsFault printed → Imports clock g k h l from to from.connection to.connection printed
  not_imported printed fault = inr (record {
    refusal = None;
    line = fault;
    from_stays = stays_here g k from.connection;
    to_stays = stays_here h l to.connection;
    exists = λ is. absurd (cc);
  })

  module _ (mid : Connection S P) (stays : Stays g k from.connection mid) where
    -- there was no one name
    pub unnamed : (printed : Printed) → HasNoName printed → Imports clock g k h l from to mid to.connection printed
    unnamed printed (inl none) = inr (record {
      refusal = Some NotAHostFile;
      line = none;
      from_stays = stays;
      to_stays = stays_here h l to.connection;
      exists = λ is. absurd (cc);
    })
    unnamed printed (inr fault) = inr (record {
      refusal = None;
      line = fault;
      from_stays = stays;
      to_stays = stays_here h l to.connection;
      exists = λ is. absurd (cc);
    })

    module _ (from_ready : IsJoinedBy g k (digest_by from.digest) from) (to_ready : IsJoinedBy h l (digest_by to.digest) to) (limits : from.limits ≡ to.limits) (in_time : is_beyond clock.leap (moment_of clock to.latest) from.latest ≡ false) (from_new : Connection S P) (to_new : Connection T Q) (tenant : Octets) (name : IsOneName g k from.connection mid tenant) where
      mid_shown : Stays g k mid from_new → IsClean g k from_new → shown_by g k mid ≡ shown_by g k from.connection
      mid_shown later clean = stays_shown g k (digest_by from.digest) from from_ready mid stays (later.follows.clean clean)

      come_from : HasCome g k h l mid to.connection from_new to_new (digest_by to.digest) tenant → HasCome g k h l from.connection to.connection from_new to_new (digest_by to.digest) tenant
      come_from come = record {
        from_stays = stays_on g k from.connection mid from_new stays come.from_stays;
        follows = come.follows;
        committed = come.committed;
        brought = λ both. subst (λ (x : Tables). IsBrought (digest_by to.digest) tenant x (shown_by h l to.connection) (shown_by h l to_new)) (mid_shown come.from_stays both.0) (come.brought both);
        kept = come.kept;
      }

      pub imported : (line printed : Printed) → IsLine (codes "tenant " ++ tenant) line → TellsMove g k h l mid to.connection from_new to_new (digest_by to.digest) tenant line printed → Imports clock g k h l from to from_new to_new printed
      imported line printed told (inl (come, is)) = inl (record {
        tenant = tenant;
        line = subst (IsLine (codes "tenant " ++ tenant)) (sym is) told;
        name = λ clean. name (come.from_stays.follows.clean clean);
        limits = λ both. limits_shown g k (digest_by from.digest) from from_ready (stays.follows.clean (come.from_stays.follows.clean both.0)) ∙ limits ∙ sym (limits_shown h l (digest_by to.digest) to to_ready (come.follows.clean both.1));
        in_time = λ both.
            let one = latest_shown g k (digest_by from.digest) from from_ready (stays.follows.clean (come.from_stays.follows.clean both.0)) in
            let two = latest_shown h l (digest_by to.digest) to to_ready (come.follows.clean both.1) in
            subst (λ (m : ℕ). is_beyond clock.leap (moment_of clock m) (latest_of (shown_by g k from.connection)) ≡ false) two (subst (λ (m : ℕ). is_beyond clock.leap (moment_of clock to.latest) m ≡ false) one in_time);
        come = come_from come;
      })
      imported line printed told (inr (refusal, not, why)) = inr (record {
        refusal = refusal;
        line = why;
        from_stays = stays_on g k from.connection mid from_new stays not.from_stays;
        to_stays = not.to_stays;
        exists = λ is both. (tenant, name (not.from_stays.follows.clean both.0), not.exists is both.1);
      })
