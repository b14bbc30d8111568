-- From the words of a connection to those of a host's storage.
use Rattle.std.proofs.Common.{◌≡◌, List, ◌++◌, map, Bool, true, false, if◌then◌else◌, IsTrue, Ok, Result, OnOk, refl, sym, ap, ◌∙◌, subst}
use Rattle.sqlite.specs.Tree.{Trees}
use Rattle.sqlite.specs.Effect.{Database}
use Rattle.sqlite.specs.Held.{Held, state as database_state}
use Rattle.bh_base.specs.Connections.{state, backing}
use Rattle.bh_shelf.specs.Contents.{Within}
use Rattle.bh_base.specs.Placed.{IsWhole}
use Rattle.bh_base.proofs.Lifting.{leaves_kept, open_shown}
use Rattle.sqlite.specs.State.{State}
use Rattle.sqlite_trees.specs.declared.store.Store.{Ghosts}
use Rattle.bh_shelf.specs.declared.shelf.Shelf.{Ghosts as Shelves}
use Rattle.bh_base.specs.declared.connection.Connection.{Connection}
use Rattle.bh_types.specs.Limits.{HostLimits}
use Rattle.bh_model.specs.State.{Octets}
use Rattle.bh_tables.specs.Typed.{VersionRow, PartRow, BlockRow, RefRow, Tables, IsHost, tables_in, no_rows}
use Rattle.bh_tables.specs.Bodies.{part_name}
use Rattle.bh_tables.specs.Hosts.{tables_shown}
use Rattle.bh_tables.proofs.HostTests.{host_shows, shown_host}
use Rattle.bh_view.specs.Blocks.{AreDigests}
use Rattle.bh_view.specs.Bodies.{IsSoundHost, AreBodies, AreBounded, bodies_of}
use Rattle.bh_view.specs.Sound.{IsSound}
use Rattle.bh_storage.specs.Calls.{Seen, IsWorking}
use Rattle.bh_cache.specs.Kept.{KeptBlocks, agrees, Agrees}
use Rattle.bh_base.specs.Layer.{standing, IsIntact, IsOpen, IsStateClean, Leaves, IsInside, Holds, KeepsDisk, StateWithin}
use Rattle.bh_schema.specs.declared.host.Host.{Host}
use Rattle.bh_schema.specs.Storage.{shown, seen_in, beside, left_in, Keeps}

-- ---- what an answer tells

pub on_ok : {X E : Type 0} {r : Result X E} {x : X} (P : Type 0) → r ≡ Ok x → OnOk r P → P
on_ok P is h = subst (λ o. OnOk o P) is h

-- ---- intact and open

abbrev pub AreBoth : State → Type 0
AreBoth s = IsIntact s × IsOpen s

pub both : {s : State} → AreBoth s → IsStateClean s
both h = record { intact = h.0; is_open = h.1 }

pub parts : {s : State} → IsStateClean s → AreBoth s
parts clean = (clean.intact, clean.is_open)

-- ---- the tables that are seen

pub sound_host : (db : Database) → IsSound (tables_shown db) → IsHost db
sound_host db sound = shown_host db sound.host.row sound.host.alone

pub inside_of : {digest : Octets → Octets} (l : HostLimits) (s : State) → IsWorking (IsSoundHost digest) (seen_in l s) → IsInside (standing s)
unfolding seen_in
inside_of l s working = record { inside = working.inside; host = sound_host (standing s).now working.sound.sound }

pub limits_seen : (l : HostLimits) (s : State) → (seen_in l s).limits ≡ l
unfolding seen_in
limits_seen l s = refl

pub seen_same : (l : HostLimits) (old new : State) → standing new ≡ standing old → seen_in l new ≡ seen_in l old
unfolding seen_in
seen_same l old new same = ap (shown l) same

-- a sound host's tables are those of its database
pub shows_in : {digest : Octets → Octets} (l : HostLimits) (s : State) → IsWorking (IsSoundHost digest) (seen_in l s) → (seen_in l s).now ≡ tables_in (standing s).now
unfolding seen_in
shows_in l s working = host_shows (standing s).now (sound_host (standing s).now working.sound.sound)

pub holds_seen : (l : HostLimits) (tables : Tables) (s : State) → Holds tables (standing s) → ((seen_in l s).now ≡ tables) × ((seen_in l s).inside ≡ true)
unfolding seen_in
holds_seen l tables s h = (host_shows (standing s).now h.within.host ∙ h.is, h.within.inside)

-- ---- beside blocks that are kept in memory

-- no rows are a sound host's
pub agreeing : (kept : KeptBlocks) (s : Seen) → IsSound (beside kept s).now → Agrees kept s.now.blocks
unfolding beside
agreeing kept s = go (agrees kept s.now.blocks)
  where
    go : (b : Bool) → IsSound (if b then s.now else no_rows) → b ≡ true
    go true sound = refl
    go false sound = let alone = sound.host.alone in absurd (cc)

pub beside_agreed : (kept : KeptBlocks) (s : Seen) → Agrees kept s.now.blocks → beside kept s ≡ s
unfolding beside
beside_agreed kept s h = ap (λ b. record s { now = if b then s.now else no_rows }) h

module _ {digest : Octets → Octets} (kept : KeptBlocks) (s : Seen) (working : IsWorking (IsSoundHost digest) (beside kept s)) where
  pub works_agreed : Agrees kept s.now.blocks
  works_agreed = agreeing kept s working.sound.sound

  pub plain : beside kept s ≡ s
  plain = beside_agreed kept s works_agreed

  pub under : IsWorking (IsSoundHost digest) s
  under = subst (IsWorking (IsSoundHost digest)) plain working

  -- the blocks stay
  pub plain_after : (t : Seen) → t.now.blocks ≡ s.now.blocks → beside kept t ≡ t
  plain_after t same = beside_agreed kept t (subst (Agrees kept) (sym same) works_agreed)

-- ---- sound tables, in a transaction or outside

pub readable_host : {digest : Octets → Octets} (l : HostLimits) (s : State) → IsSoundHost digest (seen_in l s).now → IsHost (standing s).now
unfolding seen_in
readable_host l s sound = sound_host (standing s).now sound.sound

pub readable_shows : {digest : Octets → Octets} (l : HostLimits) (s : State) → IsSoundHost digest (seen_in l s).now → (seen_in l s).now ≡ tables_in (standing s).now
unfolding seen_in
readable_shows l s sound = host_shows (standing s).now (sound_host (standing s).now sound.sound)

pub plain_sound : {digest : Octets → Octets} (kept : KeptBlocks) (s : Seen) → IsSoundHost digest (beside kept s).now → beside kept s ≡ s
plain_sound kept s sound = beside_agreed kept s (agreeing kept s sound.sound)

-- ---- tables whose bodies stay

-- the rows that bodies are of
abbrev pub bodied : Tables → List VersionRow × List PartRow × List RefRow × List BlockRow
bodied x = (x.versions, x.parts, x.refs, x.blocks)

pub sound_still : {digest : Octets → Octets} (old new : Tables) → IsSoundHost digest old → IsSound new → AreBounded new → bodied new ≡ bodied old → IsSoundHost digest new
sound_still {digest} old new was sound bounded same =
    let P : List VersionRow × List PartRow × List RefRow × List BlockRow → Type 0 = λ b. AreBodies (bodies_of b.0 ++ map part_name b.1) b.2 b.3 × AreDigests digest b.3 in
    let is : P (bodied new) = subst P (sym same) (was.bodies, was.digests) in
    record { sound = sound; bodies = is.0; digests = is.1; bounded = bounded }

-- after a write of other rows
pub bodied_still : {digest : Octets → Octets} (l : HostLimits) (old new : State) (change : Tables → Tables) → ((x : Tables) → bodied (change x) ≡ bodied x)
    → IsWorking (IsSoundHost digest) (seen_in l old) → Holds (change (tables_in (standing old).now)) (standing new) → bodied (seen_in l new).now ≡ bodied (seen_in l old).now
bodied_still l old new change stays working h = ap bodied (holds_seen l _ new h).0 ∙ stays _ ∙ ap bodied (sym (shows_in l old working))

-- ---- several calls

pub follows_then : (a b c : State) → KeepsDisk a b → KeepsDisk b c → KeepsDisk a c
follows_then a b c one two = record { clean = λ h. one.clean (two.clean h); intact = λ h. one.intact (two.intact h); limit = two.limit ∙ one.limit }

pub within_then : (a b c : State) → (IsIntact b → IsOpen a → IsOpen b) → StateWithin a b → StateWithin b c → StateWithin a c
within_then a b c opens one two = record {
  follows = follows_then a b c one.follows two.follows;
  kept = λ clean. two.kept clean ∙ one.kept (two.follows.clean clean);
  settled = two.settled;
  survives = λ up intact db h. let before = two.follows.intact intact in one.survives up before db (two.survives (opens before up) intact db h);
}

-- ---- a host's calls

-- what a crash leaves of an open connection
left_alone : {S : Type 0} (g : Ghosts S) (settles : (s : S) (db : Trees) → IsTrue (g.view s).is_open → g.recovers s db → db ≡ (g.view s).committed) (h : Held S) → IsOpen (database_state g h)
    → (left : Trees) → Leaves (database_state g h) left → left ≡ (standing (database_state g h)).kept.trees
unfolding standing Leaves IsOpen
left_alone g settles h up left may = settles h.store left up may

pub left_kept : {S P : Type 0} (g : Ghosts S) (k : Shelves P) (settles : (s : S) (db : Trees) → IsTrue (g.view s).is_open → g.recovers s db → db ≡ (g.view s).committed) (stands : (p : P) → Within (k.kept p) (k.stood p))
    (h : Connection S P) → IsOpen (state g k h) → IsWhole (standing (state g k h)).kept → (db : Trees) → Leaves (state g k h) db → db ≡ (standing (state g k h)).kept.trees
left_kept g k settles stands h up =
    let a = backing k h.packs in
    let s = database_state g h.database in
    leaves_kept a s (stands h.packs) (left_alone g settles h.database (open_shown a s up))

pub left_less : (old new : State) → ((db : Trees) → Leaves new db → Leaves old db) → (x : Tables) → left_in new x → left_in old x
unfolding left_in
left_less old new leaves x it = (it.0, leaves it.0.trees it.1, it.2, it.3)

kept_seen : (a b : KeptBlocks) (l m : HostLimits) (old new : State) → (standing new).kept ≡ (standing old).kept → (beside a (seen_in l new)).kept ≡ (beside b (seen_in m old)).kept
unfolding seen_in beside
kept_seen a b l m old new same = ap tables_shown same

limits_beside : (kept : KeptBlocks) (l : HostLimits) (s : State) → (beside kept (seen_in l s)).limits ≡ l
unfolding seen_in beside
limits_beside kept l s = refl

pub beside_limits : (a b : KeptBlocks) (l : HostLimits) (old new : State) → (beside b (seen_in l new)).limits ≡ (beside a (seen_in l old)).limits
unfolding seen_in beside
beside_limits a b l old new = refl

pub same_limits : (l : HostLimits) (old new : State) → (seen_in l new).limits ≡ (seen_in l old).limits
unfolding seen_in
same_limits l old new = refl

pub keeps : {S P D : Type 0} (g : Ghosts S) (k : Shelves P) (old new : Host S P D) → new.limits ≡ old.limits → StateWithin (state g k old.connection) (state g k new.connection) → Keeps g k old new
keeps g k old new same w =
    let a = state g k old.connection in
    let b = state g k new.connection in
    record {
      intact = w.follows.intact;
      opened = λ intact up. (w.follows.clean (record { intact = intact; is_open = up })).is_open;
      survives = λ up intact. left_less a b (w.survives up intact);
      kept = λ clean. kept_seen new.cache old.cache new.limits old.limits a b (w.kept (both clean));
      limits = limits_beside new.cache new.limits b ∙ same ∙ sym (limits_beside old.cache old.limits a);
    }

-- ---- after a question that changed nothing

module _ {digest : Octets → Octets} (kept : KeptBlocks) (l : HostLimits) (old new : State) (working : AreBoth old → IsWorking (IsSoundHost digest) (beside kept (seen_in l old))) (w : StateWithin old new) (same : IsIntact new → standing new ≡ standing old) where
  pub asked_before : AreBoth new → AreBoth old
  asked_before clean = parts (w.follows.clean (both clean))

  pub asked_works : AreBoth new → IsWorking (IsSoundHost digest) (beside kept (seen_in l new))
  asked_works clean = subst (λ x. IsWorking (IsSoundHost digest) (beside kept x)) (sym (seen_same _ old new (same clean.0))) (working (asked_before clean))

  pub asked_inside : IsStateClean new → IsInside (standing new)
  asked_inside clean = inside_of _ new (under _ _ (asked_works (parts clean)))

  pub asked_same : AreBoth new → (beside kept (seen_in l new)).now ≡ (beside kept (seen_in l old)).now
  asked_same clean = ap (λ (x : Seen). (beside kept x).now) (seen_same _ old new (same clean.0))

  -- what was seen is what the connection shows
  pub asked_plain : AreBoth new → beside kept (seen_in l old) ≡ seen_in l old
  asked_plain clean = plain _ _ (working (asked_before clean))

-- ---- after such a question and a write

module _ (old mid new : State) (asked : StateWithin old mid) (opens : IsIntact mid → IsOpen old × IsOpen mid) (wrote : StateWithin mid new) where
  pub wrote_within : StateWithin old new
  wrote_within = within_then old mid new (λ intact up. (opens intact).1) asked wrote

  pub wrote_opens : (IsIntact new → IsOpen mid → IsOpen new) → IsOpen old → IsIntact new → IsOpen new
  wrote_opens stays up intact = stays intact (opens (wrote.follows.intact intact)).1

  pub wrote_before : AreBoth new → AreBoth mid
  wrote_before clean = parts (wrote.follows.clean (both clean))

  pub wrote_first : AreBoth new → AreBoth old
  wrote_first clean = parts (asked.follows.clean (wrote.follows.clean (both clean)))
