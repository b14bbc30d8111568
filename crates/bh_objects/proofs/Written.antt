-- What a put writes, as a change of versions alone.
use Rattle.std.proofs.Common.{◌≡◌, ◌≤◌, ℕ, false, List, [], ◌∷◌, ◌++◌, Option, Some, None, refl, sym, ap, ◌∙◌, subst}
use Rattle.std.specs.List.{AllByRecursion, list_any}
use Rattle.bh_types.specs.Checksums.{checksum_text}
use Rattle.bh_types.specs.Counts.{Counts}
use Rattle.bh_types.specs.declared.bucket_state.BucketState.{BucketState}
use Rattle.bh_model.specs.State.{Octets, State, Content, Content.Marker, Content.Body}
use Rattle.bh_tables.specs.Bodies.{Name, same_name, version_name}
use Rattle.bh_tables.specs.Typed.{VersionRow, Tables}
use Rattle.bh_view.specs.Becomes.{Becomes, KeepsShared}
use Rattle.bh_view.specs.Blocks.{whole, AreStored, AreDigests}
use Rattle.bh_view.specs.Bodies.{HasBodies, IsResolved, AreWhole, IsUnnamed, AddsBody, StoresPieces, pieces, body_stored}
use Rattle.bh_view.specs.Put.{entry_row, row_number, rows_left, bytes_in}
use Rattle.bh_view.specs.Sound.{AreSound, IsSound}
use Rattle.bh_view.specs.View.{rows_of, latest_of}
use Rattle.bh_view.proofs.BodyChanges.{unnamed_bodies, rows_stay, body_stores}
use Rattle.bh_view.proofs.NameLemmas.{unnamed_each}
use Rattle.bh_view.proofs.PieceLemmas.{each_once}
use Rattle.bh_view.proofs.SharedLemmas.{SharesFor, names_block, shared_for}
use Rattle.bh_view.proofs.ViewLemmas.{same_view, same_latest, same_limits}
use Rattle.bh_view.proofs.WholeLemmas.{empty_body}
use Rattle.bh_view.proofs.WriteLemmas.{same_resolved, same_unnamed, added_bytes, added_whole, marker_added, row_added as view_row_added}
use Rattle.bh_objects.specs.Found.{replaced_in, with_way, with_entry}
use Rattle.bh_objects.specs.Writes.{with_counters, with_room, without_replaced, with_columns, object_written, marker_written}
use Rattle.bh_objects.specs.declared.quotas.Replaced.{Replaced}
use Rattle.bh_objects.proofs.Dropping.{Leaves, room_made, room_found}

-- ---- tables that differ in their references and blocks alone

pub record HasRowsOf (target new : Tables) : Type 0 where
  pub is : new ≡ record target { refs = new.refs; blocks = new.blocks }
  pub stored : AreStored new.refs new.blocks

pub becomes_so : (t : Octets) (s : Option State) (old target new : Tables) → Becomes t s old target → HasRowsOf target new → Becomes t s old new
becomes_so t s old target new change has =
    let now : Tables = record target { refs = new.refs; blocks = new.blocks } in
    let latest : latest_of now ≡ latest_of target = same_latest target now refl in
    subst (Becomes t s old) (sym has.is) (record {
      shown = same_view t target now refl ∙ change.shown;
      others = λ u apart. same_view u target now refl ∙ change.others u apart;
      latest = latest ∙ change.latest;
      limits = same_limits target now refl ∙ change.limits;
      sound = record { host = change.sound.host; tenants = λ u. subst (λ n. AreSound n (rows_of u target)) (sym latest) (change.sound.tenants u); stored = has.stored };
    })

-- ---- a row is added

-- the bodies whose version is to come
abbrev pub to_come : Name → Content → List Name
to_come name Marker = []
to_come name (Body bytes checksum) = name ∷ []

module _ (t b k : Octets) (seq id moment : ℕ) (x : Tables) where
  -- its row, of the body that is there
  row_whole : (content : Content) → bytes_in content ≡ whole x.refs x.blocks (t, seq) → AreWhole (to_come (t, seq) content) x → AreWhole [] (record x { versions = x.versions ++ entry_row t b k seq id moment content ∷ [] })
  row_whole Marker its = marker_added x (entry_row t b k seq id moment Marker) its [] refl
  row_whole (Body bytes checksum) its = view_row_added x (entry_row t b k seq id moment (Body bytes checksum)) its [] refl

-- ---- all that is written of a new entry

module _ (old : Tables) (sound : IsSound old) (mode : BucketState) (before after : Counts) (t b k : Octets) (moment : ℕ) (content : Content) where
  abbrev name : Name
  name = (t, before.entry)

  abbrev entry : VersionRow
  entry = entry_row t b k before.entry (row_number mode before.version) moment content

  -- the tables once its body is there
  pub record HasBody (middle : Tables) : Type 0 where
    pub is : middle ≡ record (with_counters mode after t old) { refs = middle.refs; blocks = middle.blocks }
    pub is_whole : AreWhole (to_come name content) middle
    pub bytes : whole middle.refs middle.blocks name ≡ bytes_in content

  module _ (middle new : Tables) (has : HasBody middle) (fresh : AllByRecursion (λ (w : VersionRow). same_name name (version_name w) ≡ false) old.versions) (e : new ≡ with_columns mode before t b k moment content (with_room mode t b k middle)) where
    versions : middle.versions ≡ old.versions
    versions = ap (λ (x : Tables). x.versions) has.is

    parts : middle.parts ≡ old.parts
    parts = ap (λ (x : Tables). x.parts) has.is

    left : Leaves (to_come name content) (rows_left mode t b k middle.versions) middle (with_room mode t b k middle)
    left = room_made old sound (to_come name content) middle has.is_whole versions parts t b k mode

    abbrev wide : Tables
    wide = with_room mode t b k middle

    blocks_same : wide.blocks ≡ middle.blocks
    blocks_same = ap (λ (x : Tables). x.blocks) left.is

    row_bytes : whole wide.refs wide.blocks name ≡ bytes_in content
    row_bytes = left.bytes name (subst (AllByRecursion (λ (w : VersionRow). same_name name (version_name w) ≡ false)) (sym versions) fresh) ∙ has.bytes

    row_added : new ≡ record wide { versions = wide.versions ++ entry ∷ [] }
    row_added = e ∙ ap (λ l. record wide { versions = wide.versions ++ record entry { bytes = l } ∷ [] }) row_bytes

    wide_is : wide ≡ record (with_way mode after t b k old) { refs = wide.refs; blocks = wide.blocks }
    wide_is = left.is ∙ (λ i. record (has.is i) { versions = rows_left mode t b k (versions i); refs = wide.refs; blocks = sym blocks_same i })

    new_refs : new.refs ≡ wide.refs
    new_refs = ap (λ (x : Tables). x.refs) row_added

    pub new_blocks : new.blocks ≡ middle.blocks
    new_blocks = ap (λ (x : Tables). x.blocks) row_added ∙ blocks_same

    -- where its body names each block that came
    pub shared : SharesFor name old middle → KeepsShared old new
    shared shares = shared_for name old middle new shares new_blocks
        (λ block h. ap (list_any (names_block name block)) new_refs ∙ left.named name block (subst (AllByRecursion (λ (w : VersionRow). same_name name (version_name w) ≡ false)) (sym versions) fresh) h)

    pub written : HasRowsOf (with_entry mode before after t b k moment content old) new
    written = record {
      is = row_added ∙ (λ i. record (wide_is i) { versions = (wide_is i).versions ++ entry ∷ []; refs = sym new_refs i; blocks = (blocks_same ∙ sym new_blocks) i });
      stored = subst (λ (x : Tables). AreStored x.refs x.blocks) (sym row_added) left.is_whole.stored;
    }

    pub bodies : HasBodies new
    bodies = subst HasBodies (sym row_added) (row_whole t b k before.entry (row_number mode before.version) moment wide content (sym row_bytes) left.is_whole).bodies

-- ---- a put

-- what is known of the tables in which it is
pub record IsHostOf (old : Tables) : Type 0 where
  pub sound : IsSound old
  pub bodies : HasBodies old
  pub resolved : IsResolved old

-- all that the new tables show, where those of versions alone would be these
pub record IsWritten (target new : Tables) : Type 0 where
  pub rows : HasRowsOf target new
  pub bodies : HasBodies new

module _ (old : Tables) (host : IsHostOf old) (mode : BucketState) (before after : Counts) (t b k : Octets) (moment : ℕ) (free : IsUnnamed (t, before.entry) old) where
  abbrev its : Name
  its = (t, before.entry)

  abbrev counted : Tables
  counted = with_counters mode after t old

  counted_resolved : IsResolved counted
  counted_resolved = same_resolved old counted refl refl refl refl host.resolved

  counted_free : IsUnnamed its counted
  counted_free = same_unnamed old counted refl refl refl refl its free

  body_added : (digest : Octets → Octets) (bytes checksum : Octets) (middle : Tables) → AddsBody digest its bytes counted middle → HasBody old host.sound mode before after t b k moment (Body bytes checksum) middle
  body_added digest bytes checksum middle adds =
      let resolved : IsResolved middle = subst IsResolved (sym adds.is) (rows_stay counted its counted_resolved host.sound.stored host.bodies counted_free middle.refs middle.blocks bytes adds.bytes) in
      record { is = adds.is; is_whole = added_whole digest its bytes counted middle adds resolved; bytes = added_bytes digest its bytes counted middle adds }

  -- with this body, however it came about
  pub is_added : (digest : Octets → Octets) (bytes checksum : Octets) (middle new : Tables) → AddsBody digest its bytes counted middle → SharesFor its old middle → new ≡ with_columns mode before t b k moment (Body bytes checksum) (with_room mode t b k middle)
      → IsWritten (with_entry mode before after t b k moment (Body bytes checksum) old) new × (AreDigests digest old.blocks → AreDigests digest new.blocks) × KeepsShared old new × (new.blocks ≡ middle.blocks)
  is_added digest bytes checksum middle new adds shares e =
      let has = body_added digest bytes checksum middle adds in
      let apart = unnamed_each version_name its old.versions free.versions in (
        record {
          rows = written old host.sound mode before after t b k moment (Body bytes checksum) middle new has apart e;
          bodies = bodies old host.sound mode before after t b k moment (Body bytes checksum) middle new has apart e;
        },
        λ d. subst (AreDigests digest) (sym (new_blocks old host.sound mode before after t b k moment (Body bytes checksum) middle new has apart e)) (adds.digests d),
        shared old host.sound mode before after t b k moment (Body bytes checksum) middle new has apart e shares,
        new_blocks old host.sound mode before after t b k moment (Body bytes checksum) middle new has apart e,
      )

  pub object_is_written : (digest : Octets → Octets) (size : ℕ) (bytes : Octets) (new : Tables) → 1 ≤ size → AreDigests digest old.blocks → new ≡ object_written digest size mode before after (replaced_in mode t b k old) t b k moment bytes old
      → IsWritten (with_entry mode before after t b k moment (Body bytes (checksum_text bytes)) old) new × AreDigests digest new.blocks × KeepsShared old new × StoresPieces digest size bytes old new
  object_is_written digest size bytes new low d e =
      let middle = body_stored digest its 0 (pieces size bytes) counted in
      let once = each_once digest its (pieces size bytes) old.refs old.blocks host.sound.stored d in
      let adds = body_stores counted its counted_resolved host.sound.stored host.bodies counted_free digest size bytes low d in
      let room = room_found mode t b k old middle (ap (λ (x : Tables). x.versions) adds.is) in
      let it = is_added digest bytes (checksum_text bytes) middle new adds (record { added = once.added; grown = once.grown; named = once.named }) (e ∙ ap (with_columns mode before t b k moment (Body bytes (checksum_text bytes))) room) in
      (it.0, it.1 d, it.2, it.3)

  pub marker_is_written : (new : Tables) → new ≡ marker_written mode before after t b k moment old → IsWritten (with_entry mode before after t b k moment Marker old) new × (new.blocks ≡ old.blocks)
  marker_is_written new e =
      let has : HasBody old host.sound mode before after t b k moment Marker counted = record {
        is = refl;
        is_whole = record { resolved = counted_resolved; stored = host.sound.stored; bodies = host.bodies };
        bytes = empty_body old.refs old.blocks its (host.bodies.owned its (unnamed_bodies its old free));
      } in
      let apart = unnamed_each version_name its old.versions free.versions in (
        record {
          rows = written old host.sound mode before after t b k moment Marker counted new has apart e;
          bodies = bodies old host.sound mode before after t b k moment Marker counted new has apart e;
        },
        new_blocks old host.sound mode before after t b k moment Marker counted new has apart e,
      )

-- the counters go on before what is replaced goes, or after
pub counters_last : (mode : BucketState) (after : Counts) (replaced : Option Replaced) (t b k : Octets) (x : Tables) → with_counters mode after t (without_replaced t b k replaced x) ≡ without_replaced t b k replaced (with_counters mode after t x)
counters_last mode after None t b k x = refl
counters_last mode after (Some r) t b k x = refl

-- the writes of a put, one after another
pub object_chain : (digest : Octets → Octets) (size : ℕ) (mode : BucketState) (before after : Counts) (replaced : Option Replaced) (t b k : Octets) (at : ℕ) (bytes : Octets) (old two three new : Tables)
    → two ≡ body_stored digest (t, before.entry) 0 (pieces size bytes) old → three ≡ without_replaced t b k replaced two
    → new ≡ with_columns mode before t b k at (Body bytes (checksum_text bytes)) (with_counters mode after t three) → new ≡ object_written digest size mode before after replaced t b k at bytes old
object_chain digest size mode before after replaced t b k at bytes old two three new is1 is2 is3 =
    is3 ∙ ap (λ (x : Tables). with_columns mode before t b k at (Body bytes (checksum_text bytes)) (with_counters mode after t x)) (is2 ∙ ap (without_replaced t b k replaced) is1)
    ∙ ap (with_columns mode before t b k at (Body bytes (checksum_text bytes))) (counters_last mode after replaced t b k (body_stored digest (t, before.entry) 0 (pieces size bytes) old))

-- ---- a delete

pub left_written : (old new : Tables) (vs : List VersionRow) → Leaves [] vs old new → IsWritten (record old { versions = vs }) new × (new.blocks ≡ old.blocks)
left_written old new vs left =
    let same : new.blocks ≡ old.blocks = ap (λ (x : Tables). x.blocks) left.is in (
      record {
        rows = record { is = left.is ∙ (λ i. record old { versions = vs; refs = new.refs; blocks = sym same i }); stored = left.is_whole.stored };
        bodies = left.is_whole.bodies;
      },
      same,
    )

pub whole_host : (old : Tables) → IsHostOf old → AreWhole [] old
whole_host old host = record { resolved = host.resolved; stored = host.sound.stored; bodies = host.bodies }
