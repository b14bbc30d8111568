-- UploadPart: what was read, and the rows and the body that were written, are the machine's step.
use Rattle.std.proofs.Common.{◌≡◌, ℕ, ◌+◌, ◌≤◌, Bool, true, false, ◌&&◌, length, is_ok, true≢false, List, [], ◌∷◌, ◌++◌, map, filter, find, cond, not, Option, Some, None, option_map, Result, Ok, Err, refl, sym, ap, ◌∙◌, subst}
use Rattle.std.specs.List.{AllByRecursion, list_any}
use Rattle.std.specs.Option.{option_map_or}
use Rattle.std.proofs.lemmas.List.{map-append}
use Rattle.sqlite_keyed.specs.Lists.{delete_where, update_where}
use Rattle.sqlite_keyed.proofs.ListLemmas.{all-filter}
use Rattle.sqlite_typed.specs.Tests.{bytes_eq}
use Rattle.bh_types.specs.Checksums.{checksum_text}
use Rattle.bh_types.specs.Counts.{Counts}
use Rattle.bh_types.specs.declared.bucket_state.BucketState.{BucketState}
use Rattle.bh_types.specs.declared.id.UploadId.{UploadId}
use Rattle.bh_types.specs.declared.refusal.Refusal.{Refusal}
use Rattle.bh_types.specs.declared.refusal.Refusal.TheVariants.{BadDigest}
use Rattle.bh_types.specs.Outcomes.{◌>>=◌, require}
use Rattle.bh_model.specs.Counting.{counts, with_counts, can_give}
use Rattle.bh_model.specs.State.{Octets, State}
use Rattle.bh_model.specs.Operations.{Answer, Outcome, PartStored, with_bucket, require_quota}
use Rattle.bh_model.specs.Parts.{is_checksum}
use Rattle.bh_model.specs.Uploads.{FoundUpload, after_part, with_stored, upload_part}
use Rattle.bh_tables.specs.Bodies.{Name, same_name, version_name, part_name, part_columns_of, resolved_part, resolved_part_again}
use Rattle.bh_tables.specs.Typed.{PartRow, RefRow, BlockRow, Tables, rebodied}
use Rattle.bh_tables.specs.Shown.{is_tenant, is_part, is_of_body}
use Rattle.bh_view.specs.Blocks.{whole, AreDigests}
use Rattle.bh_view.specs.Bodies.{HasBodies, IsResolved, IsUnnamed, AreWhole, StoresPieces, pieces, body_stored, body_dropped}
use Rattle.bh_view.specs.Grouped.{same_number}
use Rattle.bh_view.specs.Put.{part_row}
use Rattle.bh_view.specs.Sound.{IsSound}
use Rattle.bh_view.specs.View.{rows_of, of_upload, view, latest_of, limits_in}
use Rattle.bh_view.proofs.BodyChanges.{rows_stay, body_stores}
use Rattle.bh_view.proofs.BodyNames.{next_unnamed, taken_unnamed}
use Rattle.bh_view.proofs.FactLemmas.{all_first, none_first}
use Rattle.bh_view.proofs.FilterLemmas.{single, first_passes, delete_none, filter_both}
use Rattle.bh_view.proofs.FindLemmas.{first_find}
use Rattle.bh_view.proofs.NameLemmas.{name_swap, unnamed_each}
use Rattle.bh_view.proofs.OwnLemmas.{within_own}
use Rattle.bh_view.proofs.PartChanges.{part_put}
use Rattle.bh_view.proofs.PieceLemmas.{each_once}
use Rattle.bh_view.proofs.QuotaLemmas.{part_row_size}
use Rattle.bh_view.proofs.SetLemmas.{set_other}
use Rattle.bh_view.proofs.SharedLemmas.{names_block, named_still, shared_for}
use Rattle.bh_view.proofs.WholeLemmas.{refs_dropped}
use Rattle.bh_view.proofs.WriteLemmas.{same_resolved, same_unnamed, added_bytes, added_whole, parts_taken, body_goes, gone_whole, part_added}
use Rattle.std.proofs.lemmas.Bool.{and_parts}
use Rattle.bh_storage.specs.Calls.{GivesStep, Carries, Decides}
use Rattle.bh_storage.specs.declared.error.StepError.{StepError}
use Rattle.bh_storage.specs.declared.error.StepError.TheVariants.{Refused, Failed}
use Rattle.bh_objects.proofs.Written.{HasRowsOf, becomes_so, IsHostOf}
use Rattle.bh_objects.specs.Found.{room_in}
use Rattle.bh_uploads.specs.Found.{next_entry_in, part_bytes_in, replaced_body, part_entry_in, upload_in}
use Rattle.bh_uploads.specs.Writes.{with_next_entry, without_part, without_replaced, with_part_row, part_placed, without_body_of, part_written}
use Rattle.bh_uploads.proofs.PartQuota.{part_asked}
use Rattle.bh_uploads.proofs.Uploads.{HasUpload, has_upload, has_entry_number}

-- ---- the part of a number goes, with its body

-- the tables without it: all other rows stay, and so do the bytes of a body that no part has, and what it names
pub record LeavesPart (at : Name) (parts : List PartRow) (x y : Tables) : Type 0 where
  pub is : y ≡ record x { parts = parts; refs = y.refs }
  pub is_whole : AreWhole (at ∷ []) y
  pub bytes : whole y.refs y.blocks at ≡ whole x.refs x.blocks at
  pub named : (block : Name) → list_any (names_block at block) x.refs ≡ true → list_any (names_block at block) y.refs ≡ true

module _ (old : Tables) (sound : IsSound old) (t : Octets) (n k : ℕ) (at : Name) (free : IsUnnamed at old) (x : Tables) (w : AreWhole (at ∷ []) x) (versions : x.versions ≡ old.versions) (parts : x.parts ≡ old.parts) where
  abbrev test : PartRow → Bool
  test = is_part t n k

  abbrev Gone : Tables → Type 0
  Gone = LeavesPart at (delete_where test x.parts) x

  -- no two parts of an upload have one number
  alone : (p : PartRow) → find test old.parts ≡ Some p → filter test old.parts ≡ p ∷ []
  alone p there =
      let one : filter (λ (q : PartRow). same_number q.part k) (of_upload n (rows_of t old).parts) ≡ filter test old.parts =
      ap (filter (λ (q : PartRow). same_number q.part k)) (filter_both (λ (q : PartRow). bytes_eq q.tenant t) (λ q. same_number q.upload n) old.parts)
      ∙ filter_both (λ (q : PartRow). bytes_eq q.tenant t && same_number q.upload n) (λ q. same_number q.part k) old.parts ∙ (λ i. filter (λ (q : PartRow). and_assoc (bytes_eq q.tenant t) (same_number q.upload n) (same_number q.part k) i) old.parts) in
      single _ (subst (λ (l : List PartRow). length l ≤ 1) one ((sound.tenants t).parts.one n k)) p (first_find test old.parts ∙ there)
    where
      and_assoc : (a b c : Bool) → ((a && b) && c) ≡ (a && (b && c))
      and_assoc true b c = refl
      and_assoc false b c = refl

  part_gone : (p : PartRow) → find test old.parts ≡ Some p → Gone (without_part t n k p.body x)
  part_gone p there =
      let one = alone p there in
      let passes : test p ≡ true = first_passes test old.parts p (first_find test old.parts ∙ there) in
      let its : p.tenant ≡ t = within_own (λ (q : PartRow). q.tenant) t p (and_parts _ _ passes).0 in
      let name : Name = (t, p.body) in
      let less : Tables = record x { parts = delete_where test x.parts } in
      let among : AllByRecursion (λ (q : PartRow). test q ≡ true → IsUnnamed (t, q.body) (record old { parts = delete_where test old.parts })) (filter test old.parts) = taken_at in
      let none_old : IsUnnamed name (record old { parts = delete_where test old.parts }) = (subst (AllByRecursion (λ (q : PartRow). test q ≡ true → IsUnnamed (t, q.body) (record old { parts = delete_where test old.parts }))) one among).0 passes in
      let none : IsUnnamed name less = record { versions = ap (λ l. list_any (same_name name) (map version_name l)) versions ∙ none_old.versions; parts = ap (λ l. list_any (same_name name) (map part_name (delete_where test l))) parts ∙ none_old.parts } in
      let taken : AreWhole (name ∷ at ∷ []) less = subst (λ l. AreWhole (l ++ at ∷ []) less) (ap (λ l. map part_name (filter test l)) parts ∙ ap (map part_name) one ∙ ap (λ z. (z, p.body) ∷ []) its) (parts_taken x test (at ∷ []) w) in
      let goes = body_goes less name none taken.resolved in
      let apart : same_name name at ≡ false = name_swap name at ∙ ap (λ z. same_name at (z, p.body)) (sym its) ∙ all_first (λ (q : PartRow). same_name at (part_name q) ≡ false) (filter test old.parts) p (first_find test old.parts ∙ there) (all-filter _ test old.parts (unnamed_each part_name at old.parts free.parts)) in
      record {
        is = goes;
        is_whole = gone_whole less name none (at ∷ []) taken;
        bytes = (λ i. refs_dropped x.refs x.blocks name i at) ∙ set_other name (whole x.refs x.blocks) [] at apart;
        named = λ block. named_still at name block x.refs (name_swap at name ∙ apart);
      }
    where
      taken_at : AllByRecursion (λ (q : PartRow). test q ≡ true → IsUnnamed (t, q.body) (record old { parts = delete_where test old.parts })) (filter test old.parts)
      taken_at = subst (AllByRecursion (λ (q : PartRow). test q ≡ true → IsUnnamed (t, q.body) (record old { parts = delete_where test old.parts }))) (filter_both (λ (q : PartRow). bytes_eq q.tenant t) (λ q. same_number q.upload n && same_number q.part k) old.parts)
          (all-filter _ (λ (q : PartRow). same_number q.upload n && same_number q.part k) (rows_of t old).parts (taken_unnamed old t sound test))

  -- the part that was found before
  pub replaced_gone : Gone (without_replaced t n k (replaced_body t n k old) x)
  replaced_gone = go (find test old.parts) refl
    where
      go : (o : Option PartRow) → find test old.parts ≡ o → Gone (without_replaced t n k (option_map (λ (p : PartRow). p.body) o) x)
      go None none = record { is = ap (λ l. record x { parts = l }) (sym (delete_none test x.parts (none_first _ (first_find test x.parts ∙ ap (find test) parts ∙ none)))); is_whole = w; bytes = refl; named = λ block h. h }
      go (Some p) there = part_gone p there

-- ---- the part is asked for

module _ (old : Tables) (sound : IsSound old) (t name key : Octets) (id : Option UploadId) (mode : BucketState) (n k at : ℕ) (bytes : Octets) (given : Option Octets) (right : is_checksum given bytes ≡ true) where
  abbrev checked_step : FoundUpload → Bool → Result Outcome Refusal
  checked_step f right = do
    _ ← require right BadDigest
    _ ← require_quota name (with_stored f k (record { bytes = bytes; moment = at })) f.tenant
    c ← after_part (counts f.tenant)
    Ok (PartStored (checksum_text bytes), Some (with_bucket name (with_stored f k (record { bytes = bytes; moment = at })) (with_counts c f.tenant)))

  abbrev found_step : Result FoundUpload Refusal → Result Outcome Refusal
  found_step r = r >>= (λ f. checked_step f (is_checksum given bytes))

  -- what is told once it has its number, and the state then
  abbrev stored_under : HasUpload name key id (view old t) mode n → ℕ → Result Outcome Refusal
  stored_under h m = Ok (PartStored (checksum_text bytes), Some (with_bucket name (with_stored (record { tenant = h.state; bucket = h.bucket; number = n; upload = h.upload }) k (record { bytes = bytes; moment = at })) (with_counts (record (counts h.state) { entry = m + 1 }) h.state)))

  -- the quota's room, a number, and then it is stored
  part_shape : (h : HasUpload name key id (view old t) mode n) → upload_part at name key id k bytes given (view old t) ≡ ◌>>=◌ {B = Outcome} (part_entry_in (part_bytes_in t n k old) (length bytes) (view old t)) (stored_under h)
  part_shape h =
      let s = h.state in
      let f : FoundUpload = record { tenant = s; bucket = h.bucket; number = n; upload = h.upload } in
      let next : Counts → Result Outcome Refusal = λ c. Ok (PartStored (checksum_text bytes), Some (with_bucket name (with_stored f k (record { bytes = bytes; moment = at })) (with_counts c s))) in
      let asks : checked_step f (is_checksum given bytes) ≡ ◌>>=◌ {B = Outcome} (require_quota name (with_stored f k (record { bytes = bytes; moment = at })) s) (λ _. ◌>>=◌ {B = Outcome} (after_part (counts s)) next) = rw right refl in
      ap found_step h.found ∙ asks ∙ part_asked name f h.there h.begun k (record { bytes = bytes; moment = at }) next
      ∙ ap (λ r. ◌>>=◌ {B = Outcome} (part_entry_in r (length bytes) (Some s)) (stored_under h)) (part_row_size old t sound name s h.added h.bucket h.there n k h.upload h.begun)
      ∙ ap (λ (v : Option State). ◌>>=◌ {B = Outcome} (part_entry_in (part_bytes_in t n k old) (length bytes) v) (stored_under h)) (sym h.added)

  pub part_refused : upload_in name key id (view old t) ≡ Ok (mode, n) → (x : Refusal) → part_entry_in (part_bytes_in t n k old) (length bytes) (view old t) ≡ Err x → upload_part at name key id k bytes given (view old t) ≡ Err x
  part_refused found x e =
      let h = has_upload name key mode n id (view old t) found in
      part_shape h ∙ ap (λ r. ◌>>=◌ {B = Outcome} r (stored_under h)) e

-- the question that was answered of these tables says so of those before
pub part_failed : {X Y : Type 0} (entry : X → ℕ) (told : Y → Answer) (old middle new : Tables) (sound : IsSound old) (t name key : Octets) (id : Option UploadId) (mode : BucketState) (n k at : ℕ) (bytes : Octets) (given : Option Octets)
    → is_checksum given bytes ≡ true → upload_in name key id (view old t) ≡ Ok (mode, n) → middle ≡ old → (error : StepError Refusal)
    → Decides entry (part_entry_in (part_bytes_in t n k middle) (length bytes) (view middle t)) middle new (Err error) → Carries told t (upload_part at name key id k bytes given) old new (Err error)
part_failed entry told old middle new sound t name key id mode n k at bytes given right found same (Refused x) d =
    (part_refused old sound t name key id mode n k at bytes given right found x (ap (λ (y : Tables). part_entry_in (part_bytes_in t n k y) (length bytes) (view y t)) (sym same) ∙ d.0), d.1 ∙ same)
part_failed entry told old middle new sound t name key id mode n k at bytes given right found same (Failed trouble) d = tt

-- a number that was read, where the quota had room
entry_read : (replaced added : ℕ) (v : Option State) (entry : ℕ) → part_entry_in replaced added v ≡ Ok entry → next_entry_in v ≡ Ok entry
entry_read replaced added v entry = go (room_in replaced added v)
  where
    go : (r : Result (Unit {0}) Refusal) → ◌>>=◌ {B = ℕ} r (λ _. next_entry_in v) ≡ Ok entry → next_entry_in v ≡ Ok entry
    go (Ok u) e = e
    go (Err q) e = absurd (true≢false (sym (ap is_ok e)))

-- ---- the part is written

-- what is given, and what stays of the tables
pub record PutsPart (digest : Octets → Octets) (size : ℕ) (t name key : Octets) (id : Option UploadId) (k at : ℕ) (bytes : Octets) (given : Option Octets) (old new : Tables) : Type 0 where
  pub step : GivesStep t (upload_part at name key id k bytes given) (PartStored (checksum_text bytes)) old new
  pub sound : IsSound new
  pub limits : limits_in new ≡ limits_in old
  pub bodies : HasBodies new
  pub digests : AreDigests digest new.blocks
  pub blocks : StoresPieces digest size bytes old new

module _ (old new : Tables) (host : IsHostOf old) (t name key : Octets) (id : Option UploadId) (mode : BucketState) (n : ℕ) (found : upload_in name key id (view old t) ≡ Ok (mode, n)) (k at : ℕ) (bytes : Octets) (given : Option Octets)
    (low : 1 ≤ k) (high : k ≤ 10000) (early : at ≤ latest_of old) (right : is_checksum given bytes ≡ true) (digest : Octets → Octets) (size : ℕ) (some : 1 ≤ size) (digests : AreDigests digest old.blocks) where
  puts_at : (h : HasUpload name key id (view old t) mode n) → part_entry_in (part_bytes_in t n k old) (length bytes) (view old t) ≡ Ok h.state.next_entry → can_give h.state.next_entry ≡ true → new ≡ part_written digest size t n k bytes at h.state.next_entry (replaced_body t n k old) old → PutsPart digest size t name key id k at bytes given old new
  puts_at h read room e =
      let s = h.state in
      let entry = s.next_entry in
      let its : Name = (t, entry) in
      let row = part_row t n k bytes at entry in
      let counted = with_next_entry t (entry + 1) old in
      let free = next_unnamed old t s host.sound h.added in
      let counted_free = same_unnamed old counted refl refl refl refl its free in
      let counted_resolved = same_resolved old counted refl refl refl refl host.resolved in
      let middle = body_stored digest its 0 (pieces size bytes) counted in
      let adds = body_stores counted its counted_resolved host.sound.stored host.bodies counted_free digest size bytes some digests in
      let middle_resolved : IsResolved middle = subst IsResolved (sym adds.is) (rows_stay counted its counted_resolved host.sound.stored host.bodies counted_free middle.refs middle.blocks bytes adds.bytes) in
      let same_parts : middle.parts ≡ old.parts = ap (λ (x : Tables). x.parts) adds.is in
      let left = replaced_gone old host.sound t n k its free middle (added_whole digest its bytes counted middle adds middle_resolved) (ap (λ (x : Tables). x.versions) adds.is) same_parts in
      let wide = without_replaced t n k (replaced_body t n k old) middle in
      let its_bytes : whole wide.refs wide.blocks its ≡ bytes = left.bytes ∙ added_bytes digest its bytes counted middle adds in
      let last = with_part_row row wide in
      let added : last ≡ record wide { parts = wide.parts ++ row ∷ [] } = ap (λ (l : Octets). record wide { parts = wide.parts ++ record row { bytes = l } ∷ [] }) its_bytes in
      let target : Tables = record old { tenants = update_where (is_tenant t) (λ r. record r { next_entry = entry + 1 }) old.tenants; parts = delete_where (is_part t n k) old.parts ++ row ∷ [] } in
      let blocks_same : wide.blocks ≡ middle.blocks = ap (λ (x : Tables). x.blocks) left.is in
      let wide_is : wide ≡ record counted { parts = delete_where (is_part t n k) old.parts; refs = wide.refs; blocks = wide.blocks } =
      left.is ∙ (λ i. record (adds.is i) { parts = delete_where (is_part t n k) (same_parts i); refs = wide.refs; blocks = sym blocks_same i }) in
      let rows : record wide { parts = wide.parts ++ row ∷ [] } ≡ record target { refs = wide.refs; blocks = wide.blocks } = (λ i. record (wide_is i) { parts = (wide_is i).parts ++ row ∷ []; refs = wide.refs; blocks = wide.blocks }) in
      let whole_now : AreWhole [] (record wide { parts = wide.parts ++ row ∷ [] }) = part_added wide row [] (sym its_bytes) left.is_whole in
      let is = e ∙ added in
      let change = becomes_so t _ old target new (part_put old target t s host.sound h.added name h.bucket h.there n h.upload h.begun k bytes at low high early room refl)
      (subst (HasRowsOf target) (sym is) (record { is = rows; stored = left.is_whole.stored })) in
      let once = each_once digest its (pieces size bytes) old.refs old.blocks host.sound.stored digests in
      let stored : new.blocks ≡ middle.blocks = ap (λ (x : Tables). x.blocks) is ∙ blocks_same in
      let shared = shared_for its old middle new (record { added = once.added; grown = once.grown; named = once.named }) stored
      (λ block named. ap (λ (x : Tables). list_any (names_block its block) x.refs) is ∙ left.named block named) in
      let gives : upload_part at name key id k bytes given (view old t) ≡ Ok (PartStored (checksum_text bytes), view new t) =
      part_shape old host.sound t name key id mode n k at bytes given right h ∙ ap (λ r. ◌>>=◌ {B = Outcome} r (stored_under old host.sound t name key id mode n k at bytes given right h)) read
      ∙ ap (λ (v : Option State). Ok (PartStored (checksum_text bytes), v)) (sym change.shown) in
      record {
        step = record { gives = gives; others = change.others; latest = change.latest; shared = shared };
        sound = change.sound;
        limits = change.limits;
        bodies = subst HasBodies (sym is) whole_now.bodies;
        digests = subst (λ (x : Tables). AreDigests digest x.blocks) (sym is) (subst (AreDigests digest) (sym blocks_same) (adds.digests digests));
        blocks = stored;
      }

  pub puts : (entry : ℕ) → part_entry_in (part_bytes_in t n k old) (length bytes) (view old t) ≡ Ok entry → new ≡ part_written digest size t n k bytes at entry (replaced_body t n k old) old → PutsPart digest size t name key id k at bytes given old new
  puts entry read e =
      let h = has_upload name key mode n id (view old t) found in
      let number = has_entry_number (view old t) h.state entry h.added (entry_read (part_bytes_in t n k old) (length bytes) (view old t) entry read) in
      puts_at h (read ∙ ap (λ m. Ok m) (sym number.1)) number.0 (e ∙ ap (λ m. part_written digest size t n k bytes at m (replaced_body t n k old) old) (sym number.1))

-- ---- the writes of a part, one after another

-- other references and blocks change no size
pub part_size_again : (t : Octets) (n k : ℕ) (refs : List RefRow) (blocks : List BlockRow) (x : Tables) → part_bytes_in t n k (rebodied x refs blocks) ≡ part_bytes_in t n k x
part_size_again t n k refs blocks x = go x.parts
  where
    go : (ps : List PartRow) → option_map_or (λ (p : PartRow). p.size) (find (is_part t n k) (map (resolved_part_again refs blocks) ps)) 0 ≡ option_map_or (λ (p : PartRow). p.size) (find (is_part t n k) ps) 0
    go [] = refl
    go (p ∷ ps) = elim (is_part t n k p) as (λ s. option_map_or (λ (p : PartRow). p.size) (cond s (Some (resolved_part_again refs blocks p)) (find (is_part t n k) (map (resolved_part_again refs blocks) ps))) 0 ≡ option_map_or (λ (p : PartRow). p.size) (cond s (Some p) (find (is_part t n k) ps)) 0) [
      | true ↦ refl
      | false ↦ go ps
    ]

-- where no part has the number, none goes
none_goes : (t : Octets) (n k : ℕ) (refs : List RefRow) (blocks : List BlockRow) (ps : List PartRow) → None ≡ option_map (λ (p : PartRow). p.body) (find (is_part t n k) ps) → delete_where (is_part t n k) (map (resolved_part_again refs blocks) ps) ≡ map (resolved_part_again refs blocks) ps
none_goes t n k refs blocks [] none = refl
none_goes t n k refs blocks (p ∷ ps) none = go (is_part t n k p) none (none_goes t n k refs blocks ps)
  where
    go : (b : Bool) → None ≡ option_map (λ (p : PartRow). p.body) (cond b (Some p) (find (is_part t n k) ps)) → (None ≡ option_map (λ (p : PartRow). p.body) (find (is_part t n k) ps) → delete_where (is_part t n k) (map (resolved_part_again refs blocks) ps) ≡ map (resolved_part_again refs blocks) ps)
        → cond (not b) (resolved_part_again refs blocks p ∷ delete_where (is_part t n k) (map (resolved_part_again refs blocks) ps)) (delete_where (is_part t n k) (map (resolved_part_again refs blocks) ps)) ≡ resolved_part_again refs blocks p ∷ map (resolved_part_again refs blocks) ps
    go true none rest = absurd (cc)
    go false none rest = ap (λ l. resolved_part_again refs blocks p ∷ l) (rest none)

-- a body goes once the row is there, or before it comes
row_then_drop : (q : Name) (p : PartRow) (x : Tables) → body_dropped q (with_part_row p x) ≡ with_part_row p (body_dropped q x)
row_then_drop q p x =
    let refs = delete_where (is_of_body q) x.refs in
    ap (λ ps. record (body_dropped q x) { parts = ps }) (map-append (resolved_part_again refs x.blocks) x.parts (resolved_part x.refs x.blocks (part_columns_of p) ∷ []))

pub part_chain : (digest : Octets → Octets) (size : ℕ) (t : Octets) (n k : ℕ) (bytes : Octets) (at entry : ℕ) (replaced : Option ℕ) (old two three new : Tables) → replaced ≡ replaced_body t n k old
    → two ≡ body_stored digest (t, entry) 0 (pieces size bytes) old → three ≡ part_placed (part_columns_of (part_row t n k bytes at entry)) (entry + 1) two → new ≡ without_body_of t replaced three → new ≡ part_written digest size t n k bytes at entry replaced old
part_chain digest size t n k bytes at entry replaced old two three new its a b c =
    c ∙ ap (without_body_of t replaced) (b ∙ ap (part_placed (part_columns_of row) (entry + 1)) a) ∙ go replaced its
  where
    row : PartRow
    row = part_row t n k bytes at entry

    stored : Tables
    stored = body_stored digest (t, entry) 0 (pieces size bytes) (with_next_entry t (entry + 1) old)

    left : Tables
    left = record stored { parts = delete_where (is_part t n k) stored.parts }

    go : (o : Option ℕ) → o ≡ replaced_body t n k old → without_body_of t o (with_part_row row left) ≡ with_part_row row (without_replaced t n k o stored)
    go None e = ap (λ ps. with_part_row row (record stored { parts = ps })) (none_goes t n k stored.refs stored.blocks old.parts e)
    go (Some body) e = row_then_drop (t, body) row left
