-- What was put, or copied, is what is read.
use Rattle.std.proofs.Common.{◌≡◌, ℕ, List, [], length, Option, Some, None, option_map, unwrap_or, Result, Ok, Err, refl, ap, ◌∙◌, ok_or}
use Rattle.std.specs.Result.{IfOk, result_map_both}
use Rattle.std.specs.FinMap.{get}
use Rattle.bh_types.specs.declared.id.VersionId.{VersionId}
use Rattle.bh_types.specs.declared.wanted.Wanted.TheVariants.{Current}
use Rattle.bh_types.specs.declared.refusal.Refusal.{Refusal}
use Rattle.bh_types.specs.declared.range.RangePlan.TheVariants.{Whole}
use Rattle.bh_types.specs.declared.rejection.Rejection.{Rejection}
use Rattle.bh_types.specs.Rejections.{plainly}
use Rattle.bh_types.specs.declared.refusal.Refusal.TheVariants.{NoSuchBucket, BadDigest, QuotaExceeded, CounterExhausted}
use Rattle.bh_model.specs.State.{Octets, Content, Content.Body, Entry, Bucket, State}
use Rattle.bh_types.specs.Outcomes.{◌>>=◌, require}
use Rattle.bh_types.specs.Checksums.{checksum_text}
use Rattle.bh_model.specs.Counting.{counts, with_counts, can_number, numbered, after_entry}
use Rattle.bh_model.specs.Entries.{Version, added, new_id, found_current, lookup}
use Rattle.bh_model.specs.Parts.{is_checksum}
use Rattle.bh_model.specs.Quotas.{keeps_quota}
use Rattle.bh_model.specs.Retention.{first_date}
use Rattle.bh_model.specs.Operations.{Answer, Outcome, Answer.Stored, Answer.Copied, Answer.Object, id_told, listed, with_bucket, with_content, with_new_date, with_object, with_copy, shown, stored, copied, require_quota, source_version, not_found, planned, get_object}
use Rattle.bh_model.specs.Laws.{PutIsRead, CopyIsRead}
use Rattle.bh_model.proofs.KeyLemmas.{get-inserted, tested}
use Rattle.bh_model.proofs.QuotaLemmas.{whatever}

abbrev with_found : State → Option Bucket → Result (State × Bucket) Refusal
with_found t o = ok_or (option_map (λ b. (t, b)) o) NoSuchBucket

abbrev id_of : State → Bucket → Option VersionId
id_of t b = id_told b.mode (new_id b.mode t.next_version)

module _ (moment : ℕ) (name key bytes checksum : Octets) (date : Option ℕ) where
  abbrev content : Content
  content = Body bytes checksum

  abbrev put_bucket : ℕ → Bucket → Bucket
  put_bucket next b = with_new_date key next date (with_content moment key next content b)

  abbrev put_state : State → Bucket → State
  put_state t b = with_bucket name (put_bucket t.next_version b) (with_counts (numbered b.mode (counts t)) t)

  listed-with_content : (next : ℕ) (b : Bucket) → listed key (put_bucket next b) ≡ added b.mode next moment content (listed key b)
  listed-with_content next b = ap (λ o. unwrap_or o []) (get-inserted b.objects key (added b.mode next moment content (listed key b)))

  abbrev version_in : State → Option Bucket → Result (Bucket × Version) Rejection
  version_in t o = do
    f ← plainly (with_found t o)
    v ← result_map_both (λ v. v) not_found (lookup Current (listed key f.1))
    Ok (f.1, v)

  abbrev get_in : State → Option Bucket → Result Outcome Rejection
  get_in t o = do
    f ← version_in t o
    plan ← planned None (length f.1.bytes)
    Ok (shown f.0 f.1 plan, Some t)

  abbrev version_from : Bucket → List Entry → Result (Bucket × Version) Rejection
  version_from b entries = do
    v ← result_map_both (λ v. v) not_found (found_current entries)
    Ok (b, v)

  abbrev get_from : State → Bucket → List Entry → Result Outcome Rejection
  get_from t b entries = do
    f ← version_from b entries
    plan ← planned None (length f.1.bytes)
    Ok (shown f.0 f.1 plan, Some t)

  abbrev read_answer : Option VersionId → Answer
  read_answer id = Object id (length bytes) Whole bytes checksum

  pub read : (t : State) (b : Bucket) → get_object name key Current None (Some (put_state t b)) ≡ Ok (read_answer (id_of t b), Some (put_state t b))
  read t b =
      ap (get_in (put_state t b)) (get-inserted t.buckets name (put_bucket t.next_version b))
      ∙ ap (get_from (put_state t b) (put_bucket t.next_version b)) (listed-with_content t.next_version b)

module _ (moment : ℕ) (name key : Octets) where
  abbrev IsRead : Octets → Outcome → Type 0
  IsRead bytes put = (id : Option VersionId) × (put.0 ≡ Stored id (checksum_text bytes)) × (get_object name key Current None put.1 ≡ Ok (read_answer moment name key bytes (checksum_text bytes) None id, put.1))

  abbrev put_in : Octets → Option Octets → Option (Option ℕ) → State → Option Bucket → Result Outcome Refusal
  put_in bytes given date t o = do
    f ← with_found t o
    _ ← require (is_checksum given bytes) BadDigest
    until ← first_date f.1.locked date moment
    _ ← require_quota name (with_object moment key f.0.next_version bytes f.1) f.0
    c ← after_entry f.1.mode (counts f.0)
    Ok (stored bytes f.0.next_version f.1, Some (with_bucket name (with_new_date key f.0.next_version until (with_object moment key f.0.next_version bytes f.1)) (with_counts c f.0)))

  put : (bytes : Octets) (given : Option Octets) (date : Option (Option ℕ)) (t : State) (o : Option Bucket) → IfOk (put_in bytes given date t o) (IsRead bytes)
  put bytes given date t None = tt
  put bytes given date t (Some b) =
      tested (is_checksum given bytes) tt BadDigest _ (IsRead bytes)
      (λ _. whatever (first_date b.locked date moment) _ (IsRead bytes)
      (λ until. tested (keeps_quota t (with_bucket name (with_object moment key t.next_version bytes b) t)) tt QuotaExceeded _ (IsRead bytes)
      (λ _. tested (can_number b.mode (counts t)) (numbered b.mode (counts t)) CounterExhausted _ (IsRead bytes) (λ _. (id_of t b, refl, read moment name key bytes (checksum_text bytes) until t b)))))

  abbrev IsCopied : Result Version Refusal → Outcome → Type 0
  IsCopied source copy =
      (v : Version) × (id : Option VersionId) × (source ≡ Ok v) × (copy.0 ≡ Copied id moment v.checksum)
      × (get_object name key Current None copy.1 ≡ Ok (read_answer moment name key v.bytes v.checksum None id, copy.1))

  abbrev copy_in : Result Version Refusal → Option (Option ℕ) → State → Option Bucket → Result Outcome Refusal
  copy_in source date t o = do
    f ← with_found t o
    v ← source
    until ← first_date f.1.locked date moment
    _ ← require_quota name (with_copy moment key f.0.next_version v f.1) f.0
    c ← after_entry f.1.mode (counts f.0)
    Ok (copied moment v f.0.next_version f.1, Some (with_bucket name (with_new_date key f.0.next_version until (with_copy moment key f.0.next_version v f.1)) (with_counts c f.0)))

  copy : (source : Result Version Refusal) (date : Option (Option ℕ)) (t : State) (o : Option Bucket) → IfOk (copy_in source date t o) (IsCopied source)
  copy source date t None = tt
  copy (Err refusal) date t (Some b) = tt
  copy (Ok v) date t (Some b) =
      whatever (first_date b.locked date moment) _ (IsCopied (Ok v))
      (λ until. tested (keeps_quota t (with_bucket name (with_copy moment key t.next_version v b) t)) tt QuotaExceeded _ (IsCopied (Ok v))
      (λ _. tested (can_number b.mode (counts t)) (numbered b.mode (counts t)) CounterExhausted _ (IsCopied (Ok v)) (λ _. (v, id_of t b, refl, refl, read moment name key v.bytes v.checksum until t b))))

pub put_is_read : PutIsRead
put_is_read moment name key bytes given date None = tt
put_is_read moment name key bytes given date (Some t) = put moment name key bytes given date t (get t.buckets name)

pub copy_is_read : CopyIsRead
copy_is_read moment name key source_name source_key wanted date None = tt
copy_is_read moment name key source_name source_key wanted date (Some t) =
    copy moment name key (source_version source_name source_key wanted (Some t)) date t (get t.buckets name)
