-- UploadPart whose body comes in pieces: where it is refused.
use Rattle.std.proofs.Common.{◌≡◌, ◌≤◌, ℕ, length, Bool, true, false, true≢false, is_ok, Option, Result, Ok, Err, refl, sym, ap, subst, ◌∙◌}
use Rattle.std.specs.Result.{result_map_both}
use Rattle.std.specs.Prelude.{if◌then◌else◌}
use Rattle.bh_types.specs.declared.bucket_state.BucketState.{BucketState}
use Rattle.bh_types.specs.declared.id.UploadId.{UploadId}
use Rattle.bh_types.specs.declared.refusal.Refusal.{Refusal}
use Rattle.bh_types.specs.declared.refusal.Refusal.TheVariants.{BadDigest}
use Rattle.bh_model.specs.Parts.{is_checksum}
use Rattle.bh_model.specs.State.{Octets, State}
use Rattle.bh_model.specs.Uploads.{FoundUpload, find_upload, upload_part}
use Rattle.bh_tables.specs.Typed.{Tables}
use Rattle.bh_view.specs.Blocks.{AreDigests}
use Rattle.bh_view.specs.Sound.{IsSound}
use Rattle.bh_view.specs.View.{view, latest_of}
use Rattle.bh_objects.proofs.Written.{IsHostOf}
use Rattle.bh_uploads.specs.Found.{part_bytes_in, part_entry_in, replaced_body, upload_in}
use Rattle.bh_uploads.specs.Writes.{part_written}
use Rattle.bh_uploads.proofs.PartSteps.{PutsPart, puts, part_refused}
use Rattle.bh_uploads.proofs.Uploads.{has_upload}

-- where the checksum that is given is another
pub part_bad : (name key : Octets) (id : Option UploadId) (mode : BucketState) (n k at : ℕ) (bytes : Octets) (given : Option Octets) (v : Option State) → upload_in name key id v ≡ Ok (mode, n) → is_checksum given bytes ≡ false → upload_part at name key id k bytes given v ≡ Err BadDigest
part_bad name key id mode n k at bytes given v found wrong = let h = has_upload name key mode n id v found in rw (h.found, wrong) refl

-- where there is no such upload
pub part_nowhere : (name key : Octets) (id : Option UploadId) (k at : ℕ) (bytes : Octets) (given : Option Octets) (v : Option State) (x : Refusal) → upload_in name key id v ≡ Err x → upload_part at name key id k bytes given v ≡ Err x
part_nowhere name key id k at bytes given v x e = go (find_upload name key id v) refl e
  where
    refusal_or : {X : Type 0} → Result X Refusal → Refusal → Refusal
    refusal_or (Ok y) other = other
    refusal_or (Err y) other = y

    go : (o : Result FoundUpload Refusal) → find_upload name key id v ≡ o → result_map_both {U = BucketState × ℕ} (λ f. (f.bucket.mode, f.number)) (λ refusal. refusal) o ≡ Err x → upload_part at name key id k bytes given v ≡ Err x
    go (Ok f) is e = absurd (true≢false (ap is_ok e))
    go (Err y) is e = rw is (ap (λ (r : Result (BucketState × ℕ) Refusal). Err (refusal_or r x)) e)

-- where its number is refused, that comes after the checksum
pub part_unfit : (old : Tables) → IsSound old → (t name key : Octets) (id : Option UploadId) (mode : BucketState) (n k at : ℕ) (bytes : Octets) (given : Option Octets) → upload_in name key id (view old t) ≡ Ok (mode, n)
    → (x : Refusal) → part_entry_in (part_bytes_in t n k old) (length bytes) (view old t) ≡ Err x → (r : Refusal) → r ≡ (if is_checksum given bytes then x else BadDigest) → upload_part at name key id k bytes given (view old t) ≡ Err r
part_unfit old sound t name key id mode n k at bytes given found x e r is = go (is_checksum given bytes) refl is
  where
    go : (right : Bool) → is_checksum given bytes ≡ right → r ≡ (if right then x else BadDigest) → upload_part at name key id k bytes given (view old t) ≡ Err r
    go true h is = part_refused old sound t name key id mode n k at bytes given h found x e ∙ ap (λ (y : Refusal). Err y) (sym is)
    go false h is = part_bad name key id mode n k at bytes given (view old t) found h ∙ ap (λ (y : Refusal). Err y) (sym is)

-- where it was stored: what was asked for its number, and then what was written
pub part_puts : (old mid new : Tables) → IsHostOf old → (t name key : Octets) (id : Option UploadId) (mode : BucketState) (n : ℕ) → upload_in name key id (view old t) ≡ Ok (mode, n) → (k at : ℕ) (bytes : Octets) (given : Option Octets)
    → 1 ≤ k → k ≤ 10000 → at ≤ latest_of old → is_checksum given bytes ≡ true → (digest : Octets → Octets) (size : ℕ) → 1 ≤ size → AreDigests digest old.blocks → (entry asked : ℕ) (replaced : Option ℕ)
    → part_entry_in (part_bytes_in t n k old) asked (view old t) ≡ Ok entry → asked ≡ length bytes → mid ≡ old → replaced ≡ replaced_body t n k old → new ≡ part_written digest size t n k bytes at entry replaced mid
    → PutsPart digest size t name key id k at bytes given old new
part_puts old mid new host t name key id mode n found k at bytes given low high early right digest size some digests entry asked replaced is count same goes written =
    puts old new host t name key id mode n found k at bytes given low high early right digest size some digests entry
    (subst (λ c. part_entry_in (part_bytes_in t n k old) c (view old t) ≡ Ok entry) count is)
    (written ∙ (λ i. part_written digest size t n k bytes at entry (goes i) (same i)))
