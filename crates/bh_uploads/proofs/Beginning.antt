-- CreateMultipartUpload: what was read, and the rows that were written, are the machine's step.
use Rattle.std.proofs.Common.{◌≡◌, ℕ, ◌≤◌, true, Option, option_map, Ok, Err, refl, sym, ap, ◌∙◌}
use Rattle.bh_types.specs.Moments.{abort_moment}
use Rattle.bh_types.specs.declared.refusal.Refusal.{Refusal}
use Rattle.bh_types.specs.declared.refusal.Refusal.TheVariants.{CounterExhausted}
use Rattle.bh_model.specs.Counting.{can_give}
use Rattle.bh_model.specs.State.{Octets}
use Rattle.bh_model.specs.Operations.{Answer, Begun}
use Rattle.bh_model.specs.Uploads.{create_upload}
use Rattle.bh_tables.specs.Typed.{Tables}
use Rattle.bh_view.specs.Bodies.{HasBodies}
use Rattle.bh_view.specs.Sound.{IsSound}
use Rattle.bh_view.specs.View.{view, latest_of, limits_in}
use Rattle.bh_view.proofs.SharedLemmas.{shared_same}
use Rattle.bh_view.proofs.UploadChanges.{upload_begun}
use Rattle.bh_view.proofs.WriteLemmas.{same_bodies}
use Rattle.bh_storage.specs.Calls.{GivesStep, Carries, Decides}
use Rattle.bh_storage.specs.declared.error.StepError.{StepError}
use Rattle.bh_storage.specs.declared.error.StepError.TheVariants.{Refused, Failed}
use Rattle.bh_objects.specs.Found.{IsKeyText}
use Rattle.bh_uploads.specs.Found.{rule_in, next_upload_in}
use Rattle.bh_uploads.proofs.Rules.{HasRule, has_rule, no_bucket}
use Rattle.bh_uploads.specs.Writes.{upload_written}
use Rattle.bh_uploads.proofs.Uploads.{has_upload_number, no_upload_number}

-- what is given, and what stays of the tables
abbrev pub Begins : Tables → Tables → Octets → Octets → Octets → ℕ → Option ℕ → ℕ → Type 0
Begins old new t b k at days n = GivesStep t (create_upload at b k) (Begun b k (record { number = n }) (option_map (abort_moment at) days)) old new × IsSound new × (limits_in new ≡ limits_in old)

module _ (old new : Tables) (t b k : Octets) (at : ℕ) (sound : IsSound old) (early : at ≤ latest_of old) (key : IsKeyText k) (days : Option ℕ) (found : rule_in b (view old t) ≡ Ok days) where
  goes : (h : HasRule b (view old t) days) (n : ℕ) → h.state.next_upload ≡ n → can_give h.state.next_upload ≡ true → new ≡ upload_written t b k at n old → Begins old new t b k at days n
  goes h n number room e =
      let s = h.state in
      let change = upload_begun old new t s sound h.added b h.bucket h.there k at key.key key.valid early room (e ∙ ap (λ m. upload_written t b k at m old) (sym number)) in
      let gives : create_upload at b k (view old t) ≡ Ok (Begun b k (record { number = s.next_upload }) (option_map (abort_moment at) days), view new t) = rw (h.added, change.shown, h.there, room, h.its) refl in
      (record { gives = gives ∙ ap (λ m. Ok (Begun b k (record { number = m }) (option_map (abort_moment at) days), view new t)) number; others = change.others; latest = change.latest; shared = shared_same old new (ap (λ (x : Tables). x.blocks) e) }, change.sound, change.limits)

  pub begins : (n : ℕ) → next_upload_in (view old t) ≡ Ok n → new ≡ upload_written t b k at n old → Begins old new t b k at days n
  begins n read e =
      let h = has_rule b (view old t) days found in
      let number = has_upload_number (view old t) h.state n h.added read in
      goes h n number.1 number.0 e

-- bodies stay
pub begun_bodies : (old new : Tables) (t b k : Octets) (at n : ℕ) → new ≡ upload_written t b k at n old → HasBodies old → HasBodies new
begun_bodies old new t b k at n e bodies = same_bodies old new (ap (λ (x : Tables). x.versions) e) (ap (λ (x : Tables). x.parts) e) (ap (λ (x : Tables). x.refs) e) (ap (λ (x : Tables). x.blocks) e) bodies

-- ---- refusals

module _ {Y : Type 0} (told : Y → Answer) (at : ℕ) (t b k : Octets) (old new : Tables) where
  pub bucket_failed : {X : Type 0} (shows : X → Option ℕ) (error : StepError Refusal) → Decides shows (rule_in b (view old t)) old new (Err error) → Carries told t (create_upload at b k) old new (Err error)
  bucket_failed shows (Refused x) d = (rw (no_bucket b (view old t) x d.0) refl, d.1)
  bucket_failed shows (Failed trouble) d = tt

  -- no number is left
  pub number_failed : {X : Type 0} (shows : X → ℕ) (days : Option ℕ) → rule_in b (view old t) ≡ Ok days → (middle : Tables) → middle ≡ old → (error : StepError Refusal)
      → Decides shows (next_upload_in (view middle t)) middle new (Err error) → Carries told t (create_upload at b k) old new (Err error)
  number_failed shows days found middle same (Refused x) d =
      let h = has_rule b (view old t) days found in
      let none = no_upload_number (view old t) h.state x h.added (ap (λ (y : Tables). next_upload_in (view y t)) (sym same) ∙ d.0) in
      let refused : create_upload at b k (view old t) ≡ Err CounterExhausted = rw (h.added, h.there, none.0) refl in
      (refused ∙ ap (λ r. Err r) none.1, d.1 ∙ same)
  number_failed shows days found middle same (Failed trouble) d = tt
