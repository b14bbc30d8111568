-- The documents that show a bucket's state, its rule and a version's date are read as these.
use Rattle.std.proofs.Common.{◌≡◌, ◌≢◌, ℕ, ℤ, ◌≤◌, List, Option, Some, ok_or, Result, Ok, Err, length, refl, ap, ◌∙◌, le-leb, if◌then◌else◌}
use Rattle.std.specs.Result.{IfOk}
use Rattle.serde_json.specs.Data.{Data}
use Rattle.bh_types.specs.Moments.{moment_text}
use Rattle.bh_types.specs.Outcomes.{◌>>=◌}
use Rattle.bh_types.specs.declared.bucket_state.BucketState.{BucketState}
use Rattle.bh_types.specs.declared.bucket_state.BucketState.TheVariants.{Unversioned, Enabled, Suspended}
use Rattle.bh_types.specs.declared.refusal.Refusal.{Refusal}
use Rattle.bh_types.specs.declared.refusal.Refusal.TheVariants.{InvalidArgument, MalformedJson}
use Rattle.bh_types.proofs.Reading.{reads}
use Rattle.bh_docs.specs.Documents.{versioning_data, lifecycle_data, retention_data}
use Rattle.bh_docs.specs.Requests.{document_end, document_of, or_malformed, ranged, versioning_of, lifecycle_of, date_told, retention_of}
use Rattle.bh_docs.specs.Shapes.{data_of, versioning_shape, lifecycle_shape, retention_shape}

abbrev from_data : Option Data → Result ℕ Refusal
from_data o = ◌>>=◌ {A = Data} {B = ℕ} (or_malformed o) (λ d. ◌>>=◌ {A = List ℕ × List ℕ} {B = ℕ} (or_malformed (retention_shape d)) date_told)

-- what is short enough is read as its data
document_is : (text : List ℕ) → length text ≤ document_end → document_of text ≡ or_malformed (data_of text)
document_is text short = ap (λ b. if b then or_malformed (data_of text) else Err MalformedJson) (le-leb (length text) document_end short)

pub document_read : (text : List ℕ) (d : Data) → length text ≤ document_end → data_of text ≡ Some d → document_of text ≡ Ok d
document_read text d short e = document_is text short ∙ ap or_malformed e

pub state_read : (state : BucketState) → state ≢ Unversioned → (text : List ℕ) → document_of text ≡ Ok (versioning_data state) → versioning_of text ≡ Ok state
state_read Unversioned is text e = absurd (is refl)
state_read Enabled is text e = ap (λ r. ◌>>=◌ {A = Data} {B = BucketState} r (λ d. or_malformed (versioning_shape d))) e
state_read Suspended is text e = ap (λ r. ◌>>=◌ {A = Data} {B = BucketState} r (λ d. or_malformed (versioning_shape d))) e

abbrev days_from : Result Data Refusal → Result ℕ Refusal
days_from r = ◌>>=◌ {A = Data} {B = ℕ} r (λ d. ◌>>=◌ {A = ℤ} {B = ℕ} (or_malformed (lifecycle_shape d)) (ranged 1 3650))

pub days_read : (days : ℕ) → 1 ≤ days → days ≤ 3650 → (text : List ℕ) → document_of text ≡ Ok (lifecycle_data days) → lifecycle_of text ≡ Ok days
days_read days least most text e = ap days_from e ∙ rw (le-leb 1 days least, le-leb days 3650 most) refl

abbrev from_document : Result Data Refusal → Result ℕ Refusal
from_document r = ◌>>=◌ {A = Data} {B = ℕ} r (λ d. ◌>>=◌ {A = List ℕ × List ℕ} {B = ℕ} (or_malformed (retention_shape d)) date_told)

pub retained : (until : ℕ) → until ≤ 251_000_000_000 → (text : List ℕ) → length text ≤ document_end → data_of text ≡ Some (retention_data (Some until)) → retention_of text ≡ Ok until
retained until room text short e = ap from_document (document_is text short) ∙ ap from_data e ∙ ap (λ o. ok_or o InvalidArgument) (reads until (moment_text until) room refl)

pub both_weaker : {X E : Type 0} (r : Result X E) (O P Q : X → Type 0) → ((x : X) → O x → P x → Q x) → IfOk r O → IfOk r P → IfOk r Q
both_weaker (Ok x) O P Q f o p = f x o p
both_weaker (Err e) O P Q f o p = tt
