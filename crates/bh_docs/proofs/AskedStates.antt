-- Which state of a bucket a document may ask for.
use Rattle.std.proofs.Common.{◌≡◌, ℕ, List, Bool, true, false, true≢false, if◌then◌else◌, codes, Option, Some, None, Result, Ok, Err, refl, sym, ap, ◌∙◌}
use Rattle.std.specs.Str.{bytes_eq}
use Rattle.serde_json.specs.Data.{Data}
use Rattle.serde_json.specs.Find.{as_str}
use Rattle.bh_types.specs.Outcomes.{◌>>=◌}
use Rattle.bh_types.specs.declared.bucket_state.BucketState.{BucketState}
use Rattle.bh_types.specs.declared.bucket_state.BucketState.TheVariants.{Unversioned, Enabled, Suspended}
use Rattle.bh_types.specs.declared.refusal.Refusal.{Refusal}
use Rattle.bh_docs.specs.Requests.{or_malformed, document_of, versioning_of}
use Rattle.bh_docs.specs.Shapes as shape
use Rattle.bh_docs.specs.Shapes.{state_named, only_member, versioning_shape}

abbrev asks_back : Result BucketState Refusal → Bool
asks_back (Ok Unversioned) = true
asks_back (Ok Enabled) = false
asks_back (Ok Suspended) = false
asks_back (Err refusal) = false

named : (enabled suspended : Bool) → asks_back (or_malformed (if enabled then Some Enabled else if suspended then Some Suspended else None)) ≡ false
named true suspended = refl
named false true = refl
named false false = refl

text_named : (text : Option (List ℕ)) → asks_back (or_malformed (shape.◌>>=◌ text state_named)) ≡ false
text_named None = refl
text_named (Some text) = named (bytes_eq text (codes "Enabled")) (bytes_eq text (codes "Suspended"))

member_named : (status : Option Data) → asks_back (or_malformed (shape.◌>>=◌ status (λ d. shape.◌>>=◌ (as_str d) state_named))) ≡ false
member_named None = refl
member_named (Some d) = text_named (as_str d)

document_named : (document : Result Data Refusal) → asks_back (document >>= (λ d. or_malformed (versioning_shape d))) ≡ false
document_named (Ok d) = member_named (only_member (codes "Status") d)
document_named (Err refusal) = refl

-- one that keeps versions, or that kept them once
pub never_back : (body : List ℕ) (state : BucketState) → versioning_of body ≡ Ok state → state ≡ Unversioned → ⊥
never_back body state asked back = absurd (true≢false (sym (ap asks_back (asked ∙ ap Ok back)) ∙ document_named (document_of body)))
