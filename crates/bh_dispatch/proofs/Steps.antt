-- The machine's steps by what a document says.
use Rattle.std.proofs.Common.{◌≡◌, ℕ, List, map, Option, Result, Ok, Err, refl, ap, sym, ◌∙◌, ◌≤◌, ◌&&◌, ℤ, pos, negsuc, true, false, true≢false, is_ok, nat_le, subst, if◌then◌else◌}
use Rattle.std.proofs.lemmas.Simd.{map-map}
use Rattle.bh_types.specs.Limits.{HostLimits}
use Rattle.bh_types.specs.Outcomes.{◌>>=◌}
use Rattle.bh_types.specs.Rejections.{plainly}
use Rattle.bh_types.specs.declared.bucket_state.BucketState.{BucketState}
use Rattle.bh_types.specs.declared.id.UploadId.{UploadId}
use Rattle.bh_types.specs.declared.refusal.Refusal.{Refusal}
use Rattle.bh_types.specs.declared.refusal.Refusal.TheVariants.{InvalidArgument}
use Rattle.bh_types.specs.declared.rejection.Rejection.{Rejection}
use Rattle.bh_model.specs.Operations.{Outcome, put_versioning, put_lifecycle, put_retention}
use Rattle.bh_model.specs.State.{Octets, State as Machine}
use Rattle.bh_model.specs.Parts.{Naming}
use Rattle.bh_model.specs.Shown.{naming_of}
use Rattle.bh_model.specs.Uploads.{complete_upload}
use Rattle.bh_machine.specs.Machine.{set_versioning, naming, finish_upload, set_lifecycle, set_retention}
use Rattle.bh_types.specs.declared.wanted.Named.{Named}
use Rattle.bh_types.specs.declared.wanted.Wanted.{Wanted}
use Rattle.std.proofs.lemmas.Bool.{and_parts, leb-true}
use Rattle.bh_docs.specs.Shapes.{lifecycle_shape}
use Rattle.bh_docs.specs.Requests.{named_view, complete_of, versioning_of, lifecycle_of, retention_of, ranged, document_of, or_malformed}

-- where the document tells the state
pub states : (bucket body : Octets) (state : BucketState) → versioning_of body ≡ Ok state → ◌≡◌ {A = Option Machine → Result Outcome Rejection} (λ s. plainly (put_versioning bucket state s)) (λ s. plainly (set_versioning bucket body s))
states bucket body state is =
    let after : Result BucketState Refusal → Option Machine → Result Outcome Rejection = λ r s. plainly (r >>= (λ x. put_versioning bucket x s)) in
    ap after (sym is)

-- where the document tells days
pub rules : (bucket body : Octets) (days : ℕ) → lifecycle_of body ≡ Ok days → ◌≡◌ {A = Option Machine → Result Outcome Rejection} (λ s. plainly (put_lifecycle bucket days s)) (λ s. plainly (set_lifecycle bucket body s))
rules bucket body days is =
    let after : Result ℕ Refusal → Option Machine → Result Outcome Rejection = λ r s. plainly (r >>= (λ d. put_lifecycle bucket d s)) in
    ap after (sym is)

-- they are in their range
ranged_in : (low high : ℕ) (z : ℤ) (n : ℕ) → ranged low high z ≡ Ok n → (low ≤ n) × (n ≤ high)
ranged_in low high (negsuc m) n is = absurd (true≢false (sym (ap is_ok is)))
ranged_in low high (pos m) n is = elim (nat_le low m && nat_le m high) as (λ b. (nat_le low m && nat_le m high) ≡ b → (if b then Ok m else Err InvalidArgument) ≡ Ok n → (low ≤ n) × (n ≤ high)) [
  | true ↦ λ e same.
      let both = and_parts _ _ e in
      let it : m ≡ n = cc in
      subst (λ k. (low ≤ k) × (k ≤ high)) it (leb-true _ _ both.0, leb-true _ _ both.1)
  | false ↦ λ e same. absurd (true≢false (sym (ap is_ok same)))
] refl is

then_ok : {A B : Type 0} (r : Result A Refusal) (f : A → Result B Refusal) (b : B) → (r >>= f) ≡ Ok b → (a : A) × (f a ≡ Ok b)
then_ok (Ok a) f b e = (a, e)
then_ok (Err x) f b e = absurd (true≢false (sym (ap is_ok e)))

pub lifecycle_range : (body : Octets) (n : ℕ) → lifecycle_of body ≡ Ok n → (1 ≤ n) × (n ≤ 3650)
lifecycle_range body n is =
    let document = then_ok (document_of body) (λ d. or_malformed (lifecycle_shape d) >>= ranged 1 3650) n is in
    let days = then_ok (or_malformed (lifecycle_shape document.0)) (ranged 1 3650) n document.1 in
    ranged_in 1 3650 days.0 n days.1

-- where the document tells the date
pub dates : (at : ℕ) (bucket key : Octets) (version : Wanted) (body : Octets) (date : ℕ) → retention_of body ≡ Ok date → ◌≡◌ {A = Option Machine → Result Outcome Rejection} (put_retention at bucket key version date) (set_retention at bucket key version body)
dates at bucket key version body date is =
    let after : Result ℕ Refusal → Option Machine → Result Outcome Rejection = λ r s. plainly r >>= (λ d. put_retention at bucket key version d s) in
    ap after (sym is)

-- where the document names parts
pub finishes : (limits : HostLimits) (at : ℕ) (bucket key : Octets) (upload : Option UploadId) (body : Octets) (named : List Named) → complete_of body ≡ Ok (map named_view named)
    → ◌≡◌ {A = Option Machine → Result Outcome Rejection} (λ s. plainly (complete_upload at limits.min_part bucket key upload (map naming_of named) s)) (λ s. plainly (finish_upload limits at bucket key upload body s))
finishes limits at bucket key upload body named is =
    let completes : List Naming → Option Machine → Result Outcome Rejection = λ names s. plainly (complete_upload at limits.min_part bucket key upload names s) in
    let finished : Result (List (ℕ × Option Octets)) Refusal → Option Machine → Result Outcome Rejection = λ parts s. plainly (parts >>= (λ ps. complete_upload at limits.min_part bucket key upload (map naming ps) s)) in
    ap completes (sym (map-map naming named_view named)) ∙ ap finished (sym is)
