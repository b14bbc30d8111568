-- The refusals of parsing a request.
use Rattle.std.specs.Prelude.{ℕ, Bool, true, false, List, Result}
use Rattle.bh_types.specs.Limits.{HostLimits}
use Rattle.bh_types.specs.Refusing.{RefusedOnly}
use Rattle.bh_types.specs.declared.refusal.Refusal.{Refusal}
use Rattle.bh_types.specs.declared.refusal.Refusal.TheVariants.{BadRequest, NotImplemented, MissingContentLength, EntityTooLarge}
use Rattle.bh_types.specs.declared.refusal.Refusal.TheVariants.{IncompleteBody}
use Rattle.bh_http.specs.Reading.{Reads}
use Rattle.bh_http.specs.Views.{Taken}

abbrev pub is_reading_refusal : Refusal → Bool
is_reading_refusal BadRequest = true
is_reading_refusal NotImplemented = true
is_reading_refusal MissingContentLength = true
is_reading_refusal EntityTooLarge = true
is_reading_refusal IncompleteBody = true
is_reading_refusal refusal = false

-- whatever the bytes are
abbrev pub ReadingRefusals : Type 0
ReadingRefusals = (limits : HostLimits) (bytes : List ℕ) (answer : Result Taken Refusal) → Reads limits bytes answer
    → RefusedOnly is_reading_refusal answer
