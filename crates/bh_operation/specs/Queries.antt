-- The parameters of a query, and those that the host knows.
use Rattle.std.specs.Prelude.{ℕ, ◌||◌, ◌&&◌, Bool, List, [], ◌∷◌, map, find, count_by, nat_lt, codes, Option, Some, None, option_map}
use Rattle.std.specs.Prelude.{option_and_then, is_some, if◌then◌else◌, Result, Ok, Err}
use Rattle.std.specs.List.{list_any}
use Rattle.std.specs.Str.{bytes_eq}
use Rattle.std.specs.Str.Lossy.{utf8_lossy}
use Rattle.form_urlencoded.specs.Form.{decode, raw_pairs}
use Rattle.bh_types.specs.declared.refusal.Refusal.{Refusal}
use Rattle.bh_types.specs.declared.refusal.Refusal.TheVariants.{InvalidArgument}
use Rattle.bh_operation.specs.declared.query.Parameter.{Parameter}
use Rattle.bh_operation.specs.declared.query.Selector.{Selector}
use Rattle.bh_operation.specs.declared.query.Selector.TheVariants.{ListType, Versions, Uploads, Versioning, Lifecycle, Usage, UploadId}
use Rattle.bh_operation.specs.declared.query.Selector.TheVariants.{Retention}

-- the text that an encoded name or value encodes
abbrev pub form_text : List ℕ → List ℕ
form_text bytes = utf8_lossy (decode bytes)

abbrev pub decoded_pair : List ℕ × List ℕ → Parameter
decoded_pair p = record { name = form_text p.0; value = form_text p.1 }

-- the names and values of a query, as a form is read
-- URL Standard, section 5.1: application/x-www-form-urlencoded parsing
abbrev pub parameters_of : List ℕ → List Parameter
parameters_of query = map decoded_pair (raw_pairs query)

abbrev pub is_among : List (List ℕ) → List ℕ → Bool
is_among names name = list_any (λ n. bytes_eq n name) names

-- parameters of operations that the host doesn't support
unfoldable pub is_unsupported : List ℕ → Bool
is_unsupported =
    is_among (codes "accelerate" ∷ codes "acl" ∷ codes "analytics" ∷ codes "attributes" ∷ codes "cors" ∷ codes "delete"
    ∷ codes "encryption" ∷ codes "intelligent-tiering" ∷ codes "inventory" ∷ codes "legal-hold" ∷ codes "location"
    ∷ codes "logging" ∷ codes "metrics" ∷ codes "notification" ∷ codes "object-lock" ∷ codes "ownershipControls"
    ∷ codes "policy" ∷ codes "policyStatus" ∷ codes "publicAccessBlock" ∷ codes "replication"
    ∷ codes "requestPayment" ∷ codes "restore" ∷ codes "select" ∷ codes "start-after"
    ∷ codes "tagging" ∷ codes "torrent" ∷ codes "website" ∷ [])

-- parameters that select the operation
unfoldable pub selector_of : List ℕ → Option Selector
selector_of name =
    if bytes_eq name (codes "list-type") then Some ListType
    else if bytes_eq name (codes "versions") then Some Versions
    else if bytes_eq name (codes "uploads") then Some Uploads
    else if bytes_eq name (codes "versioning") then Some Versioning
    else if bytes_eq name (codes "lifecycle") then Some Lifecycle
    else if bytes_eq name (codes "usage") then Some Usage
    else if bytes_eq name (codes "uploadId") then Some UploadId
    else if bytes_eq name (codes "retention") then Some Retention
    else None

abbrev pub is_selector : List ℕ → Bool
is_selector name = is_some (selector_of name)

-- parameters that operations use
unfoldable pub is_argument : List ℕ → Bool
is_argument =
    is_among (codes "partNumber" ∷ codes "max-keys" ∷ codes "max-uploads" ∷ codes "max-parts"
    ∷ codes "continuation-token" ∷ codes "key-marker" ∷ codes "version-id-marker" ∷ codes "upload-id-marker"
    ∷ codes "part-number-marker" ∷ codes "prefix" ∷ codes "delimiter" ∷ codes "versionId" ∷ [])

abbrev pub is_known : List ℕ → Bool
is_known name = is_unsupported name || is_selector name || is_argument name

-- the number of parameters with a name
abbrev pub count_named : List ℕ → List Parameter → ℕ
count_named name parameters = count_by (λ p. bytes_eq p.name name) parameters

-- a parameter that the host knows is repeated
abbrev pub is_repeated : List Parameter → Parameter → Bool
is_repeated parameters p = is_known p.name && nat_lt 1 (count_named p.name parameters)

-- third step: no parameter that the host knows is repeated
unfoldable pub given_once : List Parameter → Result (List Parameter) Refusal
given_once parameters =
    if list_any (is_repeated parameters) parameters then Err InvalidArgument else Ok parameters

unfoldable pub parameters_in : List ℕ → Result (List Parameter) Refusal
parameters_in query = given_once (parameters_of query)

-- the value of a parameter, if it is given
abbrev pub value_of : List ℕ → List Parameter → Option (List ℕ)
value_of name parameters = option_map (λ p. p.value) (find (λ p. bytes_eq p.name name) parameters)

abbrev pub is_given : List ℕ → List Parameter → Bool
is_given name parameters = is_some (value_of name parameters)

abbrev pub count_selectors : List Parameter → ℕ
count_selectors parameters = count_by (λ p. is_selector p.name) parameters

abbrev pub first_selector : List Parameter → Option Selector
first_selector parameters =
    option_and_then (λ p. selector_of p.name) (find (λ p. is_selector p.name) parameters)

-- fifth step, its beginning: there is at most one selector
unfoldable pub selected : List Parameter → Result (Option Selector) Refusal
selected parameters =
    if nat_lt 1 (count_selectors parameters) then Err InvalidArgument else Ok (first_selector parameters)
