-- Responses as bytes (RFC 9112): a status line, the fields that apply, an empty line, the body.
use Rattle.std.specs.Prelude.{ℕ, Bool, List, [], ◌∷◌, ◌++◌, codes, decimal, Option, Some, None, option_map, if◌then◌else◌}
use Rattle.std.specs.List.{flat_map}
use Rattle.http.specs.StatusCode.{status_text}
use Rattle.bh_types.specs.Ids.{version_text}
use Rattle.bh_types.specs.Moments.{moment_text}
use Rattle.bh_types.specs.Refusals.{number_of, code_of}
use Rattle.bh_types.specs.declared.id.VersionId.{VersionId}
use Rattle.bh_types.specs.declared.refusal.Refusal.{Refusal}
use Rattle.bh_http.specs.Values.{content_type_text, content_range_text, allow_text}
use Rattle.bh_http.specs.declared.values.Allow.{Allow}
use Rattle.bh_http.specs.declared.values.ContentRange.{ContentRange}
use Rattle.bh_http.specs.declared.values.ContentType.{ContentType}

-- a response: its status code, its optional fields, and its body
pub record Sent : Type 0 where
  pub status : ℕ
  pub content_type : Option ContentType
  pub content_length : Option ℕ
  pub content_range : Option ContentRange
  pub accepts_ranges : Bool
  pub allow : Option Allow
  pub checksum : Option (List ℕ)
  pub version_id : Option VersionId
  pub delete_marker : Bool
  pub abort_date : Option ℕ
  pub refusal : Option Refusal
  pub body : List ℕ

-- RFC 9112, section 2.1
abbrev pub crlf : List ℕ
crlf = 13 ∷ 10 ∷ []

-- name: value CR LF, if there is a value
-- RFC 9112, section 5
abbrev pub field_line : List ℕ × Option (List ℕ) → List ℕ
field_line (name, None) = []
field_line (name, Some value) = name ++ codes ": " ++ value ++ crlf

-- a value that is present if a test holds
abbrev pub when : Bool → List ℕ → Option (List ℕ)
when test value = if test then Some value else None

-- number, space, code
abbrev pub refusal_text : Refusal → List ℕ
refusal_text refusal = decimal (number_of refusal) ++ codes " " ++ code_of refusal

-- the fields in their order, each with its value or none
-- RFC 9110, sections 8.3, 8.6, 14.4, 14.3 and 10.2.1
abbrev pub content_fields : Sent → List (List ℕ × Option (List ℕ))
content_fields r =
    (codes "content-type", option_map content_type_text r.content_type)
    ∷ (codes "content-length", option_map decimal r.content_length)
    ∷ (codes "content-range", option_map content_range_text r.content_range)
    ∷ (codes "accept-ranges", when r.accepts_ranges (codes "bytes"))
    ∷ (codes "allow", option_map allow_text r.allow)
    ∷ []

-- Amazon S3 API Reference, GetObject, and x-amz-abort-date of CreateMultipartUpload
abbrev pub object_fields : Sent → List (List ℕ × Option (List ℕ))
object_fields r =
    (codes "x-amz-checksum-sha256", r.checksum)
    ∷ (codes "x-amz-version-id", option_map version_text r.version_id)
    ∷ (codes "x-amz-delete-marker", when r.delete_marker (codes "true"))
    ∷ (codes "x-amz-abort-date", option_map moment_text r.abort_date)
    ∷ []

-- x-refusal is this host's; RFC 9112, section 9.6: close
abbrev pub last_fields : Sent → List (List ℕ × Option (List ℕ))
last_fields r =
    (codes "x-refusal", option_map refusal_text r.refusal)
    ∷ (codes "connection", Some (codes "close"))
    ∷ []

abbrev pub lines_text : List (List ℕ × Option (List ℕ)) → List ℕ
lines_text fields = flat_map field_line fields

abbrev pub fields_text : Sent → List ℕ
fields_text r =
    lines_text (content_fields r) ++ lines_text (object_fields r) ++ lines_text (last_fields r)

-- RFC 9112, section 4
abbrev pub status_line : ℕ → List ℕ
status_line status = codes "HTTP/1.1 " ++ (status_text status ++ crlf)

-- RFC 9112, section 2.1
abbrev pub response_text : Sent → List ℕ
response_text r = status_line r.status ++ fields_text r ++ crlf ++ r.body
