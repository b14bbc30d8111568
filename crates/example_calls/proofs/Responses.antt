-- The bytes of responses.
use Rattle.std.proofs.Common.{◌≡◌, ℕ, true, List, [], ◌∷◌, ◌++◌, codes, Some, refl}
use Rattle.std.specs.List.{flat_map}
use Rattle.std.specs.Fmt.{digits}
use Rattle.hex.specs.Hex.{encode_with}
use Rattle.example_calls.proofs.Rows.{Holds}
use Rattle.bh_types.specs.Moments.{day_at}
use Rattle.bh_types.specs.declared.id.VersionId.TheVariants.{Numbered}
use Rattle.bh_types.specs.declared.refusal.Refusal.TheVariants.{ClockOutOfRange, ServiceUnavailable, InvalidRange}
use Rattle.bh_http.specs.Responses.{Sent, crlf, response_text}
use Rattle.bh_http.specs.Answers.{bare_refusal}
use Rattle.bh_http.specs.declared.values.Allow.TheVariants as allow
use Rattle.bh_http.specs.declared.values.ContentRange.TheVariants.{Unsatisfied}
use Rattle.bh_http.specs.declared.values.ContentType.TheVariants.{Json}

-- lines, each with its end, and then the body
abbrev text : List (List ℕ) → List ℕ → List ℕ
text lines body = flat_map (λ line. line ++ crlf) lines ++ crlf ++ body

-- every field: a refusal and its document, the size that a range missed, the checksum, the version, and the moment of the abort
abbrev full : Sent
full = record {
  status = 416;
  content_type = Some Json;
  content_length = Some 2;
  content_range = Some (Unsatisfied 6);
  accepts_ranges = true;
  allow = Some allow.Bucket;
  checksum = Some (codes "sum");
  version_id = Some (Numbered 1);
  delete_marker = true;
  abort_date = Some 1390089600;
  refusal = Some InvalidRange;
  body = codes "{}";
}

every_field : response_text full ≡ text (
    codes "HTTP/1.1 416 Range Not Satisfiable"
    ∷ codes "content-type: application/json"
    ∷ codes "content-length: 2"
    ∷ codes "content-range: bytes */6"
    ∷ codes "accept-ranges: bytes"
    ∷ codes "allow: DELETE, GET, HEAD, PUT"
    ∷ codes "x-amz-checksum-sha256: sum"
    ∷ codes "x-amz-version-id: 0000000000000001"
    ∷ codes "x-amz-delete-marker: true"
    ∷ codes "x-amz-abort-date: 2014-01-19T00:00:00Z"
    ∷ codes "x-refusal: 25 InvalidRange"
    ∷ codes "connection: close"
    ∷ []) (codes "{}")
unfolding day_at encode_with digits
every_field = refl

-- the two responses that take no memory
without_memory : Holds ((
  response_text (bare_refusal ClockOutOfRange),
  text (
      codes "HTTP/1.1 500 Internal Server Error" ∷ codes "content-length: 0" ∷ codes "x-refusal: 30 ClockOutOfRange" ∷ codes "connection: close" ∷ []) [],
)
    ∷ (
      response_text (bare_refusal ServiceUnavailable),
      text (
          codes "HTTP/1.1 503 Service Unavailable" ∷ codes "content-length: 0" ∷ codes "x-refusal: 31 ServiceUnavailable" ∷ codes "connection: close" ∷ []) [],
    )
    ∷ [])
unfolding digits
without_memory = refl
