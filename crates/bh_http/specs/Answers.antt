-- Responses as contracts see them, and the plain ones.
use Rattle.std.specs.Prelude.{ℕ, Bool, true, false, List, [], length, Some, None, if◌then◌else◌, option_map}
use Rattle.std.specs.String.{string_bytes}
use Rattle.bh_types.specs.Refusals.{status_of}
use Rattle.bh_types.specs.declared.refusal.Refusal.{Refusal}
use Rattle.bh_types.specs.declared.refusal.Refusal.TheVariants.{BadRequest, NotImplemented, MissingContentLength, EntityTooLarge}
use Rattle.bh_types.specs.declared.refusal.Refusal.TheVariants.{IncompleteBody, ClockOutOfRange, ServiceUnavailable}
use Rattle.bh_http.specs.Responses.{Sent}
use Rattle.bh_http.specs.declared.response.Response.{Response}
use Rattle.bh_http.specs.declared.values.ContentType.TheVariants.{Json}

abbrev pub response_view : Response → Sent
response_view r = record {
  status = r.status;
  content_type = r.content_type;
  content_length = r.content_length;
  content_range = r.content_range;
  accepts_ranges = r.accepts_ranges;
  allow = r.allow;
  checksum = option_map string_bytes r.checksum;
  version_id = r.version_id;
  delete_marker = r.delete_marker;
  abort_date = r.abort_date;
  refusal = r.refusal;
  body = r.body.items;
}

-- a status alone, as 204 has it
-- RFC 9110, section 15.3.5
abbrev pub bare : ℕ → Sent
bare status = record {
  status = status;
  content_type = None;
  content_length = None;
  content_range = None;
  accepts_ranges = false;
  allow = None;
  checksum = None;
  version_id = None;
  delete_marker = false;
  abort_date = None;
  refusal = None;
  body = [];
}

-- a status and a body of no bytes
abbrev pub empty : ℕ → Sent
empty status = record (bare status) { content_length = Some 0 }

-- a status and a JSON document
abbrev pub with_document : ℕ → List ℕ → Sent
with_document status document = record (bare status) {
  content_type = Some Json;
  content_length = Some (length document);
  body = document;
}

-- whether a refusal has a document
abbrev pub has_document : Refusal → Bool
has_document BadRequest = false
has_document NotImplemented = false
has_document MissingContentLength = false
has_document EntityTooLarge = false
has_document IncompleteBody = false
has_document ClockOutOfRange = false
has_document ServiceUnavailable = false
has_document refusal = true

-- the response to a refused request, without a document and with it
abbrev pub bare_refusal : Refusal → Sent
bare_refusal refusal = record (empty (status_of refusal)) { refusal = Some refusal }

abbrev pub refusal_with : Refusal → List ℕ → Sent
refusal_with refusal document =
    record (with_document (status_of refusal) document) { refusal = Some refusal }

-- the response to a refused request, given the refusal's document
abbrev pub refused : Refusal → List ℕ → Sent
refused refusal document =
    if has_document refusal then refusal_with refusal document else bare_refusal refusal
