-- The bytes of the reply to an act.
use Rattle.std.specs.Prelude.{ℕ, Bool, true, false, List, [], ◌++◌, flat_map, length, codes, decimal, if◌then◌else◌, Option, Some, None}
use Rattle.std.specs.Prelude.{Result, Ok, Err}
use Rattle.std.specs.Str.{bytes_eq}
use Rattle.std.specs.Str.Lossy.{utf8_lossy}
use Rattle.bh_docs.specs.Documents.{begun_text, buckets_text, completed_text, copied_text, error_text, versioning_text, lifecycle_text}
use Rattle.bh_docs.specs.Documents.{usage_text, retention_text}
use Rattle.bh_docs.specs.Pages.{objects_text, versions_text, uploads_text, parts_text}
use Rattle.bh_event.specs.Events.{Order, AddTenant, RemoveTenant, AddKey, RemoveKey, ShowUsage, ShowKeys, Message}
use Rattle.bh_event.specs.Events.{Requested, Ordered, SweepOrdered}
use Rattle.bh_event.specs.Events.{ReportOrdered, TenantsOrdered, SetQuota}
use Rattle.bh_http.specs.Answers.{bare, empty, with_document, refused, bare_refusal}
use Rattle.bh_http.specs.Responses.{Sent, response_text, refusal_text}
use Rattle.bh_http.specs.Views.{Taken}
use Rattle.bh_http.specs.declared.values.Allow.{Allow}
use Rattle.bh_http.specs.declared.values.Allow.TheVariants.{Marker}
use Rattle.bh_http.specs.declared.values.ContentRange.{ContentRange}
use Rattle.bh_http.specs.declared.values.ContentRange.TheVariants.{Part as Satisfied, Unsatisfied}
use Rattle.bh_http.specs.declared.values.ContentType.TheVariants.{OctetStream}
use Rattle.bh_model.specs.Operations.{Answer, Done, Removed, Stored, Copied, Head, Object, Buckets, Versioning, Objects, Versions, Uploads}
use Rattle.bh_model.specs.Operations.{Parts, Begun, PartStored, Completed, Lifecycle, Retention, Used, Keys}
use Rattle.bh_model.specs.State.{Octets}
use Rattle.bh_operation.specs.Allowed.{allow_of}
use Rattle.bh_operation.specs.Targets.{path_of}
use Rattle.bh_types.specs.Refusals.{code_of}
use Rattle.bh_types.specs.declared.id.VersionId.{VersionId}
use Rattle.bh_types.specs.declared.range.RangePlan.{RangePlan}
use Rattle.bh_types.specs.declared.range.RangePlan.TheVariants.{Whole, Part}
use Rattle.bh_types.specs.declared.refusal.Refusal.{Refusal}
use Rattle.bh_types.specs.declared.rejection.Detail.{Detail}
use Rattle.bh_types.specs.declared.rejection.Detail.TheVariants.{CurrentMarker, NamedMarker, UndatedMarker, ObjectSize}
use Rattle.bh_types.specs.declared.rejection.Rejection.{Rejection}
use Rattle.bh_types.specs.declared.refusal.Refusal.TheVariants.{MethodNotAllowed, ClockOutOfRange, ServiceUnavailable, Unavailable}
use Rattle.bh_storage.specs.declared.error.Trouble.{Trouble}
use Rattle.bh_storage.specs.declared.report.SweepReport.{SweepReport}
use Rattle.bh_storage.specs.declared.report.StoreReport.{StoreReport}
use Rattle.bh_storage.specs.Reports.{TenantTold}
use Rattle.bh_machine.specs.Machine.{Act, RequestRead, Commanded}
use Rattle.bh_host.specs.declared.reply.Caller.{Caller}
use Rattle.bh_host.specs.declared.reply.Caller.TheVariants.{Request, Operator}
use Rattle.bh_host.specs.declared.reply.Reply.{Reply}
use Rattle.bh_host.specs.declared.reply.Reply.TheVariants as reply

-- the path of a target as it was sent; bytes that are not UTF-8 become U+FFFD
abbrev pub shown_path : Octets → Octets
shown_path target = utf8_lossy (path_of target)

-- the range that is returned, if it isn't the whole object
-- RFC 9110, sections 14.4 and 15.3.7
abbrev pub part_told : ℕ → RangePlan → Option ContentRange
part_told size Whole = None
part_told size (Part first last) = Some (Satisfied first last size)

abbrev pub status_for : RangePlan → ℕ
status_for Whole = 200
status_for (Part first last) = 206

-- the response to HeadObject, and the head fields of a get of the whole object
abbrev pub head_response : Option VersionId → ℕ → Octets → Sent
head_response id size checksum = record (bare 200) {
  content_type = Some OctetStream;
  content_length = Some size;
  accepts_ranges = true;
  checksum = Some checksum;
  version_id = id;
}

-- the response to a request that was not refused; no operation returns the names of keys
abbrev pub response_to : Answer → Sent
response_to Done = empty 200
response_to (Removed id marker) = record (bare 204) { version_id = id; delete_marker = marker }
response_to (Stored id checksum) = record (empty 200) { checksum = Some checksum; version_id = id }
response_to (Copied id moment checksum) = record (with_document 200 (copied_text checksum moment)) { version_id = id }
response_to (Head id size checksum) = head_response id size checksum
response_to (Object id size plan bytes checksum) = record (head_response id size checksum) {
  status = status_for plan;
  content_length = Some (length bytes);
  content_range = part_told size plan;
  body = bytes;
}
response_to (Buckets buckets) = with_document 200 (buckets_text buckets)
response_to (Versioning mode) = with_document 200 (versioning_text mode)
response_to (Objects page) = with_document 200 (objects_text page)
response_to (Versions page) = with_document 200 (versions_text page)
response_to (Uploads page) = with_document 200 (uploads_text page)
response_to (Parts page) = with_document 200 (parts_text page)
response_to (Lifecycle days) = with_document 200 (lifecycle_text days)
response_to (Retention date) = with_document 200 (retention_text date)
response_to (Begun bucket key upload abort) = record (with_document 200 (begun_text bucket key upload)) { abort_date = abort }
response_to (PartStored checksum) = record (empty 200) { checksum = Some checksum }
response_to (Used usage) = with_document 200 (usage_text usage)
response_to (Keys names) = empty 200
response_to (Completed bucket key id checksum) = record (with_document 200 (completed_text bucket checksum key)) { version_id = id }

-- the methods of Allow: those of a named delete marker, or of the target if the method was wrong
abbrev pub allow_told : Octets → Refusal → Detail → Option Allow
allow_told target refusal NamedMarker = Some Marker
allow_told target refusal UndatedMarker = Some Marker
allow_told target MethodNotAllowed detail = allow_of target
allow_told target refusal detail = None

-- whether the detail is a delete marker that the response names: that of an operation on objects
abbrev pub marker_told : Detail → Bool
marker_told CurrentMarker = true
marker_told NamedMarker = true
marker_told detail = false

-- the size of an object, if the requested range has none of its bytes (RFC 9110, section 14.4)
abbrev pub range_told : Detail → Option ContentRange
range_told (ObjectSize size) = Some (Unsatisfied size)
range_told detail = None

-- the document of a refusal has the target's path
abbrev pub document_for : Octets → Refusal → Octets
document_for target refusal = error_text (code_of refusal) (shown_path target)

-- the response that refuses a request with this target
abbrev pub refusal_to : Octets → Rejection → Sent
refusal_to target rejection = record (refused rejection.refusal (document_for target rejection.refusal)) {
  content_range = range_told rejection.detail;
  allow = allow_told target rejection.refusal rejection.detail;
  delete_marker = marker_told rejection.detail;
}

abbrev pub response : Octets → Result Answer Rejection → Sent
response target (Ok answer) = response_to answer
response target (Err rejection) = refusal_to target rejection

-- for HEAD the head of the response alone (RFC 9110, section 9.3.2)
abbrev pub body_for : Octets → Octets → Octets
body_for method body = if bytes_eq method (codes "HEAD") then [] else body

abbrev pub sent_for : Octets → Sent → Sent
sent_for method sent = record sent { body = body_for method sent.body }

-- the response to a request, or to bytes that are not one
abbrev pub asked_text : Result Taken Refusal → Result Answer Rejection → Octets
asked_text (Ok request) outcome = response_text (sent_for request.method (response request.target outcome))
asked_text (Err refusal) outcome = response_text (response [] outcome)

-- an operator's reply to an order
abbrev pub line_of : Order → Octets
line_of (AddTenant tenant quota) = codes "tenant " ++ tenant
line_of (SetQuota tenant quota) = codes "quota " ++ (tenant ++ (codes " " ++ decimal quota))
line_of (RemoveTenant tenant with_objects) = codes "removed " ++ tenant
line_of (AddKey tenant name secret) = codes "key " ++ (tenant ++ (codes "$" ++ name))
line_of (RemoveKey tenant name) = codes "removed " ++ (tenant ++ (codes "$" ++ name))
line_of (ShowUsage tenant) = codes "usage " ++ tenant
line_of (ShowKeys tenant) = codes "keys " ++ tenant

-- a word after a space
abbrev pub next_word : Octets → Octets
next_word word = codes " " ++ word

-- the number of names, and the names
abbrev pub names_end : List Octets → Octets
names_end names = codes " " ++ (decimal (length names) ++ flat_map next_word names)

-- the answer's values in it
abbrev pub line_end : Answer → Octets
line_end (Used usage) = codes " bytes " ++ (decimal usage.bytes ++ (codes " quota " ++ decimal usage.quota))
line_end (Keys names) = names_end names
line_end answer = []

abbrev pub line : Order → Result Answer Rejection → Octets
line order (Ok answer) = line_of order ++ line_end answer
line order (Err rejection) = refusal_text rejection.refusal

-- the bytes of the reply to an act
unfoldable pub text : Act → Result Answer Rejection → Octets
text (RequestRead answer) outcome = asked_text answer outcome
text (Commanded order) outcome = line order outcome

-- operators' replies to a sweep and to a report
abbrev pub sweep_text : SweepReport → Octets
sweep_text report =
    codes "sweep uploads "
    ++ (decimal report.uploads
    ++ (codes " blocks " ++ (decimal report.blocks ++ (if report.complete then codes " complete" else codes " partial"))))

abbrev pub report_text : StoreReport → Octets
report_text report =
    codes "blocks "
    ++ (decimal report.blocks
    ++ (codes " stored "
    ++ (decimal report.stored ++ (codes " referred " ++ (decimal report.referred ++ (codes " clashes " ++ decimal report.clashes))))))

-- an operator's reply with all tenants: their number, and then each with what it uses
abbrev pub tenant_words : TenantTold → Octets
tenant_words t = t.name ++ (codes " bytes " ++ (decimal t.used
    ++ (codes " quota " ++ (decimal t.quota ++ (codes " keys " ++ decimal t.keys)))))

abbrev pub tenants_text : List TenantTold → Octets
tenants_text tenants = codes "tenants " ++ (decimal (length tenants) ++ flat_map (λ t. next_word (tenant_words t)) tenants)

-- who sent a message: a client or an operator
abbrev pub caller_of : Message → Caller
caller_of (Requested bytes) = Request
caller_of (Ordered order) = Operator
caller_of (SweepOrdered limit) = Operator
caller_of ReportOrdered = Operator
caller_of TenantsOrdered = Operator

-- the fixed replies: to a reading above its limit, and if memory or the store failed
abbrev pub clock_text : Caller → Octets
clock_text Request = response_text (bare_refusal ClockOutOfRange)
clock_text Operator = refusal_text ClockOutOfRange

abbrev pub wanting_text : Caller → Octets
wanting_text Request = response_text (bare_refusal ServiceUnavailable)
wanting_text Operator = refusal_text Unavailable

abbrev pub reply_bytes : Reply → Octets
reply_bytes (reply.ClockOutOfRange caller) = clock_text caller
reply_bytes (reply.Wanting caller trouble) = wanting_text caller
reply_bytes (reply.Text bytes) = bytes.items
reply_bytes (reply.Gathered bytes count) = bytes.items

-- the failure behind a reply; the bytes don't reveal it
abbrev pub reply_trouble : Reply → Option Trouble
reply_trouble (reply.ClockOutOfRange caller) = None
reply_trouble (reply.Wanting caller trouble) = Some trouble
reply_trouble (reply.Text bytes) = None
reply_trouble (reply.Gathered bytes count) = None
