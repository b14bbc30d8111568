-- A reply to an event with a stamp is none of the fixed ones.
use Rattle.std.proofs.Common.{◌≡◌, Bool, true, false, get_or, refl, Option}
use Rattle.std.specs.Prelude.{◌&&◌, ◌||◌, ◌==◌}
use Rattle.std.specs.Fmt.{digits}
use Rattle.bh_http.specs.Answers.{refused}
use Rattle.bh_http.specs.declared.values.Allow.{Allow}
use Rattle.bh_http.specs.declared.values.ContentRange.{ContentRange}
use Rattle.bh_machine.specs.Refused.{is_step_refusal}
use Rattle.bh_http.specs.Responses.{response_text, refusal_text}
use Rattle.bh_model.specs.Operations.{Answer, Done, Removed, Stored, Copied, Head, Object, Buckets, Versioning, Objects, Versions, Uploads, Parts, Begun, PartStored, Completed, Lifecycle, Retention, Used, Keys}
use Rattle.bh_model.specs.State.{Octets}
use Rattle.bh_types.specs.declared.range.RangePlan.TheVariants.{Whole, Part}
use Rattle.bh_types.specs.declared.refusal.Refusal.{Refusal}
use Rattle.bh_types.specs.declared.refusal.Refusal.TheVariants.{BadRequest, NotImplemented, MissingContentLength, EntityTooLarge, AccessDenied, InvalidAccessKeyId, InvalidUri, InvalidBucketName, KeyTooLong, InvalidArgument, MalformedJson, NoSuchBucket, NoSuchKey, NoSuchVersion, NoSuchUpload, MethodNotAllowed, BucketAlreadyOwnedByYou, BucketNotEmpty, InvalidBucketState, NoSuchLifecycleConfiguration, InvalidPart, InvalidPartOrder, EntityTooSmall, QuotaExceeded, InvalidRange, BadDigest, IncompleteBody, InvalidRequest, CounterExhausted, ClockOutOfRange, ServiceUnavailable, TenantExists, NoSuchTenant, KeyExists, NoSuchKeyName, InvalidName, InvalidQuota, NotAHostFile, Unavailable, TenantNotEmpty, TenantRetained}
use Rattle.bh_host.specs.Replies.{response_to}

false_is_true : false ≡ true → ⊥
false_is_true e = cc e

-- ---- the bytes that tell a fixed reply from others

-- a response of status 500 whose first field is the length, or of status 503
abbrev pub is_fixed_response : Octets → Bool
is_fixed_response bytes =
    get_or bytes 9 0 == 53 && ((get_or bytes 11 0 == 48 && get_or bytes 44 0 == 108) || get_or bytes 11 0 == 51)

-- a line that begins with 30 or 48
abbrev pub is_fixed_line : Octets → Bool
is_fixed_line bytes = (get_or bytes 0 0 == 51 && get_or bytes 1 0 == 48) || (get_or bytes 0 0 == 52 && get_or bytes 1 0 == 56)

pub answer_apart : (answer : Answer) (body : Octets) → is_fixed_response (response_text (record (response_to answer) { body = body })) ≡ false
unfolding digits
answer_apart Done body = refl
answer_apart (Stored id checksum) body = refl
answer_apart (Copied id moment checksum) body = refl
answer_apart (Removed id marker) body = refl
answer_apart (Head id size checksum) body = refl
answer_apart (Object id size Whole bytes checksum) body = refl
answer_apart (Object id size (Part first last) bytes checksum) body = refl
answer_apart (Buckets buckets) body = refl
answer_apart (Versioning mode) body = refl
answer_apart (Objects page) body = refl
answer_apart (Versions page) body = refl
answer_apart (Uploads page) body = refl
answer_apart (Parts page) body = refl
answer_apart (Lifecycle days) body = refl
answer_apart (Retention date) body = refl
answer_apart (Begun bucket key upload abort) body = refl
answer_apart (PartStored checksum) body = refl
answer_apart (Completed bucket key id checksum) body = refl
answer_apart (Used usage) body = refl
answer_apart (Keys names) body = refl

pub refused_apart : (refusal : Refusal) (document : Octets) (range : Option ContentRange) (allow : Option Allow) (marker : Bool) (body : Octets) → is_step_refusal refusal ≡ true
    → is_fixed_response (response_text (record (refused refusal document) { content_range = range; allow = allow; delete_marker = marker; body = body })) ≡ false
unfolding digits
refused_apart BadRequest document range allow marker body h = refl
refused_apart NotImplemented document range allow marker body h = refl
refused_apart MissingContentLength document range allow marker body h = refl
refused_apart EntityTooLarge document range allow marker body h = refl
refused_apart AccessDenied document range allow marker body h = refl
refused_apart InvalidAccessKeyId document range allow marker body h = refl
refused_apart InvalidUri document range allow marker body h = refl
refused_apart InvalidBucketName document range allow marker body h = refl
refused_apart KeyTooLong document range allow marker body h = refl
refused_apart InvalidArgument document range allow marker body h = refl
refused_apart MalformedJson document range allow marker body h = refl
refused_apart NoSuchBucket document range allow marker body h = refl
refused_apart NoSuchKey document range allow marker body h = refl
refused_apart NoSuchVersion document range allow marker body h = refl
refused_apart NoSuchUpload document range allow marker body h = refl
refused_apart MethodNotAllowed document range allow marker body h = refl
refused_apart BucketAlreadyOwnedByYou document range allow marker body h = refl
refused_apart BucketNotEmpty document range allow marker body h = refl
refused_apart InvalidBucketState document range allow marker body h = refl
refused_apart NoSuchLifecycleConfiguration document range allow marker body h = refl
refused_apart InvalidPart document range allow marker body h = refl
refused_apart InvalidPartOrder document range allow marker body h = refl
refused_apart EntityTooSmall document range allow marker body h = refl
refused_apart QuotaExceeded document range allow marker body h = refl
refused_apart InvalidRange document range allow marker body h = refl
refused_apart BadDigest document range allow marker body h = refl
refused_apart IncompleteBody document range allow marker body h = refl
refused_apart InvalidRequest document range allow marker body h = refl
refused_apart CounterExhausted document range allow marker body h = refl
refused_apart TenantExists document range allow marker body h = refl
refused_apart NoSuchTenant document range allow marker body h = refl
refused_apart KeyExists document range allow marker body h = refl
refused_apart NoSuchKeyName document range allow marker body h = refl
refused_apart InvalidName document range allow marker body h = refl
refused_apart InvalidQuota document range allow marker body h = refl
refused_apart NotAHostFile document range allow marker body h = refl
refused_apart TenantNotEmpty document range allow marker body h = refl
refused_apart TenantRetained document range allow marker body h = refl
refused_apart ClockOutOfRange document range allow marker body h = absurd (false_is_true h)
refused_apart ServiceUnavailable document range allow marker body h = absurd (false_is_true h)
refused_apart Unavailable document range allow marker body h = absurd (false_is_true h)

pub line_apart : (refusal : Refusal) → is_step_refusal refusal ≡ true → is_fixed_line (refusal_text refusal) ≡ false
unfolding digits
line_apart BadRequest h = refl
line_apart NotImplemented h = refl
line_apart MissingContentLength h = refl
line_apart EntityTooLarge h = refl
line_apart AccessDenied h = refl
line_apart InvalidAccessKeyId h = refl
line_apart InvalidUri h = refl
line_apart InvalidBucketName h = refl
line_apart KeyTooLong h = refl
line_apart InvalidArgument h = refl
line_apart MalformedJson h = refl
line_apart NoSuchBucket h = refl
line_apart NoSuchKey h = refl
line_apart NoSuchVersion h = refl
line_apart NoSuchUpload h = refl
line_apart MethodNotAllowed h = refl
line_apart BucketAlreadyOwnedByYou h = refl
line_apart BucketNotEmpty h = refl
line_apart InvalidBucketState h = refl
line_apart NoSuchLifecycleConfiguration h = refl
line_apart InvalidPart h = refl
line_apart InvalidPartOrder h = refl
line_apart EntityTooSmall h = refl
line_apart QuotaExceeded h = refl
line_apart InvalidRange h = refl
line_apart BadDigest h = refl
line_apart IncompleteBody h = refl
line_apart InvalidRequest h = refl
line_apart CounterExhausted h = refl
line_apart TenantExists h = refl
line_apart NoSuchTenant h = refl
line_apart KeyExists h = refl
line_apart NoSuchKeyName h = refl
line_apart InvalidName h = refl
line_apart InvalidQuota h = refl
line_apart NotAHostFile h = refl
line_apart TenantNotEmpty h = refl
line_apart TenantRetained h = refl
line_apart ClockOutOfRange h = absurd (false_is_true h)
line_apart ServiceUnavailable h = absurd (false_is_true h)
line_apart Unavailable h = absurd (false_is_true h)
