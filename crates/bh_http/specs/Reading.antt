-- Parsing a request: a head of httparse's grammar (RFC 9112), and then the body by its
-- Content-Length.
use Rattle.std.specs.Prelude.{◌≡◌, ℕ, ◌≤◌, Bool, true, false, ◌&&◌, ◌||◌, not, ◌==◌, nat_le, ◌⊎◌, List, length, take, map, codes}
use Rattle.std.specs.Prelude.{if◌then◌else◌, Result, Ok, Err}
use Rattle.std.specs.Str.{bytes_eq}
use Rattle.std.specs.Str.Parse.{digits_value}
use Rattle.httparse.specs.Grammar.{RequestHead, ReadsRequest, print_request}
use Rattle.httparse.specs.Spans.{name_and_value}
use Rattle.bh_types.specs.Digits.{is_number}
use Rattle.bh_types.specs.Limits.{HostLimits}
use Rattle.bh_types.specs.declared.refusal.Refusal.{Refusal}
use Rattle.bh_types.specs.declared.refusal.Refusal.TheVariants.{BadRequest, NotImplemented, MissingContentLength, EntityTooLarge}
use Rattle.bh_types.specs.declared.refusal.Refusal.TheVariants.{IncompleteBody}
use Rattle.bh_http.specs.Fields.{Occurrence, Missing, Once, Repeated, field_named}
use Rattle.bh_http.specs.Views.{Taken, Parts, Announced}

-- the bytes begin with this head, which has at most 16,384 bytes, empty lines before it included,
-- and 64 fields
pub record HasHead (bytes : List ℕ) (head : RequestHead) (rest : List ℕ) : Type 0 where
  pub reads : ReadsRequest bytes head rest
  pub size : length (print_request head) ≤ 16384
  pub count : length head.fields ≤ 64

abbrev pub HasNoHead : List ℕ → Type 0
HasNoHead bytes = (head : RequestHead) (rest : List ℕ) → HasHead bytes head rest → ⊥

-- the parts of a head of the grammar
abbrev pub parts_of : RequestHead → Parts
parts_of head = record {
  method = head.method;
  target = head.target;
  minor = head.minor;
  fields = map name_and_value head.fields;
}

abbrev pub is_missing : Occurrence → Bool
is_missing Missing = true
is_missing (Once value) = false
is_missing Repeated = false

abbrev pub is_once : Occurrence → Bool
is_once Missing = false
is_once (Once value) = true
is_once Repeated = false

-- RFC 9110, section 15.5.12: 411 if a length is required
abbrev pub needs_length : List ℕ → Bool
needs_length method = bytes_eq method (codes "PUT") || bytes_eq method (codes "POST")

-- the length in a value of Content-Length
-- RFC 9110, section 8.6
abbrev pub length_in : ℕ → List ℕ → Result ℕ Refusal
length_in max_body value =
    if not (is_number value) then Err BadRequest
    else if nat_le (digits_value 10 value) max_body then Ok (digits_value 10 value)
    else Err EntityTooLarge

-- the length by Content-Length, for a method
abbrev pub announced : ℕ → List ℕ → Occurrence → Result ℕ Refusal
announced max_body method Missing = if needs_length method then Err MissingContentLength else Ok 0
announced max_body method (Once value) = length_in max_body value
announced max_body method Repeated = Err BadRequest

-- the length of the body after a head, or the first refusal
-- RFC 9112, sections 3.2 (Host) and 6
abbrev pub framing : HostLimits → Parts → Result ℕ Refusal
framing limits head =
    if head.minor == 1 && not (is_once (field_named (codes "host") head.fields)) then Err BadRequest
    else if not (is_missing (field_named (codes "transfer-encoding") head.fields))
    then Err NotImplemented
    else announced limits.max_body head.method (field_named (codes "content-length") head.fields)

-- the request with a head and, as its body, the first bytes after it
-- RFC 9112, section 8: fewer bytes than announced
abbrev pub taken : Parts → List ℕ → Result ℕ Refusal → Result Taken Refusal
taken head rest (Err refusal) = Err refusal
taken head rest (Ok size) =
    if nat_le size (length rest)
    then Ok (record {
      method = head.method;
      target = head.target;
      fields = head.fields;
      body = take size rest;
    })
    else Err IncompleteBody

abbrev pub outcome : HostLimits → Parts → List ℕ → Result Taken Refusal
outcome limits head rest = taken head rest (framing limits head)

-- the result for some bytes: no head, or a head with its outcome
abbrev pub Reads : HostLimits → List ℕ → Result Taken Refusal → Type 0
Reads limits bytes answer =
    (HasNoHead bytes × (answer ≡ Err BadRequest))
    ⊎ ((head : RequestHead) × (rest : List ℕ) × HasHead bytes head rest
    × (answer ≡ outcome limits (parts_of head) rest))

-- a head and the bytes after it, if its framing is accepted
abbrev pub announcing : Parts → List ℕ → Result ℕ Refusal → Result (Announced × List ℕ) Refusal
announcing head rest (Err refusal) = Err refusal
announcing head rest (Ok size) = Ok (
  record {
    method = head.method;
    target = head.target;
    fields = head.fields;
    size = size;
  },
  rest,
)

-- the result for the head at the front of the bytes: no head; or an accepted one, with the bytes
-- after it; or the first refusal
abbrev pub ReadsHead : HostLimits → List ℕ → Result (Announced × List ℕ) Refusal → Type 0
ReadsHead limits bytes answer =
    (HasNoHead bytes × (answer ≡ Err BadRequest))
    ⊎ ((head : RequestHead) × (rest : List ℕ) × HasHead bytes head rest
    × (answer ≡ announcing (parts_of head) rest (framing limits (parts_of head))))

-- the request of a head and of the bytes after it
abbrev pub completed : Announced → List ℕ → Result Taken Refusal
completed head rest =
    if nat_le head.size (length rest)
    then Ok (record {
      method = head.method;
      target = head.target;
      fields = head.fields;
      body = take head.size rest;
    })
    else Err IncompleteBody

-- parsing is deterministic
abbrev pub OneReading : Type 0
OneReading = (limits : HostLimits) (bytes : List ℕ) (a b : Result Taken Refusal)
    → Reads limits bytes a → Reads limits bytes b → a ≡ b
