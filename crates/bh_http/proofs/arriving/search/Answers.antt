use Rattle.std.proofs.Common.{◌≡◌, ◌<◌, ◌≤◌, ℕ, List, length, drop, refl, ap, sym, subst, ◌∙◌, arith, inl, inr, Result, Ok, Err}
use Rattle.httparse.specs.Grammar.{RequestHead, print_request}
use Rattle.httparse.specs.Spans.{IsRequestOf, IsRequestWithin}
use Rattle.httparse.specs.declared.spans.HeaderSpan.{HeaderSpan}
use Rattle.httparse.specs.declared.spans.RequestSpans.{RequestSpans}
use Rattle.httparse.proofs.GrammarLemmas.{request_prefix_free}
use Rattle.bh_types.specs.Limits.{HostLimits}
use Rattle.bh_types.specs.declared.refusal.Refusal.{Refusal}
use Rattle.bh_http.specs.Reading.{HasHead, framing, parts_of}
use Rattle.bh_http.specs.Reading as reading
use Rattle.bh_http.specs.Arriving.{NeverHasHead, Says, FindsIn, announcing}
use Rattle.bh_http.specs.HeadSpans.{parts_at}
use Rattle.bh_http.specs.Views.{Parts}
use Rattle.bh_http.proofs.Heads.{has_head, parts_same}
use Rattle.bh_http.proofs.arriving.search.Goals as goal

-- a head that is too long stays so, whatever bytes follow
too_long : (bytes : List ℕ) (headers : List HeaderSpan) (spans : RequestSpans) → IsRequestOf bytes headers spans → 16384 < spans.len → NeverHasHead bytes
too_long bytes headers spans found long = λ more head rest has.
    let same = request_prefix_free bytes more found.0 head _ rest found.1.reads has.reads in
    let size = ap (λ (h : RequestHead). length (print_request h)) same.0 in
    let len = found.1.len in
    let small = has.size in
    omega arith

said_as : (limits : HostLimits) (bytes : List ℕ) (spans : RequestSpans) (head : RequestHead) (rest : List ℕ) (r : Result ℕ Refusal) → HasHead bytes head rest → framing limits (parts_of head) ≡ r
    → Says limits bytes (announcing spans r)
said_as limits bytes spans head rest (Ok size) has is = (head, rest, has, is)
said_as limits bytes spans head rest (Err refusal) has is = inr (head, rest, refusal, has, is)

module _ (limits : HostLimits) (bytes : List ℕ) (headers : List HeaderSpan) (spans : RequestSpans) where
  read_as : (head : RequestHead) (parts : Parts) (r : Result ℕ Refusal) → HasHead bytes head (drop spans.len bytes) → parts_of head ≡ parts → framing limits parts ≡ r
      → reading.announcing (parts_of head) (drop spans.len bytes) (framing limits (parts_of head)) ≡ reading.announcing parts (drop spans.len bytes) r
  read_as head parts r has same is = ap (λ p. reading.announcing p (drop spans.len bytes) (framing limits p)) same ∙ ap (reading.announcing parts (drop spans.len bytes)) is

  found_as : (head : RequestHead) (r : Result ℕ Refusal) → IsRequestWithin bytes headers spans → HasHead bytes head (drop spans.len bytes) → parts_of head ≡ parts_at bytes headers spans
      → framing limits (parts_at bytes headers spans) ≡ r → FindsIn limits bytes headers (announcing spans r)
  found_as head (Ok size) within has same is = record { within = within; reads = inr (head, drop spans.len bytes, has, sym (read_as head _ (Ok size) has same is)) }
  found_as head (Err refusal) within has same is = inr (head, drop spans.len bytes, has, sym (read_as head _ (Err refusal) has same is))

  module _ (within : IsRequestWithin bytes headers spans) (of : IsRequestOf bytes headers spans) (small : spans.len ≤ 16384) (room : length headers ≤ 64) where
    its : HasHead bytes of.0 (drop spans.len bytes)
    its = let len = of.1.len in has_head bytes headers spans of.0 of.1 (omega arith) room

    said : Says limits bytes (announcing spans (framing limits (parts_at bytes headers spans)))
    said = said_as limits bytes spans of.0 _ _ its (ap (framing limits) (parts_same bytes headers spans of.0 of.1))

    found : FindsIn limits bytes headers (announcing spans (framing limits (parts_at bytes headers spans)))
    found = found_as of.0 _ within its (parts_same bytes headers spans of.0 of.1) refl

pub returns-in-Ok-Complete-2-clause-says : goal.returns-in-Ok-Complete-2-clause-says
returns-in-Ok-Complete-2-clause-says c =
    inl (too_long c.args.bytes.now c.parse_request.new.headers c.in-Ok-Complete.spans (rw c.in-Ok-Complete.field-0-is at c.in-Ok-Complete.ensures.complete) c.if-spans-le-MAX_HEAD.false)

pub returns-in-Ok-Complete-clause-says : goal.returns-in-Ok-Complete-clause-says
returns-in-Ok-Complete-clause-says c =
    let headers = c.parse_request.new.headers in
    let its = rw c.in-Ok-Complete.field-0-is at c.in-Ok-Complete.ensures in
    let room : length headers ≤ 64 = omega (arith, c.parse_request.auto.headers, ap length c.as_mut_slice.ensures.value) in
    subst (Says c.args.limits.now c.args.bytes.now) (sym c.announced.ensures) (said c.args.limits.now c.args.bytes.now headers c.in-Ok-Complete.spans its.within its.complete c.if-spans-le-MAX_HEAD.true room)

pub returns-in-Ok-Complete-clause-finds : goal.returns-in-Ok-Complete-clause-finds
returns-in-Ok-Complete-clause-finds c =
    let headers = c.parse_request.new.headers in
    let its = rw c.in-Ok-Complete.field-0-is at c.in-Ok-Complete.ensures in
    let room : length headers ≤ 64 = omega (arith, c.parse_request.auto.headers, ap length c.as_mut_slice.ensures.value) in
    subst (FindsIn c.args.limits.now c.args.bytes.now headers) (sym c.announced.ensures) (found c.args.limits.now c.args.bytes.now headers c.in-Ok-Complete.spans its.within its.complete c.if-spans-le-MAX_HEAD.true room)
