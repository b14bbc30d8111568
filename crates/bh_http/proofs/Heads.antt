-- Heads that were found by their spans.
use Rattle.std.proofs.Common.{◌≡◌, ◌≤◌, ℕ, List, length, take, drop, ap, sym, arith, length-take}
use Rattle.std.proofs.lemmas.List.{length-map}
use Rattle.httparse.specs.Grammar.{RequestHead, print_request}
use Rattle.httparse.specs.Spans.{IsRequestAt, header_bytes, name_and_value}
use Rattle.httparse.specs.declared.spans.HeaderSpan.{HeaderSpan}
use Rattle.httparse.specs.declared.spans.RequestSpans.{RequestSpans}
use Rattle.bh_http.specs.Reading.{HasHead, parts_of}
use Rattle.bh_http.specs.HeadSpans.{parts_at}

count_fits : (bytes : List ℕ) (headers : List HeaderSpan) (spans : RequestSpans) (head : RequestHead) → IsRequestAt bytes headers spans head → length headers ≤ 64 → length head.fields ≤ 64
count_fits bytes headers spans head at room =
    let same = ap length at.fields in
    let left = length-map (take spans.headers headers) (header_bytes bytes) in
    let right = length-map head.fields name_and_value in
    omega (arith, same, left, right, length-take spans.headers headers)

pub has_head : (bytes : List ℕ) (headers : List HeaderSpan) (spans : RequestSpans) (head : RequestHead) → IsRequestAt bytes headers spans head → length (print_request head) ≤ 16384
    → length headers ≤ 64 → HasHead bytes head (drop spans.len bytes)
has_head bytes headers spans head at small room = record { reads = at.reads; size = small; count = count_fits bytes headers spans head at room }

pub parts_same : (bytes : List ℕ) (headers : List HeaderSpan) (spans : RequestSpans) (head : RequestHead) → IsRequestAt bytes headers spans head → parts_of head ≡ parts_at bytes headers spans
parts_same bytes headers spans head at = λ i. record {
  method = sym at.method i;
  target = sym at.path i;
  minor = sym at.version i;
  fields = sym at.fields i;
}
