-- The extent of a request whose head was found.
use Rattle.std.proofs.Common.{◌≡◌, ◌≢◌, ℕ, ◌+◌, ◌≤◌, List, ◌++◌, length, drop, length-append, refl, sym, ap, arith, inl, inr, Result, Ok, Err, is_ok, true≢false}
use Rattle.std.proofs.lemmas.List.{length-drop}
use Rattle.httparse.specs.Grammar.{print_request}
use Rattle.httparse.specs.declared.spans.HeaderSpan.{HeaderSpan}
use Rattle.bh_types.specs.Limits.{HostLimits}
use Rattle.bh_types.specs.declared.refusal.Refusal.{Refusal}
use Rattle.bh_http.specs.Arriving.{IsFound, HasExtent, NeverAccepted}
use Rattle.bh_http.specs.HeadSpans.{announced_at}
use Rattle.bh_http.specs.Reading.{HasNoHead, announcing, parts_of}
use Rattle.bh_http.specs.Views.{Announced, Parts}
use Rattle.bh_http.specs.declared.head.FoundHead.{FoundHead}
use Rattle.bh_http.proofs.ArrivingLemmas.{never_at_limit}
use Rattle.bh_stage.specs.Wholes.{Extends}
use Rattle.bh_stage.specs.declared.whole.Door.TheVariants.{Clients}
use Rattle.bh_stage.specs.declared.whole.Extent.{Extent}
use Rattle.bh_stage.specs.declared.whole.Extent.TheVariants.{NotYet, Never, Bytes, TooLong}

abbrev Answer : Type 0
Answer = Result (Announced × List ℕ) Refusal

abbrev head_or : Answer → Announced × List ℕ → Announced × List ℕ
head_or (Ok x) other = x
head_or (Err refusal) other = other

-- what the framing of a head that is accepted announces
announces : (p : Parts) (r : List ℕ) (f : Result ℕ Refusal) (head : Announced) (rest : List ℕ) → ◌≡◌ {A = Answer} (Ok (head, rest)) (announcing p r f) → (f ≡ Ok head.size) × (rest ≡ r)
announces p r (Ok size) head rest e =
    let same = ap (λ x. head_or x (head, rest)) e in
    (ap (λ (x : Announced × List ℕ). Ok x.0.size) (sym same), ap (λ (x : Announced × List ℕ). x.1) same)
announces p r (Err refusal) head rest e = absurd (true≢false (ap is_ok e))

pub found_extent : (limits : HostLimits) (bytes : List ℕ) (headers : List HeaderSpan) (found : FoundHead) (n : ℕ) → IsFound limits bytes headers found
    → n ≡ found.spans.len + found.body_size → n ≤ length bytes → HasExtent limits bytes n
found_extent limits bytes headers found n is sum le = elim is.reads [
  | inl (none, e) ↦ absurd (true≢false (ap is_ok e))
  | inr (head, rest, has, e) ↦
      let (framed, same) = announces (parts_of head) rest _ (announced_at bytes headers found) (drop found.spans.len bytes) e in
      let left : length (drop found.spans.len bytes) ≡ length rest = ap length same in
      let dropped = length-drop found.spans.len bytes in
      let all : length bytes ≡ length (print_request head ++ rest) = ap length has.reads.1 in
      let parts = length-append (print_request head) rest in
      (head, rest, found.body_size, has, framed, omega (arith, sum, le, left, dropped, all, parts), omega (arith, sum, le, left, dropped, all, parts))
]

pub never_of_limit : (limits : HostLimits) (bytes : List ℕ) → HasNoHead bytes → 16384 ≤ length bytes → NeverAccepted limits bytes
never_of_limit limits bytes none long = inl (never_at_limit bytes none long)

pub found_extends : (limits : HostLimits) (bytes : List ℕ) (headers : List HeaderSpan) (found : FoundHead) (r : Extent) → IsFound limits bytes headers found
    → r ≢ Never → ((n : ℕ) → r ≡ Bytes n → n ≡ found.spans.len + found.body_size) → Extends limits Clients bytes r
found_extends limits bytes headers found NotYet is never sum = tt
found_extends limits bytes headers found Never is never sum = absurd (never refl)
found_extends limits bytes headers found (Bytes n) is never sum = λ le. inl (n, found_extent limits bytes headers found n is (sum n refl) le)
found_extends limits bytes headers found TooLong is never sum = tt
