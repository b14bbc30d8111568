-- What the bytes received so far decide about the request that they begin.
use Rattle.std.specs.Prelude.{◌≡◌, ℕ, ◌+◌, ◌≤◌, ◌⊎◌, Bool, ◌||◌, not, ◌==◌, List, [], ◌∷◌, ◌++◌, length, drop, Result, Ok, Err}
use Rattle.std.specs.List.{ends_with}
use Rattle.httparse.specs.Grammar.{RequestHead, print_request}
use Rattle.httparse.specs.Spans.{IsRequestWithin}
use Rattle.httparse.specs.declared.spans.HeaderSpan.{HeaderSpan}
use Rattle.httparse.specs.declared.spans.RequestSpans.{RequestSpans}
use Rattle.bh_types.specs.Limits.{HostLimits}
use Rattle.bh_types.specs.declared.refusal.Refusal.{Refusal}
use Rattle.bh_http.specs.HeadSpans.{announced_at}
use Rattle.bh_http.specs.Reading.{HasHead, HasNoHead, Reads, ReadsHead, framing, parts_of}
use Rattle.bh_http.specs.Views.{Taken}
use Rattle.bh_http.specs.declared.arriving.Arriving.{Arriving}
use Rattle.bh_http.specs.declared.arriving.Arriving.TheVariants.{NotYet, Found, Refused}
use Rattle.bh_http.specs.declared.head.FoundHead.{FoundHead}

-- whatever bytes follow, they don't begin with a head yet
abbrev pub NeverHasHead : List ℕ → Type 0
NeverHasHead bytes = (more : List ℕ) → HasNoHead (bytes ++ more)

-- the bytes begin with a head that announces a body of that many bytes
abbrev pub Announces : HostLimits → List ℕ → ℕ → Type 0
Announces limits bytes size = (head : RequestHead) × (rest : List ℕ) × HasHead bytes head rest × (framing limits (parts_of head) ≡ Ok size)

-- the bytes begin with a head that is refused whatever follows it
abbrev pub IsRefusedByHead : HostLimits → List ℕ → Type 0
IsRefusedByHead limits bytes =
    (head : RequestHead) × (rest : List ℕ) × (refusal : Refusal) × HasHead bytes head rest × (framing limits (parts_of head) ≡ Err refusal)

-- whatever bytes follow, they are not a request that is accepted
abbrev pub NeverAccepted : HostLimits → List ℕ → Type 0
NeverAccepted limits bytes = NeverHasHead bytes ⊎ IsRefusedByHead limits bytes

-- the result of framing a head that was found
abbrev pub announcing : RequestSpans → Result ℕ Refusal → Arriving
announcing spans (Ok size) = Found (record { spans = spans; body_size = size })
announcing spans (Err refusal) = Refused refusal

abbrev pub Says : HostLimits → List ℕ → Arriving → Type 0
Says limits bytes NotYet = HasNoHead bytes
Says limits bytes (Found head) = Announces limits bytes head.body_size
Says limits bytes (Refused refusal) = NeverAccepted limits bytes

-- the parts of an accepted head are at these spans
pub record IsFound (limits : HostLimits) (bytes : List ℕ) (headers : List HeaderSpan) (head : FoundHead) : Type 0 where
  pub within : IsRequestWithin bytes headers head.spans
  pub reads : ReadsHead limits bytes (Ok (announced_at bytes headers head, drop head.spans.len bytes))

-- a head that was found is that of the bytes, or a refusal is theirs
abbrev pub Finds : HostLimits → List ℕ → List HeaderSpan → Result FoundHead Refusal → Type 0
Finds limits bytes headers (Ok head) = IsFound limits bytes headers head
Finds limits bytes headers (Err refusal) = ReadsHead limits bytes (Err refusal)

abbrev pub FindsIn : HostLimits → List ℕ → List HeaderSpan → Arriving → Type 0
FindsIn limits bytes headers NotYet = Unit {0}
FindsIn limits bytes headers (Found head) = Finds limits bytes headers (Ok head)
FindsIn limits bytes headers (Refused refusal) = Finds limits bytes headers (Err refusal)

-- a byte within a line: neither CR nor LF
abbrev pub is_text : ℕ → Bool
is_text b = not (b == 13 || b == 10)

-- the last line is empty
abbrev pub ends_blank : List ℕ → Bool
ends_blank bytes = ends_with (λ a b. a == b) bytes (10 ∷ 10 ∷ []) || ends_with (λ a b. a == b) bytes (10 ∷ 13 ∷ 10 ∷ [])

-- that many of these bytes are the head and the body of an accepted request
abbrev pub HasExtent : HostLimits → List ℕ → ℕ → Type 0
HasExtent limits bytes n =
    (head : RequestHead) × (rest : List ℕ) × (size : ℕ) × HasHead bytes head rest × (framing limits (parts_of head) ≡ Ok size)
    × (size ≤ length rest)
    × (n ≡ length (print_request head) + size)

-- whatever bytes follow, the result is that for these bytes alone
abbrev pub IsDecided : HostLimits → List ℕ → Type 0
IsDecided limits bytes = (more : List ℕ) (answer : Result Taken Refusal) → Reads limits bytes answer → Reads limits (bytes ++ more) answer
