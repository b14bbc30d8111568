-- What more bytes can make of those that arrived.
use Rattle.std.proofs.Common.{◌≡◌, ℕ, ◌+◌, ◌-◌, ◌<◌, ◌≤◌, Bool, true, false, List, [], ◌∷◌, ◌++◌, length, take, drop, refl, sym, ap, ◌∙◌, arith, inl, inr, append_assoc, append-nil, length-append, Result, Ok, Err, rules}
use Rattle.std.specs.Prelude.{◌&&◌, ◌||◌, ◌==◌, nat_le}
use Rattle.std.specs.List.{list_any, ends_with, flat_map}
use Rattle.std.proofs.lemmas.Bool.{cases_lt}
use Rattle.std.proofs.lemmas.Bool.Decides.{nat_tests}
use Rattle.std.proofs.lemmas.List.{take-append-drop, take-append-le}
use Rattle.std.proofs.Math.Seq.{take-append_seam, drop-append_seam}
use Rattle.httparse.specs.Grammar.{LineEnd, crlf, lf, print_end, print_blank, print_version, Field, print_field, RequestHead, print_request}
use Rattle.httparse.proofs.GrammarLemmas.{request_prefix_free, ReadsRequest-append, print_request-append}
use Rattle.bh_types.specs.Limits.{HostLimits}
use Rattle.bh_types.specs.declared.refusal.Refusal.{Refusal}
use Rattle.bh_http.specs.Reading.{HasHead, HasNoHead, framing, parts_of, outcome, taken}
use Rattle.bh_http.specs.Views.{Parts}
use Rattle.bh_http.proofs.Readings.{same_reading}
use Rattle.bh_http.specs.Arriving.{NeverHasHead, NeverAccepted, HasExtent, IsDecided, is_text, ends_blank}

-- ---- fronts

front_of : (a b c d : List ℕ) → a ++ b ≡ c ++ d → length c ≤ length a → a ≡ c ++ drop (length c) a
front_of a b c d same le =
    let n = length c in
    let front : take n a ≡ c = sym (take-append-le n a b le) ∙ ap (take n) same ∙ take-append_seam c d in
    sym (take-append-drop n a) ∙ ap (λ x. x ++ drop n a) front

pub has_head-append : (bytes more : List ℕ) (head : RequestHead) (rest : List ℕ) → HasHead bytes head rest → HasHead (bytes ++ more) head (rest ++ more)
has_head-append bytes more head rest has = record {
  reads = ReadsRequest-append bytes head rest more has.reads;
  size = has.size;
  count = has.count;
}

-- where these bytes have no head, a head of theirs and more is longer than these
pub longer : (bytes more : List ℕ) (head : RequestHead) (rest : List ℕ) → HasNoHead bytes → HasHead (bytes ++ more) head rest → length bytes < length (print_request head)
longer bytes more head rest none has = elim (cases_lt (length bytes) (length (print_request head))) [
  | inl lt ↦ lt
  | inr le ↦
      let left = drop (length (print_request head)) bytes in
      let is = front_of bytes more (print_request head) rest has.reads.1 le in
      absurd (none head left (record { reads = (has.reads.0, is); size = has.size; count = has.count }))
]

-- no head has more than 16,384 bytes
pub never_at_limit : (bytes : List ℕ) → HasNoHead bytes → 16384 ≤ length bytes → NeverHasHead bytes
never_at_limit bytes none le = λ more head rest has.
    let long = longer bytes more head rest none has in
    let size = has.size in
    omega arith

none_left : (rest : List ℕ) → length rest ≡ 0 → rest ≡ []
none_left [] h = refl
none_left (x ∷ xs) h = absurd (omega arith)

-- a head that one more byte makes is all of the bytes
pub completes : (bytes : List ℕ) (b : ℕ) (head : RequestHead) (rest : List ℕ) → HasNoHead bytes → HasHead (bytes ++ b ∷ []) head rest → rest ≡ []
completes bytes b head rest none has =
    let long = longer bytes (b ∷ []) head rest none has in
    let size = ap length has.reads.1 in
    let left = length-append bytes (b ∷ []) in
    let right = length-append (print_request head) rest in
    none_left rest (omega arith)

-- ---- how a head ends

-- the text ends with a line's end
abbrev EndsLine : List ℕ → Type 0
EndsLine text = (front : List ℕ) × (text ≡ front ++ 10 ∷ [])

ends_after : (a b : List ℕ) → EndsLine b → EndsLine (a ++ b)
ends_after a b (front, is) = (a ++ front, ap (λ x. a ++ x) is ∙ sym (append_assoc a front (10 ∷ [])))

end_ends : (end : LineEnd) → EndsLine (print_end end)
end_ends crlf = (13 ∷ [], refl)
end_ends lf = ([], refl)

field_ends : (f : Field) → EndsLine (print_field f)
field_ends f = ends_after (f.name ++ 58 ∷ f.raw) _ (end_ends f.end)

lines_end : (text : List ℕ) (fields : List Field) → EndsLine text → EndsLine (text ++ flat_map print_field fields)
lines_end text [] (front, is) = (front, append-nil text ∙ is)
lines_end text (f ∷ fs) ends =
    let more = lines_end (text ++ print_field f) fs (ends_after text _ (field_ends f)) in
    (more.0, sym (append_assoc text (print_field f) (flat_map print_field fs)) ∙ more.1)

suffix_is : (front needle : List ℕ) → drop (length (front ++ needle) - length needle) (front ++ needle) ≡ needle
suffix_is front needle =
    let n : length (front ++ needle) - length needle ≡ length front = omega (arith, length-append front needle) in
    ap (λ k. drop k (front ++ needle)) n ∙ drop-append_seam front needle

abbrev blank_lf : List ℕ
blank_lf = 10 ∷ 10 ∷ []

abbrev blank_crlf : List ℕ
blank_crlf = 10 ∷ 13 ∷ 10 ∷ []

or_true : (b : Bool) → b || true ≡ true
or_true true = refl
or_true false = refl

is_blank_lf : (front : List ℕ) → ends_blank (front ++ blank_lf) ≡ true
is_blank_lf front = rw (suffix_is front blank_lf) refl

is_blank_crlf : (front : List ℕ) → ends_blank (front ++ blank_crlf) ≡ true
is_blank_crlf front =
    let P : List ℕ → Bool = λ t. ends_with (λ a b. a == b) t blank_lf in
    let yes : ends_with (λ a b. a == b) (front ++ blank_crlf) blank_crlf ≡ true = rw (suffix_is front blank_crlf) refl in
    ap (λ b. P (front ++ blank_crlf) || b) yes ∙ or_true (P (front ++ blank_crlf))

blank_end : (text : List ℕ) (last : LineEnd) → EndsLine text → ends_blank (text ++ print_end last) ≡ true
blank_end text lf (front, is) = ap (λ t. ends_blank (t ++ 10 ∷ [])) is ∙ ap ends_blank (append_assoc front (10 ∷ []) (10 ∷ [])) ∙ is_blank_lf front
blank_end text crlf (front, is) = ap (λ t. ends_blank (t ++ 13 ∷ 10 ∷ [])) is ∙ ap ends_blank (append_assoc front (10 ∷ []) (13 ∷ 10 ∷ [])) ∙ is_blank_crlf front

any_after : (a b : List ℕ) → list_any is_text b ≡ true → list_any is_text (a ++ b) ≡ true
any_after [] b h = h
any_after (x ∷ xs) b h = ap (λ t. is_text x || t) (any_after xs b h) ∙ or_true (is_text x)

-- a head ends with an empty line, and not all of its lines are empty
head_ends : (h : RequestHead) → (ends_blank (print_request h ++ []) ≡ true) × (list_any is_text (print_request h ++ []) ≡ true)
head_ends h =
    let start = print_blank h.blank ++ (h.method ++ 32 ∷ (h.target ++ 32 ∷ (print_version h.minor ++ print_end h.line_end))) in
    let fields = flat_map print_field h.fields in
    let start_ends : EndsLine start =
    ends_after (print_blank h.blank) _ (ends_after h.method _ (ends_after (32 ∷ []) _ (ends_after h.target _ (ends_after (32 ∷ []) _ (ends_after (print_version h.minor) _ (end_ends h.line_end)))))) in
    let is : print_request h ++ [] ≡ (start ++ fields) ++ print_end h.last = print_request-append h [] ∙ regroup (print_blank h.blank) h.method h.target (print_version h.minor) (print_end h.line_end) fields (print_end h.last) in
    let text : list_any is_text (print_request h ++ []) ≡ true =
    ap (list_any is_text) (print_request-append h []) ∙ any_after (print_blank h.blank) _ (any_after h.method _ refl) in
    (ap ends_blank is ∙ blank_end (start ++ fields) h.last (lines_end start h.fields start_ends), text)
  where
    cons-append : (x : ℕ) (a b : List ℕ) → (x ∷ a) ++ b ≡ x ∷ (a ++ b)
    cons-append x a b = refl

    regroup : (a b c d e f g : List ℕ)
        → a ++ (b ++ 32 ∷ (c ++ 32 ∷ (d ++ (e ++ ((f ++ g) ++ []))))) ≡ ((a ++ (b ++ 32 ∷ (c ++ 32 ∷ (d ++ e)))) ++ f) ++ g
    regroup a b c d e f g = simp (append_assoc, append-nil, cons-append)

true_is_false : (b : Bool) → b ≡ true → b ≡ false → ⊥
true_is_false b t f = search rules

-- one more byte makes no head, unless a head can end with it
pub stays_none : (bytes : List ℕ) (b : ℕ) (started : Bool) → HasNoHead bytes → started ≡ list_any is_text (bytes ++ b ∷ []) → (started && ends_blank (bytes ++ b ∷ [])) ≡ false
    → HasNoHead (bytes ++ b ∷ [])
stays_none bytes b started none is open_end = λ head rest has.
    let all : bytes ++ b ∷ [] ≡ print_request head ++ [] = has.reads.1 ∙ ap (λ r. print_request head ++ r) (completes bytes b head rest none has) in
    let ends = head_ends head in
    let blank : ends_blank (bytes ++ b ∷ []) ≡ true = ap ends_blank all ∙ ends.0 in
    let text : started ≡ true = is ∙ ap (list_any is_text) all ∙ ends.1 in
    true_is_false (started && ends_blank (bytes ++ b ∷ [])) (rw (text, blank) refl) open_end

pub any-append : (bytes : List ℕ) (b : ℕ) → list_any is_text (bytes ++ b ∷ []) ≡ (list_any is_text bytes || is_text b)
any-append [] b = or_false (is_text b)
  where
    or_false : (x : Bool) → x || false ≡ x
    or_false true = refl
    or_false false = refl
any-append (x ∷ xs) b = ap (λ t. is_text x || t) (any-append xs b) ∙ sym (or_assoc (is_text x) (list_any is_text xs) (is_text b))
  where
    or_assoc : (x y z : Bool) → (x || y) || z ≡ x || (y || z)
    or_assoc true y z = refl
    or_assoc false y z = refl

pub no_head_of_none : HasNoHead []
no_head_of_none head rest has = nothing (print_request head) rest has.reads.1 (head_ends head).1
  where
    nothing : (text rest : List ℕ) → [] ≡ text ++ rest → list_any is_text (text ++ []) ≡ true → ⊥
    nothing [] rest is any = cc any
    nothing (x ∷ xs) rest is any = cc is

-- ---- what is decided

pub decided_never : (limits : HostLimits) (bytes : List ℕ) → NeverAccepted limits bytes → IsDecided limits bytes
decided_never limits bytes never = λ more answer reads. elim never [
  | inl none ↦ elim reads [
    | inl found ↦ inl (none more, found.1)
    | inr found ↦ absurd (none [] found.0 (found.1 ++ []) (has_head-append bytes [] found.0 found.1 found.2))
  ]
  | inr (head, rest, refusal, has, err) ↦
      let one : answer ≡ outcome limits (parts_of head) rest = same_reading limits bytes answer _ reads (inr (head, rest, has, refl)) in
      let this : answer ≡ Err refusal = one ∙ ap (taken (parts_of head) rest) err in
      let that : outcome limits (parts_of head) (rest ++ more) ≡ Err refusal = ap (taken (parts_of head) (rest ++ more)) err in
      inr (head, rest ++ more, has_head-append bytes more head rest has, this ∙ sym that)
]

-- the body is there: what follows it is ignored
taken_more : (p : Parts) (rest more : List ℕ) (size : ℕ) → size ≡ length rest → taken p (rest ++ more) (Ok size) ≡ taken p rest (Ok size)
taken_more p rest more size is =
    let le : size ≤ length rest = omega (arith, is) in
    let le_more : size ≤ length (rest ++ more) = omega (arith, is, length-append rest more) in
    let enough : nat_le size (length rest) ≡ true = grind (arith, nat_tests) in
    let enough_more : nat_le size (length (rest ++ more)) ≡ true = grind (arith, nat_tests) in
    rw (enough, enough_more, take-append-le size rest more le) refl

pub decided_whole : (limits : HostLimits) (bytes : List ℕ) (head : RequestHead) (rest : List ℕ) (size : ℕ)
    → HasHead bytes head rest → framing limits (parts_of head) ≡ Ok size → size ≡ length rest → IsDecided limits bytes
decided_whole limits bytes head rest size has ok full = λ more answer reads.
    let one : answer ≡ outcome limits (parts_of head) rest = same_reading limits bytes answer _ reads (inr (head, rest, has, refl)) in
    let same : outcome limits (parts_of head) (rest ++ more) ≡ outcome limits (parts_of head) rest =
    ap (taken (parts_of head) (rest ++ more)) ok ∙ taken_more (parts_of head) rest more size full ∙ sym (ap (taken (parts_of head) rest) ok) in
    inr (head, rest ++ more, has_head-append bytes more head rest has, one ∙ sym same)

-- ---- how long a request is

pub longer_extent : (limits : HostLimits) (bytes more : List ℕ) (n : ℕ) → HasNoHead bytes → HasExtent limits (bytes ++ more) n → length bytes < n
longer_extent limits bytes more n none (head, rest, size, has, ok, enough, is) =
    let long = longer bytes more head rest none has in
    omega (arith, long, is)

pub extent_is : (limits : HostLimits) (bytes more : List ℕ) (head : RequestHead) (rest : List ℕ) (size n : ℕ)
    → HasHead bytes head rest → framing limits (parts_of head) ≡ Ok size → HasExtent limits (bytes ++ more) n
    → (n ≡ length (print_request head) + size) × (size ≤ length rest + length more)
extent_is limits bytes more head rest size n has ok (other, left, length2, has2, ok2, enough, is) =
    let same = request_prefix_free bytes more head other rest left has.reads has2.reads in
    let sizes : size ≡ length2 = same_ok size length2 _ (ap (λ h. framing limits (parts_of h)) (sym same.0) ∙ ok) ok2 in
    let heads : length (print_request head) ≡ length (print_request other) = ap (λ h. length (print_request h)) same.0 in
    let lefts : length (rest ++ more) ≡ length left = ap length same.1 in
    (omega (arith, is, heads, sizes), omega (arith, sizes, enough, lefts, length-append rest more))
  where
    same_ok : (a b : ℕ) (r : Result ℕ Refusal) → r ≡ Ok a → r ≡ Ok b → a ≡ b
    same_ok a b r x y = cc (x, y)

pub never_no_extent : (limits : HostLimits) (bytes more : List ℕ) (n : ℕ) → NeverAccepted limits bytes → HasExtent limits (bytes ++ more) n → ⊥
never_no_extent limits bytes more n never (head, rest, size, has, ok, enough, is) = elim never [
  | inl none ↦ none more head rest has
  | inr (other, left, refusal, has2, err) ↦
      let same = request_prefix_free bytes more other head left rest has2.reads has.reads in
      both refusal size _ err (ap (λ h. framing limits (parts_of h)) same.0 ∙ ok)
]
  where
    both : (refusal : Refusal) (size : ℕ) (r : Result ℕ Refusal) → r ≡ Err refusal → r ≡ Ok size → ⊥
    both refusal size r x y = cc (x, y)
