-- What was taken so far, and when it is enough.
use Rattle.std.proofs.Common.{◌≡◌, ℕ, ◌+◌, ◌≤◌, List, [], ◌∷◌, ◌++◌, length, refl, sym, ap, subst, ◌∙◌, arith, inl, inr, ◌⊎◌, append_assoc, length-append, Result, Ok, Err, IfErr, Option, Some, None, Bool, false}
use Rattle.std.specs.Prelude.{◌||◌, ◌&&◌}
use Rattle.std.specs.List.{list_any}
use Rattle.std.specs.Io.KnownBytes.{Consumes, Keeps, IsAtEnd}
use Rattle.std.proofs.lemmas.List.{append-nil}
use Rattle.httparse.specs.Grammar.{print_request}
use Rattle.bh_types.specs.Limits.{HostLimits}
use Rattle.bh_types.specs.declared.refusal.Refusal.{Refusal}
use Rattle.bh_http.specs.Reading.{HasHead, HasNoHead, Reads}
use Rattle.bh_http.specs.Views.{Taken}
use Rattle.bh_http.specs.Arriving.{NeverAccepted, HasExtent, is_text, ends_blank, Announces}
use Rattle.bh_http.proofs.ArrivingLemmas.{has_head-append, never_at_limit, decided_never, decided_whole, longer_extent, extent_is, never_no_extent, stays_none, completes, any-append}
use Rattle.bh_link.specs.Taking.{all_of, IsShort, Took, TookAtMost, Opens}

-- ---- readers

pub consumes_none : (a : Option (List ℕ)) → Consumes a a []
consumes_none None = tt
consumes_none (Some xs) = refl

pub consumes_then : (a b c : Option (List ℕ)) (x y : List ℕ) → Consumes a b x → Consumes b c y → Consumes a c (x ++ y)
consumes_then None b c x y h k = tt
consumes_then (Some xs) None c x y h k = absurd h
consumes_then (Some xs) (Some ys) None x y h k = absurd k
consumes_then (Some xs) (Some ys) (Some zs) x y h k = h ∙ ap (λ t. x ++ t) k ∙ sym (append_assoc x y zs)

pub consumes_kept : (a b c : Option (List ℕ)) (x : List ℕ) → Consumes a b x → Keeps b c → Consumes a c x
consumes_kept None b c x h k = tt
consumes_kept (Some xs) None c x h k = absurd h
consumes_kept (Some xs) (Some ys) None x h k = absurd k
consumes_kept (Some xs) (Some ys) (Some zs) x h k = h ∙ ap (λ t. x ++ t) (sym k)

-- nothing is left of the bytes that the reader tells
abbrev NoneLeft : Option (List ℕ) → Option (List ℕ) → Type 0
NoneLeft None new = Unit {0}
NoneLeft (Some xs) new = IsAtEnd new

none_left_at : (old new : Option (List ℕ)) → IsAtEnd new → NoneLeft old new
none_left_at None new end = tt
none_left_at (Some xs) new end = end

none_left_then : (old mid new : Option (List ℕ)) (x : List ℕ) → Consumes old mid x → Consumes mid new [] → IsAtEnd mid → NoneLeft old new
none_left_then None mid new x h k end = tt
none_left_then (Some xs) None new x h k end = absurd h
none_left_then (Some xs) (Some ys) None x h k end = absurd k
none_left_then (Some xs) (Some ys) (Some zs) x h k end = sym k ∙ end

-- what is left of a reader's bytes
pub left_of : (old new : Option (List ℕ)) (taken : List ℕ) → Consumes old new taken → (left : List ℕ) × (all_of old taken ≡ taken ++ left) × (NoneLeft old new → left ≡ [])
left_of None new taken h = ([], sym (append-nil taken), λ _. refl)
left_of (Some xs) None taken h = absurd h
left_of (Some xs) (Some ys) taken h = (ys, h, λ end. end)

-- ---- enough was taken

abbrev Decides : HostLimits → List ℕ → List ℕ → Type 0
Decides limits taken all = (answer : Result Taken Refusal) → Reads limits taken answer → Reads limits all answer

took : (limits : HostLimits) (old new : Option (List ℕ)) (taken left : List ℕ) → Consumes old new taken → IsShort limits taken → all_of old taken ≡ taken ++ left
    → Decides limits taken (taken ++ left) → ((n : ℕ) → HasExtent limits (taken ++ left) n → length taken ≡ n) → Took limits old new taken
took limits old new taken left consumed short is decides extent =
    let P : List ℕ → Type 0 = λ all. Decides limits taken all in
    let Q : List ℕ → Type 0 = λ all. (n : ℕ) → HasExtent limits all n → length taken ≡ n in
    record {
      consumed = consumed;
      short = short;
      decided = subst P (sym is) decides;
      whole = subst Q (sym is) extent;
    }

pub took_never : (limits : HostLimits) (old new : Option (List ℕ)) (taken : List ℕ) → Consumes old new taken → IsShort limits taken → NeverAccepted limits taken → Took limits old new taken
took_never limits old new taken consumed short never =
    let (left, is, _) = left_of old new taken consumed in
    took limits old new taken left consumed short is (λ answer reads. decided_never limits taken never left answer reads)
    (λ n extent. absurd (never_no_extent limits taken left n never extent))

-- where nothing is left, what was taken is all
took_all : (limits : HostLimits) (old new : Option (List ℕ)) (taken : List ℕ) → Consumes old new taken → IsShort limits taken → NoneLeft old new
    → ((n : ℕ) → HasExtent limits taken n → length taken ≡ n) → Took limits old new taken
took_all limits old new taken consumed short end extent =
    let (left, is, none) = left_of old new taken consumed in
    let all : taken ++ left ≡ taken = ap (λ t. taken ++ t) (none end) ∙ append-nil taken in
    let P : List ℕ → Type 0 = λ t. Decides limits taken t in
    let Q : List ℕ → Type 0 = λ t. (n : ℕ) → HasExtent limits t n → length taken ≡ n in
    took limits old new taken left consumed short is (subst P (sym all) (λ answer reads. reads)) (subst Q (sym all) extent)

nothing : (xs : List ℕ) → length xs ≤ 0 → xs ≡ []
nothing [] h = refl
nothing (x ∷ xs) h = absurd (omega arith)

-- with no more than the body that was announced
short_with : (limits : HostLimits) (start mid : Option (List ℕ)) (bytes piece : List ℕ) (body : ℕ) → Opens limits start mid bytes body → length piece ≤ body → IsShort limits (bytes ++ piece)
short_with limits start mid bytes piece body opens le =
    let count : length (bytes ++ piece) ≡ length bytes + length piece = length-append bytes piece in
    elim opens.came_to [
      | inl (never, zero) ↦ inl (omega (arith, zero, le, count, opens.short))
      | inr rest ↦ elim rest [
        | inl (end, (no_head, zero)) ↦ inl (omega (arith, zero, le, count, opens.short))
        | inr (head, has, ok) ↦ inr (body, (head, piece, has_head-append bytes piece head [] has, ok), omega (arith, le, count, opens.short))
      ]
    ]

-- with a body that is whole, or cut off by the end of all bytes, it is enough
pub finish : (limits : HostLimits) (start mid new : Option (List ℕ)) (bytes piece : List ℕ) (body : ℕ) → Opens limits start mid bytes body → Consumes mid new piece
    → length piece ≤ body → (length piece ≡ body) ⊎ IsAtEnd new → Took limits start new (bytes ++ piece)
finish limits start mid new bytes piece body opens consumes le full =
    let consumed : Consumes start new (bytes ++ piece) = consumes_then start mid new bytes piece opens.consumed consumes in
    let short : IsShort limits (bytes ++ piece) = short_with limits start mid bytes piece body opens le in
    elim opens.came_to [
      | inl (never, zero) ↦
          let none : piece ≡ [] = nothing piece (omega (arith, zero)) in
          let is : bytes ≡ bytes ++ piece = sym (append-nil bytes) ∙ ap (λ t. bytes ++ t) (sym none) in
          took_never limits start new (bytes ++ piece) consumed short (subst (NeverAccepted limits) is never)
      | inr rest ↦ elim rest [
        | inl (end, (no_head, zero)) ↦
            let none : piece ≡ [] = nothing piece (omega (arith, zero)) in
            let is : bytes ≡ bytes ++ piece = sym (append-nil bytes) ∙ ap (λ t. bytes ++ t) (sym none) in
            let Q : List ℕ → Type 0 = λ t. HasNoHead t in
            let no_more : HasNoHead (bytes ++ piece) = subst Q is no_head in
            took_all limits start new (bytes ++ piece) consumed short
            (none_left_then start mid new bytes opens.consumed (subst (λ t. Consumes mid new t) none consumes) end)
            (λ n extent. absurd (no_more extent.0 extent.1 extent.3))
        | inr (head, has, ok) ↦
            let taken = bytes ++ piece in
            let more : HasHead taken head piece = has_head-append bytes piece head [] has in
            let length_head : length bytes ≡ length (print_request head) = ap length has.reads.1 ∙ ap length (append-nil (print_request head)) in
            let count : length taken ≡ length bytes + length piece = length-append bytes piece in
            elim full [
              | inl whole ↦
                  let (left, is, _) = left_of start new taken consumed in
                  took limits start new taken left consumed short is
                  (λ answer reads. decided_whole limits taken head piece body more ok (sym whole) left answer reads)
                  (λ n extent. let sizes = extent_is limits taken left head piece body n more ok extent in omega (arith, sizes.0, count, length_head, whole))
              | inr end ↦
                  took_all limits start new taken consumed short (none_left_at start new end)
                  (λ n extent.
                  let P : List ℕ → Type 0 = λ t. HasExtent limits t n in
                  let sizes = extent_is limits taken [] head piece body n more ok (subst P (sym (append-nil taken)) extent) in
                  omega (arith, sizes.0, sizes.1, count, length_head))
            ]
      ]
    ]

at_most : (limits : HostLimits) (old new : Option (List ℕ)) (taken : List ℕ) → Consumes old new taken → IsShort limits taken
    → ((left : List ℕ) (n : ℕ) → HasExtent limits (taken ++ left) n → length taken ≤ n) → TookAtMost limits old new taken
at_most limits old new taken consumed short extent =
    let (left, is, _) = left_of old new taken consumed in
    let Q : List ℕ → Type 0 = λ all. (n : ℕ) → HasExtent limits all n → length taken ≤ n in
    record { consumed = consumed; short = short; within = subst Q (sym is) (extent left) }

-- while no more than the body is taken, it is not too much
pub finish_part : (limits : HostLimits) (start mid new : Option (List ℕ)) (bytes piece : List ℕ) (body : ℕ) → Opens limits start mid bytes body → Consumes mid new piece
    → length piece ≤ body → TookAtMost limits start new (bytes ++ piece)
finish_part limits start mid new bytes piece body opens consumes le =
    let consumed : Consumes start new (bytes ++ piece) = consumes_then start mid new bytes piece opens.consumed consumes in
    let count : length (bytes ++ piece) ≡ length bytes + length piece = length-append bytes piece in
    at_most limits start new (bytes ++ piece) consumed (short_with limits start mid bytes piece body opens le) (λ left n extent.
    let P : List ℕ → Type 0 = λ t. HasExtent limits t n in
    let further : HasExtent limits (bytes ++ (piece ++ left)) n = subst P (append_assoc bytes piece left) extent in
    elim opens.came_to [
      | inl (never, zero) ↦ absurd (never_no_extent limits bytes (piece ++ left) n never further)
      | inr rest ↦ elim rest [
        | inl (end, (no_head, zero)) ↦ let long = longer_extent limits bytes (piece ++ left) n no_head further in omega (arith, long, zero, le, count)
        | inr (head, has, ok) ↦
            let length_head : length bytes ≡ length (print_request head) = ap length has.reads.1 ∙ ap length (append-nil (print_request head)) in
            let sizes = extent_is limits bytes (piece ++ left) head [] body n has ok further in
            omega (arith, sizes.0, count, length_head, le)
      ]
    ])

-- ---- the head, a byte at a time

pub part_none : (limits : HostLimits) (old new : Option (List ℕ)) (bytes : List ℕ) → Consumes old new bytes → length bytes ≤ 16384 → HasNoHead bytes → TookAtMost limits old new bytes
part_none limits old new bytes consumed le none =
    at_most limits old new bytes consumed (inl le) (λ left n extent. let long = longer_extent limits bytes left n none extent in omega (arith, long))

pub part_byte : (limits : HostLimits) (old new : Option (List ℕ)) (bytes : List ℕ) (b : ℕ) → Consumes old new (bytes ++ b ∷ []) → length (bytes ++ b ∷ []) ≤ 16384 → HasNoHead bytes → TookAtMost limits old new (bytes ++ b ∷ [])
part_byte limits old new bytes b consumed le none =
    at_most limits old new (bytes ++ b ∷ []) consumed (inl le) (λ left n extent.
    let P : List ℕ → Type 0 = λ t. HasExtent limits t n in
    let long = longer_extent limits bytes (b ∷ [] ++ left) n none (subst P (append_assoc bytes (b ∷ []) left) extent) in
    omega (arith, long, length-append bytes (b ∷ [])))

pub opens_head : (limits : HostLimits) (old new : Option (List ℕ)) (bytes : List ℕ) (b body : ℕ) → Consumes old new (bytes ++ b ∷ []) → length (bytes ++ b ∷ []) ≤ 16384 → HasNoHead bytes
    → Announces limits (bytes ++ b ∷ []) body → Opens limits old new (bytes ++ b ∷ []) body
opens_head limits old new bytes b body consumed le none (head, rest, has, ok) =
    let P : List ℕ → Type 0 = λ r. HasHead (bytes ++ b ∷ []) head r in
    record { consumed = consumed; short = le; came_to = inr (inr (head, subst P (completes bytes b head rest none has) has, ok)) }

pub opens_end : (limits : HostLimits) (old new : Option (List ℕ)) (bytes : List ℕ) → Consumes old new bytes → length bytes ≤ 16384 → HasNoHead bytes → IsAtEnd new → Opens limits old new bytes 0
opens_end limits old new bytes consumed le none end = record { consumed = consumed; short = le; came_to = inr (inl (end, (none, refl))) }

pub opens_never : (limits : HostLimits) (old new : Option (List ℕ)) (bytes : List ℕ) → Consumes old new bytes → length bytes ≤ 16384 → NeverAccepted limits bytes → Opens limits old new bytes 0
opens_never limits old new bytes consumed le never = record { consumed = consumed; short = le; came_to = inl (never, refl) }

pub opens_limit : (limits : HostLimits) (old new : Option (List ℕ)) (bytes : List ℕ) → Consumes old new bytes → HasNoHead bytes → length bytes ≡ 16384 → Opens limits old new bytes 0
opens_limit limits old new bytes consumed none full =
    let le : 16384 ≤ length bytes = omega (arith, full) in
    opens_never limits old new bytes consumed (omega (arith, full)) (inl (never_at_limit bytes none le))

-- ---- one more byte, as the loop has it

pub started_pushed : (bytes next : List ℕ) (b : ℕ) (before started : Bool) → next ≡ bytes ++ b ∷ [] → before ≡ list_any is_text bytes → started ≡ (before || is_text b) → started ≡ list_any is_text next
started_pushed bytes next b before started same was is = is ∙ ap (λ t. t || is_text b) was ∙ sym (any-append bytes b) ∙ ap (list_any is_text) (sym same)

pub none_pushed : (bytes next : List ℕ) (b : ℕ) (started : Bool) → next ≡ bytes ++ b ∷ [] → HasNoHead bytes → started ≡ list_any is_text next → (started && ends_blank next) ≡ false → HasNoHead next
none_pushed bytes next b started same none is open_end =
    let P : List ℕ → Type 0 = λ t. HasNoHead t in
    subst P (sym same) (stays_none bytes b started none (is ∙ ap (list_any is_text) same) (ap (λ t. started && ends_blank t) (sym same) ∙ open_end))

pub consumes_pushed : (old mid new : Option (List ℕ)) (bytes next : List ℕ) (b : ℕ) → next ≡ bytes ++ b ∷ [] → Consumes old mid bytes → Consumes mid new (b ∷ []) → Consumes old new next
consumes_pushed old mid new bytes next b same x y = let P : List ℕ → Type 0 = λ t. Consumes old new t in subst P (sym same) (consumes_then old mid new bytes (b ∷ []) x y)

pub part_pushed : (limits : HostLimits) (old new : Option (List ℕ)) (bytes next : List ℕ) (b : ℕ) → next ≡ bytes ++ b ∷ [] → Consumes old new next → length next ≤ 16384 → HasNoHead bytes → TookAtMost limits old new next
part_pushed limits old new bytes next b same consumed le none =
    let P : List ℕ → Type 0 = λ t. Consumes old new t → length t ≤ 16384 → TookAtMost limits old new t in
    subst P (sym same) (λ x y. part_byte limits old new bytes b x y none) consumed le

pub opens_pushed : (limits : HostLimits) (old new : Option (List ℕ)) (bytes next : List ℕ) (b body : ℕ) → next ≡ bytes ++ b ∷ [] → Consumes old new next → length next ≤ 16384 → HasNoHead bytes
    → Announces limits next body → Opens limits old new next body
opens_pushed limits old new bytes next b body same consumed le none announces =
    let P : List ℕ → Type 0 = λ t. Consumes old new t → length t ≤ 16384 → Announces limits t body → Opens limits old new t body in
    subst P (sym same) (λ x y z. opens_head limits old new bytes b body x y none z) consumed le announces

pub if_err : {X E : Type 0} (r : Result X E) {Q : Type 0} → Q → IfErr r (λ _. Q)
if_err (Ok x) q = tt
if_err (Err e) q = q
