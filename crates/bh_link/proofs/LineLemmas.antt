-- What was taken so far of a line.
use Rattle.std.proofs.Common.{◌≡◌, ◌≢◌, ℕ, ◌<◌, ◌≤◌, Bool, true, false, List, [], ◌∷◌, ◌++◌, length, refl, sym, ap, ◌∙◌, arith, Option, Some, None, append-nil, append_assoc, length-append, option_map}
use Rattle.std.specs.Prelude.{◌==◌, nat_lt, option_and_then}
use Rattle.std.specs.Io.KnownBytes.{Consumes, Keeps, IsAtEnd}
use Rattle.std.proofs.lemmas.Bool.Decides.{nat_tests}
use Rattle.bh_link.specs.Taking.{all_of}
use Rattle.bh_link.proofs.TakingLemmas.{left_of, consumes_kept, consumes_pushed}
use Rattle.bh_link.specs.Lines.{before_feed, short_line, line_in, TookLine}

-- a front without a line feed goes before the line
pub feed_after : (front more : List ℕ) → before_feed front ≡ None → before_feed (front ++ more) ≡ option_map (λ l. front ++ l) (before_feed more)
feed_after [] more none = by (before_feed more)
  where
    by : (o : Option (List ℕ)) → o ≡ option_map (λ l. l) o
    by None = refl
    by (Some l) = refl
feed_after (b ∷ front) more none = go (b == 10) refl (feed_after front more)
  where
    is_none : (o : Option (List ℕ)) → option_map (λ l. b ∷ l) o ≡ None → o ≡ None
    is_none None e = refl
    is_none (Some l) e = cc

    twice : (o : Option (List ℕ)) → option_map (λ l. b ∷ l) (option_map (λ l. front ++ l) o) ≡ option_map (λ l. b ∷ (front ++ l)) o
    twice None = refl
    twice (Some l) = refl

    go : (t : Bool) → (b == 10) ≡ t → (before_feed front ≡ None → before_feed (front ++ more) ≡ option_map (λ l. front ++ l) (before_feed more))
        → before_feed (b ∷ (front ++ more)) ≡ option_map (λ l. b ∷ (front ++ l)) (before_feed more)
    go true t rest =
        let bad : Some [] ≡ None = rw t at none in
        cc
    go false t rest =
        let plain : before_feed front ≡ None = is_none (before_feed front) (rw t at none) in
        rw (t, rest plain) (twice (before_feed more))

pub feed_here : (front more : List ℕ) → before_feed front ≡ None → before_feed (front ++ 10 ∷ more) ≡ Some front
feed_here front more none = feed_after front (10 ∷ more) none ∙ ap (λ l. Some l) (append-nil front)

pub feed_not_yet : (front : List ℕ) (b : ℕ) → before_feed front ≡ None → b ≢ 10 → before_feed (front ++ b ∷ []) ≡ None
feed_not_yet front b none other =
    let test : (b == 10) ≡ false = grind (arith, nat_tests, other) in
    feed_after front (b ∷ []) none ∙ rw test refl

short_is : (line : List ℕ) → length line < 16384 → short_line line ≡ Some line
short_is line lt =
    let test : nat_lt (length line) 16384 ≡ true = grind (arith, nat_tests) in
    rw test refl

long_is : (line : List ℕ) → 16384 ≤ length line → short_line line ≡ None
long_is line le =
    let test : nat_lt (length line) 16384 ≡ false = grind (arith, nat_tests) in
    rw test refl

-- ---- how it ends

pub took_line : (old mid new : Option (List ℕ)) (line : List ℕ) → Consumes old mid line → Consumes mid new (10 ∷ []) → before_feed line ≡ None → length line < 16384
    → TookLine old new (line ++ 10 ∷ []) (Some line)
took_line old mid new line consumed fed none lt =
    let taken = line ++ 10 ∷ [] in
    let consumes : Consumes old new taken = consumes_pushed old mid new line taken 10 refl consumed fed in
    let (left, is, _) = left_of old new taken consumes in
    let all : all_of old taken ≡ line ++ 10 ∷ left = is ∙ append_assoc line (10 ∷ []) left in
    let found : line_in (all_of old taken) ≡ Some line = ap line_in all ∙ ap (option_and_then short_line) (feed_here line left none) ∙ short_is line lt in
    record { consumed = consumes; short = omega (arith, length-append line (10 ∷ []), lt); is = sym found }

pub took_end : (old mid new : Option (List ℕ)) (line : List ℕ) → Consumes old mid line → Keeps mid new → IsAtEnd new → before_feed line ≡ None → length line ≤ 16384
    → TookLine old new line None
took_end old mid new line consumed keeps end none le =
    let consumes : Consumes old new line = consumes_kept old mid new line consumed keeps in
    record { consumed = consumes; short = le; is = sym (ap (option_and_then short_line) (ap before_feed (whole old new consumes end) ∙ none)) }
  where
    whole : (a b : Option (List ℕ)) → Consumes a b line → IsAtEnd b → all_of a line ≡ line
    whole None b h e = refl
    whole (Some xs) None h e = absurd h
    whole (Some xs) (Some ys) h e = h ∙ ap (λ t. line ++ t) e ∙ append-nil line

pub took_too_much : (old new : Option (List ℕ)) (line : List ℕ) → Consumes old new line → before_feed line ≡ None → length line ≡ 16384
    → TookLine old new line None
took_too_much old new line consumed none full =
    let (left, is, _) = left_of old new line consumed in
    record { consumed = consumed; short = omega (arith, full); is = sym (ap line_in is ∙ ap (option_and_then short_line) (feed_after line left none) ∙ long (before_feed left)) }
  where
    long : (o : Option (List ℕ)) → option_and_then short_line (option_map (λ l. line ++ l) o) ≡ None
    long None = refl
    long (Some l) = long_is (line ++ l) (omega (arith, full, length-append line l))
