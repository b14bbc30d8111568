-- What lines are answered, and the front of an answer that a failure leaves.
use Rattle.std.proofs.Common.{◌≡◌, ◌≢◌, ℕ, ◌+◌, Bool, true, false, List, [], ◌∷◌, ◌++◌, length, take, drop, Option, Some, None, Result, Ok, Err, refl, sym, ap, ◌∙◌, subst, arith}
use Rattle.std.specs.Prelude.{◌==◌, if◌then◌else◌, IsErr}
use Rattle.std.specs.Io.KnownBytes.{Appends}
use Rattle.std.proofs.lemmas.Bool.{false≢true}
use Rattle.std.proofs.lemmas.Bool.Decides.{nat_tests}
use Rattle.std.proofs.lemmas.Option.{none-some}
use Rattle.std.proofs.lemmas.List.{append-nil, append_assoc, take-append-drop}
use Rattle.std.proofs.lemmas.Grind.{flat_map-append}
use Rattle.std.proofs.Math.Seq.{take-append_seam, take-append-add}
use Rattle.bh_event.specs.Events.{Arrival}
use Rattle.bh_event.specs.Flaws.{flaw_of}
use Rattle.bh_event.specs.Lines.{told_by}
use Rattle.bh_types.specs.BlockDigests.{digest_number}
use Rattle.bh_types.specs.Limits.{HostLimits, HostTuning}
use Rattle.bh_types.specs.declared.block_digest.BlockDigest.{BlockDigest}
use Rattle.bh_tables.specs.Typed.{Tables}
use Rattle.bh_tables.specs.Schema.{Octets}
use Rattle.sqlite.specs.State.{State}
use Rattle.bh_view.specs.Bodies.{IsSoundHost}
use Rattle.bh_view.specs.Laws.{new_host}
use Rattle.bh_view.specs.View.{limits_in}
use Rattle.bh_storage.specs.Calls.{Seen, IsAtRest}
use Rattle.bh_memo.specs.Facts.{Facts, nothing}
use Rattle.bh_memo.specs.Recalled.{recalled}
use Rattle.bh_memo.proofs.Recalling.{nothing_recalled}
use Rattle.bh_cache.specs.Kept.{KeptBlocks, no_blocks}
use Rattle.bh_schema.specs.Storage.{beside, seen_in}
use Rattle.bh_create.specs.Creation.{IsNewHost}
use Rattle.bh_create.proofs.Resting.{beside_new}
use Rattle.bh_host.specs.Runs.{Told, Ran, HasRun}
use Rattle.bh_host.specs.Turns.{AppliedTo, IsToldApart, fixed}
use Rattle.bh_host.proofs.Running.{each_is_alone, ran-append}
use Rattle.bh_script.specs.Lines.{lines, events_in, events_of, then_told, bad_line_from, bad_or}
use Rattle.bh_script.specs.Answers.{first_tables, reply_line, replies_text, end_text, answer_text, AnswersLines, AppendsFront, Writes, WritesLines, WritesScript, WritesScriptAlone}
use Rattle.bh_script.specs.declared.input.BadLine.{BadLine}

-- ---- texts that were appended

appends_nothing : (a : Option (List ℕ)) → Appends a a []
appends_nothing None = tt
appends_nothing (Some xs) = sym (append-nil xs)

joins : (a b c : Option (List ℕ)) (first next : List ℕ) → Appends a b first → Appends b c next → Appends a c (first ++ next)
joins None b c first next p q = tt
joins (Some xs) None c first next p q = absurd p
joins (Some xs) (Some ys) None first next p q = absurd q
joins (Some xs) (Some ys) (Some zs) first next p q = q ∙ ap (λ l. l ++ next) p ∙ append_assoc xs first next

-- a text was appended, and then a front of the next one
front_of_next : (old mid new : Option (List ℕ)) (first next : List ℕ) → Appends old mid first → AppendsFront mid new next → AppendsFront old new (first ++ next)
front_of_next old mid new first next out (sent, more) =
    (length first + sent, subst (Appends old new) (sym (take-append-add first next sent)) (joins old mid new first (take sent next) out more))

-- a front of a text is one of a text that goes on
pub front_goes_on : (old new : Option (List ℕ)) (text rest : List ℕ) → AppendsFront old new text → AppendsFront old new (text ++ rest)
front_goes_on old new text rest (sent, out) =
    let parted : take sent text ++ (drop sent text ++ rest) ≡ text ++ rest =
    sym (append_assoc (take sent text) (drop sent text) rest) ∙ ap (λ t. t ++ rest) (take-append-drop sent text) in
    subst (AppendsFront old new) parted (length (take sent text), subst (Appends old new) (sym (take-append_seam (take sent text) (drop sent text ++ rest))) out)

pub nothing_sent : (old : Option (List ℕ)) (text : List ℕ) → AppendsFront old old text
nothing_sent old text = (0, appends_nothing old)

-- ---- whatever became of it

-- a text was appended, and then what came of the next one
pub writes_next : {X E : Type 0} (result : Result X E) (old mid new : Option (List ℕ)) (first next : List ℕ) → Appends old mid first → Writes next result mid new → Writes (first ++ next) result old new
writes_next (Ok x) old mid new first next out more = joins old mid new first next out more
writes_next (Err e) old mid new first next out more = front_of_next old mid new first next out more

pub fails : {X E : Type 0} (result : Result X E) (old new : Option (List ℕ)) (text : List ℕ) → IsErr result → AppendsFront old new text → Writes text result old new
fails (Ok x) old new text failed front = absurd (false≢true failed)
fails (Err e) old new text failed front = front

-- ---- one event, and events that are left out

pub ran_event : {H : Type 0} (IsOpen : H → Type 0) (seen : H → Seen) (event : Arrival) (old new : H) (stamp : Option ℕ) (reply : List ℕ) → IsOpen new
    → AppliedTo IsOpen seen event old new stamp reply → IsToldApart event stamp reply → Ran (event ∷ []) ((stamp, reply) ∷ []) (seen old).now (seen new).now
ran_event IsOpen seen event old new None reply opened applied apart = ((seen new).now, (applied opened).1, apart, refl)
ran_event IsOpen seen event old new (Some m) reply opened (was, is, applied) apart = ((seen new).now, applied, apart, refl)

-- each with its fixed reply
abbrev left_out : List Arrival → List Told
left_out [] = []
left_out (event ∷ events) = (None, fixed event) ∷ left_out events

ran_left_out : (events : List Arrival) (t : Tables) → Ran events (left_out events) t t
ran_left_out [] t = refl
ran_left_out (event ∷ events) t = (t, refl, refl, ran_left_out events t)

-- what is answered where nothing can be applied any more
abbrev pub failing_text : ℕ → List (List ℕ) → List ℕ
failing_text number lines = answer_text (left_out (events_in lines)) (bad_line_from number lines)

pub answers_failing : (number : ℕ) (lines : List (List ℕ)) (t : Tables) → AnswersLines number lines t t (failing_text number lines)
answers_failing number lines t = (left_out (events_in lines), ran_left_out (events_in lines) t, refl)

-- ---- one line

not_zero : (n : ℕ) → n ≢ 0 → (n == 0) ≡ false
not_zero n more = grind (arith, nat_tests)

-- what a line and later lines tell, by whether it is empty and what it tells
abbrev events_by : Bool → Option Arrival → List (List ℕ) → List Arrival
events_by empty told later = if empty then events_in later else then_told told (events_in later)

abbrev bad_by : Bool → Option Arrival → BadLine → Option BadLine → Option BadLine
bad_by empty told bad later = if empty then later else bad_or told bad later

-- a line that tells an event is answered its reply
pub answers_event : (number : ℕ) (line : List ℕ) (event : Arrival) (done : Told) (before after : Tables) → length line ≢ 0 → Some event ≡ told_by line
    → Ran (event ∷ []) (done ∷ []) before after → AnswersLines number (line ∷ []) before after (reply_line done)
answers_event number line event done before after full is ran =
    let bad : BadLine = record { number = number; flaw = flaw_of line } in
    let events : event ∷ [] ≡ events_in (line ∷ []) =
    ap (λ o. events_by false o []) is ∙ ap (λ b. events_by b (told_by line) []) (sym (not_zero (length line) full)) in
    let none : None ≡ bad_line_from number (line ∷ []) =
    ap (λ o. bad_by false o bad None) is ∙ ap (λ b. bad_by b (told_by line) bad None) (sym (not_zero (length line) full)) in (
      done ∷ [],
      subst (λ es. Ran es (done ∷ []) before after) events ran,
      sym (append-nil (reply_line done)) ∙ sym (append-nil (reply_line done ++ [])) ∙ ap (answer_text (done ∷ [])) none,
    )

-- ---- a line, and later ones

module _ (number : ℕ) (line : List ℕ) (later : List (List ℕ)) where
  abbrev here : BadLine
  here = record { number = number; flaw = flaw_of line }

  abbrev after : Option BadLine
  after = bad_line_from (number + 1) later

  parts_by : (empty : Bool) (told : Option Arrival) → None ≡ bad_by empty told here None
      → (events_by empty told later ≡ events_by empty told [] ++ events_in later) × (bad_by empty told here after ≡ after)
  parts_by true told none = (refl, refl)
  parts_by false None none = absurd (none-some here none)
  parts_by false (Some event) none = (refl, refl)

  stops_by : (empty : Bool) (told : Option Arrival) (bad : BadLine) → Some bad ≡ bad_by empty told here None
      → (events_by empty told later ≡ events_by empty told []) × (bad_by empty told here after ≡ bad_by empty told here None)
  stops_by true told bad some = absurd (none-some bad (sym some))
  stops_by false None bad some = (refl, refl)
  stops_by false (Some event) bad some = absurd (none-some bad (sym some))

  -- after a line that isn't bad
  goes_on : (before mid end : Tables) (first next : List ℕ) → None ≡ bad_line_from number (line ∷ []) → AnswersLines number (line ∷ []) before mid first
      → AnswersLines (number + 1) later mid end next → AnswersLines number (line ∷ later) before end (first ++ next)
  goes_on before mid end first next none (dones, ran, is) (others, ran_on, is_next) =
      let parts = parts_by (length line == 0) (told_by line) none in
      let whole : replies_text dones ++ answer_text others after ≡ answer_text (dones ++ others) (bad_line_from number (line ∷ later)) =
      sym (append_assoc (replies_text dones) (replies_text others) (end_text after))
      ∙ ap (λ t. t ++ end_text after) (sym (flat_map-append reply_line dones others))
      ∙ ap (answer_text (dones ++ others)) (sym parts.1) in
      let alone : first ≡ replies_text dones = is ∙ ap (answer_text dones) (sym none) ∙ append-nil (replies_text dones) in (
        dones ++ others,
        subst (λ es. Ran es (dones ++ others) before end) (sym parts.0) (ran-append (events_in (line ∷ [])) (events_in later) dones others before mid end ran ran_on),
        ap (λ t. t ++ next) alone ∙ ap (λ t. replies_text dones ++ t) is_next ∙ whole,
      )

  -- a bad line ends all
  stops : (before end : Tables) (text : List ℕ) (bad : BadLine) → Some bad ≡ bad_line_from number (line ∷ []) → AnswersLines number (line ∷ []) before end text
      → AnswersLines number (line ∷ later) before end text
  stops before end text bad some (dones, ran, is) =
      let same = stops_by (length line == 0) (told_by line) bad some in
      (dones, subst (λ es. Ran es dones before end) (sym same.0) ran, is ∙ ap (answer_text dones) (sym same.1))

  -- a front of a line's answer is one of a whole answer
  is_front : (before end : Tables) (text : List ℕ) (old new : Option (List ℕ)) (bad : Option BadLine) → bad ≡ bad_line_from number (line ∷ [])
      → AnswersLines number (line ∷ []) before end text → AppendsFront old new text
      → (whole : List ℕ) × AnswersLines number (line ∷ later) before end whole × AppendsFront old new whole
  is_front before end text old new None none answers front = (
    text ++ failing_text (number + 1) later,
    goes_on before end end text (failing_text (number + 1) later) none answers (answers_failing (number + 1) later end),
    front_goes_on old new text (failing_text (number + 1) later) front,
  )
  is_front before end text old new (Some bad) some answers front = (text, stops before end text bad some answers, front)

-- ---- after some lines

-- what was said so far answers the lines so far: with an answer of the rest it answers all
pub record HasAnswered (all rest : List (List ℕ)) (number : ℕ) (first now : Tables) (old new : Option (List ℕ)) : Type 0 where
  pub said : List ℕ
  pub sent : Appends old new said
  pub tells : (end : Tables) (text : List ℕ) → AnswersLines number rest now end text → AnswersLines 1 all first end (said ++ text)
  pub bad : bad_line_from number rest ≡ bad_line_from 1 all

pub nothing_answered : (all : List (List ℕ)) (first : Tables) (old : Option (List ℕ)) → HasAnswered all all 1 first first old old
nothing_answered all first old = record {
  said = [];
  sent = appends_nothing old;
  tells = λ end text answers. answers;
  bad = refl;
}

module _ (all : List (List ℕ)) (number : ℕ) (first before : Tables) (old mid : Option (List ℕ)) where
  -- no line is left
  pub ends : HasAnswered all [] number first before old mid
      → ((text : List ℕ) × AnswersLines 1 all first before text × Appends old mid text) × (None ≡ bad_line_from 1 all)
  ends so_far = (
    (
      so_far.said ++ [],
      so_far.tells before [] ([], refl, refl),
      subst (Appends old mid) (sym (append-nil so_far.said)) so_far.sent,
    ),
    so_far.bad,
  )

  module _ (line : List ℕ) (later : List (List ℕ)) (so_far : HasAnswered all (line ∷ later) number first before old mid) (now : Tables) (new : Option (List ℕ)) (text : List ℕ) (answers : AnswersLines number (line ∷ []) before now text) where
    -- a line that isn't bad was answered
    pub answers_more : None ≡ bad_line_from number (line ∷ []) → Appends mid new text → HasAnswered all later (number + 1) first now old new
    answers_more none out = record {
      said = so_far.said ++ text;
      sent = joins old mid new so_far.said text so_far.sent out;
      tells = λ end next rest.
          subst (AnswersLines 1 all first end) (sym (append_assoc so_far.said text next))
          (so_far.tells end (text ++ next) (goes_on number line later before now end text next none answers rest));
      bad = sym (parts_by number line later (length line == 0) (told_by line) none).1 ∙ so_far.bad;
    }

    -- a bad one was
    pub ends_bad : (bad : BadLine) → Some bad ≡ bad_line_from number (line ∷ []) → Appends mid new text
        → ((whole : List ℕ) × AnswersLines 1 all first now whole × Appends old new whole) × (Some bad ≡ bad_line_from 1 all)
    ends_bad bad some out = (
      (
        so_far.said ++ text,
        so_far.tells now text (stops number line later before now text bad some answers),
        joins old mid new so_far.said text so_far.sent out,
      ),
      some ∙ sym (stops_by number line later (length line == 0) (told_by line) bad some).1 ∙ so_far.bad,
    )

    -- a front of its answer went out
    pub breaks : AppendsFront mid new text → (whole : List ℕ) × AnswersLines 1 all first now whole × AppendsFront old new whole
    breaks front =
        let rest = is_front number line later before now text mid new (bad_line_from number (line ∷ [])) refl answers front in
        (so_far.said ++ rest.0, so_far.tells now rest.0 rest.1, front_of_next old mid new so_far.said rest.0 so_far.sent rest.2)

-- ---- a script

-- the limits that a host was made with are in its tables
pub made_first : (limits given : HostLimits) (digest : BlockDigest) (made : Tables) → made ≡ new_host limits.min_part limits.max_body (digest_number digest) → limits ≡ given → made ≡ first_tables given digest
made_first limits given digest made is same = is ∙ ap (λ (l : HostLimits). new_host l.min_part l.max_body (digest_number digest)) same

-- whatever became of it, lines that were answered by a new host are a script that was
pub by_new_host : {X E : Type 0} (limits : HostLimits) (digest : BlockDigest) (input : List ℕ) (first end : Tables) (result : Result X E) (old new : Option (List ℕ)) → first ≡ first_tables limits digest
    → WritesLines 1 (lines input) first end result old new → WritesScript limits digest input result old new
by_new_host limits digest input first end result old new is (text, (dones, ran, told), out) =
    (text, (dones, (end, subst (λ t. Ran (events_of input) dones t end) is ran), told), out)

first_limits : (limits : HostLimits) (digest : BlockDigest) → limits_in (first_tables limits digest) ≡ limits
unfolding limits_in
first_limits limits digest = refl

-- each tenant was alone in it
pub script_alone : {X E : Type 0} (limits : HostLimits) (digest : BlockDigest) (input : List ℕ) (result : Result X E) (old new : Option (List ℕ))
    → WritesScript limits digest input result old new → WritesScriptAlone limits digest input result old new
script_alone limits digest input result old new (text, (dones, (end, ran), told), out) =
    let first = first_tables limits digest in
    let alone = each_is_alone (events_of input) dones first end ran in
    let has_run : HasRun limits (events_of input) dones alone.0 first end =
    subst (λ l. HasRun l (events_of input) dones alone.0 first end) (first_limits limits digest) alone.1 in
    (text, (dones, (end, ran, (alone.0, has_run)), told), out)

-- of a new host nothing is remembered, and no block is kept in memory
pub seen_new : (facts : Facts) (s : Seen) (tuning : HostTuning) (kept : KeptBlocks) → facts ≡ nothing → kept ≡ no_blocks tuning → recalled facts (beside kept s) ≡ s
seen_new facts s tuning kept none empty = ap (λ f. recalled f (beside kept s)) none ∙ nothing_recalled (beside kept s) ∙ beside_new tuning kept s empty

-- a host with these limits, by another name for them
pub new_with : {l m : HostLimits} {digest : BlockDigest} {s : State} → l ≡ m → IsNewHost l digest s → IsNewHost m digest s
new_with {digest = digest} {s = s} same made = subst (λ l. IsNewHost l digest s) same made

-- a new host with an empty cache and no remembered facts is at rest
pub rests_first : {l : HostLimits} {digest : BlockDigest} {s : State} (named : Octets → Octets) (facts : Facts) (tuning : HostTuning) (kept : KeptBlocks) → facts ≡ nothing → kept ≡ no_blocks tuning
    → IsNewHost l digest s → IsAtRest (IsSoundHost named) (recalled facts (beside kept (seen_in l s)))
rests_first {l = l} {s = s} named facts tuning kept none empty made =
    subst (IsAtRest (IsSoundHost named)) (sym (seen_new facts (seen_in l s) tuning kept none empty)) (made.rest named)

-- and has its first tables
pub first_of : {l given : HostLimits} {digest : BlockDigest} {s : State} (facts : Facts) (tuning : HostTuning) (kept : KeptBlocks) → facts ≡ nothing → kept ≡ no_blocks tuning → l ≡ given
    → IsNewHost l digest s → (recalled facts (beside kept (seen_in l s))).now ≡ first_tables given digest
first_of {l = l} {given = given} {digest = digest} {s = s} facts tuning kept none empty same made =
    made_first l given digest _ (ap (λ (x : Seen). x.now) (seen_new facts (seen_in l s) tuning kept none empty) ∙ made.tables) same
