use Rattle.std.specs.Prelude.{◌&&◌}
use Rattle.std.proofs.Common.{Bool, false, rules, ◌≡◌, ◌≤◌, ◌<◌, ◌∷◌, ◌+◌, ℕ, List, [], ◌++◌, length, length-append, refl, sym, ap, subst, ◌∙◌, arith, Option}
use Rattle.std.specs.List.{list_any}
use Rattle.std.specs.Io.KnownBytes.{Consumes}
use Rattle.bh_http.specs.Reading.{HasNoHead}
use Rattle.bh_http.specs.declared.arriving.Arriving.TheVariants.{Found, Refused, NotYet}
use Rattle.bh_http.specs.Arriving.{is_text, ends_blank, Says, FindsIn}
use Rattle.bh_http.proofs.ArrivingLemmas.{no_head_of_none}
use Rattle.bh_link.specs.declared.link.ReadFault.{ReadFault}
use Rattle.bh_link.proofs.TakingLemmas.{consumes_none, consumes_kept, consumes_pushed, part_none, part_pushed, opens_pushed, opens_never, opens_limit, started_pushed, none_pushed, if_err}
use Rattle.bh_http.proofs.TransferLemmas.{gives_none, gives_nothing, gives_pushed, gives_byte_end, gives_fault, gives_going}
use Rattle.bh_link.proofs.request.take_head.Goals as goal
use Rattle.bh_link.proofs.request.take_head.Goals.{then-may_end+in-NotYet, else-may_end}

none_consumed : (old : Option (List ℕ)) (items : List ℕ) → items ≡ [] → Consumes old old items
none_consumed old items none = let P : List ℕ → Type 0 = λ t. Consumes old old t in subst P (sym none) (consumes_none old)

no_head : (items : List ℕ) → items ≡ [] → HasNoHead items
no_head items none = let P : List ℕ → Type 0 = λ t. HasNoHead t in subst P (sym none) no_head_of_none

open_end : (r started : Bool) (seen next : List ℕ) → seen ≡ next → r ≡ (started && ends_blank seen) → r ≡ false → (started && ends_blank next) ≡ false
open_end r started seen next same is no_end = ap (λ t. started && ends_blank t) (sym same) ∙ sym is ∙ no_end

room : (bytes next : List ℕ) (byte count : ℕ) → length bytes ≡ count → count < 16384 → next ≡ bytes ++ byte ∷ [] → length next ≤ 16384
room bytes next byte count is lt same = omega (arith, is, lt, ap length same, length-append bytes (byte ∷ []))

pub loop-count-init : goal.loop-count-init
loop-count-init g c =
    let none = c.in_ok-bytes.ensures.items in
    record {
      going = c.requires;
      count = ap length none;
      consumed = none_consumed _ _ none;
      given = gives_none _ _ none;
      none = no_head _ none;
      started = ap (list_any is_text) (sym none);
    }

pub returns-in_err-bytes-clause-within : goal.returns-in_err-bytes-clause-within
returns-in_err-bytes-clause-within g c =
    if_err c.from_residual.result ([], part_none c.args.limits.now _ _ [] (consumes_none _) (omega arith) no_head_of_none, gives_going _ _ _ _ c.requires (gives_nothing _))

pub returns-in_err-byte-clause-within : goal.returns-in_err-byte-clause-within
returns-in_err-byte-clause-within g c =
    let so_far = c.loop-count.invariant in
    if_err c.from_residual-in_err-byte.result (
      c.loop-count.bytes.items,
      part_none c.args.limits.now _ _ _ (consumes_kept _ _ _ _ so_far.consumed c.in_err-byte.ensures.fault)
          (omega (arith, so_far.count, c.loop-count-test.true)) so_far.none,
      gives_fault _ _ _ _ _ (c.in_err-byte.ensures.failed.1 refl) so_far.given c.in_err-byte.ensures.transfer,
    )

pub returns-in_err-push-clause-within : goal.returns-in_err-push-clause-within
returns-in_err-push-clause-within g c =
    let so_far = c.loop-count.invariant in
    let bytes = c.loop-count.bytes.items in
    let byte = c.in-Some.byte in
    let taken = rw c.in-Some.is at c.in_ok-byte.ensures.byte in
    let consumed = consumes_pushed _ _ _ bytes (bytes ++ byte ∷ []) byte refl so_far.consumed taken in
    if_err c.from_residual-in_err-push.result (
      bytes ++ byte ∷ [],
      part_pushed c.args.limits.now _ _ bytes (bytes ++ byte ∷ []) byte refl consumed
          (omega (arith, so_far.count, c.loop-count-test.true, length-append bytes (byte ∷ []))) so_far.none,
      gives_going _ _ _ _ (search rules) (gives_pushed _ _ _ bytes (bytes ++ byte ∷ []) byte refl so_far.given (rw c.in-Some.is at c.in_ok-byte.ensures.transfer)),
    )

pub returns-in-Found-clause-opens : goal.returns-in-Found-clause-opens
returns-in-Found-clause-opens g c =
    let so_far = c.loop-count.invariant in
    let bytes = c.loop-count.bytes.items in
    let byte = c.in-Some.byte in
    let next = c.push.new.bytes.items in
    let taken = rw c.in-Some.is at c.in_ok-byte.ensures.byte in
    let consumed = consumes_pushed _ _ _ bytes next byte c.in_ok-push.ensures so_far.consumed taken in
    let P : List ℕ → Type 0 = λ t. Says c.args.limits.now t (Found c.in-Found.head) in
    let said = subst P c.as_slice-then-may_end.ensures.value (rw c.in-Found.is at c.search.ensures.says) in
    opens_pushed c.args.limits.now _ _ bytes next byte c.in-Found.head.body_size c.in_ok-push.ensures consumed
    (room bytes next byte c.loop-count.count so_far.count c.loop-count-test.true c.in_ok-push.ensures) so_far.none said

pub returns-in_default-clause-given : goal.returns-in_default-clause-given
returns-in_default-clause-given g c = gives_byte_end ReadFault _ _ _ _ c.in_ok-byte.field-0 (search rules) c.loop-count.invariant.given c.in_ok-byte.ensures.transfer

pub returns-in-Found-clause-given : goal.returns-in-Found-clause-given
returns-in-Found-clause-given g c = gives_pushed _ _ _ _ _ _ c.in_ok-push.ensures c.loop-count.invariant.given (rw c.in-Some.is at c.in_ok-byte.ensures.transfer)

pub returns-in-Refused-clause-given : goal.returns-in-Refused-clause-given
returns-in-Refused-clause-given g c = gives_pushed _ _ _ _ _ _ c.in_ok-push.ensures c.loop-count.invariant.given (rw c.in-Some.is at c.in_ok-byte.ensures.transfer)

pub returns-in-Refused-clause-opens : goal.returns-in-Refused-clause-opens
returns-in-Refused-clause-opens g c =
    let so_far = c.loop-count.invariant in
    let bytes = c.loop-count.bytes.items in
    let byte = c.in-Some.byte in
    let next = c.push.new.bytes.items in
    let taken = rw c.in-Some.is at c.in_ok-byte.ensures.byte in
    let consumed = consumes_pushed _ _ _ bytes next byte c.in_ok-push.ensures so_far.consumed taken in
    let P : List ℕ → Type 0 = λ t. Says c.args.limits.now t (Refused c.in-Refused.refusal) in
    let said = subst P c.as_slice-then-may_end.ensures.value (rw c.in-Refused.is at c.search.ensures.says) in
    opens_never c.args.limits.now _ _ next consumed
    (room bytes next byte c.loop-count.count so_far.count c.loop-count-test.true c.in_ok-push.ensures) said

pub returns-in-Refused-clause-finds : goal.returns-in-Refused-clause-finds
returns-in-Refused-clause-finds g c =
    let P : List ℕ → Type 0 = λ t. FindsIn c.args.limits.now t c.search.new.headers (Refused c.in-Refused.refusal) in
    subst P c.as_slice-then-may_end.ensures.value (rw c.in-Refused.is at c.search.ensures.finds)

pub loop-count-preserved : goal.loop-count-preserved
loop-count-preserved g c =
    let so_far = c.loop-count.invariant in
    let bytes = c.loop-count.bytes.items in
    let byte = c.in-Some.byte in
    let next = c.push.new.bytes.items in
    let same = c.in_ok-push.ensures in
    let taken = rw c.in-Some.is at c.in_ok-byte.ensures.byte in
    let started = started_pushed bytes next byte c.loop-count.started c.has_started-started.result same so_far.started c.has_started-started.ensures in
    let P : List ℕ → Type 0 = λ t. Says c.args.limits.now t NotYet in
    let Q : List ℕ → Type 0 = λ t. HasNoHead t in
    let none : HasNoHead next = elim c.if-may_end.branch [
      | then-may_end+in-NotYet w ↦ subst Q w.as_slice-then-may_end.ensures.value (rw w.in-NotYet.is at w.search.ensures.says)
      | else-may_end w ↦ none_pushed bytes next byte c.has_started-started.result same so_far.none started (open_end _ _ _ next c.as_slice.ensures.value c.may_end.ensures w.if-may_end.false)
    ] in
    record {
      going = search rules;
      count = ap length same ∙ length-append bytes (byte ∷ []) ∙ ap (λ n. n + 1) so_far.count;
      consumed = consumes_pushed _ _ _ bytes next byte same so_far.consumed taken;
      given = gives_pushed _ _ _ bytes next byte same so_far.given (rw c.in-Some.is at c.in_ok-byte.ensures.transfer);
      none = none;
      started = started;
    }

pub returns-clause-opens : goal.returns-clause-opens
returns-clause-opens g c =
    let so_far = c.loop-count.invariant in
    let full = c.loop-count-test.false in
    opens_limit c.args.limits.now _ _ c.loop-count.bytes.items so_far.consumed so_far.none (omega (arith, so_far.count, full, c.loop-count.auto.count-end))
