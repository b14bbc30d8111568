use Rattle.std.proofs.Common.{◌≡◌, ◌∷◌, ◌++◌, ◌+◌, ℕ, List, [], Option, length, length-append, refl, sym, ap, subst, ◌∙◌, arith, rules}
use Rattle.std.specs.Io.KnownBytes.{Consumes}
use Rattle.bh_link.specs.declared.link.ReadFault.{ReadFault}
use Rattle.bh_link.proofs.TakingLemmas.{consumes_none, consumes_kept, consumes_pushed, if_err}
use Rattle.bh_http.proofs.TransferLemmas.{gives_none, gives_pushed, gives_byte_end, gives_fault, gives_going}
use Rattle.bh_link.specs.Lines.{before_feed}
use Rattle.bh_link.proofs.LineLemmas.{feed_not_yet, took_line, took_end, took_too_much}
use Rattle.bh_link.proofs.line.take_line.Goals as goal

none_consumed : (old : Option (List ℕ)) (items : List ℕ) → items ≡ [] → Consumes old old items
none_consumed old items none = let P : List ℕ → Type 0 = λ t. Consumes old old t in subst P (sym none) (consumes_none old)

pub loop-count-init : goal.loop-count-init
loop-count-init g c =
    let none = c.new-line.ensures.items in
    record {
      going = c.requires;
      count = ap length none;
      consumed = none_consumed _ _ none;
      given = gives_none _ _ none;
      none = ap before_feed none;
    }

pub returns-in_err-byte-clause-within : goal.returns-in_err-byte-clause-within
returns-in_err-byte-clause-within g c =
    let so_far = c.loop-count.invariant in
    if_err c.from_residual.result (
      c.loop-count.line.items,
      record { consumed = consumes_kept _ _ _ _ so_far.consumed c.in_err-byte.ensures.fault; short = omega (arith, so_far.count, c.loop-count-test.true) },
      gives_fault _ _ _ _ _ (c.in_err-byte.ensures.failed.1 refl) so_far.given c.in_err-byte.ensures.transfer,
    )

pub returns-in_default-clause-took : goal.returns-in_default-clause-took
returns-in_default-clause-took g c =
    let so_far = c.loop-count.invariant in
    let ended = rw c.in_default.is at c.in_ok-byte.ensures.byte in (
      c.loop-count.line.items,
      took_end _ _ _ _ so_far.consumed ended.0 ended.1 so_far.none (omega (arith, so_far.count, c.loop-count-test.true)),
      gives_byte_end ReadFault _ _ _ _ c.in_ok-byte.field-0 (search rules) so_far.given c.in_ok-byte.ensures.transfer,
    )

pub returns-then-byte-eq10-clause-took : goal.returns-then-byte-eq10-clause-took
returns-then-byte-eq10-clause-took g c =
    let so_far = c.loop-count.invariant in
    let line = c.loop-count.line.items in
    let fed = rw (c.in-Some.is, c.if-byte-eq10.true) at c.in_ok-byte.ensures.byte in
    let moved = rw (c.in-Some.is, c.if-byte-eq10.true) at c.in_ok-byte.ensures.transfer in (
      line ++ 10 ∷ [],
      took_line _ _ _ line so_far.consumed fed so_far.none (omega (arith, so_far.count, c.loop-count-test.true)),
      gives_pushed _ _ _ line (line ++ 10 ∷ []) 10 refl so_far.given moved,
    )

pub returns-in_err-push-clause-within : goal.returns-in_err-push-clause-within
returns-in_err-push-clause-within g c =
    let so_far = c.loop-count.invariant in
    let line = c.loop-count.line.items in
    let byte = c.in-Some.byte in
    let taken = rw c.in-Some.is at c.in_ok-byte.ensures.byte in
    if_err c.from_residual-in_err-push.result (
      line ++ byte ∷ [],
      record {
        consumed = consumes_pushed _ _ _ line (line ++ byte ∷ []) byte refl so_far.consumed taken;
        short = omega (arith, so_far.count, c.loop-count-test.true, length-append line (byte ∷ []));
      },
      gives_going _ _ _ _ (search rules) (gives_pushed _ _ _ line (line ++ byte ∷ []) byte refl so_far.given (rw c.in-Some.is at c.in_ok-byte.ensures.transfer)),
    )

pub loop-count-preserved : goal.loop-count-preserved
loop-count-preserved g c =
    let so_far = c.loop-count.invariant in
    let line = c.loop-count.line.items in
    let byte = c.in-Some.byte in
    let same = c.in_ok-push.ensures in
    let taken = rw c.in-Some.is at c.in_ok-byte.ensures.byte in
    record {
      going = search rules;
      count = ap length same ∙ length-append line (byte ∷ []) ∙ ap (λ n. n + 1) so_far.count;
      consumed = consumes_pushed _ _ _ line c.push.new.line.items byte same so_far.consumed taken;
      given = gives_pushed _ _ _ line c.push.new.line.items byte same so_far.given (rw c.in-Some.is at c.in_ok-byte.ensures.transfer);
      none = ap before_feed same ∙ feed_not_yet line byte so_far.none (λ is. omega (arith, is, c.if-byte-eq10.false));
    }

pub returns-clause-took : goal.returns-clause-took
returns-clause-took g c =
    let so_far = c.loop-count.invariant in (
      c.loop-count.line.items,
      took_too_much _ _ _ so_far.consumed so_far.none (omega (arith, so_far.count, c.loop-count-test.false, c.loop-count.auto.count-end)),
      so_far.given,
    )
