use Rattle.std.proofs.Common.{◌≡◌, ◌+◌, length, sym, ap, ◌∙◌, subst, arith}
use Rattle.bh_script.specs.Lines.{lines}
use Rattle.bh_script.proofs.Telling.{lines_fit}
use Rattle.bh_script.proofs.Cutting.{lines_left, taken}
use Rattle.bh_script.proofs.Answering.{HasAnswered, fails, ends, answers_more, ends_bad, breaks}
use Rattle.bh_script.proofs.answers.answer_lines.Goals as goal

pub returns-in_err-bad_line-clause-answers : goal.returns-in_err-bad_line-clause-answers
returns-in_err-bad_line-clause-answers g c =
    let all = lines c.args.bytes.now in
    let first = (g.H.Storage.seen c.args.storage.now).now in
    let before = (g.H.Storage.seen c.loop-next.storage).now in
    let old = g.W.Sink.contents c.args.writer.now.inner in
    let mid = g.W.Sink.contents c.loop-next.writer.inner in
    let new = g.W.Sink.contents c.answer_line.new.writer.inner in
    let line = c.cut_line.result.0.now in
    let left = taken c.loop-next.next c.cut_line.result.1 c.in-Some.rest line c.in-Some.is c.cut_line.ensures in
    let so_far = subst (λ ls. HasAnswered all ls c.loop-next.number first before old mid) left c.loop-next.invariant.answered in
    let said = c.in_err-bad_line.ensures.answers in
    let whole =
    breaks all c.loop-next.number first before old mid line (lines_left c.cut_line.result.1) so_far (g.H.Storage.seen c.answer_line.new.storage).now new said.0 said.1 said.2 in
    (whole.0, whole.1, fails c.from_residual.result old new whole.0 c.from_residual.ensures.0 whole.2)

pub returns-in-Some-2-clause-answers : goal.returns-in-Some-2-clause-answers
returns-in-Some-2-clause-answers g c =
    let all = lines c.args.bytes.now in
    let first = (g.H.Storage.seen c.args.storage.now).now in
    let before = (g.H.Storage.seen c.loop-next.storage).now in
    let old = g.W.Sink.contents c.args.writer.now.inner in
    let mid = g.W.Sink.contents c.loop-next.writer.inner in
    let new = g.W.Sink.contents c.answer_line.new.writer.inner in
    let line = c.cut_line.result.0.now in
    let left = taken c.loop-next.next c.cut_line.result.1 c.in-Some.rest line c.in-Some.is c.cut_line.ensures in
    let so_far = subst (λ ls. HasAnswered all ls c.loop-next.number first before old mid) left c.loop-next.invariant.answered in
    let said = c.in_ok-bad_line.ensures.answers in
    (ends_bad all c.loop-next.number first before old mid line (lines_left c.cut_line.result.1) so_far (g.H.Storage.seen c.answer_line.new.storage).now new said.0 said.1
    c.in-Some-2.bad_line (sym c.in-Some-2.is ∙ c.in_ok-bad_line.ensures.bad_line) said.2).0

pub returns-in-Some-2-clause-bad_line : goal.returns-in-Some-2-clause-bad_line
returns-in-Some-2-clause-bad_line g c =
    let all = lines c.args.bytes.now in
    let first = (g.H.Storage.seen c.args.storage.now).now in
    let before = (g.H.Storage.seen c.loop-next.storage).now in
    let old = g.W.Sink.contents c.args.writer.now.inner in
    let mid = g.W.Sink.contents c.loop-next.writer.inner in
    let new = g.W.Sink.contents c.answer_line.new.writer.inner in
    let line = c.cut_line.result.0.now in
    let left = taken c.loop-next.next c.cut_line.result.1 c.in-Some.rest line c.in-Some.is c.cut_line.ensures in
    let so_far = subst (λ ls. HasAnswered all ls c.loop-next.number first before old mid) left c.loop-next.invariant.answered in
    let said = c.in_ok-bad_line.ensures.answers in
    (ends_bad all c.loop-next.number first before old mid line (lines_left c.cut_line.result.1) so_far (g.H.Storage.seen c.answer_line.new.storage).now new said.0 said.1
    c.in-Some-2.bad_line (sym c.in-Some-2.is ∙ c.in_ok-bad_line.ensures.bad_line) said.2).1

pub loop-next-preserved : goal.loop-next-preserved
loop-next-preserved g c =
    let all = lines c.args.bytes.now in
    let first = (g.H.Storage.seen c.args.storage.now).now in
    let before = (g.H.Storage.seen c.loop-next.storage).now in
    let now = (g.H.Storage.seen c.answer_line.new.storage).now in
    let old = g.W.Sink.contents c.args.writer.now.inner in
    let mid = g.W.Sink.contents c.loop-next.writer.inner in
    let new = g.W.Sink.contents c.answer_line.new.writer.inner in
    let line = c.cut_line.result.0.now in
    let later = lines_left c.cut_line.result.1 in
    let left = taken c.loop-next.next c.cut_line.result.1 c.in-Some.rest line c.in-Some.is c.cut_line.ensures in
    let so_far = subst (λ ls. HasAnswered all ls c.loop-next.number first before old mid) left c.loop-next.invariant.answered in
    let said = c.in_ok-bad_line.ensures.answers in
    let number : c.saturating_add-number.result ≡ c.loop-next.number + 1 =
    omega (arith, lines_fit c.args.bytes.now, ap length left, c.loop-next.invariant.counted, c.saturating_add-number.ensures) in
    record {
      rest = c.in_ok-bad_line.ensures.rest;
      going = c.in_ok-bad_line.ensures.going;
      counted = omega (arith, number, ap length left, c.loop-next.invariant.counted);
      answered = subst (λ n. HasAnswered all later n first now old new) (sym number)
          (answers_more all c.loop-next.number first before old mid line later so_far now new said.0 said.1 (sym c.in_default-2.is ∙ c.in_ok-bad_line.ensures.bad_line) said.2);
    }

pub returns-clause-answers : goal.returns-clause-answers
returns-clause-answers g c =
    let all = lines c.args.bytes.now in
    let first = (g.H.Storage.seen c.args.storage.now).now in
    let now = (g.H.Storage.seen c.loop-next.storage).now in
    let old = g.W.Sink.contents c.args.writer.now.inner in
    let new = g.W.Sink.contents c.loop-next.writer.inner in
    let so_far = subst (λ ls. HasAnswered all ls c.loop-next.number first now old new) (ap lines_left c.in_default.is) c.loop-next.invariant.answered in
    (ends all c.loop-next.number first now old new so_far).0
