use Rattle.std.proofs.Common.{◌≢◌, ◌∷◌, [], length, sym, ap, ◌∙◌, option_map, arith}
use Rattle.std.proofs.lemmas.Bool.Decides.{nat_tests}
use Rattle.bh_event.specs.Events.{arrival}
use Rattle.bh_script.specs.Answers.{reply_line}
use Rattle.bh_script.proofs.Answering.{fails, nothing_sent, failing_text, answers_failing, answers_event}
use Rattle.bh_script.proofs.answers.answer_line.Goals as goal

pub returns-in_err-event-clause-answers : goal.returns-in_err-event-clause-answers
returns-in_err-event-clause-answers g c =
    let old = g.W.Sink.contents c.args.writer.now.inner in
    let text = failing_text c.args.number (c.args.line.now ∷ []) in
    (text, answers_failing c.args.number (c.args.line.now ∷ []) (g.H.Storage.seen c.args.storage.now).now, fails c.from_residual.result old old text c.from_residual.ensures.0 (nothing_sent old text))

pub returns-in_err-answer_event-in-Some-clause-answers :
    goal.returns-in_err-answer_event-in-Some-clause-answers
returns-in_err-answer_event-in-Some-clause-answers g c =
    let old = g.W.Sink.contents c.args.writer.now.inner in
    let new = g.W.Sink.contents c.answer_event.new.writer.inner in
    let before = (g.H.Storage.seen c.args.storage.now).now in
    let after = (g.H.Storage.seen c.answer_event.new.storage).now in
    let told = sym (ap (option_map arrival) c.in-Some.is) ∙ c.in_ok-event.ensures in
    let full : length c.args.line.now ≢ 0 = λ e. grind (arith, nat_tests) in
    let said = c.in_err-answer_event-in-Some.ensures.answers in (
      reply_line said.0,
      answers_event c.args.number c.args.line.now (arrival c.in-Some.event) said.0 before after full told said.1,
      fails c.from_residual-in_err-answer_event-in-Some.result old new (reply_line said.0) c.from_residual-in_err-answer_event-in-Some.ensures.0 said.2,
    )

pub returns-in_err-flaw-in-None-clause-answers : goal.returns-in_err-flaw-in-None-clause-answers
returns-in_err-flaw-in-None-clause-answers g c =
    let old = g.W.Sink.contents c.args.writer.now.inner in
    let text = failing_text c.args.number (c.args.line.now ∷ []) in (
      text,
      answers_failing c.args.number (c.args.line.now ∷ []) (g.H.Storage.seen c.args.storage.now).now,
      fails c.from_residual-in_err-flaw-in-None.result old old text c.from_residual-in_err-flaw-in-None.ensures.0 (nothing_sent old text),
    )

pub returns-in_ok-answer_event-in-Some-clause-answers :
    goal.returns-in_ok-answer_event-in-Some-clause-answers
returns-in_ok-answer_event-in-Some-clause-answers g c =
    let before = (g.H.Storage.seen c.args.storage.now).now in
    let after = (g.H.Storage.seen c.answer_event.new.storage).now in
    let told = sym (ap (option_map arrival) c.in-Some.is) ∙ c.in_ok-event.ensures in
    let full : length c.args.line.now ≢ 0 = λ e. grind (arith, nat_tests) in
    let said = c.in_ok-answer_event-in-Some.ensures.answers in
    (reply_line said.0, answers_event c.args.number c.args.line.now (arrival c.in-Some.event) said.0 before after full told said.1, said.2)
