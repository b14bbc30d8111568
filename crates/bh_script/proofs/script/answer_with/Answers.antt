use Rattle.bh_create.proofs.Memory.{intact_with, open_with}
use Rattle.bh_script.specs.Answers.{first_tables}
use Rattle.bh_script.specs.Lines.{lines}
use Rattle.bh_script.proofs.Answering.{fails, nothing_sent, failing_text, answers_failing, by_new_host, script_alone, rests_first, first_of}
use Rattle.bh_script.proofs.script.answer_with.Goals as goal
use Rattle.std.proofs.Common.{refl}

pub answer_lines-requires-clause-clean : goal.answer_lines-requires-clause-clean
answer_lines-requires-clause-clean g c = λ storage. (intact_with g.P.Shelf storage.host.connection (c.requires.honest storage.host.connection.packs), open_with g.P.Shelf storage.host.connection)

pub answer_lines-requires-clause-rest : goal.answer_lines-requires-clause-rest
answer_lines-requires-clause-rest g c =
    let storage = c.in_ok-storage.storage in
    rests_first _ storage.memo c.args.tuning storage.host.cache c.in_ok-storage.ensures.memo c.in_ok-storage.ensures.cache c.in_ok-storage.ensures.made

pub returns-in_err-storage-clause-answers : goal.returns-in_err-storage-clause-answers
returns-in_err-storage-clause-answers g c =
    let old = g.W.Sink.contents c.args.writer.now.inner in
    let first = first_tables c.args.limits c.args.digest in
    let text = failing_text 1 (lines c.args.bytes.now) in
    by_new_host c.args.limits c.args.digest c.args.bytes.now first first c.from_residual.result old old refl
    (text, answers_failing 1 (lines c.args.bytes.now) first, fails c.from_residual.result old old text c.from_residual.ensures.0 (nothing_sent old text))

pub returns-in_err-routes-clause-answers : goal.returns-in_err-routes-clause-answers
returns-in_err-routes-clause-answers g c =
    let old = g.W.Sink.contents c.args.writer.now.inner in
    let first = first_tables c.args.limits c.args.digest in
    let text = failing_text 1 (lines c.args.bytes.now) in
    by_new_host c.args.limits c.args.digest c.args.bytes.now first first c.from_residual-in_err-routes.result old old refl
    (text, answers_failing 1 (lines c.args.bytes.now) first, fails c.from_residual-in_err-routes.result old old text c.from_residual-in_err-routes.ensures.0 (nothing_sent old text))

pub returns-clause-answers : goal.returns-clause-answers
returns-clause-answers g c =
    let made = c.in_ok-storage.ensures in
    by_new_host c.args.limits c.args.digest c.args.bytes.now _ _ c.answer_lines.result (g.W.Sink.contents c.args.writer.now.inner) (g.W.Sink.contents c.answer_lines.new.writer.inner)
    (first_of c.in_ok-storage.storage.memo c.args.tuning c.in_ok-storage.storage.host.cache made.memo made.cache made.limits made.made) c.answer_lines.ensures.answers

pub returns-in_err-storage-clause-alone : goal.returns-in_err-storage-clause-alone
returns-in_err-storage-clause-alone g c =
    let old = g.W.Sink.contents c.args.writer.now.inner in
    let first = first_tables c.args.limits c.args.digest in
    let text = failing_text 1 (lines c.args.bytes.now) in
    script_alone c.args.limits c.args.digest c.args.bytes.now c.from_residual.result old old
    (by_new_host c.args.limits c.args.digest c.args.bytes.now first first c.from_residual.result old old refl
    (text, answers_failing 1 (lines c.args.bytes.now) first, fails c.from_residual.result old old text c.from_residual.ensures.0 (nothing_sent old text)))

pub returns-in_err-routes-clause-alone : goal.returns-in_err-routes-clause-alone
returns-in_err-routes-clause-alone g c =
    let old = g.W.Sink.contents c.args.writer.now.inner in
    let first = first_tables c.args.limits c.args.digest in
    let text = failing_text 1 (lines c.args.bytes.now) in
    script_alone c.args.limits c.args.digest c.args.bytes.now c.from_residual-in_err-routes.result old old
    (by_new_host c.args.limits c.args.digest c.args.bytes.now first first c.from_residual-in_err-routes.result old old refl
    (text, answers_failing 1 (lines c.args.bytes.now) first, fails c.from_residual-in_err-routes.result old old text c.from_residual-in_err-routes.ensures.0 (nothing_sent old text)))

pub returns-clause-alone : goal.returns-clause-alone
returns-clause-alone g c =
    let made = c.in_ok-storage.ensures in
    let old = g.W.Sink.contents c.args.writer.now.inner in
    let new = g.W.Sink.contents c.answer_lines.new.writer.inner in
    script_alone c.args.limits c.args.digest c.args.bytes.now c.answer_lines.result old new
    (by_new_host c.args.limits c.args.digest c.args.bytes.now _ _ c.answer_lines.result old new (first_of c.in_ok-storage.storage.memo c.args.tuning c.in_ok-storage.storage.host.cache made.memo made.cache made.limits made.made) c.answer_lines.ensures.answers)
