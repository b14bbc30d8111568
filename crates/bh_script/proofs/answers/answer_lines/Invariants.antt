use Rattle.std.proofs.Common.{◌≡◌, ◌+◌, length, false}
use Rattle.bh_storage.specs.Calls.{IsAtRest}
use Rattle.bh_script.specs.Lines.{lines}
use Rattle.bh_script.proofs.Answering.{HasAnswered}
use Rattle.bh_script.proofs.Cutting.{lines_left}
use Rattle.bh_script.proofs.answers.answer_lines.Given as goal

-- so far these lines were answered, the host is at rest, and the writer goes on
abbrev pub invariant-loop-next : goal.invariant-loop-next
invariant-loop-next g l = record {
  rest : IsAtRest g.H.Storage.IsSoundStore (g.H.Storage.seen l.storage);
  going : l.writer.failed ≡ false;
  counted : l.number + length (lines_left l.next) ≡ length (lines l.bytes) + 1;
  answered : HasAnswered (lines l.bytes) (lines_left l.next) l.number (g.H.Storage.seen l.fn.storage).now (g.H.Storage.seen l.storage).now
      (g.W.Sink.contents l.fn.writer.inner) (g.W.Sink.contents l.writer.inner);
}

abbrev pub decreases-loop-next : goal.decreases-loop-next
decreases-loop-next g l = length (lines_left l.next)
