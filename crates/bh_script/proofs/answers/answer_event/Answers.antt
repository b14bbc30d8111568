use Rattle.bh_event.specs.Events.{arrival}
use Rattle.bh_host.specs.Answers.{told}
use Rattle.bh_script.proofs.Answering.{ran_event}
use Rattle.bh_script.proofs.answers.answer_event.Goals as goal

pub returns-clause-answers : goal.returns-clause-answers
returns-clause-answers g c =
    let new = c.apply-told.new.host in
    let clean = c.requires.clean new in
    let done = c.apply-told.ensures in (
      told c.apply-told.result,
      ran_event g.H.Storage.IsOpen g.H.Storage.seen (arrival c.args.event.now) c.args.storage.now new (told c.apply-told.result).0 (told c.apply-told.result).1
          clean.1 (done.applied clean.0) (done.told_apart clean.0),
      c.send_reply.ensures.writes,
    )
