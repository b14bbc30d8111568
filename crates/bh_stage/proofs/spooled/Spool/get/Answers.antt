-- What was read comes off the front of what wasn't read yet.
use Rattle.std.proofs.Common.{◌++◌, length, take, ap, ◌∙◌, arith}
use Rattle.std.proofs.lemmas.List.{length-append, length-take-le, length-drop}
use borrow.Rule.Slice.PartMut.{post_of}
use Rattle.bh_stage.specs.Records.{bytes_of}
use Rattle.bh_stage.proofs.RecordLemmas.{bytes_of_append}
use Rattle.bh_stage.proofs.SpoolLemmas.{got_rest, got_faithful}
use Rattle.bh_stage.proofs.spooled.Spool.get.Goals as goal

pub invariant_of-self-2-clause-left : goal.invariant_of-self-2-clause-left
invariant_of-self-2-clause-left c =
    let s = c.args.self.now in
    let tail = post_of 0 c.min-most.result c.args.room.now in
    let room = c.read_at.new.buf ++ tail in
    let told = ap bytes_of c.and-self.ensures ∙ bytes_of_append s.got.items c.in_ok-count.count room in
    let len = ap length told ∙ length-append (bytes_of s.got.items) (take c.in_ok-count.count room) in
    let front = length-take-le c.in_ok-count.count room (omega (arith, c.in_ok-count.ensures.bound, length-append c.read_at.new.buf tail)) in
    omega (arith, c.in_ok-count.ensures.bound, length-drop (length (bytes_of s.got.items)) (bytes_of s.put.items))

pub returns-clause-rest : goal.returns-clause-rest
returns-clause-rest c = λ faithful.
    let s = c.args.self.now in
    let room = c.read_at.new.buf ++ post_of 0 c.min-most.result c.args.room.now in
    let told = ap bytes_of c.and-self.ensures ∙ bytes_of_append s.got.items c.in_ok-count.count room in
    got_rest (bytes_of s.put.items) (bytes_of s.got.items) (take c.in_ok-count.count room) (bytes_of c.and-self.result.items) told faithful

pub returns-clause-faithful : goal.returns-clause-faithful
returns-clause-faithful c = λ faithful.
    let s = c.args.self.now in
    let room = c.read_at.new.buf ++ post_of 0 c.min-most.result c.args.room.now in
    let told = ap bytes_of c.and-self.ensures ∙ bytes_of_append s.got.items c.in_ok-count.count room in
    got_faithful (bytes_of s.put.items) (bytes_of s.got.items) (take c.in_ok-count.count room) (bytes_of c.and-self.result.items) told faithful
