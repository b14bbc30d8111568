-- What was given from memory is the front of what is left there.
use Rattle.std.proofs.Common.{◌≤◌, ◌++◌, length, take, drop, ap, ◌∙◌, arith}
use Rattle.std.proofs.lemmas.List.{take-append-le}
use borrow.Rule.Slice.PartMut.{post_of}
use Rattle.bh_stage.specs.Records.{bytes_of}
use Rattle.bh_stage.specs.Spools.{rest_in}
use Rattle.bh_stage.proofs.KeptLemmas.{gave_kept}
use Rattle.bh_stage.proofs.RecordLemmas.{bytes_of_append}
use Rattle.bh_stage.proofs.kept.Kept.next_kept.Goals as goal

pub invariant_of-self-clause-all : goal.invariant_of-self-clause-all
invariant_of-self-clause-all g c = λ faithful.
    let it = c.args.self.now in
    let n = c.copy_rest-count.result in
    let front = c.copy_rest-count.new.room in
    let tail = post_of 0 c.args.most c.args.room.now in
    let told = ap bytes_of c.and-self.ensures ∙ bytes_of_append it.gave.items n (front ++ tail) in
    let le : n ≤ length front = omega (arith, c.copy_rest-count.ensures.count, c.copy_rest-count.ensures.len) in
    let same = take-append-le n front tail le ∙ c.copy_rest-count.ensures.bytes ∙ ap (λ x. take n (drop it.at x)) c.as_slice.ensures.value in
    gave_kept (bytes_of it.gave.items) (bytes_of c.and-self.result.items) it.bytes.items (front ++ tail) (rest_in it.spool) (bytes_of it.inlet.given.items) it.at n (it.all faithful) told same

pub returns-clause-gave : goal.returns-clause-gave
returns-clause-gave g c = ap bytes_of c.and-self.ensures ∙ bytes_of_append c.args.self.now.gave.items c.copy_rest-count.result (c.copy_rest-count.new.room ++ post_of 0 c.args.most c.args.room.now)
