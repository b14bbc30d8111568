use Rattle.std.proofs.Common.{arith, ◌≡◌, ◌+◌, length, ap, sym, ◌∙◌}
use Rattle.std.proofs.lemmas.Slice.Zip.{zip_turn, zip_end}
use Rattle.bh_check.specs.Garbage.{unused_in}
use Rattle.bh_check.proofs.UnusedSums.{size_more, size_end}
use Rattle.bh_check.proofs.garbage.unused_bytes.Goals as goal

pub loop-used-preserved : goal.loop-used-preserved
loop-used-preserved c =
    let uses = c.args.uses.now in
    let lengths = c.args.lengths.now in
    let yielded = c.loop-used.yielded in
    let used = c.in-Some.used in
    let size = c.in-Some.length in
    let gives = c.into_iter-used-iterator.ensures.into_iter_gives in
    let second : c.zip-used-items.result.b.rest.now ≡ lengths = c.zip-used-items.ensures.second.0 in
    let turn = zip_turn uses lengths yielded c.into_iter-used-iterator.result c.loop-used.used-iterator c.next.new.self c.next.result
    (ap (λ s. s.a.rest.now) gives ∙ ap (λ x. x.rest.now) c.zip-used-items.ensures.first ∙ c.iter.ensures.rest) (ap (λ s. s.b.rest.now) gives ∙ second)
    c.loop-used.yielded_by (used, size) c.in-Some.is c.next.ensures.steps in
    c.in_ok-bytes.ensures ∙ ap (λ n. n + unused_in used.now size.now) c.loop-used.invariant
    ∙ sym (size_more uses lengths yielded (used, size) used.now size.now turn.0 turn.1 (turn.2 used.now) (turn.3 size.now))

pub returns : goal.returns
returns c =
    let uses = c.args.uses.now in
    let lengths = c.args.lengths.now in
    let yielded = c.loop-used.yielded in
    let gives = c.into_iter-used-iterator.ensures.into_iter_gives in
    let second : c.zip-used-items.result.b.rest.now ≡ lengths = c.zip-used-items.ensures.second.0 in
    let end = zip_end uses lengths yielded c.into_iter-used-iterator.result c.loop-used.used-iterator c.next.new.self c.next.result
    (ap (λ s. s.a.rest.now) gives ∙ ap (λ x. x.rest.now) c.zip-used-items.ensures.first ∙ c.iter.ensures.rest) (ap (λ s. s.b.rest.now) gives ∙ second)
    c.loop-used.yielded_by c.in-None.is c.next.ensures.steps in
    c.loop-used.invariant ∙ size_end uses lengths (length yielded) (λ low below. omega (arith, end, low, below))
