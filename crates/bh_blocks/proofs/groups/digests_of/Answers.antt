use Rattle.std.proofs.Common.{◌≡◌, ◌*◌, take, length, sym, ap, ◌∙◌, length-take-le, arith}
use Rattle.bh_blocks.proofs.Grouping.{block_in}
use Rattle.bh_blocks.proofs.groups.digests_of.Goals as goal

pub returns : goal.returns
returns g c = λ j below.
    let count = c.args.count in
    let size = c.args.size in
    let all = c.args.bytes.now in
    let front = take (count * size) all in
    let room = c.in_ok-room.room.items in
    let long : length front ≡ count * size = length-take-le (count * size) all c.requires.whole in
    c.digest_eight-2.ensures j (omega arith) ∙ ap g.D.Digester.digest_of (block_in size count j all c.deref.result.now below (ap (take (count * size)) c.deref.ensures.value ∙ ap (λ n. take n room) (sym long) ∙ c.in_ok-room.ensures.front))
