use Rattle.std.proofs.Common.{◌∙◌, rules}
use Rattle.bh_words.proofs.Sized.{one_more}
use Rattle.bh_words.proofs.sizes.sized.Goals as goal

pub loop-word-preserved : goal.loop-word-preserved
loop-word-preserved c =
    let now = c.loop-word in
    let told = rw c.as_str.ensures.value at c.in_ok-sized_word.ensures in
    let step = one_more c.args.words.now now.word-index c.word-item.result now.sized.items c.in_ok-sized_word.field-0 now.before.now
    c.loop-word-test.true (search rules) told in
    (search rules, rw (c.as_str-before.ensures.value, c.in_ok-push.ensures.items) (step ∙ now.invariant.1))
