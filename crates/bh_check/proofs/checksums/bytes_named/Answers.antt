use Rattle.std.proofs.Common.{◌++◌, sym, subst, ◌∙◌}
use Rattle.bh_shelf.specs.Contents.{Contents}
use Rattle.bh_check.specs.Looked.{AreShown}
use Rattle.bh_check.proofs.NamedLemmas.{named_more}
use Rattle.bh_check.proofs.ShownLemmas.{some_has}
use Rattle.bh_check.proofs.checksums.bytes_named.Goals as goal

pub loop-row-preserved : goal.loop-row-preserved
loop-row-preserved g c =
    let inv = c.loop-row.invariant in
    let s = c.args.stored.now in
    let reads = c.in_ok-block.ensures.reads in (
      record { clean = λ clean. inv.0.clean (reads.clean clean); seen = λ clean. reads.seen clean ∙ inv.0.seen (reads.clean clean) },
      λ clean shown are named.
          let mid = reads.clean clean in
          let now = subst (λ (p : Contents). AreShown p s c.args.known.now s.blocks.items shown) (sym (inv.0.seen mid)) are in
          let was = inv.1 mid shown are named in
          let block = some_has _ c.in_ok-block.field-0 c.in-Some.block c.in-Some.is c.in_ok-block.ensures.block clean shown now named in
          c.in_ok-append.ensures ∙ (λ i. was i ++ block i) ∙ sym (named_more shown c.args.refs.now c.loop-row.row-index c.row-item.result c.loop-row-test.true c.row-item.is),
    )
