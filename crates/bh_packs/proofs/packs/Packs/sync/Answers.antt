use Rattle.std.proofs.Common.{ℕ, List, ◌∙◌, below_more}
use Rattle.bh_packs.specs.Packs.{pack_at, IsWrittenIn, IsSettledIn}
use Rattle.bh_packs.proofs.PackLemmas.{keeps_then}
use Rattle.bh_packs.proofs.packs.Packs.sync.Goals as goal

pub loop-number-preserved : goal.loop-number-preserved
loop-number-preserved g c =
    let before = c.loop-number.invariant in
    let P : ℕ → Type 0 = λ n. (at : ℕ) (bytes : List ℕ) → IsWrittenIn g.D.Disk (pack_at c.args.self.now n) at bytes
    → IsSettledIn g.D.Disk (pack_at c.sync_at.new.self n) at bytes in
    record {
      keeps = keeps_then g.D.Disk c.args.self.now c.loop-number.self c.sync_at.new.self before.keeps c.sync_at.ensures.keeps;
      holds = λ n. c.sync_at.ensures.holds n ∙ before.holds n;
      removed = c.sync_at.ensures.removed ∙ before.removed;
      done = below_more P c.loop-number.number
          (λ n h at bytes w. (c.sync_at.ensures.keeps n).settled at bytes (before.done n h at bytes w))
          (λ at bytes w. c.in_ok-sync_at.ensures.settled at bytes ((before.keeps c.loop-number.number).written at bytes w));
    }
