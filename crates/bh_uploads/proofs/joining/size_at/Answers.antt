use Rattle.std.proofs.Common.{refl, get_or}
use Rattle.std.proofs.lemmas.Option.{slice_get_read}
use Rattle.bh_core.specs.declared.parts.PartRow.{PartRow}
use Rattle.bh_uploads.proofs.Taking.{taken_sum}
use Rattle.bh_uploads.proofs.joining.size_at.Goals as goal

pub loop-at-preserved : goal.loop-at-preserved
loop-at-preserved c =
    let row = c.in-Some.row.now in
    let there = slice_get_read c.args.rows.now _ (get_or c.args.places.now c.loop-at.at-index 0) row refl c.in-Some.ensures.lookup.3.0 c.in-Some.ensures.lookup.1 in
    taken_sum c.args.rows.now c.args.places.now c.loop-at.at-index row c.loop-at-test.true there (λ (r : PartRow). r.size) c.loop-at.size c.in-Some-checked_add.more c.loop-at.invariant c.in-Some-checked_add.ensures.1
