use Rattle.std.proofs.Common.{arith, ◌∙◌, ◌++◌, ◌∷◌, [], take, map, length, ap, sym, append_assoc, append-nil}
use mathlib.Core.List.{map-append}
use Rattle.bh_check.specs.Holds.{block_length}
use Rattle.bh_check.proofs.OnceLemmas.{one_more, taken_whole}
use Rattle.bh_check.proofs.looked.add_lengths.Goals as goal

pub loop-row-init : goal.loop-row-init
loop-row-init c = sym (append-nil _)

pub loop-row-preserved : goal.loop-row-preserved
loop-row-preserved c =
    let rows = c.args.rows.now in
    let at = c.loop-row.row-index in
    let row = c.row-item.result in
    let more = ap (map block_length) (one_more rows at row c.loop-row-test.true c.row-item.is) ∙ map-append block_length (take at rows) (row ∷ []) in
    c.in_ok-push.ensures.items ∙ (λ i. c.loop-row.invariant i ++ length (c.bytes_in.ensures i) ∷ []) ∙ append_assoc c.args.lengths.now.items (map block_length (take at rows)) (map block_length (row ∷ [])) ∙ ap (λ l. c.args.lengths.now.items ++ l) (sym more)

pub returns : goal.returns
returns c =
    let end = c.loop-row-test.false in
    c.loop-row.invariant ∙ ap (λ l. c.args.lengths.now.items ++ map block_length l) (taken_whole c.args.rows.now c.loop-row.row-index (omega (arith, end)))
