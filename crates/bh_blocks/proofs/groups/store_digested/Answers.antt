use Rattle.std.proofs.Common.{[], slice_index_or, refl, ◌+◌, ◌*◌, ◌≤◌, ◌++◌, take, drop, length, length-drop, ap, sym, ◌∙◌, arith}
use Rattle.std.proofs.lemmas.List.{drop-drop}
use Rattle.std.proofs.lemmas.Nat.{mul-le}
use Rattle.bh_base.specs.Connections.{state}
use Rattle.bh_view.specs.Bodies.{pieces, body_stored}
use Rattle.bh_schema.specs.Working.{tables_at}
use Rattle.bh_schema.proofs.Storing.{within_then}
use Rattle.bh_blocks.specs.Named.{body_at}
use Rattle.bh_blocks.proofs.Drafting.{whole_cut}
use Rattle.bh_blocks.proofs.groups.store_digested.Goals as goal

pub storing-preserved : goal.storing-preserved
storing-preserved g c =
    let step = c.in_ok-store_known.ensures in
    let inv = c.storing.invariant in
    let size = c.args.size in
    let j = c.storing.j in
    let old = tables_at (state g.S.Store g.P.Shelf c.storing.connection) in
    let new = tables_at (state g.S.Store g.P.Shelf c.store_known.new.connection) in
    let at = body_at c.args.from.now in
    let fits : (j + 1) * size ≤ c.args.count * size = mul-le (j + 1) size c.args.count size (omega arith) (omega arith) in
    let whole = c.requires.whole in
    let left = ap length inv.rest ∙ length-drop (j * size) c.args.bytes.now in
    record {
      within = within_then _ _ _ inv.opens inv.within step.within;
      opens = λ intact up. step.opens intact (inv.opens (step.within.follows.intact intact) up);
      inside = λ clean. (step.stored (λ _. slice_index_or c.args.digests.now j []) refl clean).within;
      copies = step.copies;
      small = c.in_ok-place.ensures.small;
      rest = c.cut_off.ensures.back ∙ ap (drop size) inv.rest ∙ drop-drop size (j * size) c.args.bytes.now ∙ ap (λ n. drop n c.args.bytes.now) (omega arith);
      goes = λ clean digest more named.
          ap (λ n. body_stored digest at n (pieces size (c.cut_off.result.1.now ++ more)) new) c.in_ok-place.ensures.next
          ∙ whole_cut digest at size c.storing.place c.storing.rest.now c.cut_off.result.0.now c.cut_off.result.1.now more old new
          c.requires.size (omega (arith, fits, whole, left)) c.cut_off.ensures.front c.cut_off.ensures.back
          (step.stored digest (named j (omega arith) ∙ ap digest (sym (c.cut_off.ensures.front ∙ ap (take size) inv.rest))) clean).is
          ∙ inv.goes (step.within.follows.clean clean) digest more named;
    }
