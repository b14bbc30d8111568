use Rattle.std.proofs.Common.{◌≡◌, sym, ap, ◌∙◌, subst}
use Rattle.bh_base.specs.Connections.{state}
use Rattle.bh_rows.specs.Means.{is_trouble}
use Rattle.bh_tables.specs.Garbage.{HasUses}
use Rattle.bh_tables.specs.Typed.{counted, lowered, tables_in}
use Rattle.bh_tables.specs.Shown.{Name, ref_name}
use Rattle.bh_base.specs.Layer.{Standing, standing, IsMidst, IsInsideBy, HoldsBy}
use Rattle.bh_schema.proofs.Finds.{handed_on}
use Rattle.bh_blocks.specs.Uses.{IsUsed}
use Rattle.bh_blocks.proofs.Counting.{lowered_named}
use Rattle.bh_blocks.proofs.Garbage.{freed_is}
use Rattle.bh_blocks.proofs.bodies.lower_named.Goals as goal

pub change_uses-requires-clause-midst : goal.change_uses-requires-clause-midst
change_uses-requires-clause-midst g c clean = subst IsMidst (sym (c.in_ok-uses.ensures.reads.same clean.intact)) (c.requires.midst (c.in_ok-uses.ensures.reads.within.follows.clean clean))

pub returns-clause-rewrites : goal.returns-clause-rewrites
returns-clause-rewrites g c r is clean sums by =
    let mid = c.in_ok-change_uses.ensures.writes.within.follows.clean clean in
    let same = c.in_ok-uses.ensures.reads.same mid.intact in
    let q : Name = (c.deref-2.result.now, c.in_ok-block.block.ord) in
    let named : q ≡ ref_name r = (λ i. (c.deref-2.ensures.value i, c.in_ok-block.block.ord)) ∙ c.in_ok-block.ensures.name r is in
    let x = standing (state g.S.Store g.P.Shelf c.change_uses.new.connection) in
    let h = c.in_ok-change_uses.ensures.rewrites clean sums (subst (IsInsideBy sums) (sym same) by) in
    subst (λ (y : Standing). HoldsBy (counted (lowered (ref_name r)) sums) (tables_in y.now) x) same
    (lowered_named q (ref_name r) sums (tables_in (standing (state g.S.Store g.P.Shelf c.uses_of.new.connection)).now) x named h)

pub returns-clause-frees : goal.returns-clause-frees
returns-clause-frees g c r is clean sums by =
    let mid = c.in_ok-change_uses.ensures.writes.within.follows.clean clean in
    let q : Name = (c.deref.result.now, c.in_ok-block.block.ord) in
    let named : q ≡ ref_name r = (λ i. (c.deref.ensures.value i, c.in_ok-block.block.ord)) ∙ c.in_ok-block.ensures.name r is in
    (c.in_ok-uses.uses, (subst (λ n. HasUses n c.in_ok-uses.uses sums.uses) named (c.in_ok-uses.ensures.counted mid sums by), c.freed.ensures ∙ freed_is c.in_ok-uses.uses r c.in_ok-block.block.size (c.in_ok-block.ensures.size r is)))

pub returns-in_err-change_uses-clause-trouble : goal.returns-in_err-change_uses-clause-trouble
returns-in_err-change_uses-clause-trouble g c = handed_on _ _ _ c.from_residual-in_err-change_uses.ensures (λ e same r is intact unlimited used.
    let before = c.in_err-change_uses.ensures.writes.within.follows.intact intact in
    let still = c.in_ok-uses.ensures.reads.same before in
    let q : Name = (c.deref-2.result.now, c.in_ok-block.block.ord) in
    let named : q ≡ ref_name r = (λ i. (c.deref-2.ensures.value i, c.in_ok-block.block.ord)) ∙ c.in_ok-block.ensures.name r is in
    ap is_trouble same ∙ c.in_err-change_uses.ensures.trouble intact (c.in_ok-uses.ensures.reads.within.follows.limit ∙ unlimited)
    (subst (λ n. IsUsed n (standing (state g.S.Store g.P.Shelf c.uses_of.new.connection))) (sym named) (subst (IsUsed (ref_name r)) (sym still) used)))
