use Rattle.std.proofs.Common.{◌≡◌, sym, ◌∙◌, subst}
use Rattle.bh_base.specs.Connections.{state}
use Rattle.bh_tables.specs.Typed.{tables_in}
use Rattle.bh_tables.specs.Bodies.{Name, ref_name}
use Rattle.bh_base.specs.Layer.{standing}
use Rattle.bh_blocks.specs.Uses.{IsSize}
use Rattle.bh_blocks.proofs.bodies.refer_again.Goals as goal

pub refer-requires-clause-size : goal.refer-requires-clause-size
refer-requires-clause-size g c clean =
    let shown = c.requires.size clean in
    let r = shown.0 in
    let named : ref_name r ≡ (c.deref.result.now, c.in_ok-block.block.ord) = sym ((λ i. (c.deref.ensures.value i, c.in_ok-block.block.ord)) ∙ c.in_ok-block.ensures.name r shown.1.0) in
    let blocks = (tables_in (standing (state g.S.Store g.P.Shelf c.args.connection.now)).now).blocks in
    subst (λ (q : Name). IsSize q c.in_ok-block.block.size blocks) named (subst (λ n. IsSize (ref_name r) n blocks) (sym (c.in_ok-block.ensures.size r shown.1.0)) shown.1.1)
