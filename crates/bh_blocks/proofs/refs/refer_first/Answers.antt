use Rattle.std.proofs.Common.{◌≡◌, ◌+◌, arith, ◌++◌, ◌∷◌, [], sym, subst}
use Rattle.std.proofs.lemmas.Result.{on_ok_weaker}
use Rattle.bh_base.specs.Connections.{state}
use Rattle.bh_tables.specs.Bodies.{unneeded}
use Rattle.bh_tables.specs.Typed.{totals_of, tables_in, raised, counted, rebodied}
use Rattle.bh_base.specs.Layer.{Standing, standing, IsInsideBy, HoldsBy}
use Rattle.bh_base.proofs.Calls.{in_midst}
use Rattle.bh_blocks.specs.Named.{placed_at}
use Rattle.bh_blocks.proofs.Garbage.{weighs_whole, referred}
use Rattle.bh_blocks.proofs.Keeping.{still_inside}
use Rattle.bh_blocks.proofs.refs.refer_first.Goals as goal

pub add_ref-requires-clause-midst : goal.add_ref-requires-clause-midst
add_ref-requires-clause-midst g c clean = in_midst (standing (state g.S.Store g.P.Shelf c.garbage_bytes.new.connection)) (still_inside _ _ c.in_ok-garbage.ensures.reads.within c.in_ok-garbage.ensures.reads.same c.requires.inside clean)

pub returns-clause-holds : goal.returns-clause-holds
returns-clause-holds g c = on_ok_weaker c.reweigh.result (λ reweighs clean.
    let a = standing (state g.S.Store g.P.Shelf c.args.connection.now) in
    let b = standing (state g.S.Store g.P.Shelf c.garbage_bytes.new.connection) in
    let d = standing (state g.S.Store g.P.Shelf c.add_ref.new.connection) in
    let e = standing (state g.S.Store g.P.Shelf c.reweigh.new.connection) in
    let zero = c.in_ok-garbage.ensures in
    let one = c.in_ok-add_ref.ensures in
    let mid = c.reweigh.ensures.writes.within.follows.clean clean in
    let first = one.writes.within.follows.clean mid in
    let same = zero.reads.same first.intact in
    let was = zero.reads.within.follows.clean first in
    let inside = c.requires.inside was in
    let t = tables_in a.now in
    let r = placed_at c.args.at.now c.args.digest.now c.args.ord c.args.size in
    let it = referred t r 0 (c.requires.unused was) (c.requires.size was) inside.host.held.measured in
    let uses = raised (c.args.digest.now, c.args.ord) (totals_of t).uses in
    let h = one.rewrites mid (totals_of t) (subst (IsInsideBy (totals_of t)) (sym same) inside) in
    let h2 = subst (λ (x : Standing). HoldsBy (record (totals_of t) { uses = uses }) (rebodied (tables_in x.now) ((tables_in x.now).refs ++ r ∷ []) (tables_in x.now).blocks) d) same h in
    let law = it.law in
    let is = zero.is first in
    weighs_whole t (t.refs ++ r ∷ []) t.blocks uses c.in_ok-garbage.garbage 0 c.args.size d e h2 (λ sums by weighs after so. reweighs clean sums by weighs after so) is it.counted
    (let sum : unneeded (t.refs ++ r ∷ []) t.blocks + c.args.size ≡ c.in_ok-garbage.garbage + 0 = omega (arith, law, is) in sum) inside.host.held.measured it.measured) c.reweigh.ensures.rewrites
