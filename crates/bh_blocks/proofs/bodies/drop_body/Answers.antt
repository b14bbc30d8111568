use Rattle.std.proofs.Common.{◌≡◌, ◌+◌, arith, sym, ap, ◌∙◌, subst}
use Rattle.std.proofs.lemmas.Result.{on_ok_weaker}
use Rattle.bh_base.specs.Connections.{state}
use Rattle.sqlite_keyed.specs.Lists.{delete_where}
use Rattle.bh_rows.specs.Means.{is_trouble}
use Rattle.bh_tables.specs.Typed.{Tables, lowered_by, totals_of, tables_in, rebodied}
use Rattle.bh_tables.specs.Bodies.{Name, placed, unneeded}
use Rattle.bh_tables.specs.Shown.{is_of_body}
use Rattle.bh_tables.proofs.TotalLemmas.{uses_dropped}
use Rattle.bh_tables.proofs.GarbageLemmas.{unneeded_dropped, measured_fewer}
use Rattle.bh_schema.specs.Garbage.{garbage_in}
use Rattle.bh_base.specs.Layer.{Standing, standing, IsStateClean, IsInsideBy, HoldsBy}
use Rattle.bh_base.proofs.Calls.{in_midst}
use Rattle.bh_schema.proofs.Finds.{handed_on}
use Rattle.bh_blocks.specs.Uses.{AreUsed}
use Rattle.bh_blocks.proofs.Counting.{body_used}
use Rattle.bh_blocks.proofs.Garbage.{weighs_whole}
use Rattle.bh_blocks.proofs.Keeping.{still_inside}
use Rattle.bh_blocks.proofs.bodies.drop_body.Goals as goal

pub garbage_bytes-requires : goal.garbage_bytes-requires
garbage_bytes-requires g c = record { inside = still_inside _ _ c.in_ok-rows.ensures.reads.within c.in_ok-rows.ensures.reads.same c.requires.inside }

pub lower_all-requires : goal.lower_all-requires
lower_all-requires g c = record {
  midst = λ clean. in_midst (standing (state g.S.Store g.P.Shelf c.garbage_bytes.new.connection))
      (still_inside _ _ c.in_ok-garbage.ensures.reads.within c.in_ok-garbage.ensures.reads.same (still_inside _ _ c.in_ok-rows.ensures.reads.within c.in_ok-rows.ensures.reads.same c.requires.inside) clean);
}

pub returns-clause-dropped : goal.returns-clause-dropped
returns-clause-dropped g c = on_ok_weaker c.reweigh.result (λ reweighs clean.
    let a = standing (state g.S.Store g.P.Shelf c.args.connection.now) in
    let b = standing (state g.S.Store g.P.Shelf c.garbage_bytes.new.connection) in
    let e = standing (state g.S.Store g.P.Shelf c.delete_refs.new.connection) in
    let f = standing (state g.S.Store g.P.Shelf c.reweigh.new.connection) in
    let zero = c.in_ok-rows.ensures in
    let counts = c.in_ok-garbage.ensures in
    let one = c.in_ok-freed.ensures in
    let two = c.in_ok-delete_refs.ensures in
    let body : Name = (c.args.tenant.now, c.args.body) in
    let last = c.reweigh.ensures.writes.within.follows.clean clean in
    let mid = two.writes.within.follows.clean last in
    let first = one.within.follows.clean mid in
    let asked = counts.reads.within.follows.clean first in
    let was = zero.reads.within.follows.clean asked in
    let before : b ≡ a = counts.reads.same first.intact ∙ zero.reads.same asked.intact in
    let t = tables_in a.now in
    let rs = placed t.refs body in
    let inside = c.requires.inside was in
    let by = subst (IsInsideBy (totals_of t)) (sym before) inside in
    let rows = c.deref.ensures.value ∙ zero.rows asked in
    let less : Tables → Tables = λ x. rebodied x (delete_where (is_of_body body) x.refs) x.blocks in
    let h1 = one.rewrites rs rows mid (totals_of t) by in
    let h2 = two.rewrites last (record (totals_of t) { uses = lowered_by rs (totals_of t).uses }) h1.within in
    let h : HoldsBy (record (totals_of t) { uses = lowered_by rs (totals_of t).uses }) (less t) e = record { within = h2.within; is = h2.is ∙ ap less (h1.is ∙ ap (λ (x : Standing). tables_in x.now) before) } in
    let measured = inside.host.held.measured in
    let law = unneeded_dropped t.refs t.blocks body c.in_ok-freed.freed measured (one.frees rs rows mid (totals_of t) by) in
    let is : c.in_ok-garbage.garbage ≡ garbage_in t = counts.is first ∙ ap (λ (x : Standing). garbage_in (tables_in x.now)) (zero.reads.same asked.intact) in
    let sum : unneeded (delete_where (is_of_body body) t.refs) t.blocks + 0 ≡ c.in_ok-garbage.garbage + c.in_ok-freed.freed = omega (arith, law, is) in
    weighs_whole t (delete_where (is_of_body body) t.refs) t.blocks (lowered_by rs (totals_of t).uses) c.in_ok-garbage.garbage c.in_ok-freed.freed 0 e f h (λ sums its weighs after so. reweighs clean sums its weighs after so) is
    (uses_dropped t.refs t.blocks body) sum measured (measured_fewer t.refs t.blocks (is_of_body body) measured)) c.reweigh.ensures.rewrites

pub returns-in_err-freed-clause-trouble : goal.returns-in_err-freed-clause-trouble
returns-in_err-freed-clause-trouble g c = handed_on _ _ _ c.from_residual-in_err-freed.ensures (λ e same intact unlimited.
    let a = state g.S.Store g.P.Shelf c.args.connection.now in
    let b = state g.S.Store g.P.Shelf c.garbage_bytes.new.connection in
    let zero = c.in_ok-rows.ensures in
    let counts = c.in_ok-garbage.ensures in
    let one = c.in_err-freed.ensures in
    let before = one.within.follows.intact intact in
    let up = (counts.reads.opens before).1 in
    let clean : IsStateClean b = record { intact = before; is_open = up } in
    let asked = counts.reads.within.follows.clean clean in
    let was = zero.reads.within.follows.clean asked in
    let body : Name = (c.args.tenant.now, c.args.body) in
    let t = tables_in (standing a).now in
    ap is_trouble same ∙ one.trouble (placed t.refs body) (c.deref.ensures.value ∙ zero.rows asked) intact (counts.reads.within.follows.limit ∙ zero.reads.within.follows.limit ∙ unlimited)
    (up, subst (AreUsed (placed t.refs body)) (sym (counts.reads.same before ∙ zero.reads.same asked.intact)) (body_used body (standing a) t (c.requires.inside was))))
