use Rattle.std.proofs.Common.{◌≡◌, ◌+◌, arith, sym, ap, ◌∙◌, subst}
use Rattle.std.specs.List.{list_any}
use Rattle.std.proofs.lemmas.Result.{on_ok_weaker}
use Rattle.bh_base.specs.Connections.{state}
use Rattle.sqlite_keyed.specs.Lists.{delete_where}
use Rattle.bh_rows.specs.Means.{is_trouble}
use Rattle.bh_tables.specs.Bodies.{unneeded}
use Rattle.bh_tables.specs.Typed.{Tables, is_named, totals_of, tables_in, rebodied}
use Rattle.bh_tables.specs.Shown.{Name, is_block, is_use}
use Rattle.bh_tables.proofs.GarbageLemmas.{unneeded_without, measured_without}
use Rattle.bh_tables.proofs.TotalLemmas.{uses_without}
use Rattle.bh_schema.specs.Garbage.{garbage_in}
use Rattle.bh_base.specs.Layer.{Standing, standing, IsInsideBy, HoldsBy}
use Rattle.bh_base.proofs.Calls.{in_midst}
use Rattle.bh_schema.proofs.Finds.{handed_on}
use Rattle.bh_blocks.proofs.Garbage.{weighs_whole}
use Rattle.bh_blocks.proofs.Keeping.{still_inside}
use Rattle.bh_blocks.proofs.removal.remove_block.Goals as goal

pub garbage_bytes-requires : goal.garbage_bytes-requires
garbage_bytes-requires g c = record { inside = still_inside _ _ c.in_ok-size.ensures.reads.within c.in_ok-size.ensures.reads.same c.requires.inside }

pub delete_block-requires-clause-midst : goal.delete_block-requires-clause-midst
delete_block-requires-clause-midst g c clean = in_midst (standing (state g.S.Store g.P.Shelf c.garbage_bytes.new.connection))
    (still_inside _ _ c.in_ok-garbage.ensures.reads.within c.in_ok-garbage.ensures.reads.same (still_inside _ _ c.in_ok-size.ensures.reads.within c.in_ok-size.ensures.reads.same c.requires.inside) clean)

pub returns-clause-removed : goal.returns-clause-removed
returns-clause-removed g c = on_ok_weaker c.reweigh.result (λ reweighs clean.
    let a = standing (state g.S.Store g.P.Shelf c.args.connection.now) in
    let b = standing (state g.S.Store g.P.Shelf c.garbage_bytes.new.connection) in
    let e = standing (state g.S.Store g.P.Shelf c.change_uses.new.connection) in
    let f = standing (state g.S.Store g.P.Shelf c.reweigh.new.connection) in
    let zero = c.in_ok-size.ensures in
    let counts = c.in_ok-garbage.ensures in
    let one = c.in_ok-delete_block.ensures in
    let two = c.in_ok-change_uses.ensures in
    let q : Name = (c.args.digest.now, c.args.ord) in
    let last = c.reweigh.ensures.writes.within.follows.clean clean in
    let mid = two.writes.within.follows.clean last in
    let first = one.writes.within.follows.clean mid in
    let asked = counts.reads.within.follows.clean first in
    let was = zero.reads.within.follows.clean asked in
    let before : b ≡ a = counts.reads.same first.intact ∙ zero.reads.same asked.intact in
    let t = tables_in a.now in
    let inside = c.requires.inside was in
    let unused = c.requires.unused was in
    let less : Tables → Tables = λ x. rebodied x x.refs (delete_where (is_block q) x.blocks) in
    let h1 = one.rewrites mid (totals_of t) (subst (IsInsideBy (totals_of t)) (sym before) inside) in
    let h2 = two.rewrites last (totals_of t) h1.within in
    let uses = delete_where (is_named q) (totals_of t).uses in
    let h : HoldsBy (record (totals_of t) { uses = uses }) (less t) e = record { within = h2.within; is = h2.is ∙ h1.is ∙ ap (λ (x : Standing). less (tables_in x.now)) before } in
    let measured = inside.host.held.measured in
    let law = unneeded_without t.refs t.blocks q c.in_ok-size.size (zero.size asked) unused in
    let is : c.in_ok-garbage.garbage ≡ garbage_in t = counts.is first ∙ ap (λ (x : Standing). garbage_in (tables_in x.now)) (zero.reads.same asked.intact) in
    let sum : unneeded t.refs (delete_where (is_block q) t.blocks) + c.in_ok-size.size ≡ c.in_ok-garbage.garbage + 0 = omega (arith, law, is) in
    weighs_whole t t.refs (delete_where (is_block q) t.blocks) uses c.in_ok-garbage.garbage 0 c.in_ok-size.size e f h (λ sums its weighs after so. reweighs clean sums its weighs after so) is
    (uses_without q t.refs t.blocks) sum measured (measured_without t.refs t.blocks q unused measured)) c.reweigh.ensures.rewrites

pub returns-in_err-delete_block-clause-trouble : goal.returns-in_err-delete_block-clause-trouble
returns-in_err-delete_block-clause-trouble g c = handed_on _ _ _ c.from_residual-in_err-delete_block.ensures (λ e same intact unlimited unused.
    let counts = c.in_ok-garbage.ensures in
    let zero = c.in_ok-size.ensures in
    let q : Name = (c.args.digest.now, c.args.ord) in
    let first = c.in_err-delete_block.ensures.writes.within.follows.intact intact in
    let asked = counts.reads.within.follows.intact first in
    ap is_trouble same ∙ c.in_err-delete_block.ensures.trouble intact (counts.reads.within.follows.limit ∙ zero.reads.within.follows.limit ∙ unlimited)
    (ap (λ (x : Standing). list_any (is_use q) (tables_in x.now).refs) (counts.reads.same first ∙ zero.reads.same asked) ∙ unused))
