use Rattle.bh_base.specs.Connections.{state}
use Rattle.bh_schema.specs.declared.rows.removal.TenantTable.TheVariants as table
use Rattle.bh_base.specs.Layer.{IsIntact, IsOpen}
use Rattle.bh_schema.specs.Removal.{without_table, sums_without}
use Rattle.bh_schema.proofs.Storing.{within_then}
use Rattle.bh_schema.proofs.VersionSteps.{then_turned}
use Rattle.bh_schema.proofs.rows.removal.delete_contents.Goals as goal

pub returns-clause-rewrites : goal.returns-clause-rewrites
returns-clause-rewrites g c =
    let t = c.args.tenant.now in
    let s0 = state g.S.Store g.P.Shelf c.args.connection.now in
    let s1 = state g.S.Store g.P.Shelf c.delete_owned.new.connection in
    let s2 = state g.S.Store g.P.Shelf c.delete_owned-2.new.connection in
    let s3 = state g.S.Store g.P.Shelf c.delete_owned-3.new.connection in
    let s4 = state g.S.Store g.P.Shelf c.delete_owned-4.new.connection in
    let s5 = state g.S.Store g.P.Shelf c.delete_owned-5.new.connection in
    let e1 = c.in_ok-delete_owned.ensures in
    let e2 = c.in_ok-delete_owned-2.ensures in
    let e3 = c.in_ok-delete_owned-3.ensures in
    let e4 = c.in_ok-delete_owned-4.ensures in
    let e5 = c.in_ok-delete_owned-5.ensures in
    let f1 = sums_without table.Retains t in
    let p1 = without_table table.Retains t in
    let f2 = sums_without table.Locks t in
    let p2 = without_table table.Locks t in
    let f3 = sums_without table.Parts t in
    let p3 = without_table table.Parts t in
    let f4 = sums_without table.Uploads t in
    let p4 = without_table table.Uploads t in
    let f5 = sums_without table.Versions t in
    let p5 = without_table table.Versions t in
    let r2 = then_turned s0 s1 s2 f1 f2 p1 p2 e2.writes.within.follows.clean e1.rewrites e2.rewrites in
    let r3 = then_turned s0 s2 s3 (λ s. f2 (f1 s)) f3 (λ x. p2 (p1 x)) p3 e3.writes.within.follows.clean r2 e3.rewrites in
    let r4 = then_turned s0 s3 s4 (λ s. f3 (f2 (f1 s))) f4 (λ x. p3 (p2 (p1 x))) p4 e4.writes.within.follows.clean r3 e4.rewrites in
    let r5 = then_turned s0 s4 s5 (λ s. f4 (f3 (f2 (f1 s)))) f5 (λ x. p4 (p3 (p2 (p1 x)))) p5 e5.writes.within.follows.clean r4 e5.rewrites in
    r5

pub returns-clause-writes : goal.returns-clause-writes
returns-clause-writes g c =
    let s0 = state g.S.Store g.P.Shelf c.args.connection.now in
    let s1 = state g.S.Store g.P.Shelf c.delete_owned.new.connection in
    let s2 = state g.S.Store g.P.Shelf c.delete_owned-2.new.connection in
    let s3 = state g.S.Store g.P.Shelf c.delete_owned-3.new.connection in
    let s4 = state g.S.Store g.P.Shelf c.delete_owned-4.new.connection in
    let s5 = state g.S.Store g.P.Shelf c.delete_owned-5.new.connection in
    let e1 = c.in_ok-delete_owned.ensures in
    let e2 = c.in_ok-delete_owned-2.ensures in
    let e3 = c.in_ok-delete_owned-3.ensures in
    let e4 = c.in_ok-delete_owned-4.ensures in
    let e5 = c.in_ok-delete_owned-5.ensures in
    let o2 : IsIntact s2 → IsOpen s0 → IsOpen s2 = λ intact up. e2.writes.opens intact (e1.writes.opens (e2.writes.within.follows.intact intact) up) in
    let w2 = within_then s0 s1 s2 e1.writes.opens e1.writes.within e2.writes.within in
    let o3 : IsIntact s3 → IsOpen s0 → IsOpen s3 = λ intact up. e3.writes.opens intact (o2 (e3.writes.within.follows.intact intact) up) in
    let w3 = within_then s0 s2 s3 o2 w2 e3.writes.within in
    let o4 : IsIntact s4 → IsOpen s0 → IsOpen s4 = λ intact up. e4.writes.opens intact (o3 (e4.writes.within.follows.intact intact) up) in
    let w4 = within_then s0 s3 s4 o3 w3 e4.writes.within in
    let o5 : IsIntact s5 → IsOpen s0 → IsOpen s5 = λ intact up. e5.writes.opens intact (o4 (e5.writes.within.follows.intact intact) up) in
    let w5 = within_then s0 s4 s5 o4 w4 e5.writes.within in
    record { within = w5; opens = o5; midst = e5.writes.midst }
