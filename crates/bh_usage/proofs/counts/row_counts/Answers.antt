use Rattle.bh_base.specs.Connections.{state}
use Rattle.bh_usage.proofs.Asked.{asked_inside}
use Rattle.bh_usage.proofs.counts.row_counts.Goals as goal

pub byte_totals-requires-clause-inside : goal.byte_totals-requires-clause-inside
byte_totals-requires-clause-inside g c =
    let old = state g.S.Store g.P.Shelf c.args.connection.now in
    let one = state g.S.Store g.P.Shelf c.tenant_sum.new.connection in
    asked_inside old one c.tenant_sum.ensures.reads.within c.requires.inside c.in_ok-buckets.ensures.reads.same

pub entry_counts-requires : goal.entry_counts-requires
entry_counts-requires g c =
    let old = state g.S.Store g.P.Shelf c.args.connection.now in
    let one = state g.S.Store g.P.Shelf c.tenant_sum.new.connection in
    let two = state g.S.Store g.P.Shelf c.byte_totals.new.connection in
    let inside = asked_inside old one c.tenant_sum.ensures.reads.within c.requires.inside c.in_ok-buckets.ensures.reads.same in
    record { inside = asked_inside one two c.byte_totals.ensures.reads.within inside c.in_ok-bytes.ensures.reads.same }

pub tenant_sum-requires-2 : goal.tenant_sum-requires-2
tenant_sum-requires-2 g c =
    let old = state g.S.Store g.P.Shelf c.args.connection.now in
    let one = state g.S.Store g.P.Shelf c.tenant_sum.new.connection in
    let two = state g.S.Store g.P.Shelf c.byte_totals.new.connection in
    let three = state g.S.Store g.P.Shelf c.entry_counts.new.connection in
    let inside_one = asked_inside old one c.tenant_sum.ensures.reads.within c.requires.inside c.in_ok-buckets.ensures.reads.same in
    let inside_two = asked_inside one two c.byte_totals.ensures.reads.within inside_one c.in_ok-bytes.ensures.reads.same in
    record { inside = asked_inside two three c.entry_counts.ensures.reads.within inside_two c.in_ok-entries.ensures.reads.same }
