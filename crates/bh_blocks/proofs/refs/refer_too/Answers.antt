use Rattle.std.proofs.lemmas.Result.{on_ok_weaker}
use Rattle.bh_base.specs.Connections.{state}
use Rattle.bh_tables.specs.Typed.{totals_of, tables_in}
use Rattle.bh_base.specs.Layer.{standing}
use Rattle.bh_base.proofs.Calls.{in_midst}
use Rattle.bh_blocks.specs.Named.{placed_at}
use Rattle.bh_blocks.proofs.Garbage.{referred, referred_too}
use Rattle.bh_blocks.proofs.refs.refer_too.Goals as goal

pub add_ref-requires-clause-midst : goal.add_ref-requires-clause-midst
add_ref-requires-clause-midst g c clean = in_midst (standing (state g.S.Store g.P.Shelf c.args.connection.now)) (c.requires.inside clean)

pub returns-clause-holds : goal.returns-clause-holds
returns-clause-holds g c = on_ok_weaker c.add_ref.result (λ rewrites clean.
    let was = c.add_ref.ensures.writes.within.follows.clean clean in
    let t = tables_in (standing (state g.S.Store g.P.Shelf c.args.connection.now)).now in
    let r = placed_at c.args.at.now c.args.digest.now c.args.ord c.args.size in
    let inside = c.requires.inside was in
    let used = c.requires.used was in
    referred_too t r used.uses used.some (referred t r used.uses used.counted (c.requires.size was) inside.host.held.measured) inside.host.held.measured (standing (state g.S.Store g.P.Shelf c.add_ref.new.connection)) (rewrites clean (totals_of t) inside)) c.add_ref.ensures.rewrites
