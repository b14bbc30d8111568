use Rattle.std.proofs.Common.{◌++◌, ◌∷◌, []}
use Rattle.bh_base.specs.Connections.{state}
use Rattle.bh_tables.specs.Typed.{Tables, counted, raised, rebodied}
use Rattle.bh_schema.proofs.VersionSteps.{then_turned}
use Rattle.bh_blocks.specs.Named.{placed_at}
use Rattle.bh_blocks.proofs.refs.add_ref.Goals as goal

pub returns-clause-rewrites : goal.returns-clause-rewrites
returns-clause-rewrites g c =
    let a = state g.S.Store g.P.Shelf c.args.connection.now in
    let b = state g.S.Store g.P.Shelf c.insert_ref.new.connection in
    let d = state g.S.Store g.P.Shelf c.change_uses.new.connection in
    let one = c.in_ok-insert_ref.ensures in
    let two = c.in_ok-change_uses.ensures in
    let r = placed_at c.args.at.now c.args.digest.now c.args.ord c.args.size in
    let more : Tables → Tables = λ t. rebodied t (t.refs ++ r ∷ []) t.blocks in
    let up = counted (raised (c.args.digest.now, c.args.ord)) in
    then_turned a b d (λ s. s) up more (λ t. t) two.writes.within.follows.clean one.rewrites two.rewrites
