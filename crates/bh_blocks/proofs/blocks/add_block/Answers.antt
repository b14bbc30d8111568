use Rattle.std.proofs.Common.{refl, ◌++◌, ◌∷◌, [], pos, length, subst}
use Rattle.bh_base.specs.Connections.{state}
use Rattle.bh_tables.specs.Typed.{Totals, Tables, BlockRow, UseRow, counted, tables_in, rebodied}
use Rattle.bh_base.specs.Layer.{standing, Holds}
use Rattle.bh_base.proofs.Calls.{in_midst}
use Rattle.bh_schema.proofs.VersionSteps.{then_turned, ended}
use Rattle.bh_blocks.specs.Named.{placed_at}
use Rattle.bh_blocks.proofs.Counting.{added_twice, piece_law}
use Rattle.bh_blocks.proofs.blocks.add_block.Goals as goal

pub insert_block-requires-clause-midst : goal.insert_block-requires-clause-midst
insert_block-requires-clause-midst g c clean = in_midst (standing (state g.S.Store g.P.Shelf c.args.connection.now)) (c.requires.inside clean)

pub returns-clause-added : goal.returns-clause-added
returns-clause-added g c clean =
    let a = state g.S.Store g.P.Shelf c.args.connection.now in
    let b = state g.S.Store g.P.Shelf c.insert_block.new.connection in
    let d = state g.S.Store g.P.Shelf c.insert_ref.new.connection in
    let e = state g.S.Store g.P.Shelf c.change_uses.new.connection in
    let one = c.in_ok-insert_block.ensures in
    let two = c.in_ok-insert_ref.ensures in
    let three = c.in_ok-change_uses.ensures in
    let t = tables_in (standing a).now in
    let block : BlockRow = record { digest = c.args.digest.now; ord = c.args.ord; bytes = c.args.bytes.now } in
    let count : UseRow = record { digest = c.args.digest.now; ord = c.args.ord; uses = pos 1 } in
    let r = placed_at c.args.at.now c.args.digest.now c.args.ord (length c.args.bytes.now) in
    let with_block : Tables → Tables = λ rows. rebodied rows rows.refs (rows.blocks ++ block ∷ []) in
    let with_ref : Tables → Tables = λ rows. rebodied rows (rows.refs ++ r ∷ []) rows.blocks in
    let counts : Totals → Totals = counted (λ us. us ++ count ∷ []) in
    let mid = three.writes.within.follows.clean clean in
    let first = two.writes.within.follows.clean mid in
    subst (λ rows. Holds rows (standing e)) (added_twice t r block)
    (ended a e counts (λ rows. with_ref (with_block rows)) (λ _. one.writes.within.follows.clean first) c.requires.inside
    (then_turned a d e (λ s. s) counts (λ rows. with_ref (with_block rows)) (λ rows. rows) three.writes.within.follows.clean
    (then_turned a b d (λ s. s) (λ s. s) with_block with_ref two.writes.within.follows.clean one.rewrites two.rewrites) three.rewrites)
    (λ was. piece_law t r block refl refl (one.fresh first) (c.requires.inside was).host.held.measured) clean)
