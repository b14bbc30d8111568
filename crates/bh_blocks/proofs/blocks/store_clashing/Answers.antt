use Rattle.std.proofs.Common.{◌≡◌, ap, ◌∙◌}
use Rattle.std.proofs.lemmas.Result.{on_ok_weaker}
use Rattle.bh_base.specs.Connections.{state}
use Rattle.bh_tables.specs.Typed.{tables_in}
use Rattle.bh_base.specs.Layer.{Standing}
use Rattle.bh_schema.specs.Working.{tables_at}
use Rattle.bh_blocks.proofs.Storing.{new_stored}
use Rattle.bh_blocks.proofs.Keeping.{still_inside}
use Rattle.bh_blocks.proofs.blocks.store_clashing.Goals as goal

pub add_block-requires-clause-inside : goal.add_block-requires-clause-inside
add_block-requires-clause-inside g c = still_inside _ _ c.in_ok-ord.ensures.within c.in_ok-ord.ensures.same c.requires.inside

pub returns-clause-added : goal.returns-clause-added
returns-clause-added g c = on_ok_weaker c.add_block.result (λ added clean.
    let old = tables_at (state g.S.Store g.P.Shelf c.args.connection.now) in
    let mid = tables_at (state g.S.Store g.P.Shelf c.free_ord.new.connection) in
    let was = c.add_block.ensures.within.follows.clean clean in
    let same : mid ≡ old = ap (λ (x : Standing). tables_in x.now) (c.in_ok-ord.ensures.same was.intact) in
    record { within = (added clean).within; is = (added clean).is ∙ new_stored c.args.at.now c.args.digest.now c.args.bytes.now old mid c.in_ok-ord.ord same (c.in_ok-ord.ensures.free was) }) c.add_block.ensures.added
