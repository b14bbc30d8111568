use Rattle.std.proofs.Common.{arith, sym, subst}
use Rattle.bh_base.specs.Connections.{state}
use Rattle.bh_tables.specs.Schema.{no_schema}
use Rattle.bh_tables.specs.Made.{with_uses_by_count}
use Rattle.bh_create.specs.Creation.{IsMaking}
use Rattle.bh_create.specs.declared.tables.Item.TheVariants as item
use Rattle.bh_create.proofs.Building.{keeps_itself, keeps_then, lead_next, lead_end}
use Rattle.bh_create.proofs.tables.create_all.Goals as goal

pub loop-item-init : goal.loop-item-init
loop-item-init g c = record { keeps = keeps_itself (state g.S.Store g.P.Shelf c.args.connection.now); made = (no_schema, c.requires.lead, c.requires.making) }

pub create_item-requires : goal.create_item-requires
create_item-requires g c clean =
    let made = c.loop-item.invariant.made in
    let next = lead_next c.args.items.now c.loop-item.item-index item.Host c.loop-item-test.true made.0 with_uses_by_count made.1 in
    subst (λ schema. IsMaking schema (state g.S.Store g.P.Shelf c.loop-item.connection)) (sym next.0) (made.2 clean)

pub loop-item-preserved : goal.loop-item-preserved
loop-item-preserved g c =
    let inv = c.loop-item.invariant in
    let step = c.in_ok-create_item.ensures.makes in
    let next = lead_next c.args.items.now c.loop-item.item-index item.Host c.loop-item-test.true inv.made.0 with_uses_by_count inv.made.1 in
    record { keeps = keeps_then _ _ _ inv.keeps step.keeps; made = (_, next.1, step.made) }

pub returns : goal.returns
returns g c =
    let inv = c.loop-item.invariant in
    let last = lead_end c.args.items.now c.loop-item.item-index (let end = c.loop-item-test.false in omega (arith, end)) inv.made.0 with_uses_by_count inv.made.1 in
    record {
      makes = record { keeps = inv.keeps; made = λ clean. subst (λ schema. IsMaking schema (state g.S.Store g.P.Shelf c.loop-item.connection)) last (inv.made.2 clean) };
      trouble = tt;
    }
