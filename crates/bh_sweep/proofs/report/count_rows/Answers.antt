use Rattle.std.proofs.Common.{arith, ◌<◌, ◌^◌, nat_lt, length, filter, sum_by, sym, ap, ◌∙◌, subst}
use Rattle.bh_base.specs.Connections.{state}
use Rattle.bh_rows.specs.Means.{is_trouble}
use Rattle.bh_tables.specs.Typed.{BlockRow, tables_in}
use Rattle.bh_view.proofs.FilterLemmas.{length-filter-le}
use Rattle.bh_base.specs.Layer.{Standing, standing}
use Rattle.bh_schema.proofs.Finds.{handed_on}
use Rattle.bh_objects.proofs.Working.{asked_inside}
use Rattle.bh_sweep.specs.Counted.{used_by}
use Rattle.bh_sweep.proofs.report.count_rows.Goals as goal

pub stored_total-requires : goal.stored_total-requires
stored_total-requires g c =
    let old = state g.S.Store g.P.Shelf c.args.connection.now in
    let one = state g.S.Store g.P.Shelf c.block_count.new.connection in
    record { inside = asked_inside old one c.requires.inside c.block_count.ensures.within c.in_ok-blocks.ensures.same }

pub used_total-requires : goal.used_total-requires
used_total-requires g c =
    let old = state g.S.Store g.P.Shelf c.args.connection.now in
    let one = state g.S.Store g.P.Shelf c.block_count.new.connection in
    let two = state g.S.Store g.P.Shelf c.stored_total.new.connection in
    let inside = asked_inside old one c.requires.inside c.block_count.ensures.within c.in_ok-blocks.ensures.same in
    record { inside = asked_inside one two inside c.stored_total.ensures.within c.in_ok-stored.ensures.same }

pub clash_count-requires : goal.clash_count-requires
clash_count-requires g c =
    let old = state g.S.Store g.P.Shelf c.args.connection.now in
    let one = state g.S.Store g.P.Shelf c.block_count.new.connection in
    let two = state g.S.Store g.P.Shelf c.stored_total.new.connection in
    let three = state g.S.Store g.P.Shelf c.used_total.new.connection in
    let inside_one = asked_inside old one c.requires.inside c.block_count.ensures.within c.in_ok-blocks.ensures.same in
    let inside_two = asked_inside one two inside_one c.stored_total.ensures.within c.in_ok-stored.ensures.same in
    record { inside = asked_inside two three inside_two c.used_total.ensures.within c.in_ok-referred.ensures.same }

pub returns-in_err-clashes-clause-trouble : goal.returns-in_err-clashes-clause-trouble
returns-in_err-clashes-clause-trouble g c = handed_on _ _ _ c.from_residual-in_err-clashes.ensures (λ e is intact unlimited countable.
    let three = c.clash_count.ensures.within.follows.intact intact in
    let two = c.used_total.ensures.within.follows.intact three in
    let one = c.stored_total.ensures.within.follows.intact two in
    let same = c.in_ok-referred.ensures.same three ∙ c.in_ok-stored.ensures.same two ∙ c.in_ok-blocks.ensures.same one in
    let blocks = (tables_in (standing (state g.S.Store g.P.Shelf c.args.connection.now)).now).blocks in
    let fewer = length-filter-le (λ (b : BlockRow). nat_lt 0 b.ord) blocks in
    let all = countable.0 in
    let few : length (filter (λ (b : BlockRow). nat_lt 0 b.ord) blocks) < 2 ^ 63 = omega (arith, fewer, all) in
    ap is_trouble is ∙ c.in_err-clashes.ensures.trouble intact (ap (λ (x : Standing). x.limit) same ∙ unlimited)
    (subst (λ (x : Standing). length (filter (λ (b : BlockRow). nat_lt 0 b.ord) (tables_in x.now).blocks) < 2 ^ 63) (sym same) few))

pub returns-clause-counts : goal.returns-clause-counts
returns-clause-counts g c clean =
    let three = c.clash_count.ensures.within.follows.clean clean in
    let two = c.used_total.ensures.within.follows.clean three in
    let one = c.stored_total.ensures.within.follows.clean two in
    let first = c.in_ok-blocks.ensures.same one.intact in
    let second = c.in_ok-stored.ensures.same two.intact ∙ first in
    let third = c.in_ok-referred.ensures.same three.intact ∙ second in
    let blocks = c.in_ok-blocks.ensures.count one in
    let stored = c.in_ok-stored.ensures.total two ∙ ap (λ (x : Standing). sum_by (λ (b : BlockRow). length b.bytes) (tables_in x.now).blocks) first in
    let referred = c.in_ok-referred.ensures.total three ∙ ap (λ (x : Standing). sum_by (used_by (tables_in x.now)) (tables_in x.now).tenants) second in
    let clashes = c.in_ok-clashes.ensures.count clean ∙ ap (λ (x : Standing). length (filter (λ (b : BlockRow). nat_lt 0 b.ord) (tables_in x.now).blocks)) third in
    λ i. record { blocks = blocks i; stored = stored i; referred = referred i; clashes = clashes i }
