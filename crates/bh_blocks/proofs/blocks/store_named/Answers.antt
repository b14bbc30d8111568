use Rattle.std.proofs.Common.{◌≡◌, [], ◌∷◌, ◌++◌, length, ap, sym, subst, ◌∙◌}
use Rattle.std.proofs.lemmas.Result.{on_ok_weaker}
use Rattle.bh_base.specs.Connections.{state}
use Rattle.bh_tables.specs.Typed.{tables_in, rebodied}
use Rattle.bh_base.specs.Layer.{Standing}
use Rattle.bh_schema.specs.Working.{tables_at}
use Rattle.bh_view.specs.Blocks.{free_ord}
use Rattle.bh_blocks.specs.Lookups.{Tells}
use Rattle.bh_blocks.specs.Named.{placed_at}
use Rattle.bh_blocks.specs.Uses.{IsSize}
use Rattle.bh_blocks.proofs.Candidates.{none_copied, first_free, copy_sized}
use Rattle.bh_blocks.proofs.Storing.{known_stored, missing_stored}
use Rattle.bh_blocks.proofs.Keeping.{own_at, still_inside}
use Rattle.bh_blocks.proofs.blocks.store_named.Goals as goal

pub refer-requires-clause-inside : goal.refer-requires-clause-inside
refer-requires-clause-inside g c = still_inside _ _ c.in_ok-ord.ensures.reads.within c.in_ok-ord.ensures.reads.same c.requires.inside

pub refer-requires-clause-size : goal.refer-requires-clause-size
refer-requires-clause-size g c clean =
    let same = c.in_ok-ord.ensures.reads.same clean.intact in
    subst (λ (x : Standing). IsSize (c.args.digest.now, c.in-Held.ord) (length c.args.bytes.now) (tables_in x.now).blocks) (sym same)
    (copy_sized c.args.digest.now c.args.bytes.now c.in-Held.ord (tables_at (state g.S.Store g.P.Shelf c.args.connection.now)).blocks
    (subst (Tells c.args.digest.now c.args.bytes.now (tables_at (state g.S.Store g.P.Shelf c.args.connection.now)).blocks) c.in-Held.is (c.in_ok-ord.ensures.found clean)))

pub store_clashing-requires-clause-inside : goal.store_clashing-requires-clause-inside
store_clashing-requires-clause-inside g c = still_inside _ _ c.in_ok-ord.ensures.reads.within c.in_ok-ord.ensures.reads.same c.requires.inside

pub add_block-requires-clause-inside : goal.add_block-requires-clause-inside
add_block-requires-clause-inside g c = still_inside _ _ c.in_ok-ord.ensures.reads.within c.in_ok-ord.ensures.reads.same c.requires.inside

pub returns-in-Held-clause-stored : goal.returns-in-Held-clause-stored
returns-in-Held-clause-stored g c digest named = on_ok_weaker c.refer.result (λ holds clean.
    let old = state g.S.Store g.P.Shelf c.args.connection.now in
    let mid = tables_at (state g.S.Store g.P.Shelf c.find_kept.new.connection) in
    let was = c.refer.ensures.within.follows.clean clean in
    let same : mid ≡ tables_at old = ap (λ (x : Standing). tables_in x.now) (c.in_ok-ord.ensures.reads.same was.intact) in
    let held = subst (Tells c.args.digest.now c.args.bytes.now (tables_at old).blocks) c.in-Held.is (c.in_ok-ord.ensures.found was) in
    record {
      within = (holds clean).within;
      is = known_stored digest c.args.bytes.now c.args.at.now (tables_at old) mid (tables_at (state g.S.Store g.P.Shelf c.refer.new.connection)) (own_at old) same c.args.digest.now named c.in-Held.ord held (holds clean).is;
    }) c.refer.ensures.holds

pub returns-in-Clashing-clause-stored : goal.returns-in-Clashing-clause-stored
returns-in-Clashing-clause-stored g c digest named = on_ok_weaker c.store_clashing.result (λ added clean.
    let old = state g.S.Store g.P.Shelf c.args.connection.now in
    let mid = tables_at (state g.S.Store g.P.Shelf c.find_kept.new.connection) in
    let was = c.store_clashing.ensures.within.follows.clean clean in
    let same : mid ≡ tables_at old = ap (λ (x : Standing). tables_in x.now) (c.in_ok-ord.ensures.reads.same was.intact) in
    let none = subst (Tells c.args.digest.now c.args.bytes.now (tables_at old).blocks) c.in-Clashing.is (c.in_ok-ord.ensures.found was) in
    record {
      within = (added clean).within;
      is = missing_stored digest c.args.bytes.now c.args.at.now (tables_at old) mid (tables_at (state g.S.Store g.P.Shelf c.store_clashing.new.connection)) same c.args.digest.now named none (added clean).is;
    }) c.store_clashing.ensures.added

pub returns-in-Absent-clause-stored : goal.returns-in-Absent-clause-stored
returns-in-Absent-clause-stored g c digest named = on_ok_weaker c.add_block.result (λ added clean.
    let d = c.args.digest.now in
    let b = c.args.bytes.now in
    let old = state g.S.Store g.P.Shelf c.args.connection.now in
    let mid = tables_at (state g.S.Store g.P.Shelf c.find_kept.new.connection) in
    let was = c.add_block.ensures.within.follows.clean clean in
    let same : mid ≡ tables_at old = ap (λ (x : Standing). tables_in x.now) (c.in_ok-ord.ensures.reads.same was.intact) in
    let absent = subst (Tells d b (tables_at old).blocks) c.in-Absent.is (c.in_ok-ord.ensures.found was) in
    let free : 0 ≡ free_ord d mid.blocks = first_free d (tables_at old).blocks absent ∙ ap (λ t. free_ord d t.blocks) (sym same) in
    let is = (added clean).is ∙ (λ i. rebodied mid (mid.refs ++ placed_at c.args.at.now d (free i) (length b) ∷ []) (mid.blocks ++ record { digest = d; ord = free i; bytes = b } ∷ [])) in
    record {
      within = (added clean).within;
      is = missing_stored digest b c.args.at.now (tables_at old) mid (tables_at (state g.S.Store g.P.Shelf c.add_block.new.connection)) same d named (none_copied d b (tables_at old).blocks absent) is;
    }) c.add_block.ensures.added
