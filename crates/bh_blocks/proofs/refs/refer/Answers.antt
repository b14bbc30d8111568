use Rattle.std.proofs.Common.{◌++◌, ◌∷◌, [], sym, subst}
use Rattle.std.proofs.lemmas.Result.{on_ok_weaker}
use Rattle.bh_base.specs.Connections.{state}
use Rattle.bh_tables.specs.Garbage.{HasUses}
use Rattle.bh_tables.specs.Typed.{totals_of, tables_in, rebodied}
use Rattle.bh_base.specs.Layer.{Standing, standing, Holds}
use Rattle.bh_base.proofs.Calls.{in_midst}
use Rattle.bh_blocks.specs.Named.{placed_at}
use Rattle.bh_blocks.specs.Uses.{IsSize, IsInUse}
use Rattle.bh_blocks.proofs.Garbage.{some_of}
use Rattle.bh_blocks.proofs.Keeping.{still_inside}
use Rattle.bh_blocks.proofs.refs.refer.Goals as goal

pub uses_of-requires-clause-midst : goal.uses_of-requires-clause-midst
uses_of-requires-clause-midst g c clean = in_midst (standing (state g.S.Store g.P.Shelf c.args.connection.now)) (c.requires.inside clean)

pub refer_first-requires-clause-inside : goal.refer_first-requires-clause-inside
refer_first-requires-clause-inside g c = still_inside _ _ c.in_ok-uses.ensures.reads.within c.in_ok-uses.ensures.reads.same c.requires.inside

pub refer_too-requires-clause-inside : goal.refer_too-requires-clause-inside
refer_too-requires-clause-inside g c = still_inside _ _ c.in_ok-uses.ensures.reads.within c.in_ok-uses.ensures.reads.same c.requires.inside

pub refer_first-requires-clause-size : goal.refer_first-requires-clause-size
refer_first-requires-clause-size g c clean =
    subst (λ (x : Standing). IsSize (c.args.digest.now, c.args.ord) c.args.size (tables_in x.now).blocks) (sym (c.in_ok-uses.ensures.reads.same clean.intact)) (c.requires.size (c.in_ok-uses.ensures.reads.within.follows.clean clean))

pub refer_too-requires-clause-size : goal.refer_too-requires-clause-size
refer_too-requires-clause-size g c clean =
    subst (λ (x : Standing). IsSize (c.args.digest.now, c.args.ord) c.args.size (tables_in x.now).blocks) (sym (c.in_ok-uses.ensures.reads.same clean.intact)) (c.requires.size (c.in_ok-uses.ensures.reads.within.follows.clean clean))

pub refer_first-requires-clause-unused : goal.refer_first-requires-clause-unused
refer_first-requires-clause-unused g c clean =
    let was = c.in_ok-uses.ensures.reads.within.follows.clean clean in
    let t = tables_in (standing (state g.S.Store g.P.Shelf c.args.connection.now)).now in
    subst (λ (x : Standing). HasUses (c.args.digest.now, c.args.ord) 0 (totals_of (tables_in x.now)).uses) (sym (c.in_ok-uses.ensures.reads.same clean.intact))
    (subst (λ n. HasUses (c.args.digest.now, c.args.ord) n (totals_of t).uses) c.if-uses-eq0.true (c.in_ok-uses.ensures.counted clean (totals_of t) (c.requires.inside was)))

pub refer_too-requires-clause-used : goal.refer_too-requires-clause-used
refer_too-requires-clause-used g c clean =
    let was = c.in_ok-uses.ensures.reads.within.follows.clean clean in
    let t = tables_in (standing (state g.S.Store g.P.Shelf c.args.connection.now)).now in
    subst (λ (x : Standing). IsInUse (c.args.digest.now, c.args.ord) (tables_in x.now)) (sym (c.in_ok-uses.ensures.reads.same clean.intact))
    (record { uses = c.in_ok-uses.uses; some = some_of c.in_ok-uses.uses c.if-uses-eq0.false; counted = c.in_ok-uses.ensures.counted clean (totals_of t) (c.requires.inside was) })

pub returns-then-uses-eq0-clause-holds : goal.returns-then-uses-eq0-clause-holds
returns-then-uses-eq0-clause-holds g c = on_ok_weaker c.refer_first.result (λ holds clean.
    let r = placed_at c.args.at.now c.args.digest.now c.args.ord c.args.size in
    let was = c.refer_first.ensures.within.follows.clean clean in
    subst (λ (x : Standing). Holds (rebodied (tables_in x.now) ((tables_in x.now).refs ++ r ∷ []) (tables_in x.now).blocks) (standing (state g.S.Store g.P.Shelf c.refer_first.new.connection))) (c.in_ok-uses.ensures.reads.same was.intact) (holds clean)) c.refer_first.ensures.holds

pub returns-else-uses-eq0-clause-holds : goal.returns-else-uses-eq0-clause-holds
returns-else-uses-eq0-clause-holds g c = on_ok_weaker c.refer_too.result (λ holds clean.
    let r = placed_at c.args.at.now c.args.digest.now c.args.ord c.args.size in
    let was = c.refer_too.ensures.within.follows.clean clean in
    subst (λ (x : Standing). Holds (rebodied (tables_in x.now) ((tables_in x.now).refs ++ r ∷ []) (tables_in x.now).blocks) (standing (state g.S.Store g.P.Shelf c.refer_too.new.connection))) (c.in_ok-uses.ensures.reads.same was.intact) (holds clean)) c.refer_too.ensures.holds
