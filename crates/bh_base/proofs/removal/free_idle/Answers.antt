use Rattle.std.proofs.Common.{subst, ◌∙◌}
use Rattle.bh_base.specs.Connections.{state}
use Rattle.bh_base.specs.Layer.{standing}
use Rattle.bh_base.specs.Removal.{AreUnnamed}
use Rattle.bh_base.proofs.Calls.{midst_by}
use Rattle.bh_base.proofs.Freeing.{within_next}
use Rattle.bh_base.proofs.PlaceCalls.{asked_first, still_midst}
use Rattle.bh_base.proofs.removal.free_idle.Goals as goal

pub idle_packs-requires : goal.idle_packs-requires
idle_packs-requires g c = record { reads = λ clean. midst_by (standing (state g.S.Store g.P.Shelf c.args.connection.now)) (c.requires.midst clean) }

pub free_packs-requires : goal.free_packs-requires
free_packs-requires g c = record { midst = still_midst _ _ c.in_ok-rows.ensures.reads.within c.in_ok-rows.ensures.reads.same c.requires.midst }

pub returns-clause-writes : goal.returns-clause-writes
returns-clause-writes g c =
    let read = c.in_ok-rows.ensures.reads in
    let step = c.in_ok-free_packs.ensures.frees in
    record {
      within = within_next (state g.S.Store g.P.Shelf c.args.connection.now) (state g.S.Store g.P.Shelf c.idle_packs.new.connection) (state g.S.Store g.P.Shelf c.free_packs.new.connection) (λ intact up. (read.opens intact).1) read.within step.writes.within;
      opens = λ intact up. step.writes.opens intact (read.opens (step.writes.within.follows.intact intact)).1;
      midst = step.writes.midst;
    }

pub returns-clause-rewrites : goal.returns-clause-rewrites
returns-clause-rewrites g c =
    let read = c.in_ok-rows.ensures.reads in
    let step = c.in_ok-free_packs.ensures.frees in
    asked_first (λ s. s) (λ t. t) (state g.S.Store g.P.Shelf c.args.connection.now) (state g.S.Store g.P.Shelf c.idle_packs.new.connection) (state g.S.Store g.P.Shelf c.free_packs.new.connection)
    (λ clean. read.same (step.writes.within.follows.clean clean).intact) step.rewrites

pub returns-clause-places : goal.returns-clause-places
returns-clause-places g c clean =
    let step = c.in_ok-free_packs.ensures.frees in
    step.places clean ∙ (c.in_ok-rows.ensures.still (step.writes.within.follows.clean clean)).places

pub returns-clause-unnamed : goal.returns-clause-unnamed
returns-clause-unnamed g c clean = subst (AreUnnamed g.S.Store g.P.Shelf c.free_packs.new.connection) c.deref.ensures.value (c.in_ok-free_packs.ensures.frees.unnamed clean)

pub returns-clause-rows : goal.returns-clause-rows
returns-clause-rows g c clean = c.in_ok-rows.ensures.rows (c.in_ok-free_packs.ensures.frees.writes.within.follows.clean clean)
