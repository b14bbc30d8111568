use Rattle.std.proofs.Common.{rules, ap, ◌∙◌}
use Rattle.bh_base.specs.Connections.{state}
use Rattle.bh_schema.specs.Working.{tables_at}
use Rattle.bh_objects.proofs.Working.{host_at, same_tables, asked_working}
use Rattle.bh_removal.specs.Removal.{taken_away}
use Rattle.bh_removal.proofs.Taking.{taken_is, still_without}
use Rattle.bh_removal.proofs.removal.take_away.Goals as goal

pub returns-clause-gone : goal.returns-clause-gone
returns-clause-gone g c clean =
    let old = state g.S.Store g.P.Shelf c.args.connection.now in
    let t = c.args.tenant.now in
    let clean_list = c.in_ok-delete_all.ensures.changes.within.follows.clean clean in
    let clean_old = c.in_ok-bodies.ensures.reads.within.follows.clean clean_list in
    let same = same_tables old (state g.S.Store g.P.Shelf c.body_list.new.connection) (c.in_ok-bodies.ensures.reads.same clean_list.intact) in
    (rw c.deref.ensures.value at (c.in_ok-delete_all.ensures.changes.holds clean).is)
    ∙ ap (taken_away t c.in_ok-bodies.bodies.items) same
    ∙ ap (λ l. taken_away t l (tables_at old)) (c.in_ok-bodies.ensures.numbers clean_list)
    ∙ taken_is t (tables_at old) (host_at old (c.requires clean_old))

pub returns-clause-works : goal.returns-clause-works
returns-clause-works g c = record {
  within = search rules;
  opens = search rules;
  working = λ clean.
      let old = state g.S.Store g.P.Shelf c.args.connection.now in
      let clean_list = c.in_ok-delete_all.ensures.changes.within.follows.clean clean in
      let works = c.requires (c.in_ok-bodies.ensures.reads.within.follows.clean clean_list) in
      still_without c.args.tenant.now old (state g.S.Store g.P.Shelf c.delete_all.new.connection) works (c.in_ok-delete_all.ensures.changes.holds clean).within (returns-clause-gone g c clean);
}

pub body_list-requires : goal.body_list-requires
body_list-requires g c = record { inside = λ clean. (c.requires clean).inside }

pub delete_all-requires : goal.delete_all-requires
delete_all-requires g c clean =
    (asked_working (state g.S.Store g.P.Shelf c.args.connection.now) (state g.S.Store g.P.Shelf c.body_list.new.connection) c.requires c.in_ok-bodies.ensures.reads.within c.in_ok-bodies.ensures.reads.same clean (λ bytes. bytes)).is.inside
