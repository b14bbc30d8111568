use Rattle.std.proofs.Common.{rules, Option, refl, ap, sym, ◌∙◌, subst}
use Rattle.bh_base.specs.Connections.{state}
use Rattle.bh_tables.specs.Typed.{Tables}
use Rattle.bh_schema.specs.Working.{tables_at}
use Rattle.bh_objects.specs.Found.{IsHeld, replaced_in}
use Rattle.bh_objects.specs.Writes.{without_replaced}
use Rattle.bh_objects.specs.declared.quotas.Replaced.{Replaced}
use Rattle.bh_objects.proofs.Dropping.{room_found}
use Rattle.bh_objects.proofs.Sizes.{replaced_held}
use Rattle.bh_objects.proofs.Working.{same_tables, asked_inside, on_ok_then}
use Rattle.bh_objects.proofs.writes.make_room.Goals as goal

pub drop_replaced-requires-clause-inside : goal.drop_replaced-requires-clause-inside
drop_replaced-requires-clause-inside g c =
    asked_inside (state g.S.Store g.P.Shelf c.args.connection.now) (state g.S.Store g.P.Shelf c.find_replaced.new.connection) c.requires c.in_ok-replaced.ensures.reads.within c.in_ok-replaced.ensures.reads.same

pub drop_replaced-requires-clause-held : goal.drop_replaced-requires-clause-held
drop_replaced-requires-clause-held g c clean =
    let t = c.args.tenant.now in
    let b = c.args.bucket.now in
    let k = c.args.key.now in
    let old = state g.S.Store g.P.Shelf c.args.connection.now in
    let middle = state g.S.Store g.P.Shelf c.find_replaced.new.connection in
    subst (λ (x : Tables). IsHeld t b k c.in_ok-replaced.replaced x) (sym (same_tables old middle (c.in_ok-replaced.ensures.reads.same clean.intact)))
    (subst (λ (r : Option Replaced). IsHeld t b k r (tables_at old)) (sym (c.in_ok-replaced.ensures.found clean)) (replaced_held t b k (tables_at old) c.args.mode))

pub returns : goal.returns
returns g c = record {
  changes = record {
    within = search rules;
    opens = search rules;
    holds = on_ok_then c.drop_replaced.result _ _ (λ holds clean.
        let t = c.args.tenant.now in
        let b = c.args.bucket.now in
        let k = c.args.key.now in
        let old = state g.S.Store g.P.Shelf c.args.connection.now in
        let middle = state g.S.Store g.P.Shelf c.find_replaced.new.connection in
        let between = c.drop_replaced.ensures.changes.within.follows.clean clean in
        let same = same_tables old middle (c.in_ok-replaced.ensures.reads.same between.intact) in
        let it = holds clean in
        record {
          within = it.within;
          is = it.is ∙ ap (λ (r : Option Replaced). without_replaced t b k r (tables_at middle)) (c.in_ok-replaced.ensures.found between)
              ∙ ap (λ (x : Tables). without_replaced t b k (replaced_in c.args.mode t b k (tables_at old)) x) same ∙ room_found c.args.mode t b k (tables_at old) (tables_at old) refl;
        }) c.drop_replaced.ensures.changes.holds;
  };
}
