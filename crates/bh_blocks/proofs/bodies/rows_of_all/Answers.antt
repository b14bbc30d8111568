use Rattle.std.proofs.Common.{arith, ◌≡◌, ◌++◌, ◌+◌, ℕ, List, drop, map, flat_map, sym, ap, ◌∙◌, subst}
use Rattle.bh_base.specs.Connections.{state}
use Rattle.bh_tables.specs.Typed.{RefRow, tables_in}
use Rattle.bh_tables.specs.Bodies.{placed}
use Rattle.bh_tables.specs.Shown.{shown_ref}
use Rattle.bh_base.specs.Layer.{Standing, IsInside}
use Rattle.bh_schema.specs.Working.{tables_at}
use Rattle.bh_schema.proofs.Storing.{within_then}
use Rattle.bh_blocks.proofs.BodySteps.{named_next, named_all}
use Rattle.bh_blocks.proofs.bodies.rows_of_all.Goals as goal

pub ref_rows-requires-clause-inside : goal.ref_rows-requires-clause-inside
ref_rows-requires-clause-inside g c clean = subst IsInside (sym (c.loop-body.invariant.same clean.intact)) (c.requires.inside (c.loop-body.invariant.within.follows.clean clean))

pub returns-in_err-found-clause-within : goal.returns-in_err-found-clause-within
returns-in_err-found-clause-within g c = within_then _ _ _ c.loop-body.invariant.opens c.loop-body.invariant.within c.in_err-found.ensures.reads.within

pub returns-in_err-append_rows-clause-within : goal.returns-in_err-append_rows-clause-within
returns-in_err-append_rows-clause-within g c = within_then _ _ _ c.loop-body.invariant.opens c.loop-body.invariant.within c.in_ok-found.ensures.reads.within

pub loop-body-preserved : goal.loop-body-preserved
loop-body-preserved g c =
    let inv = c.loop-body.invariant in
    let step = c.in_ok-found.ensures in
    let old = tables_at (state g.S.Store g.P.Shelf c.args.connection.now) in
    let f : ℕ → List RefRow = λ body. placed old.refs (c.args.tenant.now, body) in
    let i = c.loop-body.body-index in
    record {
      within = within_then _ _ _ inv.opens inv.within step.reads.within;
      opens = λ intact up. (step.reads.opens intact).1;
      same = λ intact. step.reads.same intact ∙ inv.same (step.reads.within.follows.intact intact);
      rows = λ clean.
          let was = step.reads.within.follows.clean clean in
          let same : tables_at (state g.S.Store g.P.Shelf c.loop-body.connection) ≡ old = ap (λ (x : Standing). tables_in x.now) (inv.same was.intact) in
          let body = c.in_ok-in_range.field-0 in
          ap (λ l. l ++ map shown_ref (flat_map f (drop (i + 1) c.args.bodies.now))) c.in_ok-append_rows.ensures
          ∙ named_next f c.args.bodies.now i body _ c.loop-body.rows.items c.in_ok-found.found.items _ c.loop-body-test.true c.in_ok-in_range.ensures.same
          (step.rows clean ∙ (λ j. map shown_ref (placed (same j).refs (c.args.tenant.now, body)))) (inv.rows was);
    }

pub returns-clause-rows : goal.returns-clause-rows
returns-clause-rows g c clean =
    let old = tables_at (state g.S.Store g.P.Shelf c.args.connection.now) in
    let f : ℕ → List RefRow = λ body. placed old.refs (c.args.tenant.now, body) in
    named_all f c.args.bodies.now c.loop-body.body-index c.loop-body.rows.items _ (λ low. let end = c.loop-body-test.false in omega (arith, low, end)) (c.loop-body.invariant.rows clean)
