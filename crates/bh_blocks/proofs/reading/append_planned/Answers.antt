use Rattle.std.proofs.Common.{ap, sym, subst, ◌∙◌, ◌≡◌, ◌++◌, ◌<◌, ◌^◌, append_assoc}
use Rattle.bh_base.specs.Connections.{state}
use Rattle.bh_tables.specs.Typed.{Tables, tables_in}
use Rattle.bh_view.specs.Bodies.{HasBodies}
use Rattle.bh_base.specs.Layer.{Standing}
use Rattle.bh_schema.specs.Working.{tables_at}
use Rattle.bh_schema.proofs.Storing.{within_then}
use Rattle.bh_blocks.specs.Plans.{coming}
use Rattle.bh_blocks.proofs.Keeping.{still_readable}
use Rattle.bh_blocks.proofs.reading.append_planned.Goals as goal

pub next_piece-requires-clause-reads : goal.next_piece-requires-clause-reads
next_piece-requires-clause-reads g c = still_readable _ _ c.pieces.invariant.within c.pieces.invariant.same c.requires.reads

pub pieces-preserved : goal.pieces-preserved
pieces-preserved g c =
    let inv = c.pieces.invariant in
    let step = c.in_ok-piece.ensures in
    let old = tables_at (state g.S.Store g.P.Shelf c.args.connection.now) in
    record {
      within = within_then _ _ _ inv.opens inv.within step.within;
      opens = λ intact up. step.opens intact (inv.opens (step.within.follows.intact intact) up);
      same = λ intact. step.same intact ∙ inv.same (step.within.follows.intact intact);
      agrees = step.agrees;
      body = subst (λ n. n < 2 ^ 63) (sym step.body) inv.body;
      place = step.place;
      bytes = λ clean bodies.
          let was = step.within.follows.clean clean in
          let same : tables_at (state g.S.Store g.P.Shelf c.pieces.connection) ≡ old = ap (λ (x : Standing). tables_in x.now) (inv.same was.intact) in
          let given = rw c.in-Some.is at step.gives clean (subst HasBodies (sym same) bodies) in
          ap (λ l. l ++ coming c.next_piece.new.plan old) (c.in_ok-append-in-Some.ensures ∙ ap (λ l. c.pieces.bytes.items ++ l) c.deref.ensures.value)
          ∙ append_assoc c.pieces.bytes.items c.in-Some.piece.items (coming c.next_piece.new.plan old)
          ∙ ap (λ l. c.pieces.bytes.items ++ l) (sym (subst (λ (t : Tables). coming c.pieces.left t ≡ c.in-Some.piece.items ++ coming c.next_piece.new.plan t) same given))
          ∙ inv.bytes was bodies;
    }
