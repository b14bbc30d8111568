use Rattle.std.proofs.Common.{sym, ◌∙◌}
use Rattle.bh_base.specs.Connections.{state}
use Rattle.bh_schema.specs.Working.{tables_at}
use Rattle.bh_blocks.specs.Drafts.{drafted}
use Rattle.bh_blocks.proofs.Drafting.{ended, not_nil, ends_empty, ends_last, whole_adds}
use Rattle.bh_blocks.proofs.Keeping.{own_at}
use Rattle.bh_blocks.proofs.drafts.end_body.Goals as goal

pub returns-then-held-eq0-clause-stored : goal.returns-then-held-eq0-clause-stored
returns-then-held-eq0-clause-stored g c = λ clean given start goes.
    let s = state g.S.Store g.P.Shelf c.args.connection.now in
    record {
      within = c.requires.inside clean;
      is = ends_empty g.D.Digester.digest_of c.args.draft given (tables_at s) start (own_at s) (ended c.args.draft.waiting.items (sym c.held.ensures ∙ c.if-held-eq0.true)) goes;
    }

pub returns-then-held-eq0-clause-adds : goal.returns-then-held-eq0-clause-adds
returns-then-held-eq0-clause-adds g c = λ clean given start goes.
    let s = state g.S.Store g.P.Shelf c.args.connection.now in
    whole_adds g.D.Digester.digest_of (drafted c.args.draft) c.args.draft.size given start (tables_at s) c.requires.size
    (ends_empty g.D.Digester.digest_of c.args.draft given (tables_at s) start (own_at s) (ended c.args.draft.waiting.items (sym c.held.ensures ∙ c.if-held-eq0.true)) goes)

pub returns-clause-stored : goal.returns-clause-stored
returns-clause-stored g c = λ clean given start goes.
    let step = c.in_ok-store_waiting.ensures.stored clean in
    record {
      within = step.within;
      is = ends_last g.D.Digester.digest_of c.args.draft given (tables_at (state g.S.Store g.P.Shelf c.args.connection.now)) (tables_at (state g.S.Store g.P.Shelf c.store_waiting.new.connection)) start
          c.requires.size (not_nil c.args.draft.waiting.items (λ e. c.if-held-eq0.false (c.held.ensures ∙ e))) c.requires.fewer step.is goes;
    }

pub returns-clause-adds : goal.returns-clause-adds
returns-clause-adds g c = λ clean given start goes.
    let step = c.in_ok-store_waiting.ensures.stored clean in
    whole_adds g.D.Digester.digest_of (drafted c.args.draft) c.args.draft.size given start (tables_at (state g.S.Store g.P.Shelf c.store_waiting.new.connection)) c.requires.size
    (ends_last g.D.Digester.digest_of c.args.draft given (tables_at (state g.S.Store g.P.Shelf c.args.connection.now)) (tables_at (state g.S.Store g.P.Shelf c.store_waiting.new.connection)) start
    c.requires.size (not_nil c.args.draft.waiting.items (λ e. c.if-held-eq0.false (c.held.ensures ∙ e))) c.requires.fewer step.is goes)
