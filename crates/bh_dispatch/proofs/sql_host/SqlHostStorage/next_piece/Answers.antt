use Rattle.std.proofs.Common.{◌≡◌, ◌++◌, [], sym, ap, subst}
use Rattle.std.specs.Prelude.{IfSome, IfNone}
use Rattle.std.proofs.lemmas.Result.{on_ok_weaker, IfOk-weaker}
use Rattle.bh_storage.specs.Calls.{Seen}
use Rattle.bh_storage.specs.Plans.{to_come}
use Rattle.bh_memo.specs.Recalled.{recalled}
use Rattle.bh_memo.proofs.Recalling.{reads_alone, reads_under}
use Rattle.bh_schema.specs.Storage as storage
use Rattle.bh_dispatch.proofs.Remembering.{within}
use Rattle.bh_dispatch.proofs.sql_host.SqlHostStorage.next_piece.Goals as goal

pub next_piece-requires : goal.next_piece-requires
next_piece-requires g c clean = reads_under c.args.self.now.memo (storage.seen g.S.Store g.P.Shelf c.args.self.now.host) (c.requires clean)

pub returns-clause-within : goal.returns-clause-within
returns-clause-within g c = within g.S.Store g.P.Shelf c.args.self.now (record c.args.self.now { host = c.next_piece.new.host }) c.next_piece.ensures.within

pub returns-clause-opens : goal.returns-clause-opens
returns-clause-opens g c = c.next_piece.ensures.opens

pub returns-clause-same : goal.returns-clause-same
returns-clause-same g c = on_ok_weaker c.next_piece.result (λ same clean. ap (recalled c.args.self.now.memo) (same clean)) c.next_piece.ensures.same

pub returns-clause-gives : goal.returns-clause-gives
returns-clause-gives g c =
    let old = c.args.self.now in
    let w = c.next_piece.ensures.within in
    let Clean = storage.IsClean g.S.Store g.P.Shelf c.next_piece.new.host in
    IfOk-weaker c.next_piece.result _ _
    (λ piece gives (clean : Clean). subst (λ (x : Seen). IfSome piece (λ bytes. to_come c.args.plan.now x.now ≡ bytes.items ++ to_come c.next_piece.new.plan x.now))
    (sym (reads_alone old.memo (storage.seen g.S.Store g.P.Shelf old.host) (c.requires (w.intact clean.0, w.opened clean.0 clean.1)))) (gives clean))
    c.next_piece.ensures.gives

pub returns-clause-ends : goal.returns-clause-ends
returns-clause-ends g c =
    let old = c.args.self.now in
    let w = c.next_piece.ensures.within in
    let Clean = storage.IsClean g.S.Store g.P.Shelf c.next_piece.new.host in
    IfOk-weaker c.next_piece.result _ _
    (λ piece ends (clean : Clean). subst (λ (x : Seen). IfNone piece (to_come c.args.plan.now x.now ≡ []))
    (sym (reads_alone old.memo (storage.seen g.S.Store g.P.Shelf old.host) (c.requires (w.intact clean.0, w.opened clean.0 clean.1)))) (ends clean))
    c.next_piece.ensures.ends

pub returns-clause-some : goal.returns-clause-some
returns-clause-some g c = c.next_piece.ensures.some

pub returns-clause-falls : goal.returns-clause-falls
returns-clause-falls g c = c.next_piece.ensures.falls

pub returns-clause-kept : goal.returns-clause-kept
returns-clause-kept g c = c.next_piece.ensures.kept
