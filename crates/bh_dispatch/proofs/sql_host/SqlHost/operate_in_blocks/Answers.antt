use Rattle.std.proofs.Common.{◌≤◌, Option, sym, ◌∙◌, subst}
use Rattle.bh_machine.specs.Machine.{operated}
use Rattle.bh_model.specs.State.{Octets, State}
use Rattle.bh_host.specs.Offers.{offer_view, responded}
use Rattle.bh_storage.specs.Calls.{Seen}
use Rattle.bh_view.specs.View.{latest_of}
use Rattle.bh_memo.proofs.Calls.{operates_shown, forgotten}
use Rattle.bh_memo.proofs.Recalling.{same_limits}
use Rattle.bh_schema.specs.Storage as storage
use Rattle.bh_dispatch.specs.Seeing.{seen}
use Rattle.bh_dispatch.proofs.Cutting.{cuts_no_object}
use Rattle.bh_dispatch.proofs.Remembering.{unless_spoilt, finds, leaves_so, so, alone_is, host_works, measured_offered}
use Rattle.bh_dispatch.proofs.sql_host.SqlHost.operate_in_blocks.Goals as goal

pub get_object-requires-clause-going : goal.get_object-requires-clause-going
get_object-requires-clause-going g c = c.requires.going

pub get_object-requires-clause-working : goal.get_object-requires-clause-working
get_object-requires-clause-working g c = c.requires.working

pub operate_in_blocks-requires : goal.operate_in_blocks-requires
operate_in_blocks-requires g c = record {
  positive = c.requires.positive;
  going = c.requires.going;
  working = host_works g.S.Store g.P.Shelf g.D.Digester.digest_of c.args.self.now c.requires.working;
  early = λ clean. subst (λ (x : Seen). c.args.at ≤ latest_of x.now) (alone_is g.S.Store g.P.Shelf g.D.Digester.digest_of c.args.self.now c.requires.working clean) (c.requires.early clean);
}

pub operate_in_blocks-requires-in_default-2 : goal.operate_in_blocks-requires-in_default-2
operate_in_blocks-requires-in_default-2 g c = record {
  positive = c.requires.positive;
  going = c.requires.going;
  working = host_works g.S.Store g.P.Shelf g.D.Digester.digest_of c.args.self.now c.requires.working;
  early = λ clean. subst (λ (x : Seen). c.args.at ≤ latest_of x.now) (alone_is g.S.Store g.P.Shelf g.D.Digester.digest_of c.args.self.now c.requires.working clean) (c.requires.early clean);
}

pub returns-in-GetObject-clause-goes_on : goal.returns-in-GetObject-clause-goes_on
returns-in-GetObject-clause-goes_on g c = c.get_object.ensures.goes_on

pub returns-in-GetObject-clause-operates : goal.returns-in-GetObject-clause-operates
returns-in-GetObject-clause-operates g c =
    finds (seen g.S.Store g.P.Shelf c.args.self.now).limits c.args.at c.args.tenant.now c.in-GetObject.object c.in-GetObject.version c.in-GetObject.range _ _ _ (seen g.S.Store g.P.Shelf c.get_object.new.self).now (seen g.S.Store g.P.Shelf c.args.self.now).now (seen g.S.Store g.P.Shelf c.get_object.new.self).now c.get_object.result c.args.operation.now c.in-GetObject.is
    (rw c.bytes_of.ensures at c.get_object.ensures.operates)

pub returns-in-GetObject-clause-cuts : goal.returns-in-GetObject-clause-cuts
returns-in-GetObject-clause-cuts g c =
    let h = c.get_object.ensures.operates in
    cuts_no_object g.S.Store g.P.Shelf g.D.Digester.digest_of c.args.size c.args.operation.now c.in-GetObject.object c.in-GetObject.version c.in-GetObject.range c.in-GetObject.is _ _ _ _ c.get_object.result h.given h.gives

pub returns-in-GetObject-clause-measured : goal.returns-in-GetObject-clause-measured
returns-in-GetObject-clause-measured g c = c.get_object.ensures.measured

pub returns-in_default : goal.returns-in_default
returns-in_default g c =
    let digest = g.D.Digester.digest_of in
    let old = c.args.self.now in
    let new = record old { host = c.operate_in_blocks.new.host; memo = c.forget.new.self } in
    let h = c.operate_in_blocks.ensures in
    let w = h.goes_on.within in
    let a = storage.seen g.S.Store g.P.Shelf old.host in
    let b = storage.seen g.S.Store g.P.Shelf c.operate_in_blocks.new.host in
    let Clean = storage.IsClean g.S.Store g.P.Shelf c.operate_in_blocks.new.host in
    let first : Clean → storage.IsClean g.S.Store g.P.Shelf old.host = λ clean. (w.intact clean.0, w.opened clean.0 clean.1) in
    let t = c.args.tenant.now in
    let step = λ (given : Octets) (s : Option State). responded (operated a.limits c.args.at given c.args.operation.now s) in
    let start = g.B.Body.coming c.args.body.now in
    let end = g.B.Body.coming c.operate_in_blocks.new.body in
    let was = λ (clean : Clean). alone_is g.S.Store g.P.Shelf digest old c.requires.working (first clean) in
    let it = forgotten old.memo c.forget.new.self a b Clean was offer_view t step start end (record { latest = c.forget.ensures.latest; quiet = c.forget.ensures.quiet; buckets = c.forget.ensures.buckets; secrets = c.forget.ensures.secrets })
    (λ clean. so g.S.Store g.P.Shelf digest old c.requires.working (first clean)) c.operate_in_blocks.result h.operates in
    record {
      goes_on = unless_spoilt g.S.Store g.P.Shelf digest old new c.operate_in_blocks.result h.goes_on it;
      cuts = h.cuts;
      operates = rw (same_limits old.memo a) (operates_shown old.memo c.forget.new.self a b Clean was offer_view t step start end c.operate_in_blocks.result it h.operates);
      measured = measured_offered c.forget.new.self b Clean c.operate_in_blocks.result it h.measured;
    }

pub returns-in_default-2 : goal.returns-in_default-2
returns-in_default-2 g c =
    let digest = g.D.Digester.digest_of in
    let old = c.args.self.now in
    let new = record old { host = c.operate_in_blocks-in_default-2.new.host } in
    let h = c.operate_in_blocks-in_default-2.ensures in
    let w = h.goes_on.within in
    let a = storage.seen g.S.Store g.P.Shelf old.host in
    let b = storage.seen g.S.Store g.P.Shelf c.operate_in_blocks-in_default-2.new.host in
    let Clean = storage.IsClean g.S.Store g.P.Shelf c.operate_in_blocks-in_default-2.new.host in
    let first : Clean → storage.IsClean g.S.Store g.P.Shelf old.host = λ clean. (w.intact clean.0, w.opened clean.0 clean.1) in
    let t = c.args.tenant.now in
    let step = λ (given : Octets) (s : Option State). responded (operated a.limits c.args.at given c.args.operation.now s) in
    let start = g.B.Body.coming c.args.body.now in
    let end = g.B.Body.coming c.operate_in_blocks-in_default-2.new.body in
    let was = λ (clean : Clean). alone_is g.S.Store g.P.Shelf digest old c.requires.working (first clean) in
    let it = leaves_so old.memo a.limits c.args.at t c.args.operation.now (sym c.changes_buckets.ensures ∙ c.if-changes_buckets.false) start end b.now a.now b.now Clean (λ clean. so g.S.Store g.P.Shelf digest old c.requires.working (first clean)) c.operate_in_blocks-in_default-2.result h.operates in
    record {
      goes_on = unless_spoilt g.S.Store g.P.Shelf digest old new c.operate_in_blocks-in_default-2.result h.goes_on it;
      cuts = h.cuts;
      operates = rw (same_limits old.memo a) (operates_shown old.memo old.memo a b Clean was offer_view t step start end c.operate_in_blocks-in_default-2.result it h.operates);
      measured = measured_offered old.memo b Clean c.operate_in_blocks-in_default-2.result it h.measured;
    }
