use Rattle.std.proofs.Common.{refl}
use Rattle.std.proofs.lemmas.Result.{on_ok_weaker}
use Rattle.bh_base.specs.Connections.{state}
use Rattle.bh_storage.specs.Calls.{Sweeps}
use Rattle.bh_base.specs.Layer.{IsIntact, IsOpen}
use Rattle.bh_schema.proofs.Storing.{AreBoth, both, parts, keeps, under}
use Rattle.bh_dispatch.proofs.Storing.{IsAtWork, seen_working, swept_works, sweeps_after, opened_ok, agrees_seen, works_after_all, told_beside}
use Rattle.bh_dispatch.proofs.host.sweep.Goals as goal

pub sweep-requires : goal.sweep-requires
sweep-requires g c clean = seen_working g.D.Digester.digest_of c.args.host.now.limits (state g.S.Store g.P.Shelf c.args.host.now.connection) (under _ _ (c.requires (parts clean)))

pub returns : goal.returns
returns g c =
    let l = c.args.host.now.limits in
    let k = c.args.host.now.cache in
    let m = c.sweep.new.cache in
    let digest = g.D.Digester.digest_of in
    let old = state g.S.Store g.P.Shelf c.args.host.now.connection in
    let new = state g.S.Store g.P.Shelf c.sweep.new.connection in
    let h = c.sweep.ensures in
    let began = λ (clean : AreBoth new). c.requires (parts (h.within.follows.clean (both clean))) in
    let was : AreBoth new → IsAtWork digest l old = λ clean. under _ _ (began clean) in
    let works = swept_works digest l old new c.sweep.result c.args.at c.args.limit was (h.working digest) h.swept in
    let agrees = on_ok_weaker c.sweep.result (λ kept clean. kept clean (agrees_seen k l old (c.requires (parts (h.within.follows.clean clean))))) h.kept in
    record {
      goes_on = record {
        within = keeps g.S.Store g.P.Shelf c.args.host.now _ refl h.within;
        opens = opened_ok (IsIntact new) (IsOpen old) (IsOpen new) c.sweep.result h.opens;
        working = works_after_all digest k m l old new began c.sweep.result works agrees;
      };
      sweeps = told_beside digest k m l old new began c.sweep.result works agrees (Sweeps c.args.at c.args.limit) (sweeps_after digest l old new c.sweep.result c.args.at c.args.limit was (h.working digest) h.swept h.uploads h.blocks h.complete (h.purged digest));
    }
