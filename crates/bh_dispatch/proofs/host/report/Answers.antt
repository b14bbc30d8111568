use Rattle.std.proofs.Common.{refl}
use Rattle.bh_base.specs.Connections.{state}
use Rattle.bh_storage.specs.Calls.{Reports}
use Rattle.bh_base.specs.Layer.{IsIntact, IsOpen}
use Rattle.bh_schema.proofs.Storing.{AreBoth, both, parts, keeps, under}
use Rattle.bh_dispatch.proofs.Storing.{IsAtWork, seen_working, told_works, told_after, told_blocks, opened_ok, agrees_seen, kept_ok, works_after_all, told_beside}
use Rattle.bh_dispatch.proofs.host.report.Goals as goal

pub report-requires : goal.report-requires
report-requires g c clean = seen_working g.D.Digester.digest_of c.args.host.now.limits (state g.S.Store g.P.Shelf c.args.host.now.connection) (under _ _ (c.requires (parts clean)))

pub returns : goal.returns
returns g c =
    let l = c.args.host.now.limits in
    let k = c.args.host.now.cache in
    let digest = g.D.Digester.digest_of in
    let old = state g.S.Store g.P.Shelf c.args.host.now.connection in
    let new = state g.S.Store g.P.Shelf c.report.new.connection in
    let h = c.report.ensures in
    let began = λ (clean : AreBoth new). c.requires (parts (h.within.follows.clean (both clean))) in
    let was : AreBoth new → IsAtWork digest l old = λ clean. under _ _ (began clean) in
    let works = told_works Reports (λ x a b told. told.same) digest l old new c.report.result was h.working h.reports in
    let agrees = kept_ok k c.report.result old new (λ clean. agrees_seen k l old (c.requires (parts (h.within.follows.clean clean)))) (told_blocks Reports (λ x a b told. told.same) digest l old new c.report.result h.reports) in
    record {
      goes_on = record {
        within = keeps g.S.Store g.P.Shelf c.args.host.now _ refl h.within;
        opens = opened_ok (IsIntact new) (IsOpen old) (IsOpen new) c.report.result h.opens;
        working = works_after_all digest k k l old new began c.report.result works agrees;
      };
      reports = told_beside digest k k l old new began c.report.result works agrees Reports (told_after Reports (λ x a b told. told.same) digest l old new c.report.result was h.working h.reports);
    }
