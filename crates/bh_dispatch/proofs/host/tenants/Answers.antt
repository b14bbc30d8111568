use Rattle.std.proofs.Common.{refl, Vec, Global}
use Rattle.bh_base.specs.Connections.{state}
use Rattle.bh_storage.specs.Calls.{Lists}
use Rattle.bh_storage.specs.declared.report.TenantReport.{TenantReport}
use Rattle.bh_base.specs.Layer.{IsIntact, IsOpen}
use Rattle.bh_schema.proofs.Storing.{AreBoth, both, parts, keeps, under}
use Rattle.bh_dispatch.proofs.Storing.{IsAtWork, seen_working, told_works, told_after, told_blocks, opened_ok, agrees_seen, kept_ok, works_after_all, told_beside}
use Rattle.bh_dispatch.proofs.host.tenants.Goals as goal

pub tenants-requires : goal.tenants-requires
tenants-requires g c clean = seen_working g.D.Digester.digest_of c.args.host.now.limits (state g.S.Store g.P.Shelf c.args.host.now.connection) (under _ _ (c.requires (parts clean)))

pub returns : goal.returns
returns g c =
    let l = c.args.host.now.limits in
    let k = c.args.host.now.cache in
    let digest = g.D.Digester.digest_of in
    let old = state g.S.Store g.P.Shelf c.args.host.now.connection in
    let new = state g.S.Store g.P.Shelf c.tenants.new.connection in
    let h = c.tenants.ensures in
    let began = λ (clean : AreBoth new). c.requires (parts (h.within.follows.clean (both clean))) in
    let was : AreBoth new → IsAtWork digest l old = λ clean. under _ _ (began clean) in
    let works = told_works (λ (listed : Vec TenantReport Global). Lists listed.items) (λ x a b told. told.same) digest l old new c.tenants.result was h.working h.lists in
    let agrees = kept_ok k c.tenants.result old new (λ clean. agrees_seen k l old (c.requires (parts (h.within.follows.clean clean)))) (told_blocks (λ (listed : Vec TenantReport Global). Lists listed.items) (λ x a b told. told.same) digest l old new c.tenants.result h.lists) in
    record {
      goes_on = record {
        within = keeps g.S.Store g.P.Shelf c.args.host.now _ refl h.within;
        opens = opened_ok (IsIntact new) (IsOpen old) (IsOpen new) c.tenants.result h.opens;
        working = works_after_all digest k k l old new began c.tenants.result works agrees;
      };
      lists = told_beside digest k k l old new began c.tenants.result works agrees (λ (listed : Vec TenantReport Global). Lists listed.items) (told_after (λ (listed : Vec TenantReport Global). Lists listed.items) (λ x a b told. told.same) digest l old new c.tenants.result was h.working h.lists);
    }
