use Rattle.std.proofs.Common.{refl, sym}
use Rattle.bh_base.specs.Connections.{state}
use Rattle.bh_event.specs.Events.{RemoveTenant, ShowUsage, ShowKeys}
use Rattle.bh_model.specs.Operations.{remove_tenant, show_usage, show_keys}
use Rattle.bh_machine.proofs.Bounded.{ordered_bounded}
use Rattle.bh_host.specs.Offers.{command_answer_view}
use Rattle.bh_base.specs.Layer.{IsIntact, IsOpen}
use Rattle.bh_schema.proofs.Storing.{AreBoth, both, parts, keeps, under}
use Rattle.bh_dispatch.proofs.Storing.{seen_working, still_working, carried, opened, by_any, agrees_seen, kept_carried, works_beside, carries_beside}
use Rattle.bh_dispatch.proofs.host.command.Goals as goal

pub show_usage-requires : goal.show_usage-requires
show_usage-requires g c clean = seen_working g.D.Digester.digest_of c.args.host.now.limits (state g.S.Store g.P.Shelf c.args.host.now.connection) (under _ _ (c.requires (parts clean)))

pub returns-in-Usage-clause-goes_on : goal.returns-in-Usage-clause-goes_on
returns-in-Usage-clause-goes_on g c =
    let digest = g.D.Digester.digest_of in
    let k = c.args.host.now.cache in
    let l = c.args.host.now.limits in
    let old = state g.S.Store g.P.Shelf c.args.host.now.connection in
    let new = state g.S.Store g.P.Shelf c.show_usage.new.connection in
    let h = c.show_usage.ensures in
    let t = c.as_str.result.now in
    let began = λ (clean : AreBoth new). c.requires (parts (h.works.within.follows.clean (both clean))) in
    let works = still_working digest l old new command_answer_view t (show_usage t) c.show_usage.result (λ s bound. ordered_bounded s bound c.args.at (ShowUsage t)) (λ clean. under _ _ (began clean)) (by_any digest old new c.show_usage.result h.works.working) h.carries in
    record {
      within = keeps g.S.Store g.P.Shelf c.args.host.now _ refl h.works.within;
      opens = opened (IsIntact new) (IsOpen old) (IsOpen new) c.show_usage.result h.works.opens;
      working = works_beside digest k k l old new began c.show_usage.result works
          (kept_carried k command_answer_view t (show_usage t) c.show_usage.result old new (λ clean. agrees_seen k l old (c.requires (parts (h.works.within.follows.clean clean)))) h.carries);
    }

pub returns-in-Usage-clause-carries : goal.returns-in-Usage-clause-carries
returns-in-Usage-clause-carries g c clean =
    let digest = g.D.Digester.digest_of in
    let k = c.args.host.now.cache in
    let l = c.args.host.now.limits in
    let old = state g.S.Store g.P.Shelf c.args.host.now.connection in
    let new = state g.S.Store g.P.Shelf c.show_usage.new.connection in
    let h = c.show_usage.ensures in
    let t = c.as_str.result.now in
    let began = λ (clean : AreBoth new). c.requires (parts (h.works.within.follows.clean (both clean))) in
    let working = by_any digest old new c.show_usage.result h.works.working in
    let works = still_working digest l old new command_answer_view t (show_usage t) c.show_usage.result (λ s bound. ordered_bounded s bound c.args.at (ShowUsage t)) (λ clean. under _ _ (began clean)) working h.carries in
    rw (c.in-Usage.is, sym c.as_str.ensures.value) (carries_beside digest k k l old new began command_answer_view t (show_usage t) c.show_usage.result clean works
    (kept_carried k command_answer_view t (show_usage t) c.show_usage.result old new (λ clean. agrees_seen k l old (c.requires (parts (h.works.within.follows.clean clean)))) h.carries)
    (carried digest l old new command_answer_view t (show_usage t) c.show_usage.result (under _ _ (began clean)) clean working (h.carries (both clean))))

pub show_keys-requires : goal.show_keys-requires
show_keys-requires g c clean = seen_working g.D.Digester.digest_of c.args.host.now.limits (state g.S.Store g.P.Shelf c.args.host.now.connection) (under _ _ (c.requires (parts clean)))

pub returns-in-Keys-clause-goes_on : goal.returns-in-Keys-clause-goes_on
returns-in-Keys-clause-goes_on g c =
    let digest = g.D.Digester.digest_of in
    let k = c.args.host.now.cache in
    let l = c.args.host.now.limits in
    let old = state g.S.Store g.P.Shelf c.args.host.now.connection in
    let new = state g.S.Store g.P.Shelf c.show_keys.new.connection in
    let h = c.show_keys.ensures in
    let t = c.as_str-in-Keys.result.now in
    let began = λ (clean : AreBoth new). c.requires (parts (h.works.within.follows.clean (both clean))) in
    let works = still_working digest l old new command_answer_view t (show_keys t) c.show_keys.result (λ s bound. ordered_bounded s bound c.args.at (ShowKeys t)) (λ clean. under _ _ (began clean)) (by_any digest old new c.show_keys.result h.works.working) h.carries in
    record {
      within = keeps g.S.Store g.P.Shelf c.args.host.now _ refl h.works.within;
      opens = opened (IsIntact new) (IsOpen old) (IsOpen new) c.show_keys.result h.works.opens;
      working = works_beside digest k k l old new began c.show_keys.result works
          (kept_carried k command_answer_view t (show_keys t) c.show_keys.result old new (λ clean. agrees_seen k l old (c.requires (parts (h.works.within.follows.clean clean)))) h.carries);
    }

pub returns-in-Keys-clause-carries : goal.returns-in-Keys-clause-carries
returns-in-Keys-clause-carries g c clean =
    let digest = g.D.Digester.digest_of in
    let k = c.args.host.now.cache in
    let l = c.args.host.now.limits in
    let old = state g.S.Store g.P.Shelf c.args.host.now.connection in
    let new = state g.S.Store g.P.Shelf c.show_keys.new.connection in
    let h = c.show_keys.ensures in
    let t = c.as_str-in-Keys.result.now in
    let began = λ (clean : AreBoth new). c.requires (parts (h.works.within.follows.clean (both clean))) in
    let working = by_any digest old new c.show_keys.result h.works.working in
    let works = still_working digest l old new command_answer_view t (show_keys t) c.show_keys.result (λ s bound. ordered_bounded s bound c.args.at (ShowKeys t)) (λ clean. under _ _ (began clean)) working h.carries in
    rw (c.in-Keys.is, sym c.as_str-in-Keys.ensures.value) (carries_beside digest k k l old new began command_answer_view t (show_keys t) c.show_keys.result clean works
    (kept_carried k command_answer_view t (show_keys t) c.show_keys.result old new (λ clean. agrees_seen k l old (c.requires (parts (h.works.within.follows.clean clean)))) h.carries)
    (carried digest l old new command_answer_view t (show_keys t) c.show_keys.result (under _ _ (began clean)) clean working (h.carries (both clean))))

pub remove_tenant-requires : goal.remove_tenant-requires
remove_tenant-requires g c clean = seen_working g.D.Digester.digest_of c.args.host.now.limits (state g.S.Store g.P.Shelf c.args.host.now.connection) (under _ _ (c.requires (parts clean)))

pub returns-in-TenantRemove-clause-goes_on : goal.returns-in-TenantRemove-clause-goes_on
returns-in-TenantRemove-clause-goes_on g c =
    let digest = g.D.Digester.digest_of in
    let k = c.args.host.now.cache in
    let l = c.args.host.now.limits in
    let old = state g.S.Store g.P.Shelf c.args.host.now.connection in
    let new = state g.S.Store g.P.Shelf c.remove_tenant.new.connection in
    let h = c.remove_tenant.ensures in
    let t = c.as_str-in-TenantRemove.result.now in
    let at = c.args.at in
    let w = c.in-TenantRemove.with_objects in
    let began = λ (clean : AreBoth new). c.requires (parts (h.works.within.follows.clean (both clean))) in
    let works = still_working digest l old new command_answer_view t (remove_tenant at t w) c.remove_tenant.result (λ s bound. ordered_bounded s bound at (RemoveTenant t w)) (λ clean. under _ _ (began clean)) (by_any digest old new c.remove_tenant.result h.works.working) h.carries in
    record {
      within = keeps g.S.Store g.P.Shelf c.args.host.now _ refl h.works.within;
      opens = opened (IsIntact new) (IsOpen old) (IsOpen new) c.remove_tenant.result h.works.opens;
      working = works_beside digest k k l old new began c.remove_tenant.result works
          (kept_carried k command_answer_view t (remove_tenant at t w) c.remove_tenant.result old new (λ clean. agrees_seen k l old (c.requires (parts (h.works.within.follows.clean clean)))) h.carries);
    }

pub returns-in-TenantRemove-clause-carries : goal.returns-in-TenantRemove-clause-carries
returns-in-TenantRemove-clause-carries g c clean =
    let digest = g.D.Digester.digest_of in
    let k = c.args.host.now.cache in
    let l = c.args.host.now.limits in
    let old = state g.S.Store g.P.Shelf c.args.host.now.connection in
    let new = state g.S.Store g.P.Shelf c.remove_tenant.new.connection in
    let h = c.remove_tenant.ensures in
    let t = c.as_str-in-TenantRemove.result.now in
    let at = c.args.at in
    let w = c.in-TenantRemove.with_objects in
    let began = λ (clean : AreBoth new). c.requires (parts (h.works.within.follows.clean (both clean))) in
    let working = by_any digest old new c.remove_tenant.result h.works.working in
    let works = still_working digest l old new command_answer_view t (remove_tenant at t w) c.remove_tenant.result (λ s bound. ordered_bounded s bound at (RemoveTenant t w)) (λ clean. under _ _ (began clean)) working h.carries in
    rw (c.in-TenantRemove.is, sym c.as_str-in-TenantRemove.ensures.value) (carries_beside digest k k l old new began command_answer_view t (remove_tenant at t w) c.remove_tenant.result clean works
    (kept_carried k command_answer_view t (remove_tenant at t w) c.remove_tenant.result old new (λ clean. agrees_seen k l old (c.requires (parts (h.works.within.follows.clean clean)))) h.carries)
    (carried digest l old new command_answer_view t (remove_tenant at t w) c.remove_tenant.result (under _ _ (began clean)) clean working (h.carries (both clean))))
