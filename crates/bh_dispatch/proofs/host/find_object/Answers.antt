use Rattle.std.proofs.Common.{◌≡◌, refl, sym, ap, ◌∙◌}
use Rattle.std.specs.Option.{option_copied}
use Rattle.bh_base.specs.Connections.{state}
use Rattle.bh_model.specs.Operations.{get_object}
use Rattle.bh_tables.specs.Typed.{Tables}
use Rattle.bh_view.specs.View.{view}
use Rattle.bh_storage.specs.Answers.{found_answer}
use Rattle.bh_storage.specs.Calls.{Carries}
use Rattle.bh_base.specs.Layer.{IsIntact, IsOpen}
use Rattle.bh_schema.proofs.Storing.{AreBoth, both, parts, keeps, under}
use Rattle.bh_objects.specs.Found.{mode_in}
use Rattle.bh_dispatch.proofs.Asking.{same_works, same_agrees, said_done, said_beside, measured_beside, shown_first}
use Rattle.bh_dispatch.proofs.Storing.{seen_working, opened, agrees_seen, works_beside}
use Rattle.bh_dispatch.proofs.host.find_object.Goals as goal

pub find_object-requires-clause-working : goal.find_object-requires-clause-working
find_object-requires-clause-working g c clean = seen_working g.D.Digester.digest_of c.args.host.now.limits (state g.S.Store g.P.Shelf c.args.host.now.connection) (under _ _ (c.requires.working (parts clean)))

pub find_object-requires-clause-mode : goal.find_object-requires-clause-mode
find_object-requires-clause-mode g c clean =
    let old = state g.S.Store g.P.Shelf c.args.host.now.connection in
    ap (λ (x : Tables). mode_in c.args.object.now.bucket (view x c.args.tenant.now)) (sym (shown_first g.D.Digester.digest_of c.args.host.now.cache c.args.host.now.limits old old c.requires.working (parts clean)))
    ∙ c.requires.state (parts clean)

pub returns : goal.returns
returns g c =
    let l = c.args.host.now.limits in
    let k = c.args.host.now.cache in
    let digest = g.D.Digester.digest_of in
    let old = state g.S.Store g.P.Shelf c.args.host.now.connection in
    let new = state g.S.Store g.P.Shelf c.find_object.new.connection in
    let h = c.find_object.ensures in
    let began = λ (clean : AreBoth new). c.requires.working (parts (h.works.within.follows.clean (both clean))) in
    let works = same_works digest k l old new began c.find_object.result h.works.working h.same in
    let agrees = same_agrees digest k l old new began c.find_object.result (λ clean. agrees_seen k l old (c.requires.working (parts (h.works.within.follows.clean clean)))) h.same in
    record {
      goes_on = record {
        within = keeps g.S.Store g.P.Shelf c.args.host.now _ refl h.works.within;
        opens = opened (IsIntact new) (IsOpen old) (IsOpen new) c.find_object.result h.works.opens;
        working = works_beside digest k k l old new began c.find_object.result works agrees;
      };
      same = said_done digest k l old new began (λ a b. b ≡ a) c.find_object.result works agrees h.same;
      carries = said_beside digest k l old new began (λ r a b. Carries (found_answer b) c.args.tenant.now (get_object c.args.object.now.bucket c.args.object.now.key c.args.version (option_copied c.args.range)) a b r) (λ trouble a b. tt) c.find_object.result works agrees h.carries;
      measured = measured_beside digest k l old new began c.find_object.result works agrees h.measured;
    }
