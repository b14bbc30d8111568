use Rattle.std.proofs.Common.{refl}
use Rattle.bh_base.specs.Connections.{state}
use Rattle.bh_tables.specs.Typed.{Tables}
use Rattle.bh_types.specs.declared.bucket_state.BucketState.{BucketState}
use Rattle.bh_view.specs.View.{view}
use Rattle.bh_storage.specs.Calls.{Decides}
use Rattle.bh_base.specs.Layer.{IsIntact, IsOpen}
use Rattle.bh_schema.specs.Working.{tables_at}
use Rattle.bh_schema.proofs.Storing.{AreBoth, both, parts, keeps, under}
use Rattle.bh_objects.specs.Found.{mode_in}
use Rattle.bh_dispatch.proofs.Remembering.{decided_same}
use Rattle.bh_dispatch.proofs.Asking.{same_works, same_agrees, said_beside}
use Rattle.bh_dispatch.proofs.Storing.{seen_working, opened, agrees_seen, works_beside}
use Rattle.bh_dispatch.proofs.host.bucket_state.Goals as goal

pub bucket_state-requires : goal.bucket_state-requires
bucket_state-requires g c clean = seen_working g.D.Digester.digest_of c.args.host.now.limits (state g.S.Store g.P.Shelf c.args.host.now.connection) (under _ _ (c.requires (parts clean)))

pub returns : goal.returns
returns g c =
    let l = c.args.host.now.limits in
    let k = c.args.host.now.cache in
    let digest = g.D.Digester.digest_of in
    let old = state g.S.Store g.P.Shelf c.args.host.now.connection in
    let new = state g.S.Store g.P.Shelf c.bucket_state.new.connection in
    let h = c.bucket_state.ensures in
    let shown = λ (state : BucketState). state in
    let answer = λ (x : Tables). mode_in c.args.bucket.now (view x c.args.tenant.now) in
    let began = λ (clean : AreBoth new). c.requires (parts (h.works.within.follows.clean (both clean))) in
    let same = decided_same shown (answer (tables_at old)) (tables_at old) (tables_at new) _ c.bucket_state.result h.decides in
    let works = same_works digest k l old new began c.bucket_state.result h.works.working same in
    let agrees = same_agrees digest k l old new began c.bucket_state.result (λ clean. agrees_seen k l old (c.requires (parts (h.works.within.follows.clean clean)))) same in
    record {
      goes_on = record {
        within = keeps g.S.Store g.P.Shelf c.args.host.now _ refl h.works.within;
        opens = opened (IsIntact new) (IsOpen old) (IsOpen new) c.bucket_state.result h.works.opens;
        working = works_beside digest k k l old new began c.bucket_state.result works agrees;
      };
      decides = said_beside digest k l old new began (λ r a b. Decides shown (answer a) a b r) (λ trouble a b. tt) c.bucket_state.result works agrees h.decides;
    }
