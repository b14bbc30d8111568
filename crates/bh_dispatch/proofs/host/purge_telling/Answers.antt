use Rattle.std.proofs.Common.{refl, ap, ◌∙◌}
use Rattle.std.proofs.lemmas.Result.{on_ok_weaker}
use Rattle.bh_base.specs.Connections.{state}
use Rattle.bh_tables.specs.Typed.{Tables}
use Rattle.bh_storage.specs.Calls.{Purges}
use Rattle.bh_base.specs.Layer.{IsIntact, IsOpen}
use Rattle.bh_schema.specs.Working.{tables_at}
use Rattle.bh_schema.proofs.Storing.{AreBoth, both, parts, keeps, under}
use Rattle.bh_dispatch.proofs.Asking.{ruled_beside}
use Rattle.bh_dispatch.proofs.Storing.{IsAtWork, seen_working, works_after, purged_after, opened_ok, agrees_seen, kept_ok, purged_blocks, works_after_all, shown_beside}
use Rattle.bh_dispatch.proofs.host.purge_telling.Goals as goal

pub purge-requires : goal.purge-requires
purge-requires g c clean = seen_working g.D.Digester.digest_of c.args.host.now.limits (state g.S.Store g.P.Shelf c.args.host.now.connection) (under _ _ (c.requires (parts clean)))

pub returns : goal.returns
returns g c =
    let l = c.args.host.now.limits in
    let k = c.args.host.now.cache in
    let t = c.args.tenant.now in
    let digest = g.D.Digester.digest_of in
    let old = state g.S.Store g.P.Shelf c.args.host.now.connection in
    let new = state g.S.Store g.P.Shelf c.purge.new.connection in
    let h = c.purge.ensures in
    let began = λ (clean : AreBoth new). c.requires (parts (h.works.within.follows.clean (both clean))) in
    let was : AreBoth new → IsAtWork digest l old = λ clean. under _ _ (began clean) in
    let works = works_after digest l old new c.purge.result t c.args.at was h.works.working h.purges in
    let agrees = kept_ok k c.purge.result old new (λ clean. agrees_seen k l old (c.requires (parts (h.works.within.follows.clean clean))))
    (on_ok_weaker c.purge.result (λ is clean. ap (λ (x : Tables). x.blocks) (is clean) ∙ purged_blocks t c.args.at (tables_at old)) h.purges) in
    record {
      goes_on = record {
        within = keeps g.S.Store g.P.Shelf c.args.host.now _ refl h.works.within;
        opens = opened_ok (IsIntact new) (IsOpen old) (IsOpen new) c.purge.result h.works.opens;
        working = works_after_all digest k k l old new began c.purge.result works agrees;
      };
      purges = shown_beside digest k k l old new began c.purge.result works agrees (Purges t c.args.at) (purged_after digest l old new c.purge.result t c.args.at was h.works.working h.purges);
      ruled = ruled_beside digest k l old new began t c.purge.result h.ruled;
    }
