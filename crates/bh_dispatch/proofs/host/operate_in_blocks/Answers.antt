use Rattle.std.proofs.Common.{◌≡◌, Option, refl, sym, subst, ◌≤◌}
use Rattle.bh_base.specs.Connections.{state}
use Rattle.bh_machine.specs.Machine.{operated}
use Rattle.bh_machine.proofs.Bounded.{operated_bounded}
use Rattle.bh_model.specs.State.{Octets, State}
use Rattle.bh_host.specs.Offers.{offer_view, responded}
use Rattle.bh_host.proofs.Responding.{responded_left}
use Rattle.bh_model.specs.QuotaLaws.{IsBounded}
use Rattle.bh_storage.specs.Calls.{Seen}
use Rattle.bh_view.specs.View.{latest_of}
use Rattle.bh_cache.specs.Kept.{Agrees}
use Rattle.bh_base.specs.Layer.{IsIntact, IsOpen, IsStateClean}
use Rattle.bh_schema.specs.Storage.{seen_in, beside}
use Rattle.bh_schema.specs.Working.{tables_at}
use Rattle.bh_schema.proofs.Storing.{AreBoth, both, parts, keeps, shows_in, under, plain}
use Rattle.bh_dispatch.proofs.Offering.{spoilt_with, read_from, measured_from}
use Rattle.bh_dispatch.proofs.Receiving.{opened_spoilt, operated_works, operated_seen, works_spoilt, operates_beside}
use Rattle.bh_dispatch.proofs.Storing.{IsAtWork, seen_working, digests_seen, early_seen, limits_shown, told, agrees_seen}
use Rattle.bh_dispatch.proofs.host.operate_in_blocks.Goals as goal

pub operate-requires-clause-working : goal.operate-requires-clause-working
operate-requires-clause-working g c clean = seen_working g.D.Digester.digest_of c.args.host.now.limits (state g.S.Store g.P.Shelf c.args.host.now.connection) (under _ _ (c.requires.working (parts clean)))

pub operate-requires-clause-blocks : goal.operate-requires-clause-blocks
operate-requires-clause-blocks g c = record {
  kept = λ clean. agrees_seen c.args.host.now.cache c.args.host.now.limits (state g.S.Store g.P.Shelf c.args.host.now.connection) (c.requires.working (parts clean));
  digests = λ clean. digests_seen g.D.Digester.digest_of c.args.host.now.limits (state g.S.Store g.P.Shelf c.args.host.now.connection) (under _ _ (c.requires.working (parts clean)));
  positive = c.requires.positive;
}

pub operate-requires-clause-early : goal.operate-requires-clause-early
operate-requires-clause-early g c clean =
    let working = c.requires.working (parts clean) in
    early_seen g.D.Digester.digest_of c.args.host.now.limits (state g.S.Store g.P.Shelf c.args.host.now.connection) c.args.at (under _ _ working)
    (subst (λ (x : Seen). c.args.at ≤ latest_of x.now) (plain _ _ working) (c.requires.early (parts clean)))

pub returns : goal.returns
returns g c =
    let l = c.args.host.now.limits in
    let k = c.args.host.now.cache in
    let digest = g.D.Digester.digest_of in
    let old = state g.S.Store g.P.Shelf c.args.host.now.connection in
    let new = state g.S.Store g.P.Shelf c.operate.new.connection in
    let h = c.operate.ensures.operated in
    let kept = c.operate.ensures.kept in
    let t = c.args.tenant.now in
    let step = λ (given : Octets) (s : Option State). responded (operated l c.args.at given c.args.operation.now s) in
    let shown = offer_view (tables_at new) in
    let began = λ (clean : AreBoth new). c.requires.working (parts (h.works.within.follows.clean (both clean))) in
    let was : AreBoth new → IsAtWork digest l old = λ clean. under _ _ (began clean) in
    let works = operated_works digest l old new shown t step _ _ _ c.operate.result (λ given s bound. responded_left IsBounded _ (operated_bounded s bound l c.args.at given c.args.operation.now)) was h.works.working h.operates in
    let same = spoilt_with c.operate.result (AreBoth new → IsAtWork digest l new) (IsStateClean new → Agrees k (tables_at new).blocks) (AreBoth new → tables_at new ≡ (beside k (seen_in l new)).now)
    (λ working agrees clean. sym (told digest k k l old new began (λ a b. b ≡ tables_at new) clean (working clean) (agrees (both clean)) (shows_in l new (working clean)))) works kept in
    record {
      goes_on = record {
        within = keeps g.S.Store g.P.Shelf c.args.host.now _ refl h.works.within;
        opens = opened_spoilt (IsIntact new) (IsOpen old) (IsOpen new) c.operate.result h.works.opens;
        working = works_spoilt digest k k l old new began c.operate.result works kept;
      };
      operates = read_from (tables_at new) (beside k (seen_in l new)).now t _ (AreBoth new) _ _ _ _ c.operate.result same
          (rw (limits_shown k l old)
          (operates_beside digest k k l old new began shown t step _ _ c.operate.result works kept
          (operated_seen digest l old new shown t step _ _ _ c.operate.result was h.works.working h.operates)));
      cuts = record { given = h.operates.given; gives = h.operates.gives; cut = h.operates.says };
      measured = measured_from (tables_at new) (beside k (seen_in l new)).now (IsStateClean new) (AreBoth new) both c.operate.result same c.operate.ensures.measured;
    }
