use Rattle.std.proofs.Common.{rules, arith, ap, List, refl, ◌≡◌, ◌≤◌, ◌<◌, sym, subst, map, ◌∙◌}
use Rattle.bh_base.specs.Connections.{state}
use Rattle.bh_view.specs.View.{with_latest, latest_of}
use Rattle.bh_view.specs.Becomes.{IsStamped}
use Rattle.bh_view.proofs.BoundLemmas.{bounded_same}
use Rattle.bh_storage.specs.Calls.{Seen, Stamps}
use Rattle.bh_schema.specs.Rows.{with_stamp}
use Rattle.bh_tables.specs.Typed.{VersionRow, PartRow, RefRow, BlockRow, Tables, tables_in}
use Rattle.bh_base.specs.Layer.{standing, Holds}
use Rattle.bh_schema.specs.Storage.{seen_in}
use Rattle.bh_schema.proofs.Storing.{under, plain, plain_after, on_ok, both, seen_same, holds_seen, same_limits, sound_still, bodied_still, keeps, asked_works, asked_inside, asked_before, AreBoth, wrote_within, wrote_opens, wrote_before, wrote_first}
use Rattle.bh_schema.proofs.TenantSteps.{holds_after}
use Rattle.bh_schema.proofs.Stamping.{stamp_kept, stamp_written, stamps_of}
use Rattle.bh_schema.proofs.host.Host.stamp_reading.Goals as goal

pub returns-in_err-latest-clause-within : goal.returns-in_err-latest-clause-within
returns-in_err-latest-clause-within g c = keeps g.S.Store g.P.Shelf c.args.self.now _ (search rules) c.latest.ensures.reads.within

pub returns-then-reading-seconds : goal.returns-then-reading-seconds
returns-then-reading-seconds g c =
    let old = state g.S.Store g.P.Shelf c.args.self.now.connection in
    let new = state g.S.Store g.P.Shelf c.latest.new.self.connection in
    let h = c.in_ok-latest.ensures in
    let low : c.args.reading ≤ c.in_ok-latest.latest = search rules in
    let was = λ (clean : AreBoth new). c.requires.working (asked_before _ _ old new c.requires.working h.reads.within h.reads.same clean) in
    let after = λ (clean : AreBoth new). plain_after _ _ (was clean) (seen_in c.args.self.now.limits new) (ap (λ (x : Seen). x.now.blocks) (seen_same _ old new (h.reads.same clean.0))) in
    rw h.settings (record {
      within = keeps g.S.Store g.P.Shelf c.args.self.now _ refl h.reads.within;
      opens = λ up intact. (h.reads.opens intact).1;
      working = asked_works _ _ old new c.requires.working h.reads.within h.reads.same;
      stamps = λ clean. rw (plain _ _ (was clean), after clean) (stamp_kept _ old new c.args.reading c.in_ok-latest.latest (under _ _ (was clean)) (seen_same _ old new (h.reads.same clean.0)) (subst (λ (x : Seen). c.in_ok-latest.latest ≡ latest_of x.now) (plain _ _ (was clean)) (h.latest clean)) low c.requires.in_range);
      unwritten = λ clean is. h.reads.same clean.0;
      settings = (refl, h.reads.within.follows.limit);
    })

pub set_latest-requires-clause-inside : goal.set_latest-requires-clause-inside
set_latest-requires-clause-inside g c =
    asked_inside _ _ (state g.S.Store g.P.Shelf c.args.self.now.connection) (state g.S.Store g.P.Shelf c.latest.new.self.connection) c.requires.working c.in_ok-latest.ensures.reads.within c.in_ok-latest.ensures.reads.same

pub returns-in_err-or_trouble-clause-within : goal.returns-in_err-or_trouble-clause-within
returns-in_err-or_trouble-clause-within g c =
    keeps g.S.Store g.P.Shelf c.args.self.now _ (search rules)
    (wrote_within (state g.S.Store g.P.Shelf c.args.self.now.connection) (state g.S.Store g.P.Shelf c.latest.new.self.connection) (state g.S.Store g.P.Shelf c.set_latest.new.connection) c.in_ok-latest.ensures.reads.within c.in_ok-latest.ensures.reads.opens c.set_latest.ensures.writes.within)

pub returns-in-Some : goal.returns-in-Some
returns-in-Some g c =
    let old = state g.S.Store g.P.Shelf c.args.self.now.connection in
    let mid = state g.S.Store g.P.Shelf c.latest.new.self.connection in
    let new = state g.S.Store g.P.Shelf c.set_latest.new.connection in
    let l = c.args.self.now.limits in
    let h = c.in_ok-latest.ensures in
    let w = c.set_latest.ensures.writes.within in
    let high : c.in_ok-latest.latest < c.args.reading = search rules in
    let same_read : c.in-Some.read ≡ c.args.reading = search rules in
    let before = wrote_before old mid new h.reads.within h.reads.opens w in
    let was = λ (clean : AreBoth new). c.requires.working (wrote_first old mid new h.reads.within h.reads.opens w clean) in
    let works = λ (clean : AreBoth new). under _ _ (was clean) in
    let latest = λ (clean : AreBoth new). subst (λ (x : Seen). c.in_ok-latest.latest ≡ latest_of x.now) (plain _ _ (was clean)) (h.latest (before clean)) in
    let holds = λ (clean : AreBoth new). on_ok _ c.in_ok-or_trouble.ensures.ok c.set_latest.ensures.holds (both clean) in
    let change : Tables → Tables = λ x. record x { host = map (with_stamp c.args.reading) x.host } in
    let held : AreBoth new → Holds (change (tables_in (standing old).now)) (standing new) = λ clean. holds_after old mid new change (h.reads.same (before clean).0) (holds clean) in
    let written : AreBoth new → IsStamped c.args.reading (seen_in l old).now (seen_in l new).now × ((seen_in l new).now ≡ with_latest c.args.reading (seen_in l old).now) = λ clean.
    stamp_written _ old new c.args.reading c.in_ok-latest.latest (works clean) (latest clean) high c.requires.in_range (held clean) in
    let after = λ (clean : AreBoth new). plain_after _ _ (was clean) (seen_in l new) (ap (λ (x : List VersionRow × List PartRow × List RefRow × List BlockRow). x.3) (bodied_still l old new change (λ x. refl) (works clean) (held clean))) in
    rw h.settings (record {
      within = keeps g.S.Store g.P.Shelf c.args.self.now _ refl (wrote_within old mid new h.reads.within h.reads.opens w);
      opens = wrote_opens old mid new h.reads.within h.reads.opens w (on_ok _ c.in_ok-or_trouble.ensures.ok c.set_latest.ensures.writes.opens);
      working = λ clean. rw (after clean) (record { inside = (holds_seen _ _ new (holds clean)).1; sound = sound_still (seen_in l old).now (seen_in l new).now (works clean).sound (written clean).0.sound (bounded_same (seen_in l old).now (seen_in l new).now (written clean).0.views (works clean).sound.bounded) (bodied_still l old new change (λ x. refl) (works clean) (held clean)); limits = (written clean).0.limits ∙ (works clean).limits ∙ same_limits l new old });
      stamps = λ clean. rw (plain _ _ (was clean), after clean) (subst (λ m. Stamps c.args.reading m (seen_in l old).now (seen_in l new).now) (sym same_read)
          (stamps_of (seen_in l old).now (seen_in l new).now c.args.reading c.in_ok-latest.latest (latest clean) high c.requires.in_range (written clean).1 (written clean).0));
      unwritten = λ clean is. absurd (omega (arith, high, h.latest (before clean), is, same_read));
      settings = (refl, w.follows.limit ∙ h.reads.within.follows.limit);
    })
