use Rattle.std.proofs.Common.{◌≡◌, refl}
use Rattle.bh_base.specs.Connections.{state}
use Rattle.bh_base.specs.Layer.{IsIntact, IsOpen}
use Rattle.bh_tables.specs.Typed.{Tables}
use Rattle.bh_sweep.specs.declared.packs.PackTotals.{PackTotals}
use Rattle.bh_schema.proofs.Storing.{AreBoth, both, parts, keeps, under}
use Rattle.bh_dispatch.proofs.Storing.{IsAtWork, seen_working, told_works, told_after, told_blocks, opened_ok, agrees_seen, kept_ok, works_after_all, told_beside}
use Rattle.bh_dispatch.proofs.host.pack_totals.Goals as goal

pub pack_totals-requires : goal.pack_totals-requires
pack_totals-requires g c clean = seen_working g.D.Digester.digest_of c.args.host.now.limits (state g.S.Store g.P.Shelf c.args.host.now.connection) (under _ _ (c.requires (parts clean)))

-- the tables stay
abbrev Same : PackTotals → Tables → Tables → Type 0
Same totals old new = new ≡ old

pub returns : goal.returns
returns g c =
    let l = c.args.host.now.limits in
    let k = c.args.host.now.cache in
    let digest = g.D.Digester.digest_of in
    let old = state g.S.Store g.P.Shelf c.args.host.now.connection in
    let new = state g.S.Store g.P.Shelf c.pack_totals.new.connection in
    let h = c.pack_totals.ensures in
    let result = c.pack_totals.result in
    let began = λ (clean : AreBoth new). c.requires (parts (h.within.follows.clean (both clean))) in
    let was : AreBoth new → IsAtWork digest l old = λ clean. under _ _ (began clean) in
    let works = told_works Same (λ x a b same. same) digest l old new result was h.working h.same in
    let agrees = kept_ok k result old new (λ clean. agrees_seen k l old (c.requires (parts (h.within.follows.clean clean)))) (told_blocks Same (λ x a b same. same) digest l old new result h.same) in
    record {
      goes_on = record {
        within = keeps g.S.Store g.P.Shelf c.args.host.now _ refl h.within;
        opens = opened_ok (IsIntact new) (IsOpen old) (IsOpen new) result h.opens;
        working = works_after_all digest k k l old new began result works agrees;
      };
      same = told_beside digest k k l old new began result works agrees Same (told_after Same (λ x a b same. same) digest l old new result was h.working h.same);
      counted = h.counted;
    }
