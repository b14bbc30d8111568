use Rattle.std.proofs.Common.{subst}
use Rattle.sqlite.specs.Tree.{Trees}
use Rattle.bh_stored.specs.Fits.{AreFit, AreUnfilled, pack_kinds, place_kinds}
use Rattle.bh_stored.proofs.Reading.{kept_twice}
use Rattle.bh_stored.proofs.stored.Stored.read_fourth.Goals as goal

pub returns-clause-fit : goal.returns-clause-fit
returns-clause-fit g c clean3 =
    let view = g.S.Store.view in
    let clean2 = c.in_ok-none_filled.ensures.keeps.clean clean3 in
    let clean1 = c.in_ok-stored-3.ensures.keeps.clean clean2 in
    let clean0 = c.in_ok-stored-2.ensures.keeps.clean clean1 in
    let kept1 = c.in_ok-stored.ensures.keeps in
    let kept2 = kept_twice (view c.args.store.now) (view c.read_third.new.store) (view c.fit_rows.new.store) kept1 c.in_ok-stored-2.ensures.keeps in
    let kept3 = kept_twice (view c.args.store.now) (view c.fit_rows.new.store) (view c.fit_rows-2.new.store) kept2 c.in_ok-stored-3.ensures.keeps in
    let fit = c.in_ok-stored.ensures.fit clean0 in
    record {
      host = fit.host;
      tenants = fit.tenants;
      keys = fit.keys;
      buckets = fit.buckets;
      versions = fit.versions;
      blocks = fit.blocks;
      refs = fit.refs;
      uploads = fit.uploads;
      parts = fit.parts;
      uses = fit.uses;
      locks = fit.locks;
      retains = fit.retains;
      tallies = fit.tallies;
      garbage = fit.garbage;
      packs = subst (λ (t : Trees). AreFit pack_kinds (t 32)) (kept1.trees clean0) (c.in_ok-stored-2.ensures.fit clean1);
      places = subst (λ (t : Trees). AreFit place_kinds (t 34)) (kept2.trees clean1) (c.in_ok-stored-3.ensures.fit clean2);
      unfilled = subst AreUnfilled (kept3.trees clean2) (c.in_ok-none_filled.ensures.none clean3);
    }
