use Rattle.std.proofs.Common.{refl, subst}
use Rattle.sqlite.specs.Tree.{Trees}
use Rattle.bh_stored.specs.Fits.{AreFit, tenant_kinds, key_kinds, bucket_kinds, version_kinds, block_kinds, ref_kinds, upload_kinds, part_kinds, use_kinds}
use Rattle.bh_stored.proofs.Reading.{kept_twice}
use Rattle.bh_stored.proofs.stored.Stored.read_first.Goals as goal

pub returns-clause-fit : goal.returns-clause-fit
returns-clause-fit g c clean10 =
    let view = g.S.Store.view in
    let clean9 = c.in_ok-fit_rows-10.ensures.keeps.clean clean10 in
    let clean8 = c.in_ok-fit_rows-9.ensures.keeps.clean clean9 in
    let clean7 = c.in_ok-fit_rows-8.ensures.keeps.clean clean8 in
    let clean6 = c.in_ok-fit_rows-7.ensures.keeps.clean clean7 in
    let clean5 = c.in_ok-fit_rows-6.ensures.keeps.clean clean6 in
    let clean4 = c.in_ok-fit_rows-5.ensures.keeps.clean clean5 in
    let clean3 = c.in_ok-fit_rows-4.ensures.keeps.clean clean4 in
    let clean2 = c.in_ok-fit_rows-3.ensures.keeps.clean clean3 in
    let clean1 = c.in_ok-fit_rows-2.ensures.keeps.clean clean2 in
    let kept1 = c.in_ok-fit_rows.ensures.keeps in
    let kept2 = kept_twice (view c.args.store.now) (view c.fit_rows.new.store) (view c.fit_rows-2.new.store) kept1 c.in_ok-fit_rows-2.ensures.keeps in
    let kept3 = kept_twice (view c.args.store.now) (view c.fit_rows-2.new.store) (view c.fit_rows-3.new.store) kept2 c.in_ok-fit_rows-3.ensures.keeps in
    let kept4 = kept_twice (view c.args.store.now) (view c.fit_rows-3.new.store) (view c.fit_rows-4.new.store) kept3 c.in_ok-fit_rows-4.ensures.keeps in
    let kept5 = kept_twice (view c.args.store.now) (view c.fit_rows-4.new.store) (view c.fit_rows-5.new.store) kept4 c.in_ok-fit_rows-5.ensures.keeps in
    let kept6 = kept_twice (view c.args.store.now) (view c.fit_rows-5.new.store) (view c.fit_rows-6.new.store) kept5 c.in_ok-fit_rows-6.ensures.keeps in
    let kept7 = kept_twice (view c.args.store.now) (view c.fit_rows-6.new.store) (view c.fit_rows-7.new.store) kept6 c.in_ok-fit_rows-7.ensures.keeps in
    let kept8 = kept_twice (view c.args.store.now) (view c.fit_rows-7.new.store) (view c.fit_rows-8.new.store) kept7 c.in_ok-fit_rows-8.ensures.keeps in
    let kept9 = kept_twice (view c.args.store.now) (view c.fit_rows-8.new.store) (view c.fit_rows-9.new.store) kept8 c.in_ok-fit_rows-9.ensures.keeps in
    record {
      host = c.in_ok-fit_rows.ensures.fit clean1;
      tenants = subst (λ (t : Trees). AreFit tenant_kinds (t 1)) (kept1.trees clean1) (c.in_ok-fit_rows-2.ensures.fit clean2);
      keys = subst (λ (t : Trees). AreFit key_kinds (t 3)) (kept2.trees clean2) (c.in_ok-fit_rows-3.ensures.fit clean3);
      buckets = subst (λ (t : Trees). AreFit bucket_kinds (t 5)) (kept3.trees clean3) (c.in_ok-fit_rows-4.ensures.fit clean4);
      versions = subst (λ (t : Trees). AreFit version_kinds (t 7)) (kept4.trees clean4) (c.in_ok-fit_rows-5.ensures.fit clean5);
      blocks = subst (λ (t : Trees). AreFit block_kinds (t 10)) (kept5.trees clean5) (c.in_ok-fit_rows-6.ensures.fit clean6);
      refs = subst (λ (t : Trees). AreFit ref_kinds (t 12)) (kept6.trees clean6) (c.in_ok-fit_rows-7.ensures.fit clean7);
      uploads = subst (λ (t : Trees). AreFit upload_kinds (t 16)) (kept7.trees clean7) (c.in_ok-fit_rows-8.ensures.fit clean8);
      parts = subst (λ (t : Trees). AreFit part_kinds (t 18)) (kept8.trees clean8) (c.in_ok-fit_rows-9.ensures.fit clean9);
      uses = subst (λ (t : Trees). AreFit use_kinds (t 23)) (kept9.trees clean9) (c.in_ok-fit_rows-10.ensures.fit clean10);
      locks = record { fit = refl; rises = tt };
      retains = record { fit = refl; rises = tt };
      tallies = record { fit = refl; rises = tt };
      garbage = record { fit = refl; rises = tt };
      packs = record { fit = refl; rises = tt };
      places = record { fit = refl; rises = tt };
      unfilled = (refl, (refl, (refl, (refl, tt))));
    }
