use Rattle.std.proofs.Common.{Ok, sym, ap, subst, ◌∙◌, inl, inr}
use Rattle.std.proofs.lemmas.Result.{err_from_is_err_and}
use Rattle.bh_types.specs.Limits.{HostLimits}
use Rattle.bh_http.specs.Views.{with_body}
use Rattle.bh_http.proofs.BodyLemmas.{going_may}
use Rattle.bh_tables.specs.Typed.{Tables}
use Rattle.bh_view.specs.View.{rows_purged, with_latest}
use Rattle.bh_host.specs.Answers.{composed_in, IsToldMeasured}
use Rattle.bh_host.specs.Runs.{Told}
use Rattle.bh_host.specs.Receives.{AppliedAs, HasApplied, IsRefusedAs, IsStamp}
use Rattle.bh_host.proofs.TakenBack.{applied_as}
use Rattle.bh_host.proofs.receiving.try_receive.Goals as goal

pub returns-in_err-composed-clause-tries : goal.returns-in_err-composed-clause-tries
returns-in_err-composed-clause-tries g c =
    let begun = c.in_ok-begin.ensures in
    let stamped = c.in_ok-stamp.ensures in
    let failed = c.in_err-composed.ensures in
    let it = failed.serves in
    let p = err_from_is_err_and c.from_residual-in_err-composed.result c.from_residual-in_err-composed.ensures.1 in
    rw p.1 (record {
      given = it.given;
      gives = it.gives;
      tried = (
        it.served,
        (λ intact x leaves.
            let i2 = failed.within.intact intact in
            let i1 = stamped.goes_on.within.intact i2 in
            let o1 = (begun.opens i1).1 in
            inl (begun.survives i1 x (stamped.goes_on.within.survives o1 i2 x (failed.within.survives (stamped.goes_on.opens o1 i2) intact x leaves)))),
        (λ clean.
            let i2 = failed.within.intact clean.0 in
            let o2 = failed.within.opened clean.0 clean.1 in
            failed.within.kept clean ∙ stamped.goes_on.within.kept (i2, o2) ∙ begun.within.kept (stamped.goes_on.within.intact i2, stamped.goes_on.within.opened i2 o2)),
      );
    })

pub returns-in_err-commit-in-Kept-clause-tries : goal.returns-in_err-commit-in-Kept-clause-tries
returns-in_err-commit-in-Kept-clause-tries g c =
    let seen = g.H.Storage.seen in
    let old = seen c.args.host.now in
    let begun = c.in_ok-begin.ensures in
    let stamped = c.in_ok-stamp.ensures in
    let served = rw c.in-Kept.is at c.in_ok-composed.ensures in
    let failed = c.in_err-commit-in-Kept.ensures in
    let it = served.serves in
    let whole = it.served.0 in
    let p = err_from_is_err_and c.from_residual-in_err-commit-in-Kept.result c.from_residual-in_err-commit-in-Kept.ensures.1 in
    rw p.1 (record {
      given = it.given;
      gives = it.gives;
      tried = (
        going_may _ whole.going,
        (λ intact x leaves.
            let i3 = failed.intact intact in
            let i2 = served.within.intact i3 in
            let i1 = stamped.goes_on.within.intact i2 in
            let (was, o1) = begun.opens i1 in
            let o2 = stamped.goes_on.opens o1 i2 in
            let o3 = served.opens o2 i3 in
            let turned = it.served.1 (i3, o3) in
            elim (failed.crash o3 intact x leaves) [
              | inl stays ↦ inl (begun.survives i1 x (stamped.goes_on.within.survives o1 i2 x (served.within.survives o2 i3 x stays)))
              | inr is ↦ inr (
                whole,
                (
                  was,
                  (
                    c.in_ok-stamp.stamp,
                    (composed_in (seen c.serve.new.host).now c.in-Kept.composed),
                    subst (λ (y : Tables). AppliedAs c.args.reading (Ok (with_body c.args.head.now it.given)) old.now y c.in_ok-stamp.stamp (composed_in (seen c.serve.new.host).now c.in-Kept.composed)) (sym is)
                        (applied_as c.args.reading c.in_ok-stamp.stamp (Ok (with_body c.args.head.now it.given)) _ old.now _ _ _ _ (begun.same i1)
                        (stamped.goes_on.within.limits ∙ begun.within.limits ∙ sym (c.requires.rest (begun.within.intact i1, was)).limits) (stamped.stamps (i2, o2)) turned),
                  ),
                ),
              )
            ]),
        (λ clean.
            let i3 = failed.intact clean.0 in
            let o3 = failed.opened clean.0 clean.1 in
            let i2 = served.within.intact i3 in
            let o2 = served.within.opened i3 o3 in
            let i1 = stamped.goes_on.within.intact i2 in
            failed.kept clean ∙ served.within.kept (i3, o3) ∙ stamped.goes_on.within.kept (i2, o2) ∙ begun.within.kept (i1, stamped.goes_on.within.opened i2 o2)),
      );
    })

pub returns-in-TakenBack-clause-tries : goal.returns-in-TakenBack-clause-tries
returns-in-TakenBack-clause-tries g c =
    let seen = g.H.Storage.seen in
    let old = seen c.args.host.now in
    let begun = c.in_ok-begin.ensures in
    let stamped = c.in_ok-stamp.ensures in
    let served = rw c.in-TakenBack.is at c.in_ok-composed.ensures in
    let tenant = c.in-TakenBack.tenant in
    let text = c.in-TakenBack.bytes.items in
    let it = served.serves in
    let (whole, owned, refused) = it.served in
    record {
      given = it.given;
      gives = it.gives;
      tried = (
        whole,
        owned,
        (λ clean.
            let i2 = served.within.intact clean.0 in
            let o2 = served.within.opened clean.0 clean.1 in
            let i1 = stamped.goes_on.within.intact i2 in
            let was = (begun.opens i1).0 in
            let stamps = stamped.stamps (i2, o2) in
            let limits = stamped.goes_on.within.limits ∙ begun.within.limits ∙ sym (c.requires.rest (begun.within.intact i1, was)).limits in (
              c.in_ok-stamp.stamp,
              subst (λ (x : Tables). IsStamp c.args.reading x c.in_ok-stamp.stamp) (begun.same i1) stamps.stamp,
              subst (λ (l : HostLimits). IsRefusedAs l tenant (with_body c.args.head.now it.given) c.in_ok-stamp.stamp (rows_purged tenant c.in_ok-stamp.stamp (with_latest c.in_ok-stamp.stamp old.now)) text) limits
                  (subst (λ (x : Tables). IsRefusedAs (seen c.stamp.new.self).limits tenant (with_body c.args.head.now it.given) c.in_ok-stamp.stamp (rows_purged tenant c.in_ok-stamp.stamp x) text) (stamps.is ∙ ap (with_latest c.in_ok-stamp.stamp) (begun.same i1)) (refused clean)),
            )),
        (λ intact x leaves.
            let i2 = served.within.intact intact in
            let i1 = stamped.goes_on.within.intact i2 in
            let o1 = (begun.opens i1).1 in
            begun.survives i1 x (stamped.goes_on.within.survives o1 i2 x (served.within.survives (stamped.goes_on.opens o1 i2) intact x leaves))),
        (λ clean.
            let i2 = served.within.intact clean.0 in
            let o2 = served.within.opened clean.0 clean.1 in
            served.within.kept clean ∙ stamped.goes_on.within.kept (i2, o2) ∙ begun.within.kept (stamped.goes_on.within.intact i2, stamped.goes_on.within.opened i2 o2)),
      );
    }

pub returns-in_ok-commit-in-Kept-clause-tries : goal.returns-in_ok-commit-in-Kept-clause-tries
returns-in_ok-commit-in-Kept-clause-tries g c =
    let H = g.H.Storage in
    let seen = g.H.Storage.seen in
    let old = seen c.args.host.now in
    let begun = c.in_ok-begin.ensures in
    let stamped = c.in_ok-stamp.ensures in
    let served = rw c.in-Kept.is at c.in_ok-composed.ensures in
    let done = c.in_ok-commit-in-Kept.ensures in
    let it = served.serves in
    let whole = it.served.0 in
    let answer = Ok (with_body c.args.head.now it.given) in
    let new = c.commit.new.self in
    let m = c.in_ok-stamp.stamp in
    record {
      given = it.given;
      gives = it.gives;
      tried = (
        whole,
        subst (λ (t : Told). HasApplied H.IsIntact H.IsOpen H.seen H.left c.args.reading answer c.args.host.now new t.0 t.1) (sym (c.replied_at.ensures.told (seen new).now)) (
          (λ intact.
              let i3 = done.intact intact in
              let i2 = served.within.intact i3 in
              let i1 = stamped.goes_on.within.intact i2 in
              let (was, o1) = begun.opens i1 in
              let o2 = stamped.goes_on.opens o1 i2 in
              let (o3, o4) = done.opens intact in (
                was,
                o4,
                subst (λ (y : Tables). AppliedAs c.args.reading answer old.now y m (composed_in y c.in-Kept.composed)) (sym (done.done intact).now)
                    (applied_as c.args.reading m answer _ old.now _ _ _ _ (begun.same i1)
                    (stamped.goes_on.within.limits ∙ begun.within.limits ∙ sym (c.requires.rest (begun.within.intact i1, was)).limits) (stamped.stamps (i2, o2)) (it.served.1 (i3, o3))),
              )),
          (λ intact x leaves. done.survives intact x leaves ∙ sym (done.done intact).now),
        ),
      );
    }

pub returns-in_ok-commit-in-Kept-clause-measured : goal.returns-in_ok-commit-in-Kept-clause-measured
returns-in_ok-commit-in-Kept-clause-measured g c clean =
    let served = rw c.in-Kept.is at c.in_ok-composed.ensures in
    let done = c.in_ok-commit-in-Kept.ensures in
    let tables = (g.H.Storage.seen c.serve.new.host).now in
    subst (λ (t : Tables). IsToldMeasured t c.replied_at.result) (sym (done.done clean.0).now) (c.replied_at.ensures.measured tables (served.measured (done.intact clean.0, done.opened clean.0 clean.1)))
