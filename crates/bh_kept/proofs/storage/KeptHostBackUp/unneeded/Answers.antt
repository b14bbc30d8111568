use Rattle.std.proofs.Common.{refl, sym, ap, subst, ◌∙◌}
use Rattle.sqlite.specs.Files.{over_files}
use Rattle.bh_view.specs.Bodies.{IsSoundHost}
use Rattle.bh_storage.specs.Calls.{Seen, IsAtRest}
use Rattle.bh_memo.proofs.Recalling.{same_limits}
use Rattle.bh_base.specs.Connections.{state}
use Rattle.bh_schema.specs.Garbage.{garbage_in}
use Rattle.bh_schema.specs.Storage.{beside, seen_in}
use Rattle.bh_schema.proofs.Storing.{both, parts, left_less, beside_limits}
use Rattle.bh_connection.specs.Backups.{unneeded_of}
use Rattle.bh_kept.specs.Kept as kept
use Rattle.bh_kept.proofs.Held.{if_some}
use Rattle.bh_kept.proofs.Keeping.{back_kept}
use Rattle.bh_kept.proofs.Looking.{has_host, shows, still}
use Rattle.bh_kept.proofs.storage.KeptHostBackUp.unneeded.Goals as goal

pub count-requires : goal.count-requires
count-requires g c clean =
    let host = c.in-Some.it.host in
    let rest = subst (λ o. kept.IsIntact g.P.Shelf o × kept.IsOpen g.P.Shelf o → IsAtRest (IsSoundHost g.G.Digester.digest_of) (kept.seen g.P.Shelf c.args.self.now.limits o)) c.in-Some.is c.requires in
    has_host c.in-Some.it.memo host.cache host.limits (state over_files g.P.Shelf host.connection) (rest (parts clean))

pub returns-in-Some-clause-intact : goal.returns-in-Some-clause-intact
returns-in-Some-clause-intact g c intact = subst (λ o. kept.IsIntact g.P.Shelf o) (sym c.in-Some.is) (c.count.ensures.intact intact)

pub returns-in-Some-clause-stays : goal.returns-in-Some-clause-stays
returns-in-Some-clause-stays g c =
    let it = c.in-Some.it in
    let host = it.host in
    let rest = subst (λ o. kept.IsIntact g.P.Shelf o × kept.IsOpen g.P.Shelf o → IsAtRest (IsSoundHost g.G.Digester.digest_of) (kept.seen g.P.Shelf c.args.self.now.limits o)) c.in-Some.is c.requires in
    let old = state over_files g.P.Shelf host.connection in
    let new = state over_files g.P.Shelf c.count.new.connection in
    back_kept c.args.self.now _ it _ c.in-Some.is refl (record {
      same = λ intact up.
          let before = parts (c.count.ensures.clean (both (intact, up))) in
          (before.1, ap (λ (s : Seen). s.now) (still it.memo host.cache host.limits old (rest before) new (c.count.ensures.back (both (intact, up)))));
      survives = λ intact. left_less old new (c.count.ensures.survives intact);
    })

pub returns-in-Some-clause-ready : goal.returns-in-Some-clause-ready
returns-in-Some-clause-ready g c clean =
    let it = c.in-Some.it in
    let host = it.host in
    let rest = subst (λ o. kept.IsIntact g.P.Shelf o × kept.IsOpen g.P.Shelf o → IsAtRest (IsSoundHost g.G.Digester.digest_of) (kept.seen g.P.Shelf c.args.self.now.limits o)) c.in-Some.is c.requires in
    let before = rest (parts (c.count.ensures.clean (both clean))) in
    subst (IsAtRest (IsSoundHost g.G.Digester.digest_of)) (sym (still it.memo host.cache host.limits (state over_files g.P.Shelf host.connection) before (state over_files g.P.Shelf c.count.new.connection) (c.count.ensures.back (both clean)))) before

pub returns-in-Some-clause-limits : goal.returns-in-Some-clause-limits
returns-in-Some-clause-limits g c =
    let it = c.in-Some.it in
    let host = it.host in
    let old = state over_files g.P.Shelf host.connection in
    let new = state over_files g.P.Shelf c.count.new.connection in
    let same = same_limits it.memo (beside host.cache (seen_in host.limits new)) ∙ beside_limits host.cache host.cache host.limits old new ∙ sym (same_limits it.memo (beside host.cache (seen_in host.limits old))) in
    same ∙ ap (λ o. (kept.seen g.P.Shelf c.args.self.now.limits o).limits) (sym c.in-Some.is)

pub returns-in-Some-clause-lost : goal.returns-in-Some-clause-lost
returns-in-Some-clause-lost g c = ap (λ o. kept.is_lost o) (sym c.in-Some.is)

pub returns-in-Some-clause-counted : goal.returns-in-Some-clause-counted
returns-in-Some-clause-counted g c =
    let it = c.in-Some.it in
    let host = it.host in
    let rest = subst (λ o. kept.IsIntact g.P.Shelf o × kept.IsOpen g.P.Shelf o → IsAtRest (IsSoundHost g.G.Digester.digest_of) (kept.seen g.P.Shelf c.args.self.now.limits o)) c.in-Some.is c.requires in
    if_some c.count.result
    (λ n is clean.
    let before = rest (parts (c.count.ensures.clean (both clean))) in
    is (both clean) ∙ sym (ap garbage_in (shows it.memo host.cache host.limits (state over_files g.P.Shelf host.connection) before)) ∙ ap (λ o. unneeded_of (kept.seen g.P.Shelf c.args.self.now.limits o).now) (sym c.in-Some.is)) c.count.ensures.counted
