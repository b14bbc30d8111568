use Rattle.std.proofs.Common.{refl, sym, ap, subst, ◌∙◌}
use Rattle.sqlite.specs.Files.{over_files}
use Rattle.bh_view.specs.Bodies.{IsSoundHost}
use Rattle.bh_storage.specs.Calls.{Seen, IsAtRest}
use Rattle.bh_memo.proofs.Recalling.{same_limits}
use Rattle.bh_base.specs.Connections.{state}
use Rattle.bh_schema.specs.Storage.{beside, seen_in}
use Rattle.bh_schema.proofs.Storing.{both, parts, beside_limits}
use Rattle.bh_kept.specs.Kept as kept
use Rattle.bh_kept.proofs.Keeping.{back_kept}
use Rattle.bh_kept.proofs.Looking.{outside, still_again}
use Rattle.bh_kept.proofs.storage.KeptHostBackUp.drop_packs.Goals as goal

pub drop_idle-requires : goal.drop_idle-requires
drop_idle-requires g c clean =
    let host = c.in-Some.it.host in
    let rest = subst (λ o. kept.IsIntact g.P.Shelf o × kept.IsOpen g.P.Shelf o → IsAtRest (IsSoundHost g.G.Digester.digest_of) (kept.seen g.P.Shelf c.args.self.now.limits o)) c.in-Some.is c.requires in
    outside c.in-Some.it.memo host.cache host.limits (state over_files g.P.Shelf host.connection) (rest (parts clean))

pub returns-in-Some-clause-intact : goal.returns-in-Some-clause-intact
returns-in-Some-clause-intact g c intact = subst (λ o. kept.IsIntact g.P.Shelf o) (sym c.in-Some.is) (c.drop_idle.ensures.follows.intact intact)

pub returns-in-Some-clause-stays : goal.returns-in-Some-clause-stays
returns-in-Some-clause-stays g c =
    let it = c.in-Some.it in
    let host = it.host in
    let rest = subst (λ o. kept.IsIntact g.P.Shelf o × kept.IsOpen g.P.Shelf o → IsAtRest (IsSoundHost g.G.Digester.digest_of) (kept.seen g.P.Shelf c.args.self.now.limits o)) c.in-Some.is c.requires in
    let old = state over_files g.P.Shelf host.connection in
    let new = state over_files g.P.Shelf c.drop_idle.new.connection in
    back_kept c.args.self.now _ it _ c.in-Some.is refl (record {
      same = λ intact up.
          let before = parts (c.drop_idle.ensures.follows.clean (both (intact, up))) in
          (before.1, ap (λ (s : Seen). s.now) (still_again it.memo host.cache host.limits old (rest before) new (c.drop_idle.ensures.rests (both (intact, up)))));
      survives = c.drop_idle.ensures.left;
    })

pub returns-in-Some-clause-ready : goal.returns-in-Some-clause-ready
returns-in-Some-clause-ready g c clean =
    let it = c.in-Some.it in
    let host = it.host in
    let rest = subst (λ o. kept.IsIntact g.P.Shelf o × kept.IsOpen g.P.Shelf o → IsAtRest (IsSoundHost g.G.Digester.digest_of) (kept.seen g.P.Shelf c.args.self.now.limits o)) c.in-Some.is c.requires in
    let before = rest (parts (c.drop_idle.ensures.follows.clean (both clean))) in
    subst (IsAtRest (IsSoundHost g.G.Digester.digest_of)) (sym (still_again it.memo host.cache host.limits (state over_files g.P.Shelf host.connection) before (state over_files g.P.Shelf c.drop_idle.new.connection) (c.drop_idle.ensures.rests (both clean)))) before

pub returns-in-Some-clause-limits : goal.returns-in-Some-clause-limits
returns-in-Some-clause-limits g c =
    let it = c.in-Some.it in
    let host = it.host in
    let old = state over_files g.P.Shelf host.connection in
    let new = state over_files g.P.Shelf c.drop_idle.new.connection in
    let same = same_limits it.memo (beside host.cache (seen_in host.limits new)) ∙ beside_limits host.cache host.cache host.limits old new ∙ sym (same_limits it.memo (beside host.cache (seen_in host.limits old))) in
    same ∙ ap (λ o. (kept.seen g.P.Shelf c.args.self.now.limits o).limits) (sym c.in-Some.is)

pub returns-in-Some-clause-lost : goal.returns-in-Some-clause-lost
returns-in-Some-clause-lost g c = ap (λ o. kept.is_lost o) (sym c.in-Some.is)
