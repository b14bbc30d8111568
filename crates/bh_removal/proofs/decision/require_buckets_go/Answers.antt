use Rattle.std.proofs.Common.{rules, refl}
use Rattle.bh_base.specs.Connections.{state}
use Rattle.bh_objects.proofs.Working.{no_call, asked_working}
use Rattle.bh_removal.proofs.decision.require_buckets_go.Goals as goal

pub returns-then-with_objects-clause-works : goal.returns-then-with_objects-clause-works
returns-then-with_objects-clause-works g c = record {
  within = search rules;
  opens = search rules;
  working =
      let s = state g.S.Store g.P.Shelf c.args.connection.now in
      asked_working s s c.requires (no_call s (λ clean. (c.requires clean).inside)) (λ intact. refl);
}
