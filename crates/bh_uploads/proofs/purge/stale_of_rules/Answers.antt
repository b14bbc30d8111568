use Rattle.std.proofs.Common.{rules, arith, ◌≡◌, ◌++◌, ◌+◌, ℕ, List, drop, flat_map, sym, ap, ◌∙◌, subst}
use Rattle.bh_base.specs.Connections.{state}
use Rattle.bh_tables.specs.Typed.{tables_in}
use Rattle.bh_base.specs.Layer.{Standing, IsInside}
use Rattle.bh_schema.specs.Views.{rule_seen}
use Rattle.bh_schema.specs.Working.{tables_at}
use Rattle.bh_schema.specs.declared.rows.rules.BucketRule.{BucketRule}
use Rattle.bh_schema.proofs.Storing.{within_then}
use Rattle.bh_uploads.specs.Purging.{stale_by}
use Rattle.bh_uploads.proofs.Taking.{flat_next, flat_all}
use Rattle.bh_uploads.proofs.purge.stale_of_rules.Goals as goal

pub rule_stale-requires : goal.rule_stale-requires
rule_stale-requires g c = record { inside = λ clean. subst IsInside (sym (c.loop-rule.invariant.same clean.intact)) (c.requires.inside (c.loop-rule.invariant.within.follows.clean clean)) }

pub returns-in_err-found-clause-reads : goal.returns-in_err-found-clause-reads
returns-in_err-found-clause-reads g c = record {
  within = within_then _ _ _ c.loop-rule.invariant.opens c.loop-rule.invariant.within c.in_err-found.ensures.reads.within;
  opens = search rules;
  same = search rules;
}

pub returns-in_err-append-clause-reads : goal.returns-in_err-append-clause-reads
returns-in_err-append-clause-reads g c = record {
  within = within_then _ _ _ c.loop-rule.invariant.opens c.loop-rule.invariant.within c.in_ok-found.ensures.reads.within;
  opens = search rules;
  same = search rules;
}

pub loop-rule-preserved : goal.loop-rule-preserved
loop-rule-preserved g c =
    let inv = c.loop-rule.invariant in
    let step = c.in_ok-found.ensures in
    let old = tables_at (state g.S.Store g.P.Shelf c.args.connection.now) in
    let f : BucketRule → List ℕ = λ rule. stale_by c.args.tenant.now c.args.at old.uploads (rule_seen rule) in
    let i = c.loop-rule.rule-index in
    record {
      within = within_then _ _ _ inv.opens inv.within step.reads.within;
      opens = λ intact up. step.reads.opens intact (inv.opens (step.reads.within.follows.intact intact) up);
      same = λ intact. step.reads.same intact ∙ inv.same (step.reads.within.follows.intact intact);
      numbers = λ clean.
          let was = step.reads.within.follows.clean clean in
          let same : tables_at (state g.S.Store g.P.Shelf c.loop-rule.connection) ≡ old = ap (λ (x : Standing). tables_in x.now) (inv.same was.intact) in
          ap (λ l. l ++ flat_map f (drop (i + 1) c.args.rules.now)) c.in_ok-append.ensures
          ∙ flat_next f c.args.rules.now i _ _ c.loop-rule.numbers.items c.in_ok-found.found.items _ c.loop-rule-test.true c.rule-item.is
          (step.numbers clean ∙ (λ j. stale_by c.args.tenant.now c.args.at (same j).uploads (rule_seen c.rule-item.result))) (inv.numbers was);
    }

pub returns-clause-numbers : goal.returns-clause-numbers
returns-clause-numbers g c clean =
    let old = tables_at (state g.S.Store g.P.Shelf c.args.connection.now) in
    flat_all (λ rule. stale_by c.args.tenant.now c.args.at old.uploads (rule_seen rule)) c.args.rules.now c.loop-rule.rule-index c.loop-rule.numbers.items _ (λ low. let end = c.loop-rule-test.false in omega (arith, low, end)) (c.loop-rule.invariant.numbers clean)
