use Rattle.std.proofs.Common.{◌≡◌, ◌++◌, flat_map, drop}
use Rattle.bh_base.specs.Connections.{state}
use Rattle.bh_base.specs.Layer.{standing, IsIntact, IsOpen, IsStateClean, StateWithin}
use Rattle.bh_schema.specs.Views.{rule_seen}
use Rattle.bh_schema.specs.Working.{tables_at}
use Rattle.bh_uploads.specs.Purging.{stale_by}
use Rattle.bh_uploads.proofs.purge.stale_of_rules.Given as goal

-- the numbers so far, and then those of the other rules, are all
abbrev pub invariant-loop-rule : goal.invariant-loop-rule
invariant-loop-rule g l = record {
  within : StateWithin (state g.S.Store g.P.Shelf l.fn.connection) (state g.S.Store g.P.Shelf l.connection);
  opens : IsIntact (state g.S.Store g.P.Shelf l.connection) → IsOpen (state g.S.Store g.P.Shelf l.fn.connection) → IsOpen (state g.S.Store g.P.Shelf l.connection);
  same : IsIntact (state g.S.Store g.P.Shelf l.connection) → standing (state g.S.Store g.P.Shelf l.connection) ≡ standing (state g.S.Store g.P.Shelf l.fn.connection);
  numbers : IsStateClean (state g.S.Store g.P.Shelf l.connection)
      → l.numbers.items ++ flat_map (λ rule. stale_by l.tenant l.at (tables_at (state g.S.Store g.P.Shelf l.fn.connection)).uploads (rule_seen rule)) (drop l.rule-index l.fn.rules)
      ≡ flat_map (λ rule. stale_by l.tenant l.at (tables_at (state g.S.Store g.P.Shelf l.fn.connection)).uploads (rule_seen rule)) l.fn.rules;
}
