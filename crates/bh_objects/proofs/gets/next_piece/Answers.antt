use Rattle.std.proofs.Common.{rules, ◌≡◌, Bool, IsTrue, not, inl, inr, ap, ◌∙◌}
use Rattle.std.proofs.lemmas.Bool.{cases_Bool}
use Rattle.sqlite.specs.Held.{state}
use Rattle.sqlite.specs.State.{State}
use Rattle.bh_base.specs.Placed.{filled}
use Rattle.bh_base.specs.Shown.{Backing, named, shown}
use Rattle.bh_base.specs.Connections.{backing}
use Rattle.bh_base.specs.Layer.{standing, IsOpen, IsStateClean, IsStandingSettled}
use Rattle.bh_objects.proofs.Working.{none_called}
use Rattle.bh_objects.proofs.gets.next_piece.Goals as goal

-- outside a transaction, what an open connection sees was committed, with the bytes of its packs
settled_shown : (a : Backing) (s : State) (autocommit : Bool) → autocommit ≡ not s.in_transaction → (IsTrue autocommit → IsTrue s.is_open → s.now ≡ s.committed) → IsStateClean (shown a s) → IsStandingSettled (standing (shown a s))
unfolding IsOpen standing
settled_shown a s autocommit is settled clean = elim (cases_Bool s.in_transaction) [
  | inl inside ↦ inl inside
  | inr outside ↦ inr (ap (λ inside. filled (named a inside) s.now) outside ∙ ap (filled a.kept) (settled (is ∙ ap not outside) clean.is_open))
]

pub returns-then-plan-ge-COUNTER_END-clause-reads : goal.returns-then-plan-ge-COUNTER_END-clause-reads
returns-then-plan-ge-COUNTER_END-clause-reads g c = record {
  within =
      let a = backing g.P.Shelf c.args.connection.now.packs in
      let s = state g.S.Store c.args.connection.now.database in
      none_called (shown a s) (settled_shown a s c.is_autocommit-outside.result c.is_autocommit-outside.ensures.value c.is_autocommit-outside.ensures.settled);
  opens = search rules;
  same = search rules;
}

pub next_piece-requires-clause-reads : goal.next_piece-requires-clause-reads
next_piece-requires-clause-reads g c clean = record {
  settled = settled_shown (backing g.P.Shelf c.args.connection.now.packs) (state g.S.Store c.args.connection.now.database) c.is_autocommit-outside.result c.is_autocommit-outside.ensures.value c.is_autocommit-outside.ensures.settled clean;
  host = c.requires.host clean;
}
