-- What a connection shows of which packs went that no place names.
use Rattle.std.proofs.Common.{◌≡◌, inl, inr, Bool, not, IsTrue, true≢false, sym, ap, subst, ◌∙◌}
use Rattle.sqlite.specs.State.{State, IsLive}
use Rattle.bh_shelf.specs.Contents.{Within}
use Rattle.bh_tables.specs.Hosts.{tables_shown}
use Rattle.bh_tables.specs.Typed.{IsHost, tables_in}
use Rattle.bh_tables.proofs.HostTests.{host_shows}
use Rattle.bh_base.specs.Layer.{standing, IsIntact, IsOpen, IsStateClean, IsStandingSettled, Leaves}
use Rattle.bh_base.specs.Placed.{IsWhole, filled, filled_trees}
use Rattle.bh_base.specs.Removal.{IsAtRest, LeavesTables}
use Rattle.bh_base.specs.Shown.{Backing, named, shown}
use Rattle.bh_base.proofs.Lifting.{open_shown}
use Rattle.bh_base.proofs.Placing.{same_trees}
use Rattle.bh_base.proofs.TurnLemmas.{settled_by}
use Rattle.bh_schema.specs.Storage.{left_in}
use Rattle.bh_kept.specs.Freeing.{IsOutside, ShowsNothingNew}

-- ---- at rest

module _ (a : Backing) (s : State) where
  at_rest : IsStandingSettled (standing s) → IsOutside (standing (shown a s)) → IsAtRest (standing (shown a s))
  unfolding standing
  at_rest (inl inside) it = absurd (true≢false (sym inside ∙ it.outside))
  at_rest (inr settled) it = record {
    outside = it.outside;
    settled = ap (λ inside. filled (named a inside) s.now) it.outside ∙ ap (filled a.kept) settled;
    host = it.host;
  }

  -- outside a transaction, what stands was committed
  pub rests : (autocommit : Bool) → autocommit ≡ not s.in_transaction → (IsTrue autocommit → IsTrue s.is_open → s.now ≡ s.committed) → (IsStateClean (shown a s) → IsOutside (standing (shown a s)))
      → IsStateClean (shown a s) → IsAtRest (standing (shown a s))
  rests autocommit value settled outside clean = at_rest (settled_by s autocommit value settled (open_shown a s clean.is_open)) (outside clean)

  -- a crash may leave what was committed
  pub may_stay : Within a.kept a.stood → (IsTrue s.is_open → s.may_leave s.committed.trees) → IsLive s → (IsStateClean (shown a s) → IsAtRest (standing (shown a s))) → IsStateClean (shown a s)
      → left_in (shown a s) (tables_in (standing (shown a s)).now)
  unfolding left_in Leaves standing filled_trees IsOpen
  may_stay has may live rested clean =
      let rest = rested clean in
      let up : IsTrue s.is_open = clean.is_open in
      let whole : IsWhole (filled a.kept s.committed) = subst IsWhole rest.settled rest.host.held.blocks in
      let same : filled_trees a.kept s.committed.trees ≡ filled_trees a.stood s.committed.trees = same_trees a.kept a.stood s.committed.trees whole has in
      let tables : tables_in (filled (named a s.in_transaction) s.now) ≡ tables_shown (filled a.kept s.committed) =
      ap tables_in rest.settled ∙ sym (host_shows (filled a.kept s.committed) (subst IsHost rest.settled rest.host)) in
      (filled a.kept s.committed, (s.committed.trees, a.stood, may up, (λ pack offset size bytes it. it), same), (live up).1.lists, tables)

-- two calls, each of which leaves the tables as they were
pub left_both : (a b c : State) → (IsStateClean b → IsStateClean a) → (IsIntact c → IsIntact b) → (IsStateClean b → tables_in (standing b).now ≡ tables_in (standing a).now) → LeavesTables (tables_in (standing a).now) a b → LeavesTables (tables_in (standing b).now) b c → LeavesTables (tables_in (standing a).now) a c
left_both a b c clean was same one two intact db leaves lists = elim (two intact db leaves lists) [
  | inl before ↦ one (was intact) db before lists
  | inr (up, host, is) ↦ let mid : IsStateClean b = record { intact = was intact; is_open = up } in inr ((clean mid).is_open, host, is ∙ same mid)
]

-- so what it leaves after packs went was possible before
pub left_still : (old new : State) → LeavesTables (tables_in (standing old).now) old new → (IsIntact new → IsIntact old) → (IsStateClean old → left_in old (tables_in (standing old).now)) → ShowsNothingNew old new
unfolding left_in
left_still old new left was stays intact x (db, leaves, lists, is) = elim (left intact db leaves lists) [
  | inl before ↦ (db, before, lists, is)
  | inr (up, host, same) ↦ subst (left_in old) (sym (is ∙ host_shows db host ∙ same)) (stays (record { intact = was intact; is_open = up }))
]
