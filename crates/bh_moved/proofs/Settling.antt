-- A transaction that is begun on a host's database, and taken back; how a move is refused.
use Rattle.std.proofs.Common.{◌≡◌, true, false, true≢false, Option, Some, None, is_some, refl, sym, ap, subst}
use Rattle.sqlite.specs.State.{State}
use Rattle.bh_types.specs.declared.refusal.Refusal.TheVariants.{NoSuchTenant, TenantExists}
use Rattle.bh_model.specs.State as model
use Rattle.bh_tables.specs.Typed.{tables_in}
use Rattle.bh_base.specs.Layer.{Standing, standing, IsIntact, IsStateClean, IsInside, StateWithin, begun, committed, taken_back}
use Rattle.bh_schema.specs.Working.{tables_at}
use Rattle.bh_moved.specs.Moves.{IsSettled, IsCommitted, move_refused}

module _ (old new : State) (begins : IsIntact new → standing new ≡ begun (standing old)) where
  pub begun_inside : (IsStateClean old → IsSettled (standing old)) → StateWithin old new → IsStateClean new → IsInside (standing new)
  begun_inside ready within clean = subst IsInside (sym (begins clean.intact)) (record { inside = refl; host = (ready (within.follows.clean clean)).host })

  pub begun_tables : IsStateClean new → tables_at new ≡ tables_at old
  begun_tables clean = ap (λ (x : Standing). tables_in x.now) (begins clean.intact)

pub back_again : (old mid : Standing) → mid.kept ≡ old.kept → mid.limit ≡ old.limit → taken_back mid ≡ taken_back old
back_again old mid kept limit = λ i. record { now = kept i; kept = kept i; inside = false; limit = limit i }

pub is_committed : (old new : Standing) → new ≡ committed old → IsCommitted new
is_committed old new is = subst IsCommitted (sym is) (record { outside = refl; kept = refl })

-- ---- refusals

pub refused_missing : (given there : Option model.State) → is_some given ≡ false → Some NoSuchTenant ≡ move_refused given there
refused_missing None there h = refl
refused_missing (Some s) there h = absurd (true≢false h)

pub refused_there : (given there : Option model.State) → is_some given ≡ true → is_some there ≡ true → Some TenantExists ≡ move_refused given there
refused_there None there h k = absurd (true≢false (sym h))
refused_there (Some s) None h k = absurd (true≢false (sym k))
refused_there (Some s) (Some u) h k = refl

pub refused_not : (given there : Option model.State) → is_some given ≡ true → is_some there ≡ false → None ≡ move_refused given there
refused_not None there h k = absurd (true≢false (sym h))
refused_not (Some s) None h k = refl
refused_not (Some s) (Some u) h k = absurd (true≢false k)
