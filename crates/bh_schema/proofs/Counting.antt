-- A text that adds up a tenant's rows, in a transaction, adds up those of the tables.
use Rattle.bh_base.specs.Shown.{Backing, shown}
use Rattle.bh_base.proofs.Apart.{buckets_apart, keys_apart, uploads_apart}
use Rattle.std.proofs.Common.{ℕ, List, [], ◌∷◌, Result, IfOk, IfErr}
use Rattle.sqlite.specs.declared.types.Value.TheVariants.{Text}
use Rattle.sqlite.specs.State.{State, HasCleanDisk, Survives, CommitsShowing, Shown, FailsToQuery}
use Rattle.sqlite.specs.Order.{Row}
use Rattle.sqlite.specs.declared.error.Error.{Error}
use Rattle.bh_tables.specs.Schema.{Octets}
use Rattle.bh_tables.specs.Typed.{totals_of, tables}
use Rattle.bh_tables.proofs.Places as place
use Rattle.bh_base.specs.Layer.{standing, IsInside, IsStateClean}
use Rattle.bh_schema.specs.Counted.{how_many, IsTextOf}
use Rattle.bh_schema.specs.declared.rows.counts.TenantSum.{TenantSum}
use Rattle.bh_schema.specs.declared.rows.counts.TenantSum.TheVariants as sum
use Rattle.bh_base.proofs.Calls.{Total, counted}
use Rattle.bh_schema.proofs.PartCalls as part

module _ {X : Type 0} (a : Backing) (stored_old stored_new : State) (inside : IsStateClean (shown a stored_old) → IsInside (standing (shown a stored_old))) (rows_in : X → List Row) (result : Result X Error) (t : Octets) where
  pub sums : (which : TenantSum) (sql : List ℕ) → IsTextOf which sql → (HasCleanDisk stored_new → IfOk result (λ x. Shown sql (Text t ∷ []) stored_old stored_new (rows_in x))) → (HasCleanDisk stored_new → IfErr result (FailsToQuery sql (Text t ∷ []) stored_old stored_new)) → Survives stored_old stored_new (CommitsShowing sql (Text t ∷ []) stored_old)
      → Total (shown a stored_old) (shown a stored_new) rows_in (how_many which t) result
  sums sum.Keys sql it = counted place.keys (λ _. keys_apart) a stored_old stored_new inside rows_in result (it t)
  sums sum.Buckets sql it = counted place.buckets (λ _. buckets_apart) a stored_old stored_new inside rows_in result (it t)
  sums sum.Uploads sql it = counted place.uploads (λ _. uploads_apart) a stored_old stored_new inside rows_in result (it (totals_of (tables (shown a stored_old))) t)
  sums sum.PartBytes sql it = part.summed a stored_old stored_new inside rows_in result (it t)
