-- A text that shows a tenant's rows of a table, in a transaction, reads those of the tables.
use Rattle.bh_base.specs.Shown.{Backing, shown}
use Rattle.bh_base.proofs.Apart.{buckets_apart, keys_apart, locks_apart, retains_apart, uploads_apart}
use Rattle.std.proofs.Common.{ℕ, List, [], ◌∷◌, Result, IfOk, IfErr}
use Rattle.sqlite.specs.declared.types.Value.TheVariants.{Text}
use Rattle.sqlite.specs.State.{State, HasCleanDisk, Survives, CommitsShowing, Shown, FailsToQuery}
use Rattle.sqlite.specs.Order.{Row}
use Rattle.sqlite.specs.declared.error.Error.{Error}
use Rattle.bh_tables.specs.Schema.{Octets}
use Rattle.bh_tables.specs.Typed.{totals_of, tables}
use Rattle.bh_tables.proofs.Places as place
use Rattle.bh_view.specs.View.{rows_of}
use Rattle.bh_base.specs.Layer.{standing, IsInside, IsStateClean}
use Rattle.bh_base.proofs.Calls.{Question, selected}
use Rattle.bh_schema.proofs.VersionCalls as version
use Rattle.bh_schema.proofs.PartCalls as part
use Rattle.bh_tenant_rows.specs.Owned.{shown_in, IsTextOf}
use Rattle.bh_tenant_rows.specs.declared.reads.Owned.{Owned}
use Rattle.bh_tenant_rows.specs.declared.reads.Owned.TheVariants as owned

module _ {X : Type 0} (a : Backing) (stored_old stored_new : State) (inside : IsStateClean (shown a stored_old) → IsInside (standing (shown a stored_old))) (rows_in : X → List Row) (result : Result X Error) (t : Octets) where
  pub reads_owned : (table : Owned) (sql : List ℕ) → IsTextOf table sql → (HasCleanDisk stored_new → IfOk result (λ x. Shown sql (Text t ∷ []) stored_old stored_new (rows_in x))) → (HasCleanDisk stored_new → IfErr result (FailsToQuery sql (Text t ∷ []) stored_old stored_new)) → Survives stored_old stored_new (CommitsShowing sql (Text t ∷ []) stored_old)
      → Question (shown a stored_old) (shown a stored_new) rows_in (λ tables. shown_in table (rows_of t tables)) result
  reads_owned owned.Keys sql it = selected place.keys (λ _. keys_apart) a stored_old stored_new inside rows_in result (it t)
  reads_owned owned.Buckets sql it = selected place.buckets (λ _. buckets_apart) a stored_old stored_new inside rows_in result (it t)
  reads_owned owned.Locks sql it = selected place.locks (λ _. locks_apart) a stored_old stored_new inside rows_in result (it t)
  reads_owned owned.Versions sql it = version.selected a stored_old stored_new inside rows_in result (it t)
  reads_owned owned.Uploads sql it = selected place.uploads (λ _. uploads_apart) a stored_old stored_new inside rows_in result (it (totals_of (tables (shown a stored_old))) t)
  reads_owned owned.Parts sql it = part.selected a stored_old stored_new inside rows_in result (it t)
  reads_owned owned.Retains sql it = selected place.retains (λ _. retains_apart) a stored_old stored_new inside rows_in result (it t)
