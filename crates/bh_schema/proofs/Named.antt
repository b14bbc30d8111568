-- A row that a tenant has by name goes, in a transaction.
use Rattle.bh_base.specs.Shown.{Backing, shown}
use Rattle.bh_base.proofs.Apart.{keys_apart, locks_apart}
use Rattle.std.proofs.Common.{ℕ, List, [], ◌∷◌, true, ◌≡◌, Result, refl}
use Rattle.sqlite.specs.declared.types.Value.TheVariants.{Text}
use Rattle.sqlite.specs.State.{State, HasCleanDisk, IsLive, Survives, Executes, CommitsBy}
use Rattle.sqlite.specs.declared.error.Error.{Error}
use Rattle.bh_rows.specs.Means.{is_trouble}
use Rattle.bh_tables.specs.Schema.{Octets}
use Rattle.bh_tables.proofs.KeyTexts.{keys_unused}
use Rattle.bh_tables.proofs.LockTexts.{locks_unused}
use Rattle.bh_tables.proofs.Places as place
use Rattle.bh_base.specs.Layer.{standing, IsInside, IsStateClean}
use Rattle.bh_schema.specs.Named.{without_named, IsTextOf}
use Rattle.bh_schema.specs.declared.rows.named.Named.{Named}
use Rattle.bh_schema.specs.declared.rows.named.Named.TheVariants as named
use Rattle.bh_base.proofs.Calls.{Write, deleted}

module _ (a : Backing) (stored_old stored_new : State) (inside : IsStateClean (shown a stored_old) → IsInside (standing (shown a stored_old))) (result : Result ℕ Error) (live : IsLive stored_old) (t n : Octets) where
  pub named_gone : (row : Named) (sql : List ℕ) → IsTextOf row sql → (HasCleanDisk stored_new → Executes sql (Text t ∷ Text n ∷ []) stored_old stored_new result) → Survives stored_old stored_new (CommitsBy sql (Text t ∷ Text n ∷ []) stored_old)
      → Write (shown a stored_old) (shown a stored_new) (without_named row t n) (λ e. is_trouble e ≡ true) result
  named_gone named.Key sql it = deleted place.keys (λ _. keys_apart) a stored_old stored_new inside (λ t l. refl) result live (it t n) (λ sums. keys_unused {sums = sums})
  named_gone named.Lock sql it = deleted place.locks (λ _. locks_apart) a stored_old stored_new inside (λ t l. refl) result live (it t n) (λ sums db host. locks_unused db.trees)
