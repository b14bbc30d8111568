-- A tenant's row, and what its numbers are while its rows come.
use Rattle.std.proofs.Common.{◌≡◌, ℕ, true, false, ◌||◌, cond, List, [], ◌∷◌, ◌++◌, ap, ◌∙◌, subst}
use Rattle.std.specs.List.{list_any}
use Rattle.sqlite_keyed.specs.Lists.{update_where}
use Rattle.bh_model.specs.State.{Octets}
use Rattle.bh_tables.specs.Typed.{TenantRow, Tables}
use Rattle.bh_tables.specs.Shown.{is_tenant}
use Rattle.bh_view.proofs.GroupedLemmas.{is_itself}
use Rattle.bh_view.proofs.Keys.{octets}
use Rattle.bh_tenant_rows.specs.Brought.{IsNext}

-- the tenants are the same
pub next_same : (t : Octets) (next : ℕ) (old new : Tables) → old.tenants ≡ new.tenants → IsNext t next old → IsNext t next new
next_same t next old new same is = subst (λ l. update_where (is_tenant t) (λ r. record r { next_entry = next }) l ≡ l) same is

-- a row after those of others is the only one that is updated
pub update_last : (t : Octets) (f : TenantRow → TenantRow) (rows : List TenantRow) (r : TenantRow) → list_any (is_tenant t) rows ≡ false → r.tenant ≡ t → update_where (is_tenant t) f (rows ++ r ∷ []) ≡ rows ++ f r ∷ []
update_last t f [] r none own = ap (λ b. cond b (f r) r ∷ []) (ap (λ q. is_tenant t (record r { tenant = q })) own ∙ is_itself octets t)
update_last t f (x ∷ xs) r none own =
    elim (is_tenant t x) as (λ b. (b || list_any (is_tenant t) xs) ≡ false → cond b (f x) x ∷ update_where (is_tenant t) f (xs ++ r ∷ []) ≡ x ∷ (xs ++ f r ∷ [])) [
      | true ↦ λ some. absurd (cc)
      | false ↦ λ rest. ap (λ l. x ∷ l) (update_last t f xs r rest own)
    ] none
