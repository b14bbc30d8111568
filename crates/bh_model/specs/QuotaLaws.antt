-- Evidence that a tenant's quota holds.
use Rattle.std.specs.Prelude.{◌≡◌, ℕ, ◌^◌, ◌≤◌, max, Option, Some, None, Result, IfOk}
use Rattle.bh_model.specs.State.{State, used}

-- ---- against the quota

-- the quota is unchanged, and the use is then at most what it was, or at most the quota; no tenant
-- is added or removed
abbrev pub FitsQuota : Option State → Option State → Type 0
FitsQuota None None = Unit {0}
FitsQuota None (Some t) = ⊥
FitsQuota (Some s) None = ⊥
FitsQuota (Some s) (Some t) = (t.quota ≡ s.quota) × (used t ≤ max (used s) s.quota)

-- a tenant's use in bytes; one that doesn't exist uses nothing
abbrev pub used_by : Option State → ℕ
used_by None = 0
used_by (Some t) = used t

-- the use is no greater than before
abbrev pub UsesNoMore : Option State → Option State → Type 0
UsesNoMore s t = used_by t ≤ used_by s

-- ---- against the greatest quota

-- the tenant's quota is at most 2^60 bytes, and so is its use
abbrev pub IsBounded : Option State → Type 0
IsBounded None = Unit {0}
IsBounded (Some t) = (t.quota ≤ 2 ^ 60) × (used t ≤ 2 ^ 60)

abbrev pub StaysBounded : {X E : Type 0} → (Option State → Result (X × Option State) E) → Type 0
StaysBounded change = (s : Option State) → IsBounded s → IfOk (change s) (λ o. IsBounded o.1)
