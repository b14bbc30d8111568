-- Limits of a tenant's use.
use Rattle.std.specs.Prelude.{ℕ, List, Option}
use Rattle.bh_event.specs.Events.{AddTenant, SetQuota, RemoveTenant}
use Rattle.bh_model.specs.QuotaLaws.{FitsQuota, UsesNoMore, IsBounded}
use Rattle.bh_model.specs.Runs.{solo_state}
use Rattle.bh_model.specs.State.{State, absent}
use Rattle.bh_types.specs.Limits.{HostLimits}
use Rattle.bh_machine.specs.Machine.{Act, Act.Commanded, step}

-- only the operator's commands that set a quota, or remove the tenant, change it; the use is then no greater
abbrev pub KeepsQuota : Act → Option State → Option State → Type 0
KeepsQuota (Commanded (AddTenant tenant quota)) s t = UsesNoMore s t
KeepsQuota (Commanded (SetQuota tenant quota)) s t = UsesNoMore s t
KeepsQuota (Commanded (RemoveTenant tenant with_objects)) s t = UsesNoMore s t
KeepsQuota act s t = FitsQuota s t

-- no step, whatever its act is, takes a tenant above its quota
abbrev pub StepsKeepQuota : Type 0
StepsKeepQuota = (limits : HostLimits) (now : ℕ) (act : Act) (s : Option State) → KeepsQuota act s (step limits now act s).1

-- none takes a tenant above 2^60 bytes
abbrev pub StepsStayBounded : Type 0
StepsStayBounded = (limits : HostLimits) (now : ℕ) (act : Act) (s : Option State) → IsBounded s → IsBounded (step limits now act s).1

-- so no run does that begins before the tenant was added
abbrev pub RunsStayBounded : Type 0
RunsStayBounded = (limits : HostLimits) (acts : List (ℕ × Act)) → IsBounded (solo_state (step limits) absent acts)
