-- That no step takes a tenant above its quota, or above the greatest one.
use Rattle.std.proofs.Common.{ℕ, List, [], ◌∷◌, Option, Result, Ok, Err, arith}
use Rattle.std.specs.Result.{IfOk}
use Rattle.bh_types.specs.Limits.{HostLimits}
use Rattle.bh_types.specs.Rejections.{plainly}
use Rattle.bh_types.specs.declared.refusal.Refusal.{Refusal}
use Rattle.bh_event.specs.Events.{Order, AddTenant, SetQuota, RemoveTenant, AddKey, RemoveKey, ShowUsage, ShowKeys}
use Rattle.bh_model.specs.Operations.{Outcome, add_tenant, set_quota, remove_tenant}
use Rattle.bh_model.specs.QuotaLaws.{FitsQuota, UsesNoMore, IsBounded}
use Rattle.bh_model.specs.Runs.{purged_tenant, settled, solo_state}
use Rattle.bh_model.specs.State.{Octets, State, absent}
use Rattle.bh_operation.specs.declared.operation.Operation.{Operation}
use Rattle.bh_model.proofs.BoundLemmas.{KeepsBound, changes_fit, settings_use_no_more, purged_fits, fits_later, purge_uses_no_more, changes_keep_bound, settings_keep_bound, used_stays_bounded}
use Rattle.bh_model.proofs.RemovalLemmas.{removal_keeps_bound, removal_uses_no_more}
use Rattle.bh_machine.specs.Machine.{Act, Act.RequestRead, Act.Commanded, operated, ordered, change, step}
use Rattle.bh_machine.specs.Bounded.{StepsKeepQuota, StepsStayBounded, RunsStayBounded}
use Rattle.bh_machine.proofs.Changing.{plainly_holds, operated_as, asked_as, key_added_as, key_removed_as, usage_shown_as, keys_shown_as, ordered_as, settled_as, step_as}

-- ---- against the quota

module _ (limits : HostLimits) (now : ℕ) (s : Option State) where
  abbrev purged : Option State
  purged = purged_tenant s now

  fits : (act : Act) → IfOk (change limits now act purged) (λ o. FitsQuota purged o.1) → FitsQuota s (step limits now act s).1
  fits act h = fits_later s purged (step limits now act s).1 (purged_fits now s) (settled_as FitsQuota now (changes_fit now) purged (change limits now act purged) h)

  commanded : (order : Order) → IfOk (ordered now order purged) (λ o. FitsQuota purged o.1) → FitsQuota s (step limits now (Commanded order) s).1
  commanded order h = fits (Commanded order) (plainly_holds FitsQuota now (changes_fit now) purged (ordered now order purged) h)

  -- where the quota is set
  sets : (r : Result Outcome Refusal) → IfOk r (λ o. UsesNoMore purged o.1) → UsesNoMore s (settled purged (plainly r)).1
  sets (Ok o) h = let less = purge_uses_no_more now s in omega (arith, h, less)
  sets (Err e) h = purge_uses_no_more now s

pub steps_keep_quota : StepsKeepQuota
steps_keep_quota limits now (RequestRead answer) s = fits limits now s (RequestRead answer) (asked_as FitsQuota now (changes_fit now) (purged_tenant s now) limits answer)
steps_keep_quota limits now (Commanded (AddTenant tenant quota)) s =
    sets limits now s (add_tenant tenant quota (purged_tenant s now)) (settings_use_no_more.tenant_added tenant quota (purged_tenant s now))
steps_keep_quota limits now (Commanded (SetQuota tenant quota)) s =
    sets limits now s (set_quota tenant quota (purged_tenant s now)) (settings_use_no_more.quota_set tenant quota (purged_tenant s now))
steps_keep_quota limits now (Commanded (RemoveTenant tenant with_objects)) s =
    sets limits now s (remove_tenant now tenant with_objects (purged_tenant s now)) ((removal_uses_no_more now).tenant_removed tenant with_objects (purged_tenant s now))
steps_keep_quota limits now (Commanded (AddKey tenant name secret)) s = commanded limits now s (AddKey tenant name secret) (key_added_as FitsQuota now (changes_fit now) (purged_tenant s now) tenant name secret)
steps_keep_quota limits now (Commanded (RemoveKey tenant name)) s = commanded limits now s (RemoveKey tenant name) (key_removed_as FitsQuota now (changes_fit now) (purged_tenant s now) tenant name)
steps_keep_quota limits now (Commanded (ShowUsage tenant)) s = commanded limits now s (ShowUsage tenant) (usage_shown_as FitsQuota now (changes_fit now) (purged_tenant s now) tenant)
steps_keep_quota limits now (Commanded (ShowKeys tenant)) s = commanded limits now s (ShowKeys tenant) (keys_shown_as FitsQuota now (changes_fit now) (purged_tenant s now) tenant)

-- ---- against the greatest quota

left_bounded : (s : Option State) → IsBounded s → {E : Type 0} (r : Result Outcome E) → IfOk r (λ o. KeepsBound s o.1) → IfOk r (λ o. IsBounded o.1)
left_bounded s bound (Ok o) h = h bound
left_bounded s bound (Err e) h = tt

pub operated_bounded : (s : Option State) → IsBounded s → (limits : HostLimits) (now : ℕ) (body : Octets) (operation : Operation) → IfOk (operated limits now body operation s) (λ o. IsBounded o.1)
operated_bounded s bound limits now body operation =
    left_bounded s bound (operated limits now body operation s) (operated_as KeepsBound now (changes_keep_bound now) s limits body operation)

pub ordered_bounded : (s : Option State) → IsBounded s → (now : ℕ) (order : Order) → IfOk (ordered now order s) (λ o. IsBounded o.1)
ordered_bounded s bound now order =
    left_bounded s bound (ordered now order s) (ordered_as KeepsBound now (changes_keep_bound now) s settings_keep_bound (removal_keeps_bound now) order)

pub steps_bounded : StepsStayBounded
steps_bounded limits now act s bound = step_as KeepsBound now (changes_keep_bound now) settings_keep_bound (removal_keeps_bound now) limits act s (used_stays_bounded.purged_bounded now s bound)

from_here : (limits : HostLimits) (s : Option State) (acts : List (ℕ × Act)) → IsBounded s → IsBounded (solo_state (step limits) s acts)
from_here limits s [] bound = bound
from_here limits s (a ∷ acts) bound = from_here limits (step limits a.0 a.1 s).1 acts (steps_bounded limits a.0 a.1 s bound)

pub runs_bounded : RunsStayBounded
runs_bounded limits acts = from_here limits absent acts tt
