-- That no step makes a counter go down, or gives an entry the id of another one of its key.
use Rattle.std.proofs.Common.{ℕ, List, [], ◌∷◌, Option, Some, None, Result, Ok, Err}
use Rattle.std.specs.Result.{IfOk}
use Rattle.bh_types.specs.Limits.{HostLimits}
use Rattle.bh_types.specs.Rejections.{plainly}
use Rattle.bh_types.specs.declared.refusal.Refusal.{Refusal}
use Rattle.bh_model.specs.Ids.{IsNumbered}
use Rattle.bh_event.specs.Events.{Order, AddTenant, SetQuota, RemoveTenant, AddKey, RemoveKey, ShowUsage, ShowKeys}
use Rattle.bh_model.specs.Laws.{Rises, GoesOrRises}
use Rattle.bh_model.specs.Operations.{Outcome, remove_tenant}
use Rattle.bh_model.specs.Runs.{purged_tenant, settled, solo_state}
use Rattle.bh_model.specs.State.{State, absent}
use Rattle.bh_model.proofs.IdLemmas.{KeepsIds, changes_keep_ids, settings_keep_ids, purge_keeps_ids}
use Rattle.bh_model.proofs.RisingLemmas.{changes_rise, settings_rise, purge_rises, rises_later}
use Rattle.bh_model.proofs.RemovalLemmas.{removal_keeps_ids, removal_goes}
use Rattle.bh_machine.specs.Machine.{Act, Act.RequestRead, Act.Commanded, ordered, change, step}
use Rattle.bh_machine.specs.Numbers.{StepsRise, StepsKeepIds, RunsKeepIds}
use Rattle.bh_machine.proofs.Changing.{plainly_holds, asked_as, key_added_as, key_removed_as, usage_shown_as, keys_shown_as, settled_as, step_as}

module _ (limits : HostLimits) (now : ℕ) (s : Option State) where
  abbrev purged : Option State
  purged = purged_tenant s now

  rises : (act : Act) → IfOk (change limits now act purged) (λ o. Rises purged o.1) → Rises s (step limits now act s).1
  rises act h = rises_later s purged (step limits now act s).1 (purge_rises now s) (settled_as Rises now (changes_rise now) purged (change limits now act purged) h)

  commanded : (order : Order) → IfOk (ordered now order purged) (λ o. Rises purged o.1) → Rises s (step limits now (Commanded order) s).1
  commanded order h = rises (Commanded order) (plainly_holds Rises now (changes_rise now) purged (ordered now order purged) h)

  -- where the tenant may go
  stands : (t : Option State) → Rises s t → GoesOrRises s t
  stands None h = tt
  stands (Some t) h = h

  left : (t : Option State) → GoesOrRises purged t → GoesOrRises s t
  left None h = tt
  left (Some t) h = rises_later s purged (Some t) (purge_rises now s) h

  goes : (r : Result Outcome Refusal) → IfOk r (λ o. GoesOrRises purged o.1) → GoesOrRises s (settled purged (plainly r)).1
  goes (Ok o) h = left o.1 h
  goes (Err e) h = stands purged (purge_rises now s)

pub steps_rise : StepsRise
steps_rise limits now (RequestRead answer) s = rises limits now s (RequestRead answer) (asked_as Rises now (changes_rise now) (purged_tenant s now) limits answer)
steps_rise limits now (Commanded (AddTenant tenant quota)) s = commanded limits now s (AddTenant tenant quota) (settings_rise.tenant_added tenant quota (purged_tenant s now))
steps_rise limits now (Commanded (SetQuota tenant quota)) s = commanded limits now s (SetQuota tenant quota) (settings_rise.quota_set tenant quota (purged_tenant s now))
steps_rise limits now (Commanded (RemoveTenant tenant with_objects)) s =
    goes limits now s (remove_tenant now tenant with_objects (purged_tenant s now)) ((removal_goes now).tenant_removed tenant with_objects (purged_tenant s now))
steps_rise limits now (Commanded (AddKey tenant name secret)) s = commanded limits now s (AddKey tenant name secret) (key_added_as Rises now (changes_rise now) (purged_tenant s now) tenant name secret)
steps_rise limits now (Commanded (RemoveKey tenant name)) s = commanded limits now s (RemoveKey tenant name) (key_removed_as Rises now (changes_rise now) (purged_tenant s now) tenant name)
steps_rise limits now (Commanded (ShowUsage tenant)) s = commanded limits now s (ShowUsage tenant) (usage_shown_as Rises now (changes_rise now) (purged_tenant s now) tenant)
steps_rise limits now (Commanded (ShowKeys tenant)) s = commanded limits now s (ShowKeys tenant) (keys_shown_as Rises now (changes_rise now) (purged_tenant s now) tenant)

pub steps_keep_ids : StepsKeepIds
steps_keep_ids limits now act s all = step_as KeepsIds now (changes_keep_ids now) settings_keep_ids (removal_keeps_ids now) limits act s (purge_keeps_ids now s all)

from_here : (limits : HostLimits) (s : Option State) (acts : List (ℕ × Act)) → IsNumbered s → IsNumbered (solo_state (step limits) s acts)
from_here limits s [] all = all
from_here limits s (a ∷ acts) all = from_here limits (step limits a.0 a.1 s).1 acts (steps_keep_ids limits a.0 a.1 s all)

pub runs_keep_ids : RunsKeepIds
runs_keep_ids limits acts = from_here limits absent acts tt
