-- The numbers of a tenant's counters.
use Rattle.std.specs.Prelude.{ℕ, List, Option}
use Rattle.bh_model.specs.Ids.{IsNumbered}
use Rattle.bh_model.specs.Laws.{Rises, GoesOrRises}
use Rattle.bh_event.specs.Events.{RemoveTenant}
use Rattle.bh_model.specs.Runs.{solo_state}
use Rattle.bh_model.specs.State.{State, absent}
use Rattle.bh_types.specs.Limits.{HostLimits}
use Rattle.bh_machine.specs.Machine.{Act, Act.Commanded, step}

-- only the operator's command that removes a tenant takes it away; no other act does, nor decreases
-- a counter
abbrev pub RisesBy : Act → Option State → Option State → Type 0
RisesBy (Commanded (RemoveTenant tenant with_objects)) s t = GoesOrRises s t
RisesBy act s t = Rises s t

-- so of each step, whatever its act is
abbrev pub StepsRise : Type 0
StepsRise = (limits : HostLimits) (now : ℕ) (act : Act) (s : Option State) → RisesBy act s (step limits now act s).1

-- nor does any give two entries of a key the same id
abbrev pub StepsKeepIds : Type 0
StepsKeepIds = (limits : HostLimits) (now : ℕ) (act : Act) (s : Option State) → IsNumbered s → IsNumbered (step limits now act s).1

-- so no run does that begins before the tenant was added
abbrev pub RunsKeepIds : Type 0
RunsKeepIds = (limits : HostLimits) (acts : List (ℕ × Act)) → IsNumbered (solo_state (step limits) absent acts)
