-- The purpose of versions' dates: until its date a version doesn't change, and its date only moves
-- on.
use Rattle.std.specs.Prelude.{ℕ, ◌<◌, List, ◌++◌, Option}
use Rattle.std.specs.List.{AllByRecursion}
use Rattle.bh_model.specs.Ids.{IsNumbered}
use Rattle.bh_model.specs.Retained.{Retained, IsRetained}
use Rattle.bh_model.specs.Runs.{solo_state}
use Rattle.bh_model.specs.State.{State, absent}
use Rattle.bh_types.specs.Limits.{HostLimits}
use Rattle.bh_machine.specs.Machine.{Act, step}

-- no step before a version's retention date, whatever its act is, deletes or changes the version,
-- or moves its date before that moment
abbrev pub StepsKeepRetained : Type 0
StepsKeepRetained = (limits : HostLimits) (now : ℕ) (act : Act) (s : Option State) (r : Retained)
    → now < r.until → IsNumbered s → IsRetained r s → IsRetained r (step limits now act s).1

-- neither do acts that all come before it and continue a run that began before the tenant was added
abbrev pub RunsKeepRetained : Type 0
RunsKeepRetained = (limits : HostLimits) (earlier acts : List (ℕ × Act)) (r : Retained)
    → AllByRecursion (λ a. a.0 < r.until) acts
    → IsRetained r (solo_state (step limits) absent earlier) → IsRetained r (solo_state (step limits) absent (earlier ++ acts))
