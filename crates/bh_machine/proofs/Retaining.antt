-- That no step before a version's date takes the version away or brings the date nearer.
use Rattle.std.proofs.Common.{ℕ, ◌<◌, List, [], ◌∷◌, Option, sym, subst}
use Rattle.std.specs.List.{AllByRecursion}
use Rattle.bh_types.specs.Limits.{HostLimits}
use Rattle.bh_model.specs.Ids.{IsNumbered}
use Rattle.bh_model.specs.Retained.{Retained, IsRetained}
use Rattle.bh_model.specs.Runs.{solo_state}
use Rattle.bh_model.specs.State.{State, absent}
use Rattle.bh_model.proofs.IdLemmas.{purge_keeps_ids}
use Rattle.bh_model.proofs.RetainedLemmas.{KeepsRetained, changes_keep_retained, settings_keep_retained, purge_keeps_retained}
use Rattle.bh_model.proofs.RemovalLemmas.{removal_keeps_retained}
use Rattle.bh_model.proofs.RunLemmas.{solo_state-append}
use Rattle.bh_machine.specs.Machine.{Act, step}
use Rattle.bh_machine.specs.Retained.{StepsKeepRetained, RunsKeepRetained}
use Rattle.bh_machine.proofs.Changing.{step_as}
use Rattle.bh_machine.proofs.NumberLemmas.{steps_keep_ids, runs_keep_ids}

pub steps_keep_retained : StepsKeepRetained
steps_keep_retained limits now act s r early all kept =
    step_as (KeepsRetained r) now (changes_keep_retained r now early) (settings_keep_retained r) (removal_keeps_retained r now early) limits act s (purge_keeps_ids now s all) (purge_keeps_retained r now s kept)

from_here : (limits : HostLimits) (s : Option State) (acts : List (ℕ × Act)) (r : Retained) → AllByRecursion (λ a. a.0 < r.until) acts → IsNumbered s → IsRetained r s → IsRetained r (solo_state (step limits) s acts)
from_here limits s [] r early all kept = kept
from_here limits s (a ∷ acts) r early all kept =
    from_here limits (step limits a.0 a.1 s).1 acts r early.1 (steps_keep_ids limits a.0 a.1 s all) (steps_keep_retained limits a.0 a.1 s r early.0 all kept)

pub runs_keep_retained : RunsKeepRetained
runs_keep_retained limits earlier acts r early kept =
    subst (IsRetained r) (sym (solo_state-append (step limits) absent earlier acts))
    (from_here limits (solo_state (step limits) absent earlier) acts r early (runs_keep_ids limits earlier) kept)
