-- The refusals of a step of the machine.
use Rattle.std.specs.Prelude.{◌≡◌, ℕ, Bool, true, false, IfErr, Option}
use Rattle.bh_event.specs.Events.{Message}
use Rattle.bh_model.specs.State.{State}
use Rattle.bh_types.specs.Limits.{HostLimits}
use Rattle.bh_types.specs.declared.refusal.Refusal.{Refusal}
use Rattle.bh_types.specs.declared.refusal.Refusal.TheVariants.{ClockOutOfRange, ServiceUnavailable, Unavailable}
use Rattle.bh_types.specs.declared.rejection.Rejection.{Rejection}
use Rattle.bh_machine.specs.Machine.{Act, Acted, step}

-- the refusals of the fixed replies are not those of a step
abbrev pub is_step_refusal : Refusal → Bool
is_step_refusal ClockOutOfRange = false
is_step_refusal ServiceUnavailable = false
is_step_refusal Unavailable = false
is_step_refusal refusal = true

-- however an event is understood, and whatever its owner's state is
abbrev pub StepRefusals : Type 0
StepRefusals = (limits : HostLimits) (message : Message) (now : ℕ) (act : Act) (s : Option State) → Acted limits message act
    → IfErr (step limits now act s).0 (λ (rejection : Rejection). is_step_refusal rejection.refusal ≡ true)
