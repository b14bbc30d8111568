-- What the line of a reply to an operator tells.
use Rattle.std.proofs.Common.{◌≡◌, ℕ, nat_lt, true, false, List, Option, Some, None, IfSome, refl, ap, ◌∙◌, arith, if◌then◌else◌}
use Rattle.std.specs.Fmt.{digits}
use Rattle.bh_event.specs.Events.{message_of}
use Rattle.bh_model.specs.Runs.{last_reading}
use Rattle.bh_host.specs.Replies.{clock_text, wanting_text}
use Rattle.bh_host.specs.declared.reply.Caller.TheVariants.{Operator}
use Rattle.bh_host.specs.Turns.{IsToldApart, fixed}
use Rattle.bh_maintenance.specs.Printing.{status_of}
use Rattle.bh_event.specs.Orders.{arrival_at}
use Rattle.bh_event.specs.declared.order.HostOrder.{HostOrder}
use Rattle.bh_event.specs.declared.order.HostOrder.TheVariants.{Command, Sweep, Report, Tenants}

fixed_refuses : (reading : ℕ) → status_of (if nat_lt last_reading reading then clock_text Operator else wanting_text Operator) ≡ 1
unfolding digits
fixed_refuses reading =
    elim (nat_lt last_reading reading) as (λ b. status_of (if b then clock_text Operator else wanting_text Operator) ≡ 1) [ true ↦ refl | false ↦ refl ]

-- what an operator asks and is left out is answered with a refusal
fixed_is_refusal : (reading : ℕ) (order : HostOrder) → status_of (fixed (arrival_at reading (message_of order))) ≡ 1
fixed_is_refusal reading (Command command) = fixed_refuses reading
fixed_is_refusal reading (Sweep limit) = fixed_refuses reading
fixed_is_refusal reading Report = fixed_refuses reading
fixed_is_refusal reading Tenants = fixed_refuses reading

not_one : (status : ℕ) → status ≡ 0 → status ≡ 1 → ⊥
not_one status zero one = omega arith

-- a reply that is no refusal has a stamp
pub kept_when_done : {Kept : Type 0} (reading : ℕ) (order : HostOrder) (stamp : Option ℕ) (reply : List ℕ) → IsToldApart (arrival_at reading (message_of order)) stamp reply
    → IfSome stamp (λ _. Kept) → status_of reply ≡ 0 → Kept
kept_when_done reading order None reply apart kept done =
    absurd (not_one (status_of reply) done (ap status_of apart ∙ fixed_is_refusal reading order))
kept_when_done reading order (Some m) reply apart kept done = kept
