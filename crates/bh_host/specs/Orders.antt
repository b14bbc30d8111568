-- What an order does, and the line that tells of it.
use Rattle.std.specs.Prelude.{◌≡◌, ◌++◌, ℕ, Option, Result, Ok, Err, String}
use Rattle.std.specs.declared.alloc.Global.{Global}
use Rattle.std.specs.String.{string_bytes}
use Rattle.bh_event.specs.Events.{Order, tenant_of, Message, Requested, Ordered, SweepOrdered, ReportOrdered, TenantsOrdered}
use Rattle.bh_machine.specs.Machine.{ordered}
use Rattle.bh_model.specs.Operations.{Outcome}
use Rattle.bh_model.specs.State.{Octets, State}
use Rattle.bh_storage.specs.Calls.{Carries, Sweeps}
use Rattle.bh_storage.specs.Reports.{sweep_counts, store_counts, tenants_told}
use Rattle.bh_storage.specs.declared.error.StepError.{StepError}
use Rattle.bh_storage.specs.declared.error.StepError.TheVariants.{Refused, Failed}
use Rattle.bh_tables.specs.Typed.{Tables}
use Rattle.bh_types.specs.declared.refusal.Refusal.{Refusal}
use Rattle.bh_host.specs.Replies.{line_of, line_end, sweep_text, report_text, tenants_text}

-- an order's step, with its line in place of the machine's answer
abbrev pub with_line : Order → Result Outcome Refusal → Result (Octets × Option State) Refusal
with_line order (Ok (answer, s)) = Ok (line_of order ++ line_end answer, s)
with_line order (Err r) = Err r

-- an order on all tenants together isn't refused: its line is this one, and it did this
abbrev pub DoesForAll : Octets → Type 0 → Result (String Global) (StepError Refusal) → Type 0
DoesForAll told Done (Ok line) = (string_bytes line ≡ told) × Done
DoesForAll told Done (Err (Refused r)) = ⊥
DoesForAll told Done (Err (Failed trouble)) = Unit {0}

-- what an order does to the tables, and its line: on a tenant, the machine's step or its refusal
abbrev pub Does : ℕ → Message → Tables → Tables → Result (String Global) (StepError Refusal) → Type 0
Does at (Requested bytes) old new result = ⊥
Does at (Ordered order) old new result = Carries string_bytes (tenant_of order) (λ s. with_line order (ordered at order s)) old new result
Does at (SweepOrdered limit) old new result =
    DoesForAll (sweep_text (sweep_counts at limit old)) (Sweeps at limit (sweep_counts at limit old) old new) result
Does at ReportOrdered old new result = DoesForAll (report_text (store_counts old)) (new ≡ old) result
Does at TenantsOrdered old new result = DoesForAll (tenants_text (tenants_told old)) (new ≡ old) result
