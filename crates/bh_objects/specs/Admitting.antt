-- What is decided about a put of some size, before its bytes are received.
use Rattle.std.specs.Prelude.{ℕ, Option, Result, Ok}
use Rattle.bh_types.specs.Counts.{Counts}
use Rattle.bh_types.specs.Outcomes.{◌>>=◌}
use Rattle.bh_types.specs.declared.bucket_state.BucketState.{BucketState}
use Rattle.bh_types.specs.declared.refusal.Refusal.{Refusal}
use Rattle.bh_model.specs.Operations as machine
use Rattle.bh_model.specs.State.{Octets, State}
use Rattle.bh_objects.specs.Dates.{new_date_in}
use Rattle.bh_objects.specs.Found.{entry_numbers_in}
use Rattle.bh_objects.specs.declared.objects.Admitted.{Admitted}
use Rattle.bh_objects.specs.declared.writes.NewObject.{NewObject}

-- its date, if it gets one, and its numbers
abbrev pub admitted_in : BucketState → Octets → Octets → Option (Option ℕ) → ℕ → ℕ → Option State
    → Result (Option ℕ × (Counts × Counts)) Refusal
admitted_in mode name key date at size s = do
  until ← new_date_in name date at s
  numbers ← entry_numbers_in mode name key size s
  Ok (until, numbers)

abbrev pub numbers_admitted : Admitted → Option ℕ × (Counts × Counts)
numbers_admitted it = (it.until, (it.entry.numbers.before, it.entry.numbers.after))

-- the machine's step of a put, by the received bytes and the optional checksum
abbrev pub put_step : NewObject → Option Octets → Octets → Option State → Result machine.Outcome Refusal
put_step object given bytes = machine.put_object object.at object.bucket.now object.key.now bytes given object.date
