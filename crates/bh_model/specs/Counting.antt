-- The numbers of a tenant's counters.
use Rattle.std.specs.Prelude.{ℕ, ◌+◌, ◌-◌, ◌^◌, ◌≤◌, Bool, ◌&&◌, nat_le, Result, Ok, Err, if◌then◌else◌}
use Rattle.bh_types.specs.Counts.{Counts}
use Rattle.bh_types.specs.declared.bucket_state.BucketState.{BucketState}
use Rattle.bh_types.specs.declared.bucket_state.BucketState.TheVariants.{Unversioned, Enabled, Suspended}
use Rattle.bh_types.specs.declared.wanted.Wanted.{Wanted}
use Rattle.bh_types.specs.declared.wanted.Wanted.TheVariants.{Current, Named, Unknown}
use Rattle.bh_types.specs.declared.refusal.Refusal.{Refusal}
use Rattle.bh_types.specs.declared.refusal.Refusal.TheVariants.{CounterExhausted}
use Rattle.bh_model.specs.State.{State}

abbrev pub counts : State → Counts
counts s = record { version = s.next_version; upload = s.next_upload; entry = s.next_entry }

abbrev pub with_counts : Counts → State → State
with_counts c s = record s { next_version = c.version; next_upload = c.upload; next_entry = c.entry }

-- whether a counter has a next number: the last one is 2^62 - 1
abbrev pub can_give : ℕ → Bool
can_give next = nat_le next (2 ^ 62 - 1)

-- each new version, marker and part takes an entry number; if versions are numbered, a new version
-- or marker takes a version number too
abbrev pub can_number : BucketState → Counts → Bool
can_number Unversioned c = can_give c.entry
can_number Enabled c = can_give c.version && can_give c.entry
can_number Suspended c = can_give c.entry

abbrev pub numbered : BucketState → Counts → Counts
numbered Unversioned c = record c { entry = c.entry + 1 }
numbered Enabled c = record c { version = c.version + 1; entry = c.entry + 1 }
numbered Suspended c = record c { entry = c.entry + 1 }

-- the counters after a new version or marker in a bucket of this state got its numbers
abbrev pub after_entry : BucketState → Counts → Result Counts Refusal
after_entry mode c = if can_number mode c then Ok (numbered mode c) else Err CounterExhausted

-- a delete takes numbers only for a marker that it makes
abbrev pub after_delete : BucketState → Wanted → Counts → Result Counts Refusal
after_delete Unversioned Current c = Ok c
after_delete Enabled Current c = after_entry Enabled c
after_delete Suspended Current c = after_entry Suspended c
after_delete mode (Named id) c = Ok c
after_delete mode Unknown c = Ok c

-- no counter of the first is greater than that of the second
abbrev pub AtMost : Counts → Counts → Type 0
AtMost a b = (a.version ≤ b.version) × (a.upload ≤ b.upload) × (a.entry ≤ b.entry)
