-- Events that are applied in one transaction, or else each in its own.
use Rattle.std.specs.Prelude.{◌≡◌, ◌⊎◌, ◌<◌, ℕ, ◌+◌, List, [], ◌∷◌, ◌++◌, map, length, Option, Some, None, Result}
use Rattle.bh_types.specs.Limits.{HostLimits}
use Rattle.bh_types.specs.declared.refusal.Refusal.{Refusal}
use Rattle.bh_event.specs.Events.{Arrival}
use Rattle.bh_http.specs.Reading.{Reads}
use Rattle.bh_http.specs.Views.{Taken}
use Rattle.bh_storage.specs.Plans.{to_come}
use Rattle.bh_tables.specs.Typed.{Tables}
use Rattle.bh_host.specs.Answers.{told, in_one_write, IsSmallReply}
use Rattle.bh_host.specs.Runs.{Told}
use Rattle.bh_host.specs.Turns.{Applied, IsToldApart, request_at}
use Rattle.bh_host.specs.declared.delivery.PlannedReply.{PlannedReply}
use Rattle.bh_host.specs.declared.event.Told.{Told as ToldOf}
use Rattle.bh_host.specs.declared.group.Group.{Group}

-- an event had its effect at its stamp, and its reply is no fixed text
abbrev pub AppliedAt : Arrival → Tables → Tables → Told → Type 0
AppliedAt event old new (None, reply) = ⊥
AppliedAt event old new (Some m, reply) = Applied event old new (Some m) reply × IsToldApart event (Some m) reply

-- each of the events did, one after another
abbrev pub RanTogether : List Arrival → List Told → Tables → Tables → Type 0
RanTogether [] [] old new = new ≡ old
RanTogether [] (done ∷ dones) old new = ⊥
RanTogether (event ∷ events) [] old new = ⊥
RanTogether (event ∷ events) (done ∷ dones) old new = (mid : Tables) × AppliedAt event old mid done × RanTogether events dones mid new

-- the reply whose object is still to be read, with its bytes in these tables
abbrev pub planned_in : Tables → Option PlannedReply → List Told
planned_in tables None = []
planned_in tables (Some reply) = (Some reply.stamp, reply.head.items ++ to_come reply.plan tables) ∷ []

abbrev pub planned_count : Option PlannedReply → ℕ
planned_count None = 0
planned_count (Some reply) = 1

-- the stamps and the bytes of all replies of a group, and how many these are
abbrev pub tolds_in : Tables → Group → List Told
tolds_in tables group = map told group.tolds.items ++ planned_in tables group.planned

abbrev pub count_of : Group → ℕ
count_of group = length group.tolds.items + planned_count group.planned

-- the stamp of the last reply; that of `before`, if there is none
abbrev pub last_stamp : Option ℕ → List Told → Option ℕ
last_stamp before [] = before
last_stamp before (done ∷ dones) = last_stamp done.0 dones

-- ---- what is left to be read

abbrev pub HasSmallReply : ToldOf → Type 0
HasSmallReply done = IsSmallReply done.reply

abbrev pub IsGreatPlan : PlannedReply → Type 0
IsGreatPlan reply = in_one_write < reply.plan.left

abbrev pub IsPlanOf : Tables → PlannedReply → Type 0
IsPlanOf tables reply = reply.plan.left ≡ length (to_come reply.plan tables)

-- ---- requests of which no more bytes were taken than decide them

-- what the bytes are read as, all bytes are read as too
abbrev pub AreReadAlike : HostLimits → List ℕ → List ℕ → Type 0
AreReadAlike limits bytes all = (answer : Result Taken Refusal) → Reads limits bytes answer → Reads limits all answer

-- the same event, or a request at the same reading whose bytes are read alike
abbrev pub IsReadAlike : HostLimits → Arrival → Arrival → Type 0
IsReadAlike limits event other = (other ≡ event) ⊎ ((reading : ℕ) × (bytes : List ℕ) × (all : List ℕ)
    × (event ≡ request_at reading bytes) × (other ≡ request_at reading all) × AreReadAlike limits bytes all)
