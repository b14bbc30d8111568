-- Answers, as contracts see them.
use Rattle.std.specs.Prelude.{◌≡◌, ℕ, ◌<◌, ◌≤◌, ◌++◌, Bool, false, nat_le, length, is_none, is_some, Option, Some, None}
use Rattle.bh_model.specs.Runs.{last_reading}
use Rattle.bh_model.specs.State.{Octets}
use Rattle.bh_storage.specs.Plans.{to_come}
use Rattle.bh_tables.specs.Typed.{Tables}
use Rattle.bh_host.specs.Replies.{reply_bytes, reply_trouble}
use Rattle.bh_host.specs.Runs.{Told}
use Rattle.bh_host.specs.declared.event.Told.{Told as ToldOf}
use Rattle.bh_host.specs.declared.delivery.Replied.{Replied}
use Rattle.bh_host.specs.declared.delivery.Replied.TheVariants as replied
use Rattle.bh_host.specs.declared.delivery.Composed.{Composed}
use Rattle.bh_host.specs.declared.delivery.Composed.TheVariants.{Whole, Gathered, Planned}
use Rattle.bh_host.specs.declared.delivery.Served.{Served}
use Rattle.bh_host.specs.declared.delivery.Served.TheVariants as served
use Rattle.bh_host.specs.declared.delivery.Tried.{Tried}
use Rattle.bh_host.specs.declared.delivery.Tried.TheVariants as tried
use Rattle.bh_host.specs.declared.reply.Reply.{Reply}
use Rattle.bh_host.specs.declared.reply.Reply.TheVariants as reply

-- the stamp and the bytes of a reply
abbrev pub told : ToldOf → Told
told done = (done.stamp, reply_bytes done.reply)

-- the bytes of an answer, with the object's remaining bytes read from these tables
abbrev pub composed_in : Tables → Composed → Octets
composed_in tables (Whole bytes) = bytes.items
composed_in tables (Gathered bytes count) = bytes.items
composed_in tables (Planned head plan) = head.items ++ to_come plan tables

-- the stamp and the bytes of a reply, with the object's remaining bytes read from these tables
abbrev pub told_in : Tables → Replied → Told
told_in tables (replied.Told done) = told done
told_in tables (replied.Planned reply) = (Some reply.stamp, reply.head.items ++ to_come reply.plan tables)

-- up to this many bytes of an object are sent in one write with the response head
abbrev pub in_one_write : ℕ
in_one_write = 65536

-- more bytes of it than that are still to be read
abbrev pub IsGreat : Composed → Type 0
IsGreat (Whole bytes) = ⊥
IsGreat (Gathered bytes count) = ⊥
IsGreat (Planned head plan) = in_one_write < plan.left

-- an object's remaining bytes, if any are left to be read, are more than that
abbrev pub IsOnlyGreatPlanned : Composed → Type 0
IsOnlyGreatPlanned (Whole bytes) = Unit {0}
IsOnlyGreatPlanned (Gathered bytes count) = Unit {0}
IsOnlyGreatPlanned (Planned head plan) = in_one_write < plan.left

abbrev pub IsServedAsGreat : Served → Type 0
IsServedAsGreat (served.Kept composed) = IsOnlyGreatPlanned composed
IsServedAsGreat (served.TakenBack t bytes) = Unit {0}

abbrev pub IsToldAsGreat : Replied → Type 0
IsToldAsGreat (replied.Told done) = Unit {0}
IsToldAsGreat (replied.Planned reply) = in_one_write < reply.plan.left

abbrev pub IsTriedAsGreat : Tried → Type 0
IsTriedAsGreat (tried.Applied replied) = IsToldAsGreat replied
IsTriedAsGreat (tried.TakenBack t bytes) = Unit {0}

-- the plan's count of remaining bytes is the number that these tables have
abbrev pub IsPlanMeasured : Tables → Composed → Type 0
IsPlanMeasured tables (Whole bytes) = Unit {0}
IsPlanMeasured tables (Gathered bytes count) = Unit {0}
IsPlanMeasured tables (Planned head plan) = plan.left ≡ length (to_come plan tables)

abbrev pub IsServedMeasured : Tables → Served → Type 0
IsServedMeasured tables (served.Kept composed) = IsPlanMeasured tables composed
IsServedMeasured tables (served.TakenBack t bytes) = Unit {0}

abbrev pub IsToldMeasured : Tables → Replied → Type 0
IsToldMeasured tables (replied.Told done) = Unit {0}
IsToldMeasured tables (replied.Planned reply) = reply.plan.left ≡ length (to_come reply.plan tables)

abbrev pub IsTriedMeasured : Tables → Tried → Type 0
IsTriedMeasured tables (tried.Applied replied) = IsToldMeasured tables replied
IsTriedMeasured tables (tried.TakenBack t bytes) = Unit {0}

-- ---- nothing is left to be read

abbrev pub IsComplete : Composed → Type 0
IsComplete (Whole bytes) = Unit {0}
IsComplete (Gathered bytes count) = Unit {0}
IsComplete (Planned head plan) = ⊥

abbrev pub IsServedWhole : Served → Type 0
IsServedWhole (served.Kept composed) = IsComplete composed
IsServedWhole (served.TakenBack t bytes) = Unit {0}

abbrev pub IsToldWhole : Replied → Type 0
IsToldWhole (replied.Told done) = Unit {0}
IsToldWhole (replied.Planned reply) = ⊥

abbrev pub IsTriedWhole : Tried → Type 0
IsTriedWhole (tried.Applied replied) = IsToldWhole replied
IsTriedWhole (tried.TakenBack t bytes) = Unit {0}

-- ---- how much of an object was read before the transaction ended

-- bytes of an object that are delivered at once are counted
abbrev pub Counts : Composed → Composed → Type 0
Counts (Whole bytes) given = Unit {0}
Counts (Gathered bytes count) given = Unit {0}
Counts (Planned head plan) (Whole bytes) = ⊥
Counts (Planned head plan) (Gathered bytes count) = count ≡ plan.left
Counts (Planned head plan) (Planned first rest) = Unit {0}

-- no more than are sent in one write
abbrev pub IsSmall : Composed → Type 0
IsSmall (Whole bytes) = Unit {0}
IsSmall (Gathered bytes count) = count ≤ in_one_write
IsSmall (Planned head plan) = Unit {0}

abbrev pub IsSmallReply : Reply → Type 0
IsSmallReply (reply.ClockOutOfRange caller) = Unit {0}
IsSmallReply (reply.Wanting caller trouble) = Unit {0}
IsSmallReply (reply.Text bytes) = Unit {0}
IsSmallReply (reply.Gathered bytes count) = count ≤ in_one_write

abbrev pub IsServedSmall : Served → Type 0
IsServedSmall (served.Kept composed) = IsSmall composed
IsServedSmall (served.TakenBack t bytes) = Unit {0}

abbrev pub IsToldSmall : Replied → Type 0
IsToldSmall (replied.Told done) = IsSmallReply done.reply
IsToldSmall (replied.Planned reply) = Unit {0}

abbrev pub IsTriedSmall : Tried → Type 0
IsTriedSmall (tried.Applied replied) = IsToldSmall replied
IsTriedSmall (tried.TakenBack t bytes) = Unit {0}

-- ---- the failure behind a reply

-- there is one exactly if the event has no stamp
abbrev pub IsNoted : ToldOf → Type 0
IsNoted done = is_some (reply_trouble done.reply) ≡ is_none done.stamp

abbrev pub IsToldNoted : Replied → Type 0
IsToldNoted (replied.Told done) = IsNoted done
IsToldNoted (replied.Planned reply) = Unit {0}

abbrev pub IsTriedNoted : Tried → Type 0
IsTriedNoted (tried.Applied replied) = IsToldNoted replied
IsTriedNoted (tried.TakenBack t bytes) = Unit {0}

-- whether memory or the store failed, by an event's reading and its stamp
abbrev pub is_wanting : ℕ → Option ℕ → Bool
is_wanting reading (Some m) = false
is_wanting reading None = nat_le reading last_reading

-- a reply without a stamp notes the failure exactly if the event's reading was in range
abbrev pub IsToldWanting : ℕ → Replied → Type 0
IsToldWanting reading (replied.Told done) = is_some (reply_trouble done.reply) ≡ is_wanting reading done.stamp
IsToldWanting reading (replied.Planned reply) = Unit {0}
