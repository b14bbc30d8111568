-- The results of an operator's connection, and its effect on the host.
use Rattle.std.specs.Prelude.{◌≡◌, ◌≤◌, ℕ, Bool, true, false, List, [], ◌∷◌, ◌++◌, codes, is_some, length, take, Option, Some, None}
use Rattle.std.specs.Prelude.{option_and_then}
use Rattle.std.specs.Io.KnownBytes.{Appends, Consumes, Keeps}
use Rattle.bh_event.specs.Events.{Arrival as Event, Message, Requested, Ordered, SweepOrdered, ReportOrdered, TenantsOrdered}
use Rattle.bh_tables.specs.Typed.{Tables}
use Rattle.bh_storage.specs.Calls.{Seen}
use Rattle.bh_storage.specs.declared.error.Trouble.{Trouble}
use Rattle.bh_storage.specs.declared.error.Trouble.TheVariants.{Memory}
use Rattle.bh_host.specs.Answers.{is_wanting}
use Rattle.bh_host.specs.Replies.{wanting_text}
use Rattle.bh_host.specs.Runs.{Told}
use Rattle.bh_host.specs.declared.reply.Caller.TheVariants.{Operator}
use Rattle.bh_event.specs.Operators.{order_of_line}
use Rattle.bh_event.specs.Orders.{Instruction, ToDo, ToCopy, ToStop, ToAnswer}
use Rattle.bh_link.specs.Lines.{line_in}
use Rattle.bh_link.specs.Taking.{all_of}
use Rattle.bh_http.specs.Transfers.{Logs, Gives, Takes}
use Rattle.bh_connection.specs.Backups.{IsBackedUp}
use Rattle.bh_connection.specs.Connections.{Ends, EndsAs, IsApplied}
use Rattle.bh_connection.specs.declared.served.End.TheVariants.{ReadFailed}
use Rattle.bh_connection.specs.declared.served.Served.{Served}

-- the reply to a line without an order
abbrev pub bad_line : List ℕ
bad_line = codes "bad line"

-- the reply to a stop
abbrev pub stop_text : List ℕ
stop_text = codes "stop"

-- a reply is sent with a line feed
abbrev pub line_text : List ℕ → List ℕ
line_text reply = reply ++ 10 ∷ []

-- ---- its order

-- the order in a connection's bytes, under a secret if there is one
abbrev pub ordered_by : Option (List ℕ) → List ℕ → Option Instruction
ordered_by secret bytes = option_and_then (order_of_line secret) (line_in bytes)

-- it is carried out here; what a server is asked about itself is answered before
abbrev pub is_done_here : Option Instruction → Bool
is_done_here None = false
is_done_here (Some (ToDo message)) = true
is_done_here (Some (ToCopy to)) = true
is_done_here (Some ToStop) = true
is_done_here (Some (ToAnswer asked)) = false

-- the read bytes have the same order as all the bytes that the reader would return
pub record TookOrder (secret : Option (List ℕ)) (old new : Option (List ℕ)) (taken : List ℕ) (order : Option Instruction) : Type 0 where
  pub consumed : Consumes old new taken
  pub short : length taken ≤ 16384
  pub is : order ≡ ordered_by secret (all_of old taken)

-- the result of an operator's line: its reader failed, or memory ran out before its order was
-- known. Otherwise it has no order that is carried out here, its order was applied, it orders a copy under this name, with
-- this reply, or it orders a stop
pub data Heard : Type 0 where
  CutOff : Heard
  NotHeard : Heard
  NoOrder : Heard
  Obeyed : (event : Event) (told : Told) → Heard
  Copied : (to : List ℕ) (reply : List ℕ) → Heard
  Stopping : Heard

-- whether serving is to end
abbrev pub is_stopping : Heard → Bool
is_stopping CutOff = false
is_stopping NotHeard = false
is_stopping NoOrder = false
is_stopping (Obeyed event told) = false
is_stopping (Copied to reply) = false
is_stopping Stopping = true

-- what is ordered is a sweep
abbrev pub is_sweep : Message → Bool
is_sweep (Requested bytes) = false
is_sweep (Ordered order) = false
is_sweep (SweepOrdered limit) = true
is_sweep ReportOrdered = false
is_sweep TenantsOrdered = false

-- whether a sweep was carried out, or tried
abbrev pub is_sweeping : Heard → Bool
is_sweeping CutOff = false
is_sweeping NotHeard = false
is_sweeping NoOrder = false
is_sweeping (Obeyed event told) = is_sweep event.message
is_sweeping (Copied to reply) = false
is_sweeping Stopping = false

-- ---- its ends

-- the reader failed, at its last call: no reply is sent
pub record IsCutOff (before after : Ends) (served : Served) : Type 0 where
  pub taken : List ℕ
  pub consumed : Consumes before.left after.left taken
  pub short : length taken ≤ 16384
  pub ended : served.ended ≡ ReadFailed
  pub stamp : served.stamp ≡ None
  pub sent : served.sent ≡ 0
  pub out : Keeps before.held after.held
  pub gave : Gives before.gave after.gave taken true
  pub took : Logs before.took after.took []
  pub reader : after.reader_failed ≡ true
  pub writer : after.writer_failed ≡ false

-- no call of the reader failed, and these bytes were read. The bytes sent are the first ones of the
-- reply's line; all of them unless a call of the writer failed or took none of some bytes
pub record IsReplied (before after : Ends) (served : Served) (taken : List ℕ) (told : Told) : Type 0 where
  pub consumed : Consumes before.left after.left taken
  pub short : length taken ≤ 16384
  pub stamp : served.stamp ≡ told.0
  pub out : Appends before.held after.held (take served.sent (line_text told.1))
  pub ended : EndsAs served.ended served.sent (line_text told.1) after.writer_failed
  pub gave : Gives before.gave after.gave taken false
  pub took : Takes before.took after.took (take served.sent (line_text told.1)) after.writer_failed
  pub reader : after.reader_failed ≡ false

-- all the bytes that its reader would return have this order, or none, under the secret if there is
-- one
pub record IsHeard (secret : Option (List ℕ)) (before after : Ends) (served : Served) (order : Option Instruction) (told : Told) :
    Type 0 where
  pub taken : List ℕ
  pub replied : IsReplied before after served taken told
  pub is : order ≡ ordered_by secret (all_of before.left taken)

abbrev pub Hears : Option (List ℕ) → Ends → Ends → Served → Heard → Type 0
Hears secret before after served CutOff = IsCutOff before after served
Hears secret before after served NotHeard = (taken : List ℕ) × IsReplied before after served taken (None, wanting_text Operator)
Hears secret before after served NoOrder =
    (order : Option Instruction) × (is_done_here order ≡ false) × IsHeard secret before after served order (None, bad_line)
Hears secret before after served (Obeyed event told) =
    (event.reading ≡ before.reading) × IsHeard secret before after served (Some (ToDo event.message)) told
Hears secret before after served (Copied to reply) = IsHeard secret before after served (Some (ToCopy to)) (None, reply)
Hears secret before after served Stopping = IsHeard secret before after served (Some ToStop) (None, stop_text)

-- ---- the failure that is noted for the log

-- that of memory, if the order was not known. Of an event there is one exactly if it has no stamp,
-- and its reading is in range
abbrev pub Notes : Heard → Option Trouble → Type 0
Notes CutOff trouble = trouble ≡ None
Notes NotHeard trouble = trouble ≡ Some Memory
Notes NoOrder trouble = trouble ≡ None
Notes (Obeyed event told) trouble = is_some trouble ≡ is_wanting event.reading told.0
Notes (Copied to reply) trouble = trouble ≡ None
Notes Stopping trouble = trouble ≡ None

-- ---- its host

-- it doesn't change unless a line has an order, which is then applied, or is a copy
abbrev pub Obeys : {H C : Type 0} → (H → Type 0) → (H → Type 0) → (H → Seen) → (H → Tables → Type 0) → (C → Tables → Type 0) → Heard → H → H
    → Type 0
Obeys IsIntact IsOpen seen left shows CutOff old new = new ≡ old
Obeys IsIntact IsOpen seen left shows NotHeard old new = new ≡ old
Obeys IsIntact IsOpen seen left shows NoOrder old new = new ≡ old
Obeys IsIntact IsOpen seen left shows (Obeyed event told) old new = IsApplied IsIntact IsOpen seen left event told old new
Obeys IsIntact IsOpen seen left shows (Copied to reply) old new = IsBackedUp IsIntact IsOpen seen left shows reply old new
Obeys IsIntact IsOpen seen left shows Stopping old new = new ≡ old

-- `stops` tells whether serving is to end, and `sweeps` whether a sweep was ordered
pub record WasOrdered {H C : Type 0} (IsIntact IsOpen : H → Type 0) (seen : H → Seen) (left : H → Tables → Type 0)
    (shows : C → Tables → Type 0) (secret : Option (List ℕ)) (before after : Ends) (served : Served) (stops sweeps : Bool)
    (old new : H) : Type 0 where
  pub heard : Heard
  pub hears : Hears secret before after served heard
  pub notes : Notes heard served.trouble
  pub told : stops ≡ is_stopping heard
  pub swept : sweeps ≡ is_sweeping heard
  pub obeys : Obeys IsIntact IsOpen seen left shows heard old new
