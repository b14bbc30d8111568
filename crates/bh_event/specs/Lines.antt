-- The event that a script's line encodes, and the order that an operator's line does: one JSON object,
-- with exactly these members in any order.
use Rattle.std.specs.Prelude.{ℕ, ◌+◌, ◌==◌, Bool, false, unwrap_or, List, codes, length, Option, Some, None, is_some, option_map}
use Rattle.std.specs.Prelude.{option_and_then, if◌then◌else◌}
use Rattle.std.specs.Option.{option_or}
use Rattle.std.specs.Result.{result_ok}
use Rattle.std.specs.Str.{is_utf8}
use Rattle.hex.specs.Hex.{decode_of}
use Rattle.serde_json.specs.Data.{Data}
use Rattle.serde_json.specs.Events.{members_len}
use Rattle.serde_json.specs.Find.{get, as_bool, as_object, as_str, as_number, as_u64}
use Rattle.serde_json.specs.Read.{read}
use Rattle.bh_event.specs.Events.{Message, Requested, Arrival}
use Rattle.bh_event.specs.Given.{Given, ◌>>=◌}
use Rattle.bh_event.specs.Names.{fields, named}
use Rattle.bh_event.specs.Orders.{Instruction, ToDo, arrival_at, instruction_by}
use Rattle.bh_event.specs.declared.name.Field.{Field}
use Rattle.bh_event.specs.declared.name.Field.TheVariants.{Tenant, Quota, WithObjects, Name, Secret, Limit, To}
use Rattle.bh_event.specs.declared.name.OrderName.{OrderName}

-- ---- members

abbrev pub text_at : List ℕ → Data → Option (List ℕ)
text_at key d = option_and_then as_str (get key d)

abbrev pub number_at : List ℕ → Data → Option ℕ
number_at key d = option_and_then as_u64 (option_and_then as_number (get key d))

-- `true` or `false`
abbrev pub choice_at : List ℕ → Data → Option Bool
choice_at key d = option_and_then as_bool (get key d)

-- an object with that many members
abbrev pub has_members : ℕ → Data → Bool
has_members count d = unwrap_or (option_map (λ ms. members_len ms == count) (as_object d)) false

-- the member of a field
abbrev pub key : Field → List ℕ
key Tenant = codes "tenant"
key Quota = codes "quota"
key WithObjects = codes "with_objects"
key Name = codes "name"
key Secret = codes "secret"
key Limit = codes "limit"
key To = codes "to"

abbrev pub given_in : Data → Given
given_in d = record {
  text = λ field. text_at (key field) d;
  number = λ field. number_at (key field) d;
  choice = λ field. choice_at (key field) d;
}

-- ---- requests

-- the bytes that an even number of hexadecimal digits encode
abbrev pub bytes_of_digits : List ℕ → Option (List ℕ)
bytes_of_digits digits = result_ok (decode_of digits)

-- {"at":n,"http":text} is the text's bytes, {"at":n,"hex":digits} the bytes that the digits encode
abbrev pub request_in : Data → Option (List ℕ)
request_in d =
    if has_members 2 d then option_or (text_at (codes "http") d) (option_and_then bytes_of_digits (text_at (codes "hex") d)) else None

-- ---- orders

-- its members are those of its fields, and so many others
abbrev pub instruction_named : ℕ → Data → OrderName → Option Instruction
instruction_named others d name = if has_members (others + length (fields name)) d then instruction_by name (given_in d) else None

-- its `op` is the order's word
abbrev pub instruction_in : ℕ → Data → Option Instruction
instruction_in others d = do
  op ← text_at (codes "op") d
  name ← named op
  instruction_named others d name

-- ---- a script's line

abbrev pub event_told : Instruction → Option Message
event_told (ToDo message) = Some message
event_told other = None

-- the others are `at` and `op`
abbrev pub message_in : Data → Option Message
message_in d = option_or (option_map Requested (request_in d)) (instruction_in 2 d >>= event_told)

-- `at` is the reading of the clock
abbrev pub arrival_in : Data → Option Arrival
arrival_in d = option_and_then (λ reading. option_map (arrival_at reading) (message_in d)) (number_at (codes "at") d)

-- the value of a JSON text
abbrev pub value_in : List ℕ → Option Data
value_in bytes = if is_utf8 bytes then read bytes else None

-- the event of a line, if the line is the text of such an object
abbrev pub told_by : List ℕ → Option Arrival
told_by line = option_and_then arrival_in (value_in line)

-- ---- an operator's line

-- `at` may be missing; if it is there, it is a number, which doesn't count
abbrev pub others_in : Data → Option ℕ
others_in d = if is_some (get (codes "at") d) then option_map (λ at. 2) (number_at (codes "at") d) else Some 1

abbrev pub order_in : Data → Option Instruction
order_in d = do
  others ← others_in d
  instruction_in others d

-- the order of a line, if the line is the text of such an object
abbrev pub ordered_by : List ℕ → Option Instruction
ordered_by line = option_and_then order_in (value_in line)
