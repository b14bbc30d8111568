-- Why a script's line is not an event: its first flaw, in the order of these definitions.
use Rattle.std.specs.Prelude.{ℕ, List, codes, not, ◌&&◌, Option, Some, None, is_some, if◌then◌else◌}
use Rattle.std.specs.Str.{is_utf8}
use Rattle.serde_json.specs.Data.{Data}
use Rattle.serde_json.specs.Find.{as_object}
use Rattle.serde_json.specs.Read.{read}
use Rattle.bh_event.specs.Lines.{text_at, number_at, has_members}
use Rattle.bh_event.specs.Names.{is_event_word}
use Rattle.bh_event.specs.declared.flaw.Flaw.{Flaw}
use Rattle.bh_event.specs.declared.flaw.Flaw.TheVariants.{NotUtf8, NotJson, NotAnObject, NoReading, NoContent, OtherMembers, OddDigits}
use Rattle.bh_event.specs.declared.flaw.Flaw.TheVariants.{UnknownCommand, WrongMembers}

-- two members: one is `at`, and the other is not a request, so its digits are invalid
abbrev pub flaw_of_request : Data → Flaw
flaw_of_request d =
    if not (is_some (text_at (codes "http") d)) && not (is_some (text_at (codes "hex") d)) then NoContent
    else if has_members 2 d then OddDigits
    else OtherMembers

-- the command is known, so its other members are wrong
unfoldable pub flaw_of_command : List ℕ → Flaw
flaw_of_command op = if is_event_word op then WrongMembers else UnknownCommand

abbrev pub flaw_of_content : Data → Option (List ℕ) → Flaw
flaw_of_content d None = flaw_of_request d
flaw_of_content d (Some op) = flaw_of_command op

abbrev pub flaw_in : Data → Flaw
flaw_in d =
    if not (is_some (as_object d)) then NotAnObject
    else if not (is_some (number_at (codes "at") d)) then NoReading
    else flaw_of_content d (text_at (codes "op") d)

abbrev pub flaw_of_value : Option Data → Flaw
flaw_of_value None = NotJson
flaw_of_value (Some d) = flaw_in d

abbrev pub flaw_of : List ℕ → Flaw
flaw_of line = if is_utf8 line then flaw_of_value (read line) else NotUtf8
