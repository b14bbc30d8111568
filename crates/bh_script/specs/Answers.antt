-- The output of a script: the replies of a run over its events, and then its bad line; and how it
-- is written.
use Rattle.std.specs.Prelude.{◌≡◌, ℕ, Bool, true, false, List, [], ◌∷◌, ◌++◌, take, codes, decimal, Option, Some, None, Result, MatchResult}
use Rattle.std.specs.Io.KnownBytes.{Appends}
use Rattle.std.specs.List.{flat_map}
use Rattle.bh_event.specs.Events.{Arrival}
use Rattle.bh_host.specs.Runs.{Told, Turn, Ran, HasRun}
use Rattle.bh_tables.specs.Typed.{Tables}
use Rattle.bh_types.specs.BlockDigests.{digest_number}
use Rattle.bh_types.specs.Limits.{HostLimits}
use Rattle.bh_types.specs.declared.block_digest.BlockDigest.{BlockDigest}
use Rattle.bh_view.specs.Laws.{new_host}
use Rattle.bh_script.specs.Lines.{events_in, events_of, bad_line_from, bad_line_of}
use Rattle.bh_script.specs.declared.input.BadLine.{BadLine}
use Rattle.bh_script.specs.declared.error.ScriptError.{ScriptError}
use Rattle.bh_script.specs.declared.error.ScriptError.TheVariants as fault

-- the tables of a new host with these limits, with blocks named by this function
abbrev pub first_tables : HostLimits → BlockDigest → Tables
first_tables limits digest = new_host limits.min_part limits.max_body (digest_number digest)

-- such a host, given these events one after another, returned these replies
abbrev pub AnewRan : HostLimits → BlockDigest → List Arrival → List Told → Type 0
AnewRan limits digest events dones = (end : Tables) × Ran events dones (first_tables limits digest) end

-- a reply, and a line feed
abbrev pub reply_line : Told → List ℕ
reply_line done = done.1 ++ 10 ∷ []

abbrev pub replies_text : List Told → List ℕ
replies_text dones = flat_map reply_line dones

-- `bad line`, its number, and a line feed
abbrev pub bad_line_text : ℕ → List ℕ
bad_line_text number = codes "bad line " ++ decimal number ++ 10 ∷ []

-- the text after the replies
abbrev pub end_text : Option BadLine → List ℕ
end_text None = []
end_text (Some bad) = bad_line_text bad.number

abbrev pub answer_text : List Told → Option BadLine → List ℕ
answer_text dones bad = replies_text dones ++ end_text bad

-- a text has such a host's replies to the events of an input, each on a line, and then the input's
-- bad line
abbrev pub AnswersScript : HostLimits → BlockDigest → List ℕ → List ℕ → Type 0
AnswersScript limits digest input text =
    (dones : List Told) × AnewRan limits digest (events_of input) dones × (text ≡ answer_text dones (bad_line_of input))

-- a new host's run has these replies to events, and each tenant is alone in it
abbrev pub AnewAlone : HostLimits → BlockDigest → List Arrival → List Told → Type 0
AnewAlone limits digest events dones =
    (end : Tables) × Ran events dones (first_tables limits digest) end
    × ((turns : List Turn) × HasRun limits events dones turns (first_tables limits digest) end)

abbrev pub AnswersScriptAlone : HostLimits → BlockDigest → List ℕ → List ℕ → Type 0
AnswersScriptAlone limits digest input text =
    (dones : List Told) × AnewAlone limits digest (events_of input) dones × (text ≡ answer_text dones (bad_line_of input))

-- the text for lines that are counted from a number on, by a host whose tables are `first` before
-- them and `end` after
abbrev pub AnswersLines : ℕ → List (List ℕ) → Tables → Tables → List ℕ → Type 0
AnswersLines number lines first end text =
    (dones : List Told) × Ran (events_in lines) dones first end × (text ≡ answer_text dones (bad_line_from number lines))

-- ---- a writer's bytes before and after

-- the beginning of a text was appended
abbrev pub AppendsFront : Option (List ℕ) → Option (List ℕ) → List ℕ → Type 0
AppendsFront old new text = (sent : ℕ) × Appends old new (take sent text)

-- a text was appended: whole on Ok, and on Err its beginning
abbrev pub Writes : {X E : Type 0} → List ℕ → Result X E → Option (List ℕ) → Option (List ℕ) → Type 0
Writes text result old new = MatchResult result (λ _. Appends old new text) (λ _. AppendsFront old new text)

-- an event was applied, and its reply and a line feed were appended: whole on Ok, and on Err their
-- beginning
abbrev pub WritesReply : {X E : Type 0} → Arrival → Tables → Tables → Result X E → Option (List ℕ) → Option (List ℕ) → Type 0
WritesReply event before after result old new =
    (done : Told) × Ran (event ∷ []) (done ∷ []) before after × Writes (reply_line done) result old new

-- the replies to lines were appended: whole on Ok, and on Err their beginning
abbrev pub WritesLines : {X E : Type 0} → ℕ → List (List ℕ) → Tables → Tables → Result X E → Option (List ℕ) → Option (List ℕ) → Type 0
WritesLines number lines first end result old new = (text : List ℕ) × AnswersLines number lines first end text × Writes text result old new

-- the output of a script was appended: whole on Ok, and on Err its beginning
abbrev pub WritesScript : {X E : Type 0} → HostLimits → BlockDigest → List ℕ → Result X E → Option (List ℕ) → Option (List ℕ) → Type 0
WritesScript limits digest input result old new = (text : List ℕ) × AnswersScript limits digest input text × Writes text result old new

-- a text in which each tenant is alone was appended
abbrev pub WritesScriptAlone : {X E : Type 0} → HostLimits → BlockDigest → List ℕ → Result X E → Option (List ℕ) → Option (List ℕ) → Type 0
WritesScriptAlone limits digest input result old new =
    (text : List ℕ) × AnswersScriptAlone limits digest input text × Writes text result old new

-- whether the writer failed
abbrev pub is_write : ScriptError → Bool
is_write (fault.Trouble trouble) = false
is_write fault.WriteFailed = true
