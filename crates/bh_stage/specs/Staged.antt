-- What is handed over: all the bytes of a connection's own request, once it is whole.
use Rattle.std.specs.Prelude.{◌≡◌, ◌⊎◌, ◌++◌, true, false, [], drop, is_some}
use Rattle.bh_types.specs.Limits.{HostLimits}
use Rattle.bh_stage.specs.Joins.{Joins}
use Rattle.bh_stage.specs.Records.{bytes_of, is_ended}
use Rattle.bh_stage.specs.Spools.{rest_in}
use Rattle.bh_stage.specs.Wholes.{IsWhole}
use Rattle.bh_stage.specs.declared.stage.Handed.{Handed}

-- the reader of the connection whose turn it is gives all the bytes that came on it, and no other ones: those in memory, and
-- then those of its file, if it has one. Without a file they are a whole request or line, or can be none that is accepted, or
-- its client sends no more. Nothing was answered yet
pub record IsHanded {R W : Type 0} (limits : HostLimits) (handed : Handed R W) : Type 0 where
  pub own : handed.reader.number ≡ handed.turn.number
  pub request : drop handed.reader.at handed.reader.bytes.items ++ rest_in handed.reader.spool ≡ bytes_of handed.reader.inlet.given.items
  pub whole : is_some handed.reader.spool ≡ false
      → IsWhole limits handed.door (bytes_of handed.reader.inlet.given.items) ⊎ (is_ended handed.reader.inlet.given.items ≡ true)
  pub silent : bytes_of handed.writer.told.items ≡ []

-- it may be applied together with others
abbrev pub IsJoining : {R W : Type 0} → Handed R W → Type 0
IsJoining handed = Joins handed.door (is_some handed.reader.spool) handed.reader.bytes.items
