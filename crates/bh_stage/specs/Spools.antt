-- A file of bytes that have no room in memory.
use Rattle.std.specs.Prelude.{◌≡◌, ℕ, List, [], length, take, drop, Option, Some, None}
use Rattle.bh_stage.specs.Records.{bytes_of}
use Rattle.bh_stage.specs.declared.spooled.Spool.{Spool}

-- what was written to it and not read yet
abbrev pub rest_of : Spool → List ℕ
rest_of spool = drop (length (bytes_of spool.got.items)) (bytes_of spool.put.items)

-- it returned what was written to it, in order
abbrev pub IsFaithful : Spool → Type 0
IsFaithful spool = take (length (bytes_of spool.got.items)) (bytes_of spool.put.items) ≡ bytes_of spool.got.items

-- the same, if there is one
abbrev pub rest_in : Option Spool → List ℕ
rest_in None = []
rest_in (Some spool) = rest_of spool

abbrev pub ReturnsAll : Option Spool → Type 0
ReturnsAll None = Unit {0}
ReturnsAll (Some spool) = IsFaithful spool
