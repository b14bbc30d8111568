-- A body that is received in pieces.
use Rattle.std.specs.Prelude.{◌≡◌, ℕ, ◌+◌, ◌<◌, Bool, true, false, List, length, Option, Some, None, IfSome}
use Rattle.bh_http.specs.Transfers as transfers
use Rattle.bh_http.specs.Transfers.{Transfer}
use Rattle.std.specs.Io.KnownBytes.{Consumes, IsAtEnd}
use Rattle.bh_http.specs.declared.body.Break.{Break}
use Rattle.bh_http.specs.declared.body.Break.TheVariants.{Failed, Ended}

-- the bytes left of a body's source, and what its calls moved, if that is recorded; how many bytes
-- of the body are left; and why no more come
pub record Coming : Type 0 where
  pub left : Option (List ℕ)
  pub gave : Option (List Transfer)
  pub due : ℕ
  pub broken : Option Break

-- whether the last call failed
abbrev pub is_fault : Option Break → Bool
is_fault None = false
is_fault (Some Failed) = true
is_fault (Some Ended) = false

-- these bytes of it were received
pub record Gives (old new : Coming) (bytes : List ℕ) : Type 0 where
  pub consumed : Consumes old.left new.left bytes
  pub gave : transfers.Gives old.gave new.gave bytes (is_fault new.broken)
  pub counted : old.due ≡ length bytes + new.due

-- because the reader failed, or because its bytes are at an end
abbrev pub BreaksBy : Option Break → Coming → Type 0
BreaksBy None c = ⊥
BreaksBy (Some Failed) c = Unit {0}
BreaksBy (Some Ended) c = IsAtEnd c.left

-- no more are received, though some are missing
pub record BreaksOff (c : Coming) : Type 0 where
  pub due : 0 < c.due
  pub cause : BreaksBy c.broken c

-- a body that is broken broke off
abbrev pub MayBreak : Coming → Type 0
MayBreak c = IfSome c.broken (λ _. BreaksOff c)

-- all of it was received
pub record IsWhole (c : Coming) : Type 0 where
  pub due : c.due ≡ 0
  pub going : c.broken ≡ None

-- a body that is complete in memory
abbrev pub whole : List ℕ → Coming
whole bytes = record { left = Some bytes; gave = None; due = length bytes; broken = None }

abbrev pub broken_by : Bool → Bool → Option Break
broken_by true ended = Some Failed
broken_by false true = Some Ended
broken_by false false = None
