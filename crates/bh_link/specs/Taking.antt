-- The bytes read from a reader, whether it records its bytes or not.
use Rattle.std.specs.Prelude.{◌≡◌, ◌≤◌, ◌+◌, ◌⊎◌, ℕ, Bool, true, false, Ok, Err, List, [], ◌∷◌, length, Option, Some, None, Result}
use Rattle.std.specs.Io.KnownBytes.{Consumes, Keeps, IsAtEnd}
use Rattle.bh_types.specs.Limits.{HostLimits}
use Rattle.bh_types.specs.declared.refusal.Refusal.{Refusal}
use Rattle.httparse.specs.Grammar.{RequestHead}
use Rattle.bh_http.specs.Reading.{Reads, HasHead, HasNoHead, framing, parts_of}
use Rattle.bh_http.specs.Views.{Taken}
use Rattle.bh_http.specs.Arriving.{HasExtent, NeverAccepted, Announces}
use Rattle.bh_http.specs.declared.head.FoundHead.{FoundHead}
use Rattle.bh_link.specs.declared.request.TakeError.{TakeError}
use Rattle.bh_link.specs.declared.request.TakeError.TheVariants.{ReadFailed, OutOfMemory}

-- the next byte was read, or the end is reached
abbrev pub GivesByte : Option (List ℕ) → Option (List ℕ) → Option ℕ → Type 0
GivesByte old new (Some byte) = Consumes old new (byte ∷ [])
GivesByte old new None = Keeps old new × IsAtEnd new

-- all the bytes that a reader would return, if it records them; otherwise those that were read from
-- it
abbrev pub all_of : Option (List ℕ) → List ℕ → List ℕ
all_of None taken = taken
all_of (Some all) taken = all

-- a head has at most 16,384 bytes, and no more bytes follow than the body that it announces
abbrev pub IsShort : HostLimits → List ℕ → Type 0
IsShort limits taken = (length taken ≤ 16384) ⊎ ((size : ℕ) × Announces limits taken size × (length taken ≤ 16384 + size))

-- a request was read. The read bytes are parsed as all bytes would be; if the request is accepted,
-- they are its head and body
pub record Took (limits : HostLimits) (old new : Option (List ℕ)) (taken : List ℕ) : Type 0 where
  pub consumed : Consumes old new taken
  pub short : IsShort limits taken
  pub decided : (answer : Result Taken Refusal) → Reads limits taken answer → Reads limits (all_of old taken) answer
  pub whole : (n : ℕ) → HasExtent limits (all_of old taken) n → length taken ≡ n

-- no byte after an accepted request's head and body was read
pub record TookAtMost (limits : HostLimits) (old new : Option (List ℕ)) (taken : List ℕ) : Type 0 where
  pub consumed : Consumes old new taken
  pub short : IsShort limits taken
  pub within : (n : ℕ) → HasExtent limits (all_of old taken) n → length taken ≤ n

-- these bytes are a head that announces a body of this size
abbrev pub IsHead : HostLimits → List ℕ → ℕ → Type 0
IsHead limits bytes size = (head : RequestHead) × HasHead bytes head [] × (framing limits (parts_of head) ≡ Ok size)

-- the result for the bytes up to the end of a head: never an accepted request, whatever follows; all
-- bytes, without a head; or a head
abbrev pub CameTo : HostLimits → Option (List ℕ) → List ℕ → ℕ → Type 0
CameTo limits new bytes body =
    (NeverAccepted limits bytes × (body ≡ 0)) ⊎ ((IsAtEnd new × (HasNoHead bytes × (body ≡ 0))) ⊎ IsHead limits bytes body)

pub record Opens (limits : HostLimits) (old new : Option (List ℕ)) (bytes : List ℕ) (body : ℕ) : Type 0 where
  pub consumed : Consumes old new bytes
  pub short : length bytes ≤ 16384
  pub came_to : CameTo limits new bytes body

-- the size of the body after a head
abbrev pub announced_size : Result FoundHead Refusal → ℕ
announced_size (Ok head) = head.body_size
announced_size (Err refusal) = 0

abbrev pub is_fault : TakeError → Bool
is_fault ReadFailed = true
is_fault OutOfMemory = false
