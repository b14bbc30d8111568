-- The transfers of a source and a sink, call by call.
use Rattle.std.specs.Prelude.{◌≡◌, ◌⊎◌, ℕ, Bool, true, false, List, [], ◌∷◌, ◌++◌, map, take, ⊤, Option, Some, None, Result, Ok, Err}
use Rattle.std.specs.List.{concat}

-- what one call moved: bytes, none of them at a source's end and if a sink takes none; or it failed
pub data Transfer : Type 0 where
  Moved : (bytes : List ℕ) → Transfer
  Failed : Transfer

-- a call's transfer of these bytes, by its result
abbrev pub transfer_of : {E : Type 0} → Result ℕ E → List ℕ → Transfer
transfer_of (Ok n) bytes = Moved (take n bytes)
transfer_of (Err e) bytes = Failed

-- the transfer of a call for one byte
abbrev pub byte_transfer : {E : Type 0} → Result (Option ℕ) E → Transfer
byte_transfer (Ok (Some byte)) = Moved (byte ∷ [])
byte_transfer (Ok None) = Moved []
byte_transfer (Err e) = Failed

-- these are appended to the record, if there is one
abbrev pub Logs : {A : Type 0} → Option (List A) → Option (List A) → List A → Type 0
Logs None new more = ⊤
Logs (Some xs) None more = ⊥
Logs (Some xs) (Some ys) more = ys ≡ xs ++ more

-- these bytes one after another, and then this transfer
abbrev pub MovesThen : Option (List Transfer) → Option (List Transfer) → List ℕ → List Transfer → Type 0
MovesThen old new bytes last = (pieces : List (List ℕ)) × (bytes ≡ concat pieces) × Logs old new (map Moved pieces ++ last)

-- a source returned these bytes and no call failed, or the one after them did, which was the last
abbrev pub Gives : Option (List Transfer) → Option (List Transfer) → List ℕ → Bool → Type 0
Gives old new bytes false = MovesThen old new bytes []
Gives old new bytes true = MovesThen old new bytes (Failed ∷ [])

-- a sink took these bytes and no call failed, or the one after them did or took none of some bytes, which was the last
abbrev pub Takes : Option (List Transfer) → Option (List Transfer) → List ℕ → Bool → Type 0
Takes old new bytes false = MovesThen old new bytes []
Takes old new bytes true = MovesThen old new bytes (Failed ∷ []) ⊎ MovesThen old new bytes (Moved [] ∷ [])
