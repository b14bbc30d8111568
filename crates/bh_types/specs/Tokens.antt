-- Continuation tokens: names in hexadecimal.
use Rattle.std.specs.Prelude.{ℕ, List, Result, Ok, Err}
use Rattle.hex.specs.Hex.{encode_lower, decode_of}
use Rattle.hex.specs.declared.error.FromHexError.{FromHexError}
use Rattle.bh_types.specs.declared.refusal.Refusal.{Refusal}
use Rattle.bh_types.specs.declared.refusal.Refusal.TheVariants.{InvalidArgument}

-- two lower case digits for each byte
-- RFC 4648, section 8, in lower case
abbrev pub token_text : List ℕ → List ℕ
token_text bytes = encode_lower bytes

abbrev pub or_argument : Result (List ℕ) FromHexError → Result (List ℕ) Refusal
or_argument (Ok bytes) = Ok bytes
or_argument (Err e) = Err InvalidArgument

-- the bytes of an even number of digits, in either case
abbrev pub token_of : List ℕ → Result (List ℕ) Refusal
token_of text = or_argument (decode_of text)
