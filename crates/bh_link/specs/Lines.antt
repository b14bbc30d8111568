-- The first line of a reader.
use Rattle.std.specs.Prelude.{◌≡◌, ◌≤◌, ◌==◌, ℕ, nat_lt, List, [], ◌∷◌, length, Option, Some, None, option_map, option_and_then}
use Rattle.std.specs.Prelude.{if◌then◌else◌, position, take, unwrap_or}
use Rattle.std.specs.Io.KnownBytes.{Consumes}
use Rattle.bh_link.specs.Taking.{all_of}

-- the bytes before the first line feed
abbrev pub before_feed : List ℕ → Option (List ℕ)
before_feed [] = None
before_feed (b ∷ rest) = if b == 10 then Some [] else option_map (λ line. b ∷ line) (before_feed rest)

-- the bytes before the first line feed, or all of them
abbrev pub first_line : List ℕ → List ℕ
first_line bytes = unwrap_or (option_map (λ n. take n bytes) (position (λ b. b == 10) bytes)) bytes

-- with its line feed a line has at most 16,384 bytes
abbrev pub short_line : List ℕ → Option (List ℕ)
short_line line = if nat_lt (length line) 16384 then Some line else None

-- the line that bytes begin with, without its line feed; none if no line feed comes, or too late
abbrev pub line_in : List ℕ → Option (List ℕ)
line_in bytes = option_and_then short_line (before_feed bytes)

-- the read bytes begin like all bytes that the reader would return: with this line, or with none
pub record TookLine (old new : Option (List ℕ)) (taken : List ℕ) (line : Option (List ℕ)) : Type 0 where
  pub consumed : Consumes old new taken
  pub short : length taken ≤ 16384
  pub is : line ≡ line_in (all_of old taken)

-- at most this much was read
pub record TookPart (old new : Option (List ℕ)) (taken : List ℕ) : Type 0 where
  pub consumed : Consumes old new taken
  pub short : length taken ≤ 16384
