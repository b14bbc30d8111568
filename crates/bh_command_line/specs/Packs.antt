-- Whether new bytes may go to packs.
use Rattle.std.specs.Prelude.{ℕ, Bool, true, false, codes, List, Option, Some, None, if◌then◌else◌}
use Rattle.std.specs.Str.{bytes_eq}

-- they may where the operator says `yes`, and not where it says `no`; another word is refused
abbrev pub is_asked : List ℕ → Option Bool
is_asked word = if bytes_eq word (codes "yes") then Some true else if bytes_eq word (codes "no") then Some false else None
