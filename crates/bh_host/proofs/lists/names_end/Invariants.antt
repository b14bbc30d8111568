use Rattle.std.proofs.Common.{◌≡◌, ◌++◌, codes, flat_map, length, take}
use Rattle.std.specs.Fmt.{decimal}
use Rattle.std.specs.String.{string_bytes}
use Rattle.bh_host.specs.Replies.{next_word}
use Rattle.bh_host.proofs.lists.names_end.Given as goal

-- how many there are, and those so far
abbrev pub invariant-loop-name : goal.invariant-loop-name
invariant-loop-name l = string_bytes l.line ≡ (codes " " ++ decimal (length l.names)) ++ flat_map (λ n. next_word (string_bytes n)) (take l.name-index l.names)
