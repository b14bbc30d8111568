use Rattle.std.proofs.Common.{◌≡◌, [], ◌∷◌, take}
use Rattle.std.specs.List.{flat_map}
use Rattle.bh_check.proofs.tallies.framed.Given as goal

-- of the bytes so far
abbrev pub invariant-loop-byte : goal.invariant-loop-byte
invariant-loop-byte l = l.bytes.items ≡ flat_map (λ b. 1 ∷ b ∷ []) (take l.byte-index l.fn.text)
