-- Blocks at the front of bytes, and the room that has them.
use Rattle.std.proofs.Common.{◌≡◌, ℕ, ◌+◌, ◌-◌, ◌*◌, ◌≤◌, ◌<◌, ◌++◌, take, drop, length, sym, ap, ◌∙◌, arith}
use Rattle.std.proofs.lemmas.List.{take-take, take_at, take_all, drop-take}
use Rattle.std.proofs.lemmas.Nat.{mul-le}
use Rattle.bh_tables.specs.Schema.{Octets}

-- bytes below a bound are among the first
among_first : (n m k : ℕ) (xs : Octets) → m + n ≤ k → take n (drop m (take k xs)) ≡ take n (drop m xs)
among_first n m k xs fits =
    let split : m + (k - m) ≡ k = omega (arith, fits) in
    sym (ap (λ k. take n (drop m (take k xs))) split)
    ∙ ap (take n) (drop-take m (k - m) xs)
    ∙ take-take n (k - m) (drop m xs) (omega (arith, fits))

-- a block of some that begin both
pub block_in : (size count j : ℕ) (bytes room : Octets) → j < count → take (count * size) room ≡ take (count * size) bytes
    → take size (drop (j * size) room) ≡ take size (drop (j * size) bytes)
block_in size count j bytes room low same =
    let fits : (j + 1) * size ≤ count * size = mul-le (j + 1) size count size (omega (arith, low)) (omega arith) in
    let within : j * size + size ≤ count * size = omega (arith, fits) in
    sym (among_first size (j * size) (count * size) room within)
    ∙ ap (λ b. take size (drop (j * size) b)) same
    ∙ among_first size (j * size) (count * size) bytes within

-- bytes that are filled up begin the room
pub front_of : (n total : ℕ) (held idle bytes : Octets) → n ≡ length bytes → n ≤ total → held ≡ bytes → take n (take total held ++ idle) ≡ bytes
front_of n total held idle bytes long fits same =
    ap (λ l. take n (take total l ++ idle)) same
    ∙ ap (λ l. take n (l ++ idle)) (take_all total bytes (omega (arith, long, fits)))
    ∙ take_at bytes idle n (sym long)
