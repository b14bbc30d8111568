-- When a request is whole, by the bytes that came of it.
use Rattle.std.specs.Prelude.{◌≡◌, ◌⊎◌, ◌≤◌, ◌==◌, ℕ, true, List, length}
use Rattle.std.specs.List.{list_any}
use Rattle.bh_types.specs.Limits.{HostLimits}
use Rattle.bh_http.specs.Arriving.{HasExtent, NeverAccepted}
use Rattle.bh_stage.specs.declared.whole.Door.{Door}
use Rattle.bh_stage.specs.declared.whole.Door.TheVariants.{Clients, Operators}
use Rattle.bh_stage.specs.declared.whole.Extent.{Extent}
use Rattle.bh_stage.specs.declared.whole.Extent.TheVariants.{NotYet, Never, Bytes, TooLong}

-- the head and the body of a request came, or bytes that no more bytes make a request that is
-- accepted
abbrev pub IsWholeRequest : HostLimits → List ℕ → Type 0
IsWholeRequest limits bytes = ((n : ℕ) × HasExtent limits bytes n) ⊎ NeverAccepted limits bytes

-- a line came, or more bytes than a line may have
abbrev pub IsWholeLine : List ℕ → Type 0
IsWholeLine bytes = (list_any (λ b. b == 10) bytes ≡ true) ⊎ (16384 ≤ length bytes)

abbrev pub IsWhole : HostLimits → Door → List ℕ → Type 0
IsWhole limits Clients bytes = IsWholeRequest limits bytes
IsWhole limits Operators bytes = IsWholeLine bytes

-- what an extent says of the bytes that it was read from
abbrev pub Extends : HostLimits → Door → List ℕ → Extent → Type 0
Extends limits door bytes NotYet = Unit {0}
Extends limits door bytes Never = IsWhole limits door bytes
Extends limits door bytes (Bytes n) = n ≤ length bytes → IsWhole limits door bytes
Extends limits door bytes TooLong = Unit {0}

-- no more bytes than came are wanted
abbrev pub IsReached : Extent → ℕ → Type 0
IsReached NotYet came = ⊥
IsReached Never came = Unit {0}
IsReached (Bytes n) came = n ≤ came
IsReached TooLong came = ⊥
