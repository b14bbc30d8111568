-- When a host that is served sweeps by itself.
use Rattle.std.specs.Prelude.{◌≡◌, ℕ, ◌+◌, ◌*◌, ◌-◌, ◌/◌, ◌&&◌, ◌||◌, [], ◌++◌, Bool, true, false, List, codes, nat_eq, nat_lt, not}
use Rattle.std.specs.Prelude.{max, Option, Some, None, if◌then◌else◌, unwrap_or}
use Rattle.std.specs.List.{starts_with, ends_with}
use Rattle.std.specs.Io.Cursor.{cursor_inner, cursor_position}
use Rattle.std.specs.declared.alloc.Global.{Global}
use Rattle.std.specs.declared.io.impls.Cursor.{Cursor}
use Rattle.std.specs.declared.vec.Vec.{Vec}
use Rattle.bh_wires.specs.declared.sweeping.Sweeping.{Sweeping}

-- ---- what may stay

-- the bytes of a file that are needed, at most: it has more if some of it is free
abbrev pub needed_in : Option ℕ → ℕ → ℕ
needed_in file unneeded = unwrap_or file 0 - unneeded

-- of the bytes that nobody needs so many may stay as the operator said, or a tenth of those that are
-- needed, or 64 MiB if that is more
abbrev pub kept_of : Option ℕ → ℕ → ℕ
kept_of (Some limit) needed = limit
kept_of None needed = max 67108864 (needed / 10)

-- more is there than may stay
abbrev pub is_behind : Sweeping → Bool
is_behind it = nat_lt it.keep it.unneeded

-- ---- when a step is due

-- a step is followed by none for 20 ms, and for four times as long as it took, or, while more is there
-- than may stay, for as long
abbrev pub times : Sweeping → ℕ
times it = if is_behind it then 1 else 4

abbrev pub has_rested : Sweeping → ℕ → Bool
has_rested it now = not (nat_lt now (it.ended + max 20 (times it * it.took)))

-- something is known to be left, or is more than may stay
abbrev pub is_wanted : Sweeping → Bool
is_wanted it = it.is_partial || is_behind it

-- each hour there is one for uploads that expired
abbrev pub is_due : Sweeping → ℕ → Bool
is_due it now = has_rested it now && (is_wanted it || not (nat_lt now (it.ended + 3600000)))

-- ---- when it is counted what nobody needs

-- so many were counted, when the file had so many bytes
abbrev pub counted : Sweeping → ℕ → Option ℕ → Sweeping
counted it bytes file = record it { unneeded = bytes; keep = kept_of it.limit (needed_in file bytes); is_asked = false }

-- the same, whatever size the file had
abbrev pub HasCounted : ℕ → Sweeping → Sweeping → Type 0
HasCounted bytes before after = (file : Option ℕ) × (after ≡ counted before bytes file)

-- of a host that is served from now on, which is counted before anything is served
abbrev pub begun : Option ℕ → ℕ → Sweeping
begun limit now = record { limit = limit; unneeded = 0; keep = 0; is_asked = true; is_partial = false; ended = now; took = 0 }

-- it is counted again after a request that may write: one that doesn't begin as a GET or a HEAD
abbrev pub may_write : List ℕ → Bool
may_write first = not (starts_with nat_eq first (codes "GET ") || starts_with nat_eq first (codes "HEAD "))

abbrev pub changed : Sweeping → List ℕ → Sweeping
changed it first = if may_write first then record it { is_asked = true } else it

-- and after a step, which left something by its reply, or nothing
abbrev pub stepped : Sweeping → ℕ → ℕ → List ℕ → Sweeping
stepped it began now reply =
    record it { ended = now; took = now - began; is_partial = ends_with nat_eq reply (codes " partial"); is_asked = true }

-- ---- the host's own line

-- a line begins with the secret and a space if there is one
abbrev pub opening : Option (List ℕ) → List ℕ
opening None = []
opening (Some secret) = secret ++ codes " "

-- the line of the host's own that orders a step
abbrev pub step_line : Option (List ℕ) → List ℕ
step_line secret = opening secret ++ codes "{\"op\":\"sweep\",\"limit\":256}\n"

-- the host's own line, of which nothing was read
abbrev pub IsOwnLine : Option (List ℕ) → Cursor (Vec ℕ Global) → Type 0
IsOwnLine secret line = ((cursor_inner line).items ≡ step_line secret) × (cursor_position line ≡ 0)

-- it is the same line, and nothing of it was read
abbrev pub IsAgain : Cursor (Vec ℕ Global) → Cursor (Vec ℕ Global) → Type 0
IsAgain before after = (cursor_inner after ≡ cursor_inner before) × (cursor_position after ≡ 0)
