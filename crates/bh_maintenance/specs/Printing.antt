-- A subcommand's printed text, and its status.
use Rattle.std.specs.Prelude.{◌≡◌, ℕ, Bool, false, nat_le, ◌&&◌, ◌||◌, List, [], ◌∷◌, ◌++◌, codes, if◌then◌else◌}
use Rattle.std.specs.Str.{bytes_eq}
use Rattle.bh_types.specs.declared.refusal.Refusal.{Refusal}
use Rattle.bh_http.specs.Responses.{refusal_text}
use Rattle.bh_maintenance.specs.declared.printed.Printed.{Printed}

-- a line, and its line feed
abbrev pub line_of : List ℕ → List ℕ
line_of text = text ++ 10 ∷ []

-- a refusal begins with its number; no other reply to an operator begins with a digit
abbrev pub is_refusal : List ℕ → Bool
is_refusal [] = false
is_refusal (b ∷ text) = nat_le 48 b && nat_le b 57

-- 1 if the reply is a refusal
abbrev pub status_of : List ℕ → ℕ
status_of text = if is_refusal text then 1 else 0

-- so for a line that a server didn't accept, and for a backup that it didn't make
abbrev pub status_told : List ℕ → ℕ
status_told text = if bytes_eq text (codes "bad line") || bytes_eq text (codes "fault") then 1 else status_of text

-- the printed text of a refusal
abbrev pub refused_line : Refusal → List ℕ
refused_line refusal = line_of (refusal_text refusal)

-- a line with its line feed, and status 1 if it is a refusal
pub record IsLine (line : List ℕ) (printed : Printed) : Type 0 where
  pub text : printed.text.items ≡ line_of line
  pub status : printed.status ≡ status_of line

pub record IsRefusal (refusal : Refusal) (printed : Printed) : Type 0 where
  pub text : printed.text.items ≡ refused_line refusal
  pub status : printed.status ≡ 1

-- `fault`: a failure without a number
pub record IsFault (printed : Printed) : Type 0 where
  pub text : printed.text.items ≡ line_of (codes "fault")
  pub status : printed.status ≡ 1

-- a host's reply to a line that was sent to it, and status 1 if it is a refusal, `bad line` or
-- `fault`
pub record IsReply (reply : List ℕ) (printed : Printed) : Type 0 where
  pub text : printed.text.items ≡ line_of reply
  pub status : printed.status ≡ status_told reply

-- no byte, and status 0
pub record IsNothing (printed : Printed) : Type 0 where
  pub text : printed.text.items ≡ []
  pub status : printed.status ≡ 0
