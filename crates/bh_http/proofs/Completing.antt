-- A head, and the request that it begins.
use Rattle.std.proofs.Common.{◌≡◌, ℕ, List, refl, ap, ◌∙◌, inl, inr, Result, Ok, Err}
use Rattle.bh_types.specs.Limits.{HostLimits}
use Rattle.bh_types.specs.declared.refusal.Refusal.{Refusal}
use Rattle.bh_http.specs.Reading.{Reads, ReadsHead, taken, announcing, completed, framing, parts_of}
use Rattle.bh_http.specs.Views.{Taken, Parts, Announced}

-- the request of what was read of a head
abbrev pub request_by : Result (Announced × List ℕ) Refusal → Result Taken Refusal
request_by (Err refusal) = Err refusal
request_by (Ok (head, rest)) = completed head rest

completes : (head : Parts) (rest : List ℕ) (size : Result ℕ Refusal) → request_by (announcing head rest size) ≡ taken head rest size
completes head rest (Ok size) = refl
completes head rest (Err refusal) = refl

pub head_reads : (limits : HostLimits) (bytes : List ℕ) (answer : Result (Announced × List ℕ) Refusal) → ReadsHead limits bytes answer → Reads limits bytes (request_by answer)
head_reads limits bytes answer reads =
    elim reads [
      | inl none ↦ inl (none.0, ap request_by none.1)
      | inr (head, rest, has, is) ↦ inr (head, rest, has, ap request_by is ∙ completes (parts_of head) rest (framing limits (parts_of head)))
    ]
