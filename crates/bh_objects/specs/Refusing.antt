-- A refusal that is returned after a body was received, and the outcome of a body whose bytes were
-- stored.
use Rattle.std.specs.Prelude.{◌≡◌, true, false, Option, Result, Ok, Err}
use Rattle.std.specs.String.{string_bytes}
use Rattle.std.specs.declared.alloc.Global.{Global}
use Rattle.std.specs.declared.string.String.{String}
use Rattle.bh_http.specs.Bodies.{Coming, Gives, IsWhole, MayBreak}
use Rattle.bh_types.specs.Checksums.{checksum_text}
use Rattle.bh_types.specs.declared.refusal.Refusal.{Refusal}
use Rattle.bh_types.specs.declared.refusal.Refusal.TheVariants.{BadDigest}
use Rattle.bh_model.specs.Parts.{is_checksum}
use Rattle.bh_model.specs.State.{Octets}
use Rattle.bh_storage.specs.declared.error.Outcome.{Outcome}
use Rattle.bh_storage.specs.declared.error.Outcome.TheVariants.{Done, Spoilt}
use Rattle.bh_storage.specs.declared.error.StepError.{StepError}
use Rattle.bh_storage.specs.declared.error.Trouble.{Trouble}
use Rattle.bh_storage.specs.declared.error.StepError.TheVariants.{Refused, Failed}

abbrev pub IfRefused : StepError Refusal → (Refusal → Type 0) → Type 0
IfRefused (Refused r) P = P r
IfRefused (Failed trouble) P = Unit {0}

-- it is one of these, and the whole body was received; or the body broke off, or memory ran out
abbrev pub RefusedBy : (Refusal → Type 0) → StepError Refusal → Coming → Type 0
RefusedBy P (Refused r) body = P r × IsWhole body
RefusedBy P (Failed trouble) body = MayBreak body

-- the received bytes have the given checksum, if one is given, and this is done with them. Or they
-- don't have it, or memory or the store failed, or the body broke off
abbrev pub ReceivedAs : Octets → Option Octets → Type 0 → Coming → Result (Outcome (String Global) Refusal) Trouble → Type 0
ReceivedAs bytes given Did after (Ok (Done text)) =
    IsWhole after × (is_checksum given bytes ≡ true) × (string_bytes text ≡ checksum_text bytes) × Did
ReceivedAs bytes given Did after (Ok (Spoilt r)) = IsWhole after × (is_checksum given bytes ≡ false) × (r ≡ BadDigest)
ReceivedAs bytes given Did after (Err trouble) = MayBreak after

pub record IsReceived (result : Result (Outcome (String Global) Refusal) Trouble) (before after : Coming) (given : Option Octets)
    (Did : Octets → Type 0) : Type 0 where
  pub bytes : Octets
  pub gives : Gives before after bytes
  pub received : ReceivedAs bytes given (Did bytes) after result
