-- What a server is asked about itself, and answers.
use Rattle.std.specs.Prelude.{◌≡◌, ℕ, ◌++◌, Bool, true, false, List, codes, decimal, Option, Some, None, option_and_then}
use Rattle.bh_event.specs.Operators.{order_of_line}
use Rattle.bh_event.specs.Orders.{Instruction, ToAnswer}
use Rattle.bh_event.specs.declared.order.Asked.{Asked}
use Rattle.bh_event.specs.declared.order.Asked.TheVariants.{Health, Metrics, ClockAccept}
use Rattle.bh_host.specs.declared.reply.Caller.{Caller}
use Rattle.bh_host.specs.declared.reply.Caller.TheVariants.{Request, Operator}
use Rattle.bh_link.specs.Lines.{first_line}
use Rattle.bh_stage.specs.declared.whole.Door.{Door}
use Rattle.bh_stage.specs.declared.whole.Door.TheVariants.{Clients, Operators}
use Rattle.bh_wires.specs.Pace.{accepted}
use Rattle.bh_wires.specs.declared.pace.Pace.{Pace}

-- ---- who asks

-- without a port for operators there are only clients
abbrev pub caller_at : Door → Bool → Caller
caller_at Operators true = Operator
caller_at Operators false = Request
caller_at Clients has_operators = Request

abbrev asked_in : Instruction → Option Asked
asked_in (ToAnswer asked) = Some asked
asked_in other = None

-- what the first line of an operator's bytes asks, under a secret if there is one
abbrev pub asked_of : Option (List ℕ) → List ℕ → Option Asked
asked_of secret bytes = option_and_then asked_in (order_of_line secret (first_line bytes))

-- only an operator's bytes ask the server about itself
abbrev pub asked_by : Caller → Option (List ℕ) → List ℕ → Option Asked
asked_by Request secret bytes = None
asked_by Operator secret bytes = asked_of secret bytes

-- ---- what is answered

-- what all requests are refused by while the clock isn't taken
abbrev pub refused : List ℕ
refused = codes "30 ClockOutOfRange\n"

abbrev pub health_text : Bool → List ℕ
health_text true = refused
health_text false = codes "health ok\n"

abbrev pub accepted_text : Option ℕ → List ℕ
accepted_text None = refused
accepted_text (Some reading) = codes "accepted " ++ (decimal reading ++ codes "\n")

-- ---- the clock

-- a reading that was taken as right is the measure from here on; where none was, nothing changed
abbrev pub HasAccepted : Pace → Option ℕ → Pace → Type 0
HasAccepted before None after = after ≡ before
HasAccepted before (Some reading) after = (now : ℕ) × (after ≡ accepted before reading now)

-- no other question changes what readings are measured by
abbrev pub StaysUnless : Asked → Pace → Pace → Type 0
StaysUnless ClockAccept before after = (reading : Option ℕ) × HasAccepted before reading after
StaysUnless Health before after = after ≡ before
StaysUnless Metrics before after = after ≡ before
