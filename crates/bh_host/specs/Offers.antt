-- The answers that a storage gives, as contracts see them.
use Rattle.std.specs.Prelude.{map, Option, Result, Ok, Err}
use Rattle.std.specs.String.{string_bytes}
use Rattle.bh_http.specs.Answers.{response_view}
use Rattle.bh_http.specs.Responses.{Sent}
use Rattle.bh_model.specs.Operations as model
use Rattle.bh_model.specs.State.{State}
use Rattle.bh_tables.specs.Typed.{Tables}
use Rattle.bh_storage.specs.Answers.{found_answer, used_answer}
use Rattle.bh_storage.specs.declared.answer.FoundVersion.{FoundVersion}
use Rattle.bh_storage.specs.declared.error.Outcome.{Outcome}
use Rattle.bh_storage.specs.declared.error.Outcome.TheVariants as outcome
use Rattle.bh_storage.specs.declared.error.StepError.{StepError}
use Rattle.bh_host.specs.Replies.{response_to}
use Rattle.bh_host.specs.declared.offer.CommandAnswer.{CommandAnswer}
use Rattle.bh_host.specs.declared.offer.CommandAnswer.TheVariants as command
use Rattle.bh_host.specs.declared.offer.Offer.{Offer}
use Rattle.bh_host.specs.declared.offer.Offer.TheVariants.{Whole, Planned}

-- a step of the machine, with its response in place of its answer
abbrev pub responded : {E : Type 0} → Result (model.Answer × Option State) E → Result (Sent × Option State) E
responded (Ok step) = Ok (response_to step.0, step.1)
responded (Err e) = Err e

-- a command's answer
abbrev pub command_answer_view : CommandAnswer → model.Answer
command_answer_view command.Done = model.Done
command_answer_view (command.Used usage) = used_answer usage
command_answer_view (command.Keys names) = model.Keys (map string_bytes names.items)

-- the response to an operation, by the tables after it
abbrev pub offer_view : Tables → Offer → Sent
offer_view tables (Whole response) = response_view response
offer_view tables (Planned found) = response_to (found_answer tables found)

abbrev pub IfFound : Offer → (FoundVersion → Type 0) → Type 0
IfFound (Whole response) P = Unit {0}
IfFound (Planned found) P = P found

-- if a step's answer is an object
abbrev pub IfPlanned : {E : Type 0} → Result (Outcome Offer E) (StepError E) → (FoundVersion → Type 0) → Type 0
IfPlanned (Ok (outcome.Done offer)) P = IfFound offer P
IfPlanned (Ok (outcome.Spoilt r)) P = Unit {0}
IfPlanned (Err e) P = Unit {0}
