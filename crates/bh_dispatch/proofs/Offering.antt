-- A response that is complete, and an object whose bytes are still to be read, as what an operation answers.
use Rattle.std.proofs.Common.{◌≡◌, Option, Result, Ok, Err, ap, subst}
use Rattle.std.specs.Result.{result_map_both}
use Rattle.bh_base.specs.Connections.{state}
use Rattle.sqlite_trees.specs.declared.store.Store.{Ghosts}
use Rattle.bh_shelf.specs.declared.shelf.Shelf.{Ghosts as Shelves}
use Rattle.bh_base.specs.declared.connection.Connection.{Connection}
use Rattle.bh_types.specs.declared.rejection.Rejection.{Rejection}
use Rattle.bh_http.specs.Answers.{response_view}
use Rattle.bh_http.specs.Bodies.{Coming, Gives, IsWhole}
use Rattle.bh_http.specs.Responses.{Sent}
use Rattle.bh_http.proofs.BodyLemmas.{going_may}
use Rattle.bh_model.specs.Operations as machine
use Rattle.bh_model.specs.State.{Octets, State as Machine}
use Rattle.bh_cache.specs.Kept.{KeptBlocks, Agrees}
use Rattle.bh_base.specs.Connections.{IsClean, tables}
use Rattle.bh_storage.specs.Answers.{found_answer}
use Rattle.bh_host.specs.Offers.{offer_view, responded}
use Rattle.bh_storage.specs.Calls.{Carries, GivesStep, Operates, OperatesBy, UnlessSpoilt}
use Rattle.bh_storage.specs.Plans.{IsMeasured}
use Rattle.bh_host.specs.Offers.{IfPlanned}
use Rattle.bh_storage.specs.declared.answer.FoundVersion.{FoundVersion}
use Rattle.bh_host.specs.declared.offer.Offer.{Offer}
use Rattle.bh_host.specs.declared.offer.Offer.TheVariants.{Whole, Planned}
use Rattle.bh_storage.specs.declared.error.Outcome.{Outcome}
use Rattle.bh_storage.specs.declared.error.Outcome.TheVariants.{Done, Spoilt}
use Rattle.bh_storage.specs.declared.error.StepError.{StepError}
use Rattle.bh_storage.specs.declared.error.StepError.TheVariants.{Refused, Failed}
use Rattle.bh_tables.specs.Typed.{Tables}
use Rattle.bh_dispatch.specs.Operating.{OperatesOn, OperatesOnBy}
use Rattle.bh_dispatch.specs.Responses.{offer_as}
use Rattle.bh_dispatch.proofs.Receiving.{Responses, says_nothing, kept_operated}

abbrev pub offered : Responses → Result (Outcome Offer Rejection) (StepError Rejection)
offered r = result_map_both offer_as (λ error. error) r

-- ---- a response that is complete

pub offered_spoilt : (result : Responses) (P : Type 0) → UnlessSpoilt result P → UnlessSpoilt (offered result) P
offered_spoilt (Ok (Done response)) P h = h
offered_spoilt (Ok (Spoilt r)) P h = tt
offered_spoilt (Err (Refused r)) P h = h
offered_spoilt (Err (Failed trouble)) P h = tt

pub offered_plans : (result : Responses) (P : FoundVersion → Type 0) → IfPlanned (offered result) P
offered_plans (Ok (Done response)) P = tt
offered_plans (Ok (Spoilt r)) P = tt
offered_plans (Err error) P = tt

pub offered_operates : (tables : Tables) (t : Octets) (step : Octets → Option Machine → Result (Sent × Option Machine) Rejection) (Says : Octets → Type 0) (clean : Type 0) (before after : Coming) (old new : Tables) (result : Responses)
    → OperatesBy response_view t step Says clean before after old new result → OperatesBy (offer_view tables) t step Says clean before after old new (offered result)
offered_operates tables t step Says clean before after old new (Ok (Done response)) h = record { given = h.given; gives = h.gives; decided = h.decided; carries = h.carries; says = h.says }
offered_operates tables t step Says clean before after old new (Ok (Spoilt r)) h = record { given = h.given; gives = h.gives; decided = h.decided; carries = h.carries; says = tt }
offered_operates tables t step Says clean before after old new (Err (Refused r)) h = record { given = h.given; gives = h.gives; decided = h.decided; carries = h.carries; says = tt }
offered_operates tables t step Says clean before after old new (Err (Failed trouble)) h = record { given = h.given; gives = h.gives; decided = h.decided; carries = h.carries; says = tt }

-- ---- an object

-- none was found, once all of the body came
pub found_err : (tables others : Tables) (t : Octets) (step : Option Machine → Result machine.Outcome Rejection) (clean : Type 0) (before after : Coming) (old new : Tables) (given : Octets) → Gives before after given → IsWhole after
    → (error : StepError Rejection) → (clean → Carries (found_answer tables) t step old new (Err error)) → Operates (offer_view others) t (λ _ s. responded (step s)) clean before after old new (Err error)
found_err tables others t step clean before after old new given gives whole (Refused r) h = record { given = given; gives = gives; decided = whole; carries = λ c. (ap responded (h c).0, (h c).1) }
found_err tables others t step clean before after old new given gives whole (Failed trouble) h = record { given = given; gives = gives; decided = going_may after whole.going; carries = λ c. tt }

pub stores_no_object : {X Y E : Type 0} (shown : X → Y) (t : Octets) (step : Octets → Option Machine → Result (Y × Option Machine) E) (clean : Type 0) (before after : Coming) (old new : Tables) (result : Result (Outcome X E) (StepError E))
    → Operates shown t step clean before after old new result → OperatesBy shown t step (λ _. Unit {0}) clean before after old new result
stores_no_object shown t step clean before after old new result h = says_nothing shown t step (λ _. Unit {0}) clean before after old new result (λ _. tt) h

-- ---- in the words of a host's storage

pub spoilt_with : {X E : Type 0} (result : Result (Outcome X E) (StepError E)) (A B C : Type 0) → (A → B → C) → UnlessSpoilt result A → UnlessSpoilt result B → UnlessSpoilt result C
spoilt_with (Ok (Done x)) A B C f a b = f a b
spoilt_with (Ok (Spoilt r)) A B C f a b = tt
spoilt_with (Err (Refused r)) A B C f a b = f a b
spoilt_with (Err (Failed trouble)) A B C f a b = tt

-- what is still to come is read from other tables, which are these
pub read_from : {E : Type 0} (these others : Tables) (t : Octets) (step : Octets → Option Machine → Result (Sent × Option Machine) E) (clean : Type 0) (before after : Coming) (old new : Tables) (result : Result (Outcome Offer E) (StepError E))
    → UnlessSpoilt result (clean → these ≡ others) → Operates (offer_view these) t step clean before after old new result → Operates (offer_view others) t step clean before after old new result
read_from these others t step clean before after old new (Ok (Done offer)) same h = record {
  given = h.given;
  gives = h.gives;
  decided = h.decided;
  carries = λ c. subst (λ (x : Tables). GivesStep t (step h.given) (offer_view x offer) old new) (same c) (h.carries c);
}
read_from these others t step clean before after old new (Ok (Spoilt r)) same h = record { given = h.given; gives = h.gives; decided = h.decided; carries = h.carries }
read_from these others t step clean before after old new (Err (Refused r)) same h = record { given = h.given; gives = h.gives; decided = h.decided; carries = h.carries }
read_from these others t step clean before after old new (Err (Failed trouble)) same h = record { given = h.given; gives = h.gives; decided = h.decided; carries = λ c. tt }

pub measured_from : {E : Type 0} (these others : Tables) (cleanly clean : Type 0) → (clean → cleanly) → (result : Result (Outcome Offer E) (StepError E)) → UnlessSpoilt result (clean → these ≡ others)
    → IfPlanned result (λ found. cleanly → IsMeasured these found) → IfPlanned result (λ found. clean → IsMeasured others found)
measured_from these others cleanly clean both (Ok (Done (Whole response))) same h = tt
measured_from these others cleanly clean both (Ok (Done (Planned found))) same h = λ c. subst (λ (x : Tables). IsMeasured x found) (same c) (h (both c))
measured_from these others cleanly clean both (Ok (Spoilt r)) same h = tt
measured_from these others cleanly clean both (Err error) same h = tt

-- ---- on a connection

module _ {S P : Type 0} (g : Ghosts S) (k : Shelves P) (t : Octets) (old new : Connection S P) (step : Octets → Option Machine → Result (Sent × Option Machine) Rejection) (before after : Coming) (result : Responses) where
  pub offered_on : (digest : Octets → Octets) (Says : Octets → Type 0) → OperatesOnBy g k digest response_view t step Says before after old new result → OperatesOnBy g k digest (offer_view (tables g k new)) t step Says before after old new (offered result)
  offered_on digest Says h = record {
    works = record { within = h.works.within; opens = offered_spoilt result _ h.works.opens; working = offered_spoilt result _ h.works.working };
    operates = offered_operates (tables g k new) t step Says (IsClean g k new) before after (tables g k old) (tables g k new) result h.operates;
  }

  -- blocks in memory that agreed still do
  pub keeps_blocks : (kept : KeptBlocks) → (IsClean g k old → Agrees kept (tables g k old).blocks) → OperatesOn g k response_view t step before after old new result → UnlessSpoilt (offered result) (IsClean g k new → Agrees kept (tables g k new).blocks)
  keeps_blocks kept agrees h =
      offered_spoilt result _ (kept_operated kept response_view t step (λ _. Unit {0}) before after result (state g k old) (state g k new) (λ clean. agrees (h.works.within.follows.clean clean))
      (says_nothing response_view t step (λ _. Unit {0}) (IsClean g k new) before after (tables g k old) (tables g k new) result (λ _. tt) h.operates))
