-- What is carried out on a connection, told as a response.
use Rattle.std.proofs.Common.{◌≡◌, Bool, Option, Result, Ok, Err, refl, ap, sym, subst, IsTrue, MatchResult, IsOkAnd}
use Rattle.std.specs.Result.{result_map_both}
use Rattle.bh_base.specs.Connections.{state}
use Rattle.sqlite_trees.specs.declared.store.Store.{Ghosts}
use Rattle.bh_shelf.specs.declared.shelf.Shelf.{Ghosts as Shelves}
use Rattle.bh_base.specs.declared.connection.Connection.{Connection}
use Rattle.bh_types.specs.Rejections.{plain, plainly}
use Rattle.bh_types.specs.declared.error.RequestError.{RequestError}
use Rattle.bh_types.specs.declared.error.RequestError.TheVariants as request
use Rattle.bh_types.specs.declared.refusal.Refusal.{Refusal}
use Rattle.bh_types.specs.declared.refusal.Refusal.TheVariants.{InvalidName}
use Rattle.bh_types.specs.declared.rejection.Rejection.{Rejection}
use Rattle.bh_types.specs.Names.{is_tenant_name}
use Rattle.bh_types.specs.Outcomes.{◌>>=◌, require, Gives}
use Rattle.bh_http.specs.Answers.{response_view}
use Rattle.bh_http.specs.Bodies.{Coming}
use Rattle.bh_http.specs.Responses.{Sent}
use Rattle.bh_http.specs.declared.response.Response.{Response}
use Rattle.bh_model.specs.Operations as machine
use Rattle.bh_model.specs.Operations.{Outcome as Step}
use Rattle.bh_model.specs.State.{Octets, State as Machine}
use Rattle.bh_host.specs.Offers.{responded}
use Rattle.bh_storage.specs.Calls.{Unless, UnlessSpoilt, Carries, OperatesBy}
use Rattle.bh_storage.specs.Errors.{request_rejected, step_rejected}
use Rattle.bh_storage.specs.declared.error.Outcome.{Outcome}
use Rattle.bh_storage.specs.declared.error.StepError.{StepError}
use Rattle.bh_storage.specs.declared.error.StepError.TheVariants.{Refused, Failed}
use Rattle.bh_storage.specs.declared.error.Trouble.{Trouble}
use Rattle.bh_storage.specs.declared.error.Trouble.TheVariants.{Memory}
use Rattle.bh_objects.proofs.Working.{no_call}
use Rattle.bh_base.specs.Connections.{IsClean, tables, StaysWithin, StaysOpen}
use Rattle.bh_schema.specs.Working.{Works, StillWorks, StillWorksBy, WorksOn}
use Rattle.bh_view.specs.View.{view}
use Rattle.bh_dispatch.specs.Operating.{CarriesOut, OperatesOn, OperatesOnBy}
use Rattle.bh_dispatch.specs.Responses.{Responds, RespondsToBody}
use Rattle.bh_dispatch.proofs.Receiving.{Responses, gives_response, gives_plainly, spoilt_told, operates_told, says_nothing, spoilt_by_any}

-- ---- what a call gave, told as another answer

module _ {S P : Type 0} (g : Ghosts S) (k : Shelves P) (t : Octets) (old new : Connection S P) {X Y : Type 0} (shown : Y → machine.Answer) (made : X → Y) where
  shown_made : {E : Type 0} (step : Option Machine → Result Step E) (outcome : Result X (StepError E)) → StaysWithin g k old new → Unless outcome (StaysOpen g k old new) → Unless outcome (StillWorks g k old new)
      → (IsClean g k new → Carries (λ x. shown (made x)) t step (tables g k old) (tables g k new) outcome) → CarriesOut g k shown t step old new (result_map_both made (λ e. e) outcome)
  shown_made step (Ok x) within opens working h = record { works = record { within = within; opens = opens; working = working }; carries = h }
  shown_made step (Err (Refused r)) within opens working h = record { works = record { within = within; opens = opens; working = working }; carries = h }
  shown_made step (Err (Failed trouble)) within opens working h = record { works = record { within = within; opens = opens; working = working }; carries = h }

-- ---- what a call gave, told as a response

module _ {S P : Type 0} (g : Ghosts S) (k : Shelves P) (t : Octets) (old new : Connection S P) {X : Type 0} (answer : X → machine.Answer) where
  abbrev Responded : (Option Machine → Result Step Rejection) → Result Response (StepError Rejection) → Type 0
  Responded step = CarriesOut g k response_view t (λ s. responded (step s)) old new

  -- memory ran out for the response
  unanswered : (step : Option Machine → Result Step Rejection) (error : StepError Rejection) → error ≡ Failed Memory → StaysWithin g k old new → Responded step (Err error)
  unanswered step error is within = subst (λ e. Responded step (Err e)) (sym is) (record { works = record { within = within; opens = tt; working = tt }; carries = λ clean. tt })

  pub carried : (step : Option Machine → Result Step Rejection) (outcome : Result X (StepError Rejection)) (result : Result Response (StepError Rejection)) → Responds answer (λ e. e) outcome result
      → StaysWithin g k old new → Unless outcome (StaysOpen g k old new) → Unless outcome (StillWorks g k old new) → (IsClean g k new → Carries answer t step (tables g k old) (tables g k new) outcome) → Responded step result
  carried step (Ok x) (Ok response) is within opens working h = record {
    works = record { within = within; opens = opens; working = working };
    carries = λ clean. gives_response t (answer x) (tables g k old) (tables g k new) step (response_view response) is (h clean);
  }
  carried step (Ok x) (Err error) is within opens working h = unanswered step error is within
  carried step (Err (Refused r)) result is within opens working h = subst (Responded step) (sym is) (record { works = record { within = within; opens = opens; working = working }; carries = λ clean. (ap responded (h clean).0, (h clean).1) })
  carried step (Err (Failed trouble)) result is within opens working h = subst (Responded step) (sym is) (record { works = record { within = within; opens = opens; working = working }; carries = λ clean. tt })

  responds_plainly : (x : X) (result : Result Response (StepError Rejection)) → Responds {X = X} answer step_rejected (Ok x) result → Responds {X = X} answer (λ e. e) (Ok x) result
  responds_plainly x (Ok response) is = is
  responds_plainly x (Err error) is = is

  -- where its refusals have no details
  pub carried_plainly : (step : Option Machine → Result Step Refusal) (outcome : Result X (StepError Refusal)) (result : Result Response (StepError Rejection)) → Responds answer step_rejected outcome result
      → StaysWithin g k old new → Unless outcome (StaysOpen g k old new) → Unless outcome (StillWorks g k old new) → (IsClean g k new → Carries answer t step (tables g k old) (tables g k new) outcome) → Responded (λ s. plainly (step s)) result
  carried_plainly step (Ok x) result is within opens working h =
      carried (λ s. plainly (step s)) (Ok x) result (responds_plainly x result is) within opens working (λ clean. gives_plainly t (answer x) (tables g k old) (tables g k new) step (h clean))
  carried_plainly step (Err (Refused r)) result is within opens working h = carried (λ s. plainly (step s)) (Err (Refused (plain r))) result is within opens working (λ clean. (ap plainly (h clean).0, (h clean).1))
  carried_plainly step (Err (Failed trouble)) result is within opens working h = carried (λ s. plainly (step s)) (Err (Failed trouble)) result is within opens working (λ clean. tt)

  -- where its body comes in pieces
  pub received : (digest : Octets → Octets) (step : Octets → Option Machine → Result Step Refusal) (Says : Octets → Type 0) (before after : Coming) (outcome : Result (Outcome X Refusal) (StepError Refusal)) (result : Responses) → RespondsToBody answer outcome result
      → StaysWithin g k old new → UnlessSpoilt outcome (StaysOpen g k old new) → UnlessSpoilt outcome (StillWorksBy g k digest old new)
      → OperatesBy answer t step Says (IsClean g k new) before after (tables g k old) (tables g k new) outcome
      → OperatesOnBy g k digest response_view t (λ bytes s. responded (plainly (step bytes s))) Says before after old new result
  received digest step Says before after outcome result is within opens working h = record {
    works = record { within = within; opens = spoilt_told answer outcome result _ is opens; working = spoilt_told answer outcome result _ is working };
    operates = operates_told answer t step Says (IsClean g k new) before after (tables g k old) (tables g k new) outcome result is h;
  }

pub map_is : {X Y E : Type 0} (made : X → Y) (Post : X → Y → Type 0) → ((x : X) (y : Y) → Post x y → y ≡ made x) → (outcome : Result X E) (result : Result Y E) → MatchResult outcome (λ x. IsOkAnd result (Post x)) (λ e. result ≡ Err e)
    → result ≡ result_map_both made (λ e. e) outcome
map_is made Post is (Ok x) (Ok y) h = ap Ok (is x y h)
map_is made Post is (Ok x) (Err e) h = absurd h
map_is made Post is (Err e) result h = h

-- ---- where nothing was called

module _ {S P : Type 0} (g : Ghosts S) (k : Shelves P) (c : Connection S P) (works : Works g k c) where
  pub still : (Done : Type 0 → Type 0) → ((P : Type 0) → P → Done P) → WorksOn g k Done c c
  still Done any = record {
    within = no_call (state g k c) (λ clean. (works clean).inside);
    opens = any _ (λ intact up. up);
    working = any _ (λ clean digest. record { is = works clean; limits = refl; digests = λ named. named });
  }

  module _ (t : Octets) where
    undone : (step : Option Machine → Result (Sent × Option Machine) Rejection) (trouble : Trouble) → CarriesOut g k response_view t step c c (Err (Failed trouble))
    undone step trouble = record { works = still _ (λ P _. tt); carries = λ _. tt }

    -- a document that can't be read
    pub unread : {X D : Type 0} (step : Option Machine → Result Step Rejection) (shown : X → D) (read : Result D Refusal) → ((r : Refusal) (s : Option Machine) → read ≡ Err r → step s ≡ Err (plain r)) → (error : RequestError) → Gives {X = X} shown (Err error) read
        → CarriesOut g k response_view t (λ s. responded (step s)) c c (Err (request_rejected error))
    unread step shown read fails (request.Refused r) gives = record { works = still _ (λ P p. p); carries = λ _. (ap responded (fails r (view (tables g k c) t) gives), refl) }
    unread step shown read fails request.OutOfMemory gives = undone (λ s. responded (step s)) _

-- ---- the same step

pub by_step : {S P : Type 0} (g : Ghosts S) (k : Shelves P) (t : Octets) (old new : Connection S P) {X Y E : Type 0} {shown : X → Y} (step other : Option Machine → Result (Y × Option Machine) E) (result : Result X (StepError E)) → step ≡ other → CarriesOut g k shown t step old new result → CarriesOut g k shown t other old new result
by_step g k t old new {Y = Y} {shown = shown} step other result same h = subst (λ (f : Option Machine → Result (Y × Option Machine) _). CarriesOut g k shown t f old new result) same h

-- a step with its response in place of its answer
abbrev pub responding : (Option Machine → Result Step Rejection) → Option Machine → Result (Sent × Option Machine) Rejection
responding step = λ s. responded (step s)

-- a command on a tenant, by a text that names it
pub commanded : {S P : Type 0} (g : Ghosts S) (k : Shelves P) (old new : Connection S P) (name text : Octets) → name ≡ text → IsTrue (is_tenant_name text) → {X Y : Type 0} (shown : Y → machine.Answer) (made : X → Y) (step : Option Machine → Result Step Refusal) (outcome : Result X (StepError Refusal))
    → StaysWithin g k old new → Unless outcome (StaysOpen g k old new) → Unless outcome (StillWorks g k old new) → (IsClean g k new → Carries (λ x. shown (made x)) name step (tables g k old) (tables g k new) outcome)
    → CarriesOut g k shown text (λ s. require (is_tenant_name text) InvalidName >>= (λ _. step s)) old new (result_map_both made (λ e. e) outcome)
commanded g k old new name text same good shown made step outcome within opens working h =
    let named : Bool → Option Machine → Result Step Refusal = λ b s. require b InvalidName >>= (λ _. step s) in
    by_step g k text old new step (named (is_tenant_name text)) _ (ap named (sym good))
    (shown_made g k text old new shown made step outcome within opens working (subst (λ t. IsClean g k new → Carries (λ x. shown (made x)) t step (tables g k old) (tables g k new) outcome) same h))

-- ---- a step whose body came

module _ {S P : Type 0} (g : Ghosts S) (k : Shelves P) (old new : Connection S P) where
  -- what is refused or in trouble
  pub works_err : (X Y : Type 0) {E : Type 0} (error : StepError E) → WorksOn g k (Unless {X = X} {E = E} (Err error)) old new → WorksOn g k (UnlessSpoilt {X = Y} {E = E} (Err error)) old new
  works_err X Y (Refused r) h = record { within = h.within; opens = h.opens; working = h.working }
  works_err X Y (Failed trouble) h = record { within = h.within; opens = tt; working = tt }

  -- a call whose promise holds of all functions holds of this one, and nothing is said of the bytes of what stores none
  pub operates_by_any : (digest : Octets → Octets) {X Y E : Type 0} (shown : X → Y) (t : Octets) (step : Octets → Option Machine → Result (Y × Option Machine) E) (Says : Octets → Type 0) (before after : Coming) (result : Result (Outcome X E) (StepError E))
      → ((given : Octets) → Says given) → OperatesOn g k shown t step before after old new result → OperatesOnBy g k digest shown t step Says before after old new result
  operates_by_any digest shown t step Says before after result says h = record {
    works = record { within = h.works.within; opens = h.works.opens; working = spoilt_by_any digest (state g k old) (state g k new) result h.works.working };
    operates = says_nothing shown t step Says (IsClean g k new) before after (tables g k old) (tables g k new) result says h.operates;
  }
