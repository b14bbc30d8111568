-- A request, by what it asks for by its head and by what comes of its body.
use Rattle.std.proofs.Common.{◌≡◌, ℕ, Option, Some, None, ok_or, Result, Ok, Err, refl, ap, subst, ◌∙◌}
use Rattle.std.specs.Prelude.{bytes_eq}
use Rattle.bh_types.specs.Limits.{HostLimits}
use Rattle.bh_types.specs.Outcomes.{◌>>=◌, require}
use Rattle.bh_types.specs.Outcomes.{Gives as Tells}
use Rattle.bh_types.specs.Rejections.{plain, plainly}
use Rattle.bh_types.specs.declared.error.RequestError.{RequestError}
use Rattle.bh_types.specs.declared.error.RequestError.TheVariants as request
use Rattle.bh_types.specs.declared.refusal.Refusal.{Refusal}
use Rattle.bh_types.specs.declared.refusal.Refusal.TheVariants.{InvalidAccessKeyId, AccessDenied}
use Rattle.bh_types.specs.declared.access_key.AccessKeyId.{AccessKeyId}
use Rattle.bh_types.specs.declared.rejection.Rejection.{Rejection}
use Rattle.bh_http.specs.Bodies.{Coming}
use Rattle.bh_http.specs.Credentials.{key_given, secret_given}
use Rattle.bh_http.specs.Views.{Taken}
use Rattle.bh_machine.specs.Machine.{requested, operated}
use Rattle.bh_model.specs.Credentials.{authenticate, secret_of}
use Rattle.bh_model.specs.Operations.{Outcome as Stepped}
use Rattle.bh_model.specs.State.{Octets, State}
use Rattle.bh_operation.specs.Operations.{operation}
use Rattle.bh_operation.specs.declared.operation.Operation.{Operation}
use Rattle.bh_storage.specs.Calls.{Operates, Receives, Decides}
use Rattle.bh_storage.specs.Errors.{step_rejected, request_rejected}
use Rattle.bh_storage.specs.declared.error.Outcome.{Outcome}
use Rattle.bh_storage.specs.declared.error.Outcome.TheVariants.{Done, Spoilt}
use Rattle.bh_storage.specs.declared.error.StepError.{StepError}
use Rattle.bh_storage.specs.declared.error.StepError.TheVariants.{Refused, Failed}
use Rattle.bh_tables.specs.Typed.{Tables}
use Rattle.bh_view.specs.View.{view}
use Rattle.bh_host.specs.Asking.{asked_for}

-- one question after another, and then the step
asks : {A B C D : Type 0} (x : Result A Rejection) (authenticates : A → Result B Rejection) (asked : Result C Rejection) (step : C → Result D Rejection)
    → ◌>>=◌ {B = D} x (λ a. ◌>>=◌ {B = D} (authenticates a) (λ _. ◌>>=◌ {B = D} asked step)) ≡ ◌>>=◌ {B = D} (◌>>=◌ {B = C} x (λ a. ◌>>=◌ {B = C} (authenticates a) (λ _. asked))) step
asks (Err e) authenticates asked step = refl
asks {B = B} {C = C} {D = D} (Ok a) authenticates asked step = go (authenticates a)
  where
    go : (y : Result B Rejection) → ◌>>=◌ {B = D} y (λ _. ◌>>=◌ {B = D} asked step) ≡ ◌>>=◌ {B = D} (◌>>=◌ {B = C} y (λ _. asked)) step
    go (Err e) = refl
    go (Ok u) = refl

pub requested_by : (limits : HostLimits) (now : ℕ) (key : AccessKeyId) (r : Taken) (s : Option State) → key_given r ≡ Some key → requested limits now r s ≡ ◌>>=◌ {B = Stepped} (asked_for key r s) (λ operation. operated limits now r.body operation s)
requested_by limits now key r s keyed = rw keyed (asks (plainly (secret_given r)) (λ secret. plainly (authenticate key secret s)) (plainly (operation key.tenant r)) (λ asked. operated limits now r.body asked s))

pub requested_ok : (limits : HostLimits) (now : ℕ) (key : AccessKeyId) (r : Taken) (s : Option State) (asked : Operation) → key_given r ≡ Some key → asked_for key r s ≡ Ok asked → requested limits now r s ≡ operated limits now r.body asked s
requested_ok limits now key r s asked keyed is = requested_by limits now key r s keyed ∙ ap (λ (x : Result Operation Rejection). ◌>>=◌ {B = Stepped} x (λ operation. operated limits now r.body operation s)) is

pub requested_err : (limits : HostLimits) (now : ℕ) (key : AccessKeyId) (r : Taken) (s : Option State) (e : Rejection) → key_given r ≡ Some key → asked_for key r s ≡ Err e → requested limits now r s ≡ Err e
requested_err limits now key r s e keyed is = requested_by limits now key r s keyed ∙ ap (λ (x : Result Operation Rejection). ◌>>=◌ {B = Stepped} x (λ operation. operated limits now r.body operation s)) is

-- ---- the questions before

pub stranger_ok : (limits : HostLimits) (now : ℕ) (r : Taken) (secret : Octets) → secret_given r ≡ Ok secret → requested limits now r None ≡ Err (plain InvalidAccessKeyId)
stranger_ok limits now r secret is = rw is (go (key_given r))
  where
    named : (key : AccessKeyId) (name : Option Octets) → ◌>>=◌ {B = Stepped} (plainly (◌>>=◌ {B = Unit {0}} (ok_or name InvalidAccessKeyId) (λ n. ◌>>=◌ {B = Unit {0}} (ok_or (secret_of n None) InvalidAccessKeyId) (λ known. require (bytes_eq secret known) AccessDenied))))
        (λ _. ◌>>=◌ {B = Stepped} (plainly (operation key.tenant r)) (λ asked. operated limits now r.body asked None)) ≡ Err (plain InvalidAccessKeyId)
    named key None = refl
    named key (Some n) = refl

    go : (o : Option AccessKeyId) → ◌>>=◌ {B = Stepped} (ok_or o (plain InvalidAccessKeyId)) (λ key. ◌>>=◌ {B = Stepped} (plainly (authenticate key secret None)) (λ _. ◌>>=◌ {B = Stepped} (plainly (operation key.tenant r)) (λ asked. operated limits now r.body asked None)))
        ≡ Err (plain InvalidAccessKeyId)
    go None = refl
    go (Some key) = named key key.name

pub stranger_err : (limits : HostLimits) (now : ℕ) (r : Taken) (e : Refusal) → secret_given r ≡ Err e → requested limits now r None ≡ Err (plain e)
stranger_err limits now r e is = rw is refl

pub secret_refused : (key : AccessKeyId) (r : Taken) (s : Option State) (e : Refusal) → secret_given r ≡ Err e → asked_for key r s ≡ Err (plain e)
secret_refused key r s e is = rw is refl

key_refused : (key : AccessKeyId) (r : Taken) (s : Option State) (secret : Octets) (e : Refusal) → secret_given r ≡ Ok secret → authenticate key secret s ≡ Err e → asked_for key r s ≡ Err (plain e)
key_refused key r s secret e is refused = rw (is, refused) refl

pub asked_so : (key : AccessKeyId) (r : Taken) (s : Option State) (secret : Octets) → secret_given r ≡ Ok secret → authenticate key secret s ≡ Ok tt → asked_for key r s ≡ plainly (operation key.tenant r)
asked_so key r s secret is right = rw (is, right) refl

pub key_decides : (key : AccessKeyId) (r : Taken) (secret : Octets) (old new : Tables) (s : Option State) → secret_given r ≡ Ok secret → (error : StepError Refusal) → Decides {X = Unit {0}} (λ _. tt) (authenticate key secret s) old new (Err error)
    → Decides {X = Operation} (λ asked. asked) (asked_for key r s) old new (Err (step_rejected error))
key_decides key r secret old new s is (Refused x) d = (key_refused key r s secret x is d.0, d.1)
key_decides key r secret old new s is (Failed trouble) d = tt

pub names_decide : (key : AccessKeyId) (r : Taken) (secret : Octets) (old new : Tables) (s : Option State) → secret_given r ≡ Ok secret → authenticate key secret s ≡ Ok tt → new ≡ old → (error : RequestError) → Tells {X = Operation} (λ asked. asked) (Err error) (operation key.tenant r)
    → Decides {X = Operation} (λ asked. asked) (asked_for key r s) old new (Err (request_rejected error))
names_decide key r secret old new s is right same (request.Refused x) told = (asked_so key r s secret is right ∙ ap plainly told, same)
names_decide key r secret old new s is right same request.OutOfMemory told = tt

-- ---- a step by another one

module _ {X Y E : Type 0} (shown : X → Y) (t : Octets) (step other : Octets → Option State → Result (Y × Option State) E) (clean : Type 0) (before after : Coming) (old mid new : Tables) where
  receives_as : (given : Octets) (result : Result (Outcome X E) (StepError E)) → other given (view old t) ≡ step given (view old t) → Receives shown t (step given) old new result → Receives shown t (other given) old new result
  receives_as given (Ok (Done x)) same h = record { gives = same ∙ h.gives; others = h.others; latest = h.latest; shared = h.shared }
  receives_as given (Ok (Spoilt r)) same h = same ∙ h
  receives_as given (Err (Refused r)) same h = (same ∙ h.0, h.1)
  receives_as given (Err (Failed trouble)) same h = tt

  -- the tables were only asked before
  pub operates_as : (result : Result (Outcome X E) (StepError E)) → (clean → mid ≡ old) → (clean → (given : Octets) → other given (view old t) ≡ step given (view old t))
      → Operates shown t step clean before after mid new result → Operates shown t other clean before after old new result
  operates_as result stays same o = record {
    given = o.given;
    gives = o.gives;
    decided = o.decided;
    carries = λ c. receives_as o.given result (same c o.given) (subst (λ (x : Tables). Receives shown t (step o.given) x new result) (stays c) (o.carries c));
  }
