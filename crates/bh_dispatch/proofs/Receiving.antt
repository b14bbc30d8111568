-- A step whose body comes in pieces: told as a response, and in the words of a host's storage.
use Rattle.std.proofs.Common.{◌≡◌, Option, Result, Ok, Err, ap, sym, subst, ◌∙◌}
use Rattle.sqlite.specs.State.{State}
use Rattle.bh_types.specs.Limits.{HostLimits}
use Rattle.bh_types.specs.Rejections.{plainly}
use Rattle.bh_types.specs.declared.refusal.Refusal.{Refusal}
use Rattle.bh_types.specs.declared.rejection.Rejection.{Rejection}
use Rattle.bh_http.specs.Answers.{response_view}
use Rattle.bh_http.specs.Bodies.{Coming, Gives, IsWhole}
use Rattle.bh_http.specs.Responses.{Sent}
use Rattle.bh_http.specs.declared.response.Response.{Response}
use Rattle.bh_http.proofs.BodyLemmas.{going_may}
use Rattle.bh_model.specs.Operations as machine
use Rattle.bh_model.specs.Operations.{Answer}
use Rattle.bh_model.specs.QuotaLaws.{StaysBounded}
use Rattle.bh_model.specs.State.{Octets, State as Machine}
use Rattle.bh_base.specs.Layer.{IsStateClean}
use Rattle.bh_schema.specs.Storage.{seen_in, beside}
use Rattle.bh_schema.specs.Working.{tables_at, StillWorking, StillWorkingBy}
use Rattle.bh_schema.proofs.Storing.{AreBoth, both, shows_in, plain}
use Rattle.bh_cache.specs.Kept.{KeptBlocks, Agrees}
use Rattle.bh_cache.proofs.Agreeing.{agrees_grown}
use Rattle.bh_host.specs.Offers.{responded}
use Rattle.bh_host.specs.Replies.{response_to}
use Rattle.bh_storage.specs.Calls.{IsWorking, Carries, GivesStep, Operates, OperatesBy, Unless, UnlessSpoilt}
use Rattle.bh_storage.specs.declared.error.Outcome.{Outcome}
use Rattle.bh_storage.specs.declared.error.Outcome.TheVariants.{Done, Spoilt}
use Rattle.bh_storage.specs.declared.error.StepError.{StepError}
use Rattle.bh_storage.specs.declared.error.StepError.TheVariants.{Refused, Failed}
use Rattle.bh_tables.specs.Typed.{Tables}
use Rattle.bh_view.specs.View.{view}
use Rattle.bh_view.specs.Bodies.{IsSoundHost}
use Rattle.bh_dispatch.specs.Responses.{RespondsToBody}
use Rattle.bh_dispatch.proofs.Storing.{IsAtWork, working_seen, shown_now, bounded_seen, carried_bounded, at_work, told}

-- ---- told as a response

module _ (t : Octets) (answer : Answer) (old new : Tables) where
  -- a step returns the response to its answer
  pub gives_response : (step : Option Machine → Result machine.Outcome Rejection) (sent : Sent) → sent ≡ response_to answer → GivesStep t step answer old new → GivesStep t (λ s. responded (step s)) sent old new
  gives_response step sent is h = record { gives = ap responded h.gives ∙ ap (λ x. Ok (x, view new t)) (sym is); others = h.others; latest = h.latest; shared = h.shared }

  -- where its refusals have no details
  pub gives_plainly : (step : Option Machine → Result machine.Outcome Refusal) → GivesStep t step answer old new → GivesStep t (λ s. plainly (step s)) answer old new
  gives_plainly step h = record { gives = ap plainly h.gives; others = h.others; latest = h.latest; shared = h.shared }

abbrev pub Responses : Type 0
Responses = Result (Outcome Response Rejection) (StepError Rejection)

abbrev refused_as : Result machine.Outcome Refusal → Result (Sent × Option Machine) Rejection
refused_as r = responded (plainly r)

module _ {X : Type 0} (answer : X → Answer) where
  pub spoilt_told : (outcome : Result (Outcome X Refusal) (StepError Refusal)) (result : Responses) (P : Type 0) → RespondsToBody answer outcome result → UnlessSpoilt outcome P → UnlessSpoilt result P
  spoilt_told (Ok (Done x)) (Ok (Done response)) P is h = h
  spoilt_told (Ok (Done x)) (Ok (Spoilt r)) P is h = absurd is
  spoilt_told (Ok (Done x)) (Err error) P is h = subst (λ e. UnlessSpoilt {X = Response} {E = Rejection} (Err e) P) (sym is) tt
  spoilt_told (Ok (Spoilt r)) result P is h = subst (λ o. UnlessSpoilt o P) (sym is) tt
  spoilt_told (Err (Refused r)) result P is h = subst (λ o. UnlessSpoilt o P) (sym is) h
  spoilt_told (Err (Failed trouble)) result P is h = subst (λ o. UnlessSpoilt o P) (sym is) tt

  module _ (t : Octets) (step : Octets → Option Machine → Result machine.Outcome Refusal) (Says : Octets → Type 0) (clean : Type 0) (before after : Coming) (old new : Tables) where
    abbrev Responded : Responses → Type 0
    Responded = OperatesBy response_view t (λ bytes s. responded (plainly (step bytes s))) Says clean before after old new

    pub operates_told : (outcome : Result (Outcome X Refusal) (StepError Refusal)) (result : Responses) → RespondsToBody answer outcome result → OperatesBy answer t step Says clean before after old new outcome → Responded result
    operates_told (Ok (Done x)) (Ok (Done response)) is h = record {
      given = h.given;
      gives = h.gives;
      decided = h.decided;
      carries = λ c. gives_response t (answer x) old new (λ s. plainly (step h.given s)) (response_view response) is (gives_plainly t (answer x) old new (step h.given) (h.carries c));
      says = h.says;
    }
    operates_told (Ok (Done x)) (Ok (Spoilt r)) is h = absurd is
    operates_told (Ok (Done x)) (Err error) is h = subst (λ e. Responded (Err e)) (sym is) (record { given = h.given; gives = h.gives; decided = going_may after h.decided.going; carries = λ c. tt; says = tt })
    operates_told (Ok (Spoilt r)) result is h = subst Responded (sym is) (record { given = h.given; gives = h.gives; decided = h.decided; carries = λ c. ap refused_as (h.carries c); says = tt })
    operates_told (Err (Refused r)) result is h = subst Responded (sym is) (record { given = h.given; gives = h.gives; decided = h.decided; carries = λ c. (ap refused_as (h.carries c).0, (h.carries c).1); says = tt })
    operates_told (Err (Failed trouble)) result is h = subst Responded (sym is) (record { given = h.given; gives = h.gives; decided = h.decided; carries = λ c. tt; says = tt })

-- ---- a step that takes its body whole

-- a refusal or trouble, once all of the body came
pub operates_err : {X Y E : Type 0} (shown : X → Y) (t : Octets) (step : Octets → Option Machine → Result (Y × Option Machine) E) (clean : Type 0) (before after : Coming) (old new : Tables) (given : Octets) → Gives before after given → IsWhole after
    → (read : Octets) → read ≡ given → (error : StepError E) → (clean → Carries {X = X} shown t (step read) old new (Err error)) → Operates shown t step clean before after old new (Err error)
operates_err shown t step clean before after old new given gives whole read same (Refused r) h = record {
  given = given;
  gives = gives;
  decided = whole;
  carries = λ c. subst (λ bytes. (step bytes (view old t) ≡ Err r) × (new ≡ old)) same (h c);
}
operates_err shown t step clean before after old new given gives whole read same (Failed trouble) h = record { given = given; gives = gives; decided = going_may after whole.going; carries = λ c. tt }

pub spoilt_any : {X E : Type 0} (result : Result (Outcome X E) (StepError E)) (P : Type 0) → P → UnlessSpoilt result P
spoilt_any (Ok (Done x)) P p = p
spoilt_any (Ok (Spoilt r)) P p = tt
spoilt_any (Err (Refused r)) P p = p
spoilt_any (Err (Failed trouble)) P p = tt

pub spoilt_err : (X : Type 0) {E : Type 0} (error : StepError E) (P : Type 0) → Unless {X = X} {E = E} (Err error) P → UnlessSpoilt {X = X} {E = E} (Err error) P
spoilt_err X (Refused r) P h = h
spoilt_err X (Failed trouble) P h = tt

-- nothing is said of the bytes of an operation that stores none
pub says_nothing : {X Y E : Type 0} (shown : X → Y) (t : Octets) (step : Octets → Option Machine → Result (Y × Option Machine) E) (Says : Octets → Type 0) (clean : Type 0) (before after : Coming) (old new : Tables) (result : Result (Outcome X E) (StepError E))
    → ((given : Octets) → Says given) → Operates shown t step clean before after old new result → OperatesBy shown t step Says clean before after old new result
says_nothing shown t step Says clean before after old new (Ok (Done x)) all h = record { given = h.given; gives = h.gives; decided = h.decided; carries = h.carries; says = λ c. all h.given }
says_nothing shown t step Says clean before after old new (Ok (Spoilt r)) all h = record { given = h.given; gives = h.gives; decided = h.decided; carries = h.carries; says = tt }
says_nothing shown t step Says clean before after old new (Err e) all h = record { given = h.given; gives = h.gives; decided = h.decided; carries = h.carries; says = tt }

-- a call whose promise holds of all functions holds of this one
pub spoilt_by_any : {X E : Type 0} (digest : Octets → Octets) (old new : State) (result : Result (Outcome X E) (StepError E)) → UnlessSpoilt result (IsStateClean new → StillWorking old new) → UnlessSpoilt result (IsStateClean new → StillWorkingBy digest old new)
spoilt_by_any digest old new (Ok (Done x)) h = λ clean. h clean digest
spoilt_by_any digest old new (Ok (Spoilt r)) h = tt
spoilt_by_any digest old new (Err (Refused r)) h = λ clean. h clean digest
spoilt_by_any digest old new (Err (Failed trouble)) h = tt

-- ---- in the words of a host's storage

pub opened_spoilt : {X E : Type 0} (I A B : Type 0) (result : Result (Outcome X E) (StepError E)) → UnlessSpoilt result (I → A → B) → UnlessSpoilt result (A → I → B)
opened_spoilt I A B (Ok (Done x)) h = λ up intact. h intact up
opened_spoilt I A B (Ok (Spoilt r)) h = tt
opened_spoilt I A B (Err (Refused r)) h = λ up intact. h intact up
opened_spoilt I A B (Err (Failed trouble)) h = tt

module _ (digest : Octets → Octets) (l : HostLimits) (old new : State) {X Y E : Type 0} (shown : X → Y) (t : Octets) (step : Octets → Option Machine → Result (Y × Option Machine) E) (Says : Octets → Type 0) (before after : Coming) where
  abbrev Operated : Result (Outcome X E) (StepError E) → Type 0
  Operated result = OperatesBy shown t step Says (IsStateClean new) before after (tables_at old) (tables_at new) result

  -- the same step, of the tables that a storage shows
  pub operated_seen : (result : Result (Outcome X E) (StepError E)) → (AreBoth new → IsAtWork digest l old) → UnlessSpoilt result (IsStateClean new → StillWorkingBy digest old new) → Operated result
      → Operates shown t step (AreBoth new) before after (seen_in l old).now (seen_in l new).now result
  operated_seen (Ok (Done x)) was working h = record { given = h.given; gives = h.gives; decided = h.decided; carries = λ clean. rw (shows_in l old (was clean), (shown_now l new (working (both clean)).is).0) (h.carries (both clean)) }
  operated_seen (Ok (Spoilt r)) was working h = record { given = h.given; gives = h.gives; decided = h.decided; carries = λ clean. rw (shows_in l old (was clean)) (h.carries (both clean)) }
  operated_seen (Err (Refused r)) was working h = record { given = h.given; gives = h.gives; decided = h.decided; carries = λ clean. rw (shows_in l old (was clean), (shown_now l new (working (both clean)).is).0) (h.carries (both clean)) }
  operated_seen (Err (Failed trouble)) was working h = record { given = h.given; gives = h.gives; decided = h.decided; carries = λ clean. tt }

  pub operated_works : (result : Result (Outcome X E) (StepError E)) → ((given : Octets) → StaysBounded (step given)) → (AreBoth new → IsAtWork digest l old) → UnlessSpoilt result (IsStateClean new → StillWorkingBy digest old new) → Operated result
      → UnlessSpoilt result (AreBoth new → IsAtWork digest l new)
  operated_works (Ok (Done x)) stays was working h = λ clean.
      working_seen digest l old new (was clean) (working (both clean)) (carried_bounded shown t (step h.given) (Ok x) (tables_at old) (tables_at new) (stays h.given) (bounded_seen digest l old (was clean)) (h.carries (both clean)))
  operated_works (Ok (Spoilt r)) stays was working h = tt
  operated_works (Err (Refused r)) stays was working h = λ clean.
      working_seen digest l old new (was clean) (working (both clean)) (carried_bounded shown t (step h.given) (Err (Refused r)) (tables_at old) (tables_at new) (stays h.given) (bounded_seen digest l old (was clean)) (h.carries (both clean)))
  operated_works (Err (Failed trouble)) stays was working h = tt

-- ---- beside blocks that are kept in memory

-- a step of a tenant takes no block away
pub kept_operated : {X Y E : Type 0} (kept : KeptBlocks) (shown : X → Y) (t : Octets) (step : Octets → Option Machine → Result (Y × Option Machine) E) (Says : Octets → Type 0) (before after : Coming) (result : Result (Outcome X E) (StepError E)) (old new : State)
    → (IsStateClean new → Agrees kept (tables_at old).blocks) → OperatesBy shown t step Says (IsStateClean new) before after (tables_at old) (tables_at new) result → UnlessSpoilt result (IsStateClean new → Agrees kept (tables_at new).blocks)
kept_operated kept shown t step Says before after (Ok (Done x)) old new agrees h = λ clean.
    let shared = (h.carries clean).shared in subst (Agrees kept) (sym shared.grown) (agrees_grown kept (tables_at old).blocks shared.added (agrees clean))
kept_operated kept shown t step Says before after (Ok (Spoilt r)) old new agrees h = tt
kept_operated kept shown t step Says before after (Err (Refused r)) old new agrees h = λ clean. subst (λ (x : Tables). Agrees kept x.blocks) (sym (h.carries clean).1) (agrees clean)
kept_operated kept shown t step Says before after (Err (Failed trouble)) old new agrees h = tt

module _ (digest : Octets → Octets) (before after : KeptBlocks) (l : HostLimits) (old new : State) (was : AreBoth new → IsWorking (IsSoundHost digest) (beside before (seen_in l old))) {X E : Type 0} where
  pub works_spoilt : (result : Result (Outcome X E) (StepError E)) → UnlessSpoilt result (AreBoth new → IsAtWork digest l new) → UnlessSpoilt result (IsStateClean new → Agrees after (tables_at new).blocks)
      → UnlessSpoilt result (AreBoth new → IsWorking (IsSoundHost digest) (beside after (seen_in l new)))
  works_spoilt (Ok (Done x)) working agrees = λ clean. at_work digest before after l old new was (working clean) (agrees (both clean))
  works_spoilt (Ok (Spoilt r)) working agrees = tt
  works_spoilt (Err (Refused r)) working agrees = λ clean. at_work digest before after l old new was (working clean) (agrees (both clean))
  works_spoilt (Err (Failed trouble)) working agrees = tt

  -- the same step, of the tables that are shown beside them
  pub operates_beside : {Y : Type 0} (shown : X → Y) (t : Octets) (step : Octets → Option Machine → Result (Y × Option Machine) E) (start end : Coming) (result : Result (Outcome X E) (StepError E))
      → UnlessSpoilt result (AreBoth new → IsAtWork digest l new) → UnlessSpoilt result (IsStateClean new → Agrees after (tables_at new).blocks)
      → Operates shown t step (AreBoth new) start end (seen_in l old).now (seen_in l new).now result → Operates shown t step (AreBoth new) start end (beside before (seen_in l old)).now (beside after (seen_in l new)).now result
  operates_beside shown t step start end (Ok (Done x)) working agrees h = record {
    given = h.given;
    gives = h.gives;
    decided = h.decided;
    carries = λ clean. told digest before after l old new was (λ a b. Carries shown t (step h.given) a b (Ok x)) clean (working clean) (agrees (both clean)) (h.carries clean);
  }
  operates_beside shown t step start end (Ok (Spoilt r)) working agrees h = record { given = h.given; gives = h.gives; decided = h.decided; carries = λ clean. rw (plain _ _ (was clean)) (h.carries clean) }
  operates_beside shown t step start end (Err (Refused r)) working agrees h = record {
    given = h.given;
    gives = h.gives;
    decided = h.decided;
    carries = λ clean. told digest before after l old new was (λ a b. Carries {X = X} shown t (step h.given) a b (Err (Refused r))) clean (working clean) (agrees (both clean)) (h.carries clean);
  }
  operates_beside shown t step start end (Err (Failed trouble)) working agrees h = record { given = h.given; gives = h.gives; decided = h.decided; carries = λ clean. tt }
