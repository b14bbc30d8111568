-- A request that is served at its stamp, by how its step ends.
use Rattle.std.proofs.Common.{◌≡◌, ℕ, [], Some, None, Result, Ok, Err, sym, ap, subst, ◌∙◌, Vec, Global}
use Rattle.std.specs.Prelude.{option_map}
use Rattle.bh_types.specs.Limits.{HostLimits}
use Rattle.bh_types.specs.declared.access_key.AccessKeyId.{AccessKeyId}
use Rattle.bh_types.specs.declared.rejection.Rejection.{Rejection}
use Rattle.bh_http.specs.Bodies.{Coming, Gives, IsWhole, MayBreak}
use Rattle.bh_http.specs.Credentials.{key_given}
use Rattle.bh_http.specs.Responses.{response_text}
use Rattle.bh_http.specs.Views.{with_body}
use Rattle.bh_http.specs.declared.request.Head.{Head}
use Rattle.bh_http.proofs.BodyLemmas.{gives_none, going_may}
use Rattle.bh_machine.specs.Machine.{RequestRead, requested}
use Rattle.bh_model.specs.State.{Octets}
use Rattle.bh_host.specs.Offers.{offer_view, responded}
use Rattle.bh_storage.specs.Calls.{Seen, Clean, Within, IsWorking, Purges, GivesStep, Operates}
use Rattle.bh_storage.specs.Plans.{IsMeasured}
use Rattle.bh_host.specs.Offers.{IfFound}
use Rattle.bh_host.specs.declared.offer.Offer.{Offer}
use Rattle.bh_storage.specs.declared.error.Outcome.{Outcome}
use Rattle.bh_storage.specs.declared.error.Outcome.TheVariants.{Done, Spoilt}
use Rattle.bh_storage.specs.declared.error.StepError.{StepError}
use Rattle.bh_storage.specs.declared.error.StepError.TheVariants.{Refused}
use Rattle.bh_storage.specs.declared.error.Trouble.{Trouble}
use Rattle.bh_tables.specs.Typed.{Tables}
use Rattle.bh_view.specs.View.{view, rows_purged}
use Rattle.bh_host.specs.Answers.{composed_in}
use Rattle.bh_host.specs.Receives.{Serves}
use Rattle.bh_host.specs.Replies.{text, sent_for}
use Rattle.bh_host.specs.Turns.{IsActDone}
use Rattle.bh_host.specs.declared.delivery.Composed.{Composed}
use Rattle.bh_host.specs.declared.delivery.Composed.TheVariants.{Whole}
use Rattle.bh_host.specs.declared.delivery.Served.{Served}
use Rattle.bh_host.specs.declared.delivery.Served.TheVariants.{Kept, TakenBack}
use Rattle.bh_host.proofs.Responding.{responded_err}
use Rattle.bh_host.proofs.Turning.{limits_stay, request_done, request_refused, turned_nobody}

-- memory or the store was wanting
pub served_err : (clean : Type 0) (limits : HostLimits) (head : Head) (m : ℕ) (before after : Coming) (old new : Tables) (result : Result Served Trouble) (trouble : Trouble) → result ≡ Err trouble → (given : Octets) → Gives before after given → MayBreak after
    → Serves clean limits head m before after old new result
served_err clean limits head m before after old new result trouble is given gives may = subst (Serves clean limits head m before after old new) (sym is) (record { given = given; gives = gives; served = may })

-- before any of the body came
pub served_none : (clean : Type 0) (limits : HostLimits) (head : Head) (m : ℕ) (before : Coming) (old new : Tables) (result : Result Served Trouble) (trouble : Trouble) → result ≡ Err trouble → before.broken ≡ None → Serves clean limits head m before before old new result
served_none clean limits head m before old new result trouble is going = served_err clean limits head m before before old new result trouble is [] (gives_none before going) (going_may before going)

-- a request of nobody is refused once its body came
pub served_nobody : (clean : Type 0) (limits : HostLimits) (head : Head) (m : ℕ) (before after : Coming) (old : Tables) (reply : Vec ℕ Global) (e : Rejection) (given : Octets) → Gives before after given → IsWhole after → key_given (with_body head given) ≡ None
    → ((n : ℕ) → requested limits n (with_body head given) None ≡ Err e) → reply.items ≡ text (RequestRead (Ok (with_body head given))) (Err e) → Serves clean limits head m before after old old (Ok (Kept (Whole reply)))
served_nobody clean limits head m before after old reply e given gives whole none refused told = record {
  given = given;
  gives = gives;
  served = (whole, λ _. turned_nobody limits m (with_body head given) e old reply.items none refused told);
}

module _ {H : Type 0} (IsIntact IsOpen : H → Type 0) (seen : H → Seen) (left : H → Tables → Type 0) (IsSound : Tables → Type 0) (key : AccessKeyId) (at : ℕ) (head : Head) (before after : Coming) (old mid new : H)
    (keyed : (given : Octets) → key_given (with_body head given) ≡ Some key) (works : Clean IsIntact IsOpen old → IsWorking IsSound (seen old))
    (first : Within IsIntact IsOpen seen left old mid) (purges : Clean IsIntact IsOpen mid → Purges key.tenant at (seen old).now (seen mid).now) (second : Within IsIntact IsOpen seen left mid new) where
  abbrev Now : Type 0
  Now = Clean IsIntact IsOpen new

  abbrev Came : Result (Outcome Offer Rejection) (StepError Rejection) → Type 0
  Came outcome = Operates (offer_view (seen new).now) key.tenant (λ given s. responded (requested (seen mid).limits at (with_body head given) s)) Now before after (seen mid).now (seen new).now outcome

  abbrev Gave : Result Served Trouble → Type 0
  Gave result = Serves Now (seen old).limits head at before after (seen old).now (seen new).now result

  clean_mid : Now → Clean IsIntact IsOpen mid
  clean_mid c = (second.intact c.0, second.opened c.0 c.1)

  clean_old : Now → Clean IsIntact IsOpen old
  clean_old c = let m = clean_mid c in (first.intact m.0, first.opened m.0 m.1)

  -- an answer, and then it is delivered: what the storage shows stays
  module _ (last : H) (third : Within IsIntact IsOpen seen left new last) (same : Clean IsIntact IsOpen last → seen last ≡ seen new) where
    still : Clean IsIntact IsOpen last → Now
    still c = (third.intact c.0, third.opened c.0 c.1)

    pub served_done : (offer : Offer) (made given : Composed) → (Now → IsWorking IsSound (seen new)) → Came (Ok (Done offer)) → (Now → IfFound offer (IsMeasured (seen new).now))
        → ((tables : Tables) → IfFound offer (IsMeasured tables) → composed_in tables made ≡ response_text (sent_for head.method.now (offer_view tables offer)))
        → (Clean IsIntact IsOpen last → composed_in (seen new).now given ≡ composed_in (seen new).now made)
        → Serves (Clean IsIntact IsOpen last) (seen old).limits head at before after (seen old).now (seen last).now (Ok (Kept given))
    served_done offer made given working o measured told delivered = record {
      given = o.given;
      gives = o.gives;
      served = (
        o.decided,
        λ c. (
            let n = still c in
            subst (λ (s : Seen). IsActDone (seen old).limits (RequestRead (Ok (with_body head o.given))) at (seen old).now s.now (composed_in s.now given)) (sym (same c))
            (request_done (seen old).limits key at (with_body head o.given) (seen old).now (seen mid).now (seen new).now (composed_in (seen new).now given) (keyed o.given) (purges (clean_mid n))
            (limits_stay (seen old) (seen new) (works (clean_old n)) (working n) (second.limits ∙ first.limits)) (offer_view (seen new).now offer)
            (subst (λ l. GivesStep key.tenant (λ s. responded (requested l at (with_body head o.given) s)) (offer_view (seen new).now offer) (seen mid).now (seen new).now) first.limits (o.carries n))
            (delivered c ∙ told (seen new).now (measured n)))
            ),
      );
    }

  pub served_refused : (rejection : Rejection) (reply : Vec ℕ Global) → (Now → IsWorking IsSound (seen new)) → Came (Err (Refused rejection)) → ((given : Octets) → reply.items ≡ text (RequestRead (Ok (with_body head given))) (Err rejection)) → Gave (Ok (Kept (Whole reply)))
  served_refused rejection reply working o told = record {
    given = o.given;
    gives = o.gives;
    served = (
      o.decided,
      λ c. request_refused (seen old).limits key at (with_body head o.given) (seen old).now (seen mid).now (seen new).now reply.items (keyed o.given) (purges (clean_mid c))
          (limits_stay (seen old) (seen new) (works (clean_old c)) (working c) (second.limits ∙ first.limits)) rejection
          (subst (λ l. responded (requested l at (with_body head o.given) (view (seen mid).now key.tenant)) ≡ Err rejection) first.limits (o.carries c).0) (o.carries c).1 (told o.given),
    );
  }

  pub served_spoilt : (rejection : Rejection) (reply : Vec ℕ Global) → Came (Ok (Spoilt rejection)) → ((given : Octets) → reply.items ≡ text (RequestRead (Ok (with_body head given))) (Err rejection)) → Gave (Ok (TakenBack key.tenant reply))
  served_spoilt rejection reply o told = record {
    given = o.given;
    gives = o.gives;
    served = (
      o.decided,
      ap (option_map (λ (k : AccessKeyId). k.tenant)) (keyed o.given),
      λ c. (
        rejection,
        subst (λ l. requested l at (with_body head o.given) (view (rows_purged key.tenant at (seen old).now) key.tenant) ≡ Err rejection) first.limits
            (subst (λ (x : Tables). requested (seen mid).limits at (with_body head o.given) (view x key.tenant) ≡ Err rejection) (purges (clean_mid c)).is
            (responded_err (requested (seen mid).limits at (with_body head o.given) (view (seen mid).now key.tenant)) rejection (o.carries c))),
        told o.given,
      ),
    );
  }
