-- A request that was read, or not, and answered, as its event.
use Rattle.std.proofs.Common.{◌≡◌, ◌≤◌, ◌<◌, ◌⊎◌, ℕ, ◌++◌, length, take, Bool, true, false, List, [], ◌∷◌, append-nil, Option, Some, None, Result, Ok, Err, refl, sym, ap, subst, ◌∙◌, arith, inl, inr}
use Rattle.std.specs.Prelude.{nat_lt, if◌then◌else◌}
use Rattle.std.proofs.lemmas.Bool.{le-leb, lt-leb}
use Rattle.std.proofs.lemmas.Bool.Decides.{nat_tests}
use Rattle.bh_types.specs.Rejections.{plain}
use Rattle.bh_types.specs.declared.refusal.Refusal.{Refusal}
use Rattle.bh_types.specs.declared.refusal.Refusal.TheVariants.{IncompleteBody}
use Rattle.bh_event.specs.Events.{Arrival}
use Rattle.bh_http.specs.Bodies.{Gives, whole}
use Rattle.bh_http.specs.Reading.{Reads, completed}
use Rattle.bh_http.specs.Views.{Taken, announced_view, with_body}
use Rattle.bh_http.specs.declared.request.Head.{Head}
use Rattle.bh_machine.specs.Machine.{RequestRead}
use Rattle.bh_model.specs.Runs.{last_reading}
use Rattle.bh_storage.specs.Calls.{Seen, Clean, IsAtRest}
use Rattle.bh_storage.specs.Plans.{to_come}
use Rattle.bh_tables.specs.Typed.{Tables}
use Rattle.bh_view.specs.View.{limits_in}
use Rattle.bh_host.specs.Answers.{told_in}
use Rattle.bh_host.specs.Receives.{answered, AppliedAs, HasCome, AnewAs, ToldOf, Receives}
use Rattle.bh_host.specs.Replies.{text, caller_of, clock_text, reply_bytes, wanting_text}
use Rattle.bh_host.specs.Turns.{Applied, AppliedTo, Happened, fixed, request_at}
use Rattle.bh_host.specs.declared.delivery.Replied.{Replied}
use Rattle.bh_host.specs.declared.delivery.Replied.TheVariants.{Told, Planned}
use Rattle.bh_host.specs.declared.reply.Caller.TheVariants.{Request}
use Rattle.bh_host.proofs.TakenBack.{all_came, recorded_unread}
use Rattle.bh_host.proofs.ToldApart.{apart_on}

pub wanting_is_fixed : (reading : ℕ) (bytes : List ℕ) → reading ≤ last_reading → wanting_text Request ≡ fixed (request_at reading bytes)
wanting_is_fixed reading bytes early =
    let test : nat_lt last_reading reading ≡ false = grind (arith, nat_tests) in
    rw test refl

module _ {H : Type 0} (IsIntact IsOpen : H → Type 0) (seen : H → Seen) (left : H → Tables → Type 0) where
  -- bytes that are no request
  pub anew_told : (reading : ℕ) (refusal : Refusal) (old new : H) (stamp : Option ℕ) (reply : List ℕ) → AnewAs IsIntact IsOpen seen left reading None (text (RequestRead (Err refusal)) (Err (plain refusal))) old new stamp reply
      → ToldOf IsIntact IsOpen seen left reading (Err refusal) old new (stamp, reply)
  anew_told reading refusal old new None reply (same, is, crash) = (
    same,
    is,
    (λ intact x leaves. elim (crash intact x leaves) [
      | inl stays ↦ inl stays
      | inr (was, (m, stamp, records)) ↦ inr (was, (m, text (RequestRead (Err refusal)) (Err (plain refusal)), recorded_unread reading refusal m (seen old).now x (text (RequestRead (Err refusal)) (Err (plain refusal))) stamp records refl))
    ]),
  )
  anew_told reading refusal old new (Some m) reply (done, is, survives) = (
    (λ intact. let (was, now, stamp, records) = done intact in (was, now, recorded_unread reading refusal m (seen old).now (seen new).now reply stamp records is)),
    survives,
  )

  -- a request by its reading
  pub told_happened : (IsSound : Tables → Type 0) (reading : ℕ) (bytes : List ℕ) (answer : Result Taken Refusal) (old new : H) (stamp : Option ℕ) (reply : List ℕ) → reading ≤ last_reading
      → (Clean IsIntact IsOpen old → IsAtRest IsSound (seen old)) → (IsIntact new → IsIntact old) → Reads (seen old).limits bytes answer
      → ToldOf IsIntact IsOpen seen left reading answer old new (stamp, reply) → Happened IsIntact IsOpen seen left (request_at reading bytes) old new stamp reply
  told_happened IsSound reading bytes answer old new stamp reply early rest still reads = go stamp
    where
      applies : (x : Tables) (m : ℕ) (r : List ℕ) → IsIntact new → IsOpen old → AppliedAs reading answer (seen old).now x m r → Applied (request_at reading bytes) (seen old).now x (Some m) r
      applies x m r intact opened (at, latest, turned) =
          let same : limits_in (seen old).now ≡ (seen old).limits = (rest (still intact, opened)).limits in
          (at, latest, (RequestRead answer, (answer, subst (λ l. Reads l bytes answer) (sym same) reads, refl), turned))

      go : (stamp : Option ℕ) → ToldOf IsIntact IsOpen seen left reading answer old new (stamp, reply) → Happened IsIntact IsOpen seen left (request_at reading bytes) old new stamp reply
      go None (same, is, crash) = record {
        applied = λ intact opened. same intact opened;
        told_apart = λ _. is ∙ wanting_is_fixed reading bytes early;
        acknowledged = tt;
        crash = λ intact x leaves. elim (crash intact x leaves) [
          | inl stays ↦ inl stays
          | inr (was, (m, r, would)) ↦ inr (was, (m, r, applies x m r intact was would))
        ];
      }
      go (Some m) (did, survives) =
          let applied : IsIntact new → AppliedTo IsOpen seen (request_at reading bytes) old new (Some m) reply = λ intact. (let (was, now, turned) = did intact in (was, now, applies (seen new).now m reply intact was turned)) in
          record {
            applied = applied;
            told_apart = λ intact. apart_on IsOpen seen (request_at reading bytes) m old new reply (applied intact);
            acknowledged = survives;
            crash = tt;
          }

  -- its reply, whose object may be still to be read
  pub replied_happened : (IsSound : Tables → Type 0) (reading : ℕ) (bytes : List ℕ) (answer : Result Taken Refusal) (old new : H) (replied : Replied) → reading ≤ last_reading
      → (Clean IsIntact IsOpen old → IsAtRest IsSound (seen old)) → (IsIntact new → IsIntact old) → Reads (seen old).limits bytes answer
      → ToldOf IsIntact IsOpen seen left reading answer old new (told_in (seen new).now replied)
      → Happened IsIntact IsOpen seen left (request_at reading bytes) old new (told_in (seen new).now replied).0 (told_in (seen new).now replied).1
  replied_happened IsSound reading bytes answer old new (Told done) = told_happened IsSound reading bytes answer old new done.stamp (reply_bytes done.reply)
  replied_happened IsSound reading bytes answer old new (Planned reply) =
      told_happened IsSound reading bytes answer old new (Some reply.stamp) (reply.head.items ++ to_come reply.plan (seen new).now)

  -- a reading above its limit
  pub late_happened : (event : Arrival) (host : H) → last_reading < event.reading → Happened IsIntact IsOpen seen left event host host None (clock_text (caller_of event.message))
  late_happened event host late =
      let test : nat_lt last_reading event.reading ≡ true = grind (arith, nat_tests) in
      record { applied = λ _ opened. (opened, refl); told_apart = λ _. rw test refl; acknowledged = tt; crash = λ _ x leaves. inl leaves }

-- ---- a body that is there as a whole

nothing : (xs : List ℕ) → (length xs ≡ 0) ⊎ (xs ≡ []) → xs ≡ []
nothing [] h = refl
nothing (x ∷ xs) (inl e) = absurd (omega (arith, e))
nothing (x ∷ xs) (inr e) = e

pub whole_given : (all rest given : List ℕ) → Gives (whole all) (whole rest) given → HasCome (whole rest) → given ≡ all
whole_given all rest given gives end = sym (append-nil given) ∙ ap (λ r. given ++ r) (sym (nothing rest end)) ∙ sym gives.consumed

pub completed_short : (head : Head) (rest : List ℕ) → length rest < head.body_size → completed (announced_view head) rest ≡ Err IncompleteBody
completed_short head rest lt = ap (λ (b : Bool). if b then Ok (with_body head (take head.body_size rest)) else Err IncompleteBody) (lt-leb head.body_size (length rest) lt)

pub completed_whole : (head : Head) (rest : List ℕ) → head.body_size ≤ length rest → completed (announced_view head) rest ≡ Ok (with_body head (take head.body_size rest))
completed_whole head rest le = ap (λ (b : Bool). if b then Ok (with_body head (take head.body_size rest)) else Err IncompleteBody) (le-leb head.body_size (length rest) le)

module _ {H : Type 0} (IsIntact IsOpen : H → Type 0) (seen : H → Seen) (left : H → Tables → Type 0) (reading : ℕ) (head : Head) (bytes all after : List ℕ) (old new : H) (enough : head.body_size ≤ length bytes)
    (is : all ≡ take head.body_size bytes) (size : head.body_size ≤ length all) where
  answer_is : (given : List ℕ) → Gives (whole all) (whole after) given → HasCome (whole after) → answered head given ≡ completed (announced_view head) bytes
  answer_is given gives end =
      let same = whole_given all after given gives end in
      ap (answered head) same ∙ all_came head all size ∙ ap (λ (b : List ℕ). Ok (with_body head b)) is ∙ sym (completed_whole head bytes enough)

  -- it was received as it is
  pub whole_told : (stamp : Option ℕ) (reply : List ℕ) → Receives IsIntact IsOpen seen left reading head (whole all) (whole after) old new (Some (stamp, reply))
      → ToldOf IsIntact IsOpen seen left reading (completed (announced_view head) bytes) old new (stamp, reply)
  whole_told None reply r =
      let (same, told, going, crash) = r.came in (
        same,
        told,
        (λ intact x leaves. elim (crash intact x leaves) [
          | inl stays ↦ inl stays
          | inr (come, (was, (m, text, would))) ↦ inr (was, (m, text, subst (λ (a : Result Taken Refusal). AppliedAs reading a (seen old).now x m text) (answer_is r.given r.gives come) would))
        ]),
      )
  whole_told (Some m) reply r =
      let (come, going, did, survives) = r.came in (
        (λ intact. let (was, now, turned) = did intact in (was, now, subst (λ (a : Result Taken Refusal). AppliedAs reading a (seen old).now (seen new).now m reply) (answer_is r.given r.gives come) turned)),
        survives,
      )

  pub whole_replied : (replied : Replied) → Receives IsIntact IsOpen seen left reading head (whole all) (whole after) old new (Some (told_in (seen new).now replied))
      → ToldOf IsIntact IsOpen seen left reading (completed (announced_view head) bytes) old new (told_in (seen new).now replied)
  whole_replied (Told done) = whole_told done.stamp (reply_bytes done.reply)
  whole_replied (Planned reply) = whole_told (Some reply.stamp) (reply.head.items ++ to_come reply.plan (seen new).now)

  -- no reader of it can fail
  pub whole_not_none : (reply : List ℕ) → reply ≡ wanting_text Request → Receives IsIntact IsOpen seen left reading head (whole all) (whole after) old new None
      → ToldOf IsIntact IsOpen seen left reading (completed (announced_view head) bytes) old new (None, reply)
  whole_not_none reply told r =
      let (broken, same, survives) = r.came in
      (same, told, λ intact x leaves. inl (survives intact x leaves))
