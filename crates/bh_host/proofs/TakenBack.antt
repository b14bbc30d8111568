-- A request whose transaction was taken back, and whose stamp was recorded in another.
use Rattle.std.proofs.Common.{◌≡◌, ◌≢◌, ◌≤◌, ◌<◌, ℕ, length, Bool, List, Option, Some, None, Result, Ok, Err, refl, sym, ap, subst, ◌∙◌, arith, inl, inr}
use Rattle.std.specs.Prelude.{IfSome, if◌then◌else◌}
use Rattle.std.specs.Io.KnownBytes.{IsAtEnd}
use Rattle.std.proofs.lemmas.Bool.{le-leb, lt-leb}
use Rattle.bh_types.specs.Limits.{HostLimits}
use Rattle.bh_types.specs.Rejections.{plain}
use Rattle.bh_types.specs.declared.refusal.Refusal.{Refusal}
use Rattle.bh_types.specs.declared.refusal.Refusal.TheVariants.{IncompleteBody}
use Rattle.bh_http.specs.Bodies.{Coming, Gives, BreaksOff, BreaksBy, IsWhole, MayBreak}
use Rattle.bh_http.specs.Credentials.{owner}
use Rattle.bh_http.specs.Views.{Taken, with_body}
use Rattle.bh_http.specs.declared.body.Break.{Break}
use Rattle.bh_http.specs.declared.body.Break.TheVariants.{Failed, Ended}
use Rattle.bh_http.specs.declared.request.Head.{Head}
use Rattle.bh_machine.specs.Machine.{RequestRead, change}
use Rattle.bh_model.specs.State.{Octets}
use Rattle.bh_storage.specs.Calls.{Seen, Clean, LeavesNothingNew, IsAtRest, TakesBack, Stamps}
use Rattle.bh_storage.specs.declared.error.Trouble.{Trouble}
use Rattle.bh_tables.specs.Typed.{Tables}
use Rattle.bh_view.specs.View.{view, limits_in, with_latest, rows_purged}
use Rattle.bh_host.specs.Receives.{answered, AppliedAs, HasApplied, IsRefusedAs, HasCome, IsStamp, Records, Tries, AnewAs, ToldAs, Receives}
use Rattle.bh_host.specs.Replies.{text, wanting_text}
use Rattle.bh_host.specs.declared.reply.Caller.TheVariants.{Request}
use Rattle.bh_host.specs.Turns.{IsActDone}
use Rattle.bh_host.proofs.Turning.{turned_unread, turned_refused}

-- ---- the reading of what came

pub all_came : (head : Head) (given : Octets) → head.body_size ≤ length given → answered head given ≡ Ok (with_body head given)
all_came head given le = ap (λ (b : Bool). if b then Ok (with_body head given) else Err IncompleteBody) (le-leb head.body_size (length given) le)

pub too_few_came : (head : Head) (given : Octets) → length given < head.body_size → answered head given ≡ Err IncompleteBody
too_few_came head given lt = ap (λ (b : Bool). if b then Ok (with_body head given) else Err IncompleteBody) (lt-leb head.body_size (length given) lt)

-- ---- why no more came

pub broke : (c : Coming) (b : Break) → MayBreak c → c.broken ≡ Some b → BreaksOff c
broke c b may is = let P : Option Break → Type 0 = λ o. IfSome o (λ _. BreaksOff c) in subst P is may

pub at_end : (c : Coming) → BreaksOff c → c.broken ≡ Some Ended → IsAtEnd c.left
at_end c off is = let P : Option Break → Type 0 = λ b. BreaksBy b c in subst P is off.cause

some_is_none : (b : Break) → None ≡ Some b → ⊥
some_is_none b e = let P : Option Break → Type 0 = λ o. IfSome o (λ _. ⊥) in subst P e tt

pub not_none : (c : Coming) (b : Break) → c.broken ≡ Some b → c.broken ≡ None → ⊥
not_none c b is none = some_is_none b (sym none ∙ is)

pub none_not_failed : (c : Coming) → c.broken ≡ None → c.broken ≢ Some Failed
none_not_failed c none is = not_none c Failed is none

abbrev IsNoFault : Option Break → Type 0
IsNoFault None = Unit {0}
IsNoFault (Some Failed) = ⊥
IsNoFault (Some Ended) = Unit {0}

pub ended_not_failed : (c : Coming) → c.broken ≡ Some Ended → c.broken ≢ Some Failed
ended_not_failed c ended is = subst IsNoFault (sym ended ∙ is) tt

-- ---- the turn that is recorded

-- a stamp alone, of bytes that are no request
pub recorded_unread : (reading : ℕ) (refusal : Refusal) (m : ℕ) (old new : Tables) (reply : List ℕ) → IsStamp reading old m → Records None m old new → reply ≡ text (RequestRead (Err refusal)) (Err (plain refusal)) → AppliedAs reading (Err refusal) old new m reply
recorded_unread reading refusal m old new reply stamp (is, latest) told =
    let P : Tables → Type 0 = λ x. IsActDone (limits_in old) (RequestRead (Err refusal)) m (with_latest m old) x reply in
    (stamp, latest, subst P (sym is) (turned_unread (limits_in old) m refusal (with_latest m old) reply told))

purged_limits : (t : Octets) (m : ℕ) (x : Tables) → limits_in (rows_purged t m x) ≡ limits_in x
unfolding rows_purged limits_in
purged_limits t m x = refl

-- a stamp, and the going of what is stale, of a tenant's request that is refused
recorded_refused : (reading : ℕ) (t : Octets) (request : Taken) (m : ℕ) (old new : Tables) (reply : List ℕ) → IsStamp reading old m → Records (Some t) m old new → owner request ≡ Some t
    → IsRefusedAs (limits_in old) t request m (rows_purged t m (with_latest m old)) reply → AppliedAs reading (Ok request) old new m reply
recorded_refused reading t request m old new reply stamp (purges, latest) owned (r, refused, told) =
    let limits = limits_in old in (
      stamp,
      latest,
      turned_refused limits t m (RequestRead (Ok request)) (with_latest m old) new new reply r owned purges
          (ap (λ (x : Tables). change limits m (RequestRead (Ok request)) (view x t)) purges.is ∙ refused) refl (ap limits_in purges.is ∙ purged_limits t m (with_latest m old)) told,
    )

same_stamp : (reading : ℕ) (old : Tables) (m n : ℕ) → IsStamp reading old m → IsStamp reading old n → n ≡ m
same_stamp reading old m n one two = go (sym two ∙ one)
  where
    value_or : Result ℕ Refusal → ℕ → ℕ
    value_or (Ok x) other = x
    value_or (Err e) other = other

    go : ◌≡◌ {A = Result ℕ Refusal} (Ok n) (Ok m) → n ≡ m
    go e = ap (λ r. value_or r n) e

-- a turn at its stamp, of the tables before it
pub applied_as : (reading m : ℕ) (answer : Result Taken Refusal) (limits : HostLimits) (old begun stamped new : Tables) (reply : List ℕ) → begun ≡ old → limits ≡ limits_in old → Stamps reading m begun stamped
    → IsActDone limits (RequestRead answer) m stamped new reply → AppliedAs reading answer old new m reply
applied_as reading m answer limits old begun stamped new reply same is stamps turned = (
  subst (λ (x : Tables). IsStamp reading x m) same stamps.stamp,
  turned.latest ∙ stamps.latest,
  subst (λ l. IsActDone l (RequestRead answer) m (with_latest m old) new reply) is (subst (λ (x : Tables). IsActDone limits (RequestRead answer) m x new reply) (stamps.is ∙ ap (with_latest m) same) turned),
)

-- ---- a request that was applied

pub kept_received : {H : Type 0} (IsIntact IsOpen : H → Type 0) (seen : H → Seen) (left : H → Tables → Type 0) (reading : ℕ) (head : Head) (before after : Coming) (old new : H) (given : Octets) → Gives before after given → IsWhole after → before.due ≡ head.body_size
    → (stamp : Option ℕ) (reply : List ℕ) → HasApplied IsIntact IsOpen seen left reading (Ok (with_body head given)) old new stamp reply → Receives IsIntact IsOpen seen left reading head before after old new (Some (stamp, reply))
kept_received IsIntact IsOpen seen left reading head before after old new given gives whole due None reply applied = absurd applied
kept_received IsIntact IsOpen seen left reading head before after old new given gives whole due (Some m) reply (did, survives) =
    let all : head.body_size ≤ length given = (let c = gives.counted in let d = whole.due in omega (arith, c, d, due)) in
    record {
      given = given;
      gives = gives;
      came = subst (λ (a : Result Taken Refusal). ToldAs IsIntact IsOpen seen left reading a after old new (Some m) reply) (sym (all_came head given all)) (inl whole.due, none_not_failed after whole.going, did, survives);
    }

-- ---- the two transactions

module _ {H : Type 0} (IsIntact IsOpen : H → Type 0) (seen : H → Seen) (left : H → Tables → Type 0) (IsSound : Tables → Type 0) (reading : ℕ) (old tried mid new : H)
    (rest : Clean IsIntact IsOpen old → IsAtRest IsSound (seen old))
    (tried_intact : IsIntact tried → IsIntact old) (tried_opened : IsIntact tried → IsOpen tried → IsOpen old) (tried_kept : Clean IsIntact IsOpen tried → (seen tried).kept ≡ (seen old).kept)
    (back_intact : IsIntact mid → IsIntact tried) (back_opened : IsIntact mid → IsOpen mid → IsOpen tried)
    (back_survives : IsIntact mid → LeavesNothingNew left tried mid) (back : Clean IsIntact IsOpen mid → TakesBack (seen tried) (seen mid))
    (intact : IsIntact new → IsIntact mid) where
  pub was_clean : IsIntact mid → IsOpen mid → Clean IsIntact IsOpen tried
  was_clean i o = (back_intact i, back_opened i o)

  was_open : IsIntact mid → IsOpen mid → IsOpen old
  was_open i o = let c = was_clean i o in tried_opened c.0 c.1

  -- what stands is what stood before
  pub as_before : IsIntact mid → IsOpen mid → (seen mid).now ≡ (seen old).now
  as_before i o =
      let at_tried = was_clean i o in
      let at_old : Clean IsIntact IsOpen old = (tried_intact at_tried.0, tried_opened at_tried.0 at_tried.1) in
      (back (i, o)).now ∙ tried_kept at_tried ∙ (rest at_old).committed

  anew : (answer : Result Taken Refusal) (tenant : Option Octets) (reply : List ℕ) (after : Coming) → HasCome after → after.broken ≢ Some Failed → (IsIntact mid → (x : Tables) → left mid x → left old x)
      → ((m : ℕ) (x : Tables) → IsIntact mid → IsOpen mid → IsStamp reading (seen old).now m → Records tenant m (seen old).now x → AppliedAs reading answer (seen old).now x m reply)
      → (stamp : Option ℕ) (told : List ℕ) → AnewAs IsIntact IsOpen seen left reading tenant reply mid new stamp told → ToldAs IsIntact IsOpen seen left reading answer after old new stamp told
  anew answer tenant reply after end going crashes would None told (same, is, crash) = (
    (λ i o. let (was, now) = same i o in (was_open (intact i) was, now ∙ as_before (intact i) was)),
    is,
    going,
    (λ i x l. elim (crash i x l) [
      | inl stays ↦ inl (crashes (intact i) x stays)
      | inr (was, (m, stamp, records)) ↦ (
          let same = as_before (intact i) was in
          inr (end, (was_open (intact i) was, (m, reply, would m x (intact i) was (subst (λ (y : Tables). IsStamp reading y m) same stamp) (subst (λ (y : Tables). Records tenant m y x) same records))))
          )
    ]),
  )
  anew answer tenant reply after end going crashes would (Some m) told (done, is, survives) = (
    end,
    going,
    (λ i.
        let (was, now, stamp, records) = done i in
        let same = as_before (intact i) was in
        let R : List ℕ → Type 0 = λ r. AppliedAs reading answer (seen old).now (seen new).now m r in
        (was_open (intact i) was, now, subst R (sym is) (would m (seen new).now (intact i) was (subst (λ (y : Tables). IsStamp reading y m) same stamp) (subst (λ (y : Tables). Records tenant m y (seen new).now) same records)))),
    survives,
  )

  -- memory or the store was wanting
  pub wanting_received : (head : Head) (before after : Coming) (trouble : Trouble) → before.due ≡ head.body_size → (tries : Tries IsIntact IsOpen seen left reading head before after old tried (Err trouble)) → after.broken ≡ None
      → Receives IsIntact IsOpen seen left reading head before after old mid (Some (None, wanting_text Request))
  wanting_received head before after trouble due tries going = record {
    given = tries.given;
    gives = tries.gives;
    came = (
      (λ i o. (was_open i o, as_before i o)),
      refl,
      none_not_failed after going,
      (λ i x l. elim (tries.tried.1 (back_intact i) x (back_survives i x l)) [
        | inl stays ↦ inl stays
        | inr (whole, (was, (m, told, would))) ↦ (
            let all : head.body_size ≤ length tries.given = (let c = tries.gives.counted in let d = whole.due in omega (arith, c, d, due)) in
            inr (inl whole.due, (was, (m, told, subst (λ (a : Result Taken Refusal). AppliedAs reading a (seen old).now x m told) (sym (all_came head tries.given all)) would)))
            )
      ]),
    );
  }

  -- too few bytes came
  pub short_received : (head : Head) (before after : Coming) (trouble : Trouble) → before.due ≡ head.body_size → (tries : Tries IsIntact IsOpen seen left reading head before after old tried (Err trouble)) → after.broken ≡ Some Ended
      → (stamp : Option ℕ) (told : List ℕ) → AnewAs IsIntact IsOpen seen left reading None (text (RequestRead (Err IncompleteBody)) (Err (plain IncompleteBody))) mid new stamp told
      → Receives IsIntact IsOpen seen left reading head before after old new (Some (stamp, told))
  short_received head before after trouble due tries ended stamp told was =
      let off = broke after Ended tries.tried.0 ended in
      let few : length tries.given < head.body_size = (let c = tries.gives.counted in let d = off.due in omega (arith, c, d, due)) in
      let reply = text (RequestRead (Err IncompleteBody)) (Err (plain IncompleteBody)) in
      let crashes : IsIntact mid → (x : Tables) → left mid x → left old x = (λ i x l. elim (tries.tried.1 (back_intact i) x (back_survives i x l)) [
        | inl stays ↦ stays
        | inr (whole, other) ↦ absurd (not_none after Ended ended whole.going)
      ]) in
      record {
        given = tries.given;
        gives = tries.gives;
        came = subst (λ (a : Result Taken Refusal). ToldAs IsIntact IsOpen seen left reading a after old new stamp told) (sym (too_few_came head tries.given few))
            (anew (Err IncompleteBody) None reply after (inr (at_end after off ended)) (ended_not_failed after ended) crashes
            (λ m x i o at records. recorded_unread reading IncompleteBody m (seen old).now x reply at records refl) stamp told was);
      }

  -- the bytes have another checksum than is given
  pub spoilt_received : (head : Head) (before after : Coming) (given : Octets) (gives : Gives before after given) (whole : IsWhole after) (t : Octets) (reply : List ℕ) → before.due ≡ head.body_size → owner (with_body head given) ≡ Some t
      → (Clean IsIntact IsOpen tried → (m : ℕ) × IsStamp reading (seen old).now m × IsRefusedAs (limits_in (seen old).now) t (with_body head given) m (rows_purged t m (with_latest m (seen old).now)) reply)
      → (IsIntact tried → LeavesNothingNew left old tried) → (stamp : Option ℕ) (told : List ℕ) → AnewAs IsIntact IsOpen seen left reading (Some t) reply mid new stamp told
      → Receives IsIntact IsOpen seen left reading head before after old new (Some (stamp, told))
  spoilt_received head before after given gives whole t reply due owned refused survives stamp told was =
      let all : head.body_size ≤ length given = (let c = gives.counted in let d = whole.due in omega (arith, c, d, due)) in
      record {
        given = given;
        gives = gives;
        came = subst (λ (a : Result Taken Refusal). ToldAs IsIntact IsOpen seen left reading a after old new stamp told) (sym (all_came head given all))
            (anew (Ok (with_body head given)) (Some t) reply after (inl whole.due) (none_not_failed after whole.going) (λ i x l. survives (back_intact i) x (back_survives i x l))
            (λ m x i o at records.
            let (n, stamped, refusal) = refused (was_clean i o) in
            let R : ℕ → Type 0 = λ k. IsRefusedAs (limits_in (seen old).now) t (with_body head given) k (rows_purged t k (with_latest k (seen old).now)) reply in
            recorded_refused reading t (with_body head given) m (seen old).now x reply at records owned (subst R (same_stamp reading (seen old).now m n at stamped) refusal)) stamp told was);
      }
