-- An event whose bytes were taken, as the event of all the bytes that the reader would give.
use Rattle.std.proofs.Common.{◌≡◌, ℕ, ◌<◌, ◌≤◌, Bool, true, false, List, [], length, take, refl, sym, subst, arith, Option, Some, None, inl, inr, Result}
use Rattle.std.specs.Prelude.{nat_lt, IfSome}
use Rattle.std.specs.Io.KnownBytes.{Appends, Keeps}
use Rattle.std.proofs.lemmas.Bool.Decides.{nat_tests}
use Rattle.bh_types.specs.Limits.{HostLimits}
use Rattle.bh_types.specs.declared.refusal.Refusal.{Refusal}
use Rattle.bh_model.specs.Runs.{last_reading}
use Rattle.bh_http.specs.Arriving.{HasExtent}
use Rattle.bh_http.specs.Reading.{Reads}
use Rattle.bh_http.specs.Views.{Taken}
use Rattle.bh_tables.specs.Typed.{Tables}
use Rattle.bh_view.specs.View.{limits_in}
use Rattle.bh_storage.specs.Calls.{Seen, Clean, IsAtRest}
use Rattle.bh_link.specs.Taking.{all_of, Took, TookAtMost}
use Rattle.bh_http.specs.Transfers.{Logs, Gives, Takes}
use Rattle.bh_link.proofs.TakingLemmas.{consumes_none}
use Rattle.bh_http.proofs.TransferLemmas.{logs_nothing}
use Rattle.bh_host.specs.Replies.{clock_text, wanting_text}
use Rattle.bh_host.specs.Turns.{Applied, fixed, request_at}
use Rattle.bh_host.specs.declared.reply.Caller.TheVariants.{Request}
use Rattle.bh_connection.specs.Connections.{Ends, EndsAs, EndsIn, IsApplied, IsKept, HasAnswered, IsTakenBack, CameTo}
use Rattle.bh_connection.specs.declared.served.End.{End}
use Rattle.bh_connection.specs.declared.served.End.TheVariants.{Whole, ReadFailed, WriteFailed, StoreFailed}
use Rattle.bh_connection.specs.declared.served.Served.{Served}

-- what an event does is what it does with all bytes
applied_all : (limits : HostLimits) (reading : ℕ) (given rest : Option (List ℕ)) (taken : List ℕ) (old new : Tables) (m : ℕ) (reply : List ℕ)
    → limits_in old ≡ limits → Took limits given rest taken → Applied (request_at reading taken) old new (Some m) reply
    → Applied (request_at reading (all_of given taken)) old new (Some m) reply
applied_all limits reading given rest taken old new m reply same took (stamp, latest, (act, (answer, reads, is), turned)) =
    let P : HostLimits → Type 0 = λ l. (a : Result Taken Refusal) → Reads l taken a → Reads l (all_of given taken) a in
    (stamp, latest, (act, (answer, subst P (sym same) took.decided answer reads, is), turned))

-- a reply that is there as a whole
pub ends_in : (ended : End) (stamp : Option ℕ) (sent : ℕ) (reply : List ℕ) (failed : Bool) → EndsAs ended sent reply failed → EndsIn ended stamp sent reply failed
ends_in Whole stamp sent reply failed ends = ends
ends_in WriteFailed stamp sent reply failed ends = ends
ends_in ReadFailed stamp sent reply failed ends = ends
ends_in StoreFailed stamp sent reply failed ends = absurd ends

-- it doesn't end as the store's fault
pub no_store_fault : (ended : End) (sent : ℕ) (reply : List ℕ) (failed : Bool) → EndsAs ended sent reply failed → ended ≡ StoreFailed → ⊥
no_store_fault ended sent reply failed ends is = subst (λ (e : End). EndsAs e sent reply failed) is ends

-- as its link says whether it failed
gives_as : (before after : Ends) (taken : List ℕ) (failed : Bool) → after.reader_failed ≡ failed → Gives before.gave after.gave taken after.reader_failed → Gives before.gave after.gave taken failed
gives_as before after taken failed is given = let P : Bool → Type 0 = λ f. Gives before.gave after.gave taken f in subst P is given

module _ {H : Type 0} (IsIntact IsOpen : H → Type 0) (seen : H → Seen) (left : H → Tables → Type 0) where
  -- no storage is asked while a reply goes out
  pub not_asked : (ended : End) (old : H) → IsKept IsIntact IsOpen seen left ended old old
  not_asked ended old = record { intact = λ intact. intact; opens = λ intact opened. inr opened; same = λ intact opened. (opened, refl); survives = λ intact x leaves. leaves }

  is_applied_all : {IsSound : Tables → Type 0} (reading : ℕ) (given rest : Option (List ℕ)) (taken : List ℕ) (stamp : Option ℕ) (reply : List ℕ) (old new : H)
      → (Clean IsIntact IsOpen old → IsAtRest IsSound (seen old)) → (IsIntact new → IsIntact old) → Took (seen old).limits given rest taken
      → IsApplied IsIntact IsOpen seen left (request_at reading taken) (stamp, reply) old new
      → IsApplied IsIntact IsOpen seen left (request_at reading (all_of given taken)) (stamp, reply) old new
  is_applied_all reading given rest taken None reply old new ready still took did = record {
    applied = did.applied;
    told_apart = did.told_apart;
    acknowledged = tt;
    crash = λ intact x leaves. elim (did.crash intact x leaves) [
      | inl before ↦ inl before
      | inr (opened, (m, text, would)) ↦
          inr (opened, (m, text, applied_all (seen old).limits reading given rest taken (seen old).now x m text (ready (still intact, opened)).limits took would))
    ];
  }
  is_applied_all reading given rest taken (Some m) reply old new ready still took did = record {
    applied = λ intact.
        let (was, stays, applied) = did.applied intact in
        (was, stays, applied_all (seen old).limits reading given rest taken (seen old).now (seen new).now m reply (ready (still intact, was)).limits took applied);
    told_apart = did.told_apart;
    acknowledged = did.acknowledged;
    crash = tt;
  }

  -- an event was applied
  pub answered : {IsSound : Tables → Type 0} (limits : HostLimits) (before after : Ends) (served : Served) (taken reply : List ℕ) (stamp : Option ℕ) (old new : H)
      → (Clean IsIntact IsOpen old → IsAtRest IsSound (seen old)) → (IsIntact new → IsIntact old) → limits ≡ (seen old).limits
      → Took limits before.left after.left taken → Gives before.gave after.gave taken false → after.reader_failed ≡ false
      → IsApplied IsIntact IsOpen seen left (request_at before.reading taken) (stamp, reply) old new
      → served.stamp ≡ stamp → Appends before.held after.held (take served.sent reply) → Takes before.took after.took (take served.sent reply) after.writer_failed
      → EndsAs served.ended served.sent reply after.writer_failed
      → CameTo IsIntact IsOpen seen left before after served old new
  answered limits before after served taken reply stamp old new ready still same was gave going did is out took_out ended =
      let took : Took (seen old).limits before.left after.left taken = subst (λ l. Took l before.left after.left taken) same was in
      record {
        outcome = Some (all_of before.left taken, (stamp, reply));
        came = record {
          taken = taken;
          consumed = took.consumed;
          all = refl;
          within = λ n extent. (let is_all = took.whole n extent in omega (arith, is_all));
          whole = some_whole served.stamp took.whole;
          stamp = sym is;
          out = out;
          ended = ends_in served.ended stamp served.sent reply after.writer_failed ended;
          gave = gave;
          took = took_out;
          reader = going;
        };
        did = record {
          mid = new;
          applied = λ _. is_applied_all before.reading before.left after.left taken stamp reply old new ready still took did;
          kept = not_asked served.ended new;
          read = λ _ fault. absurd (no_store_fault served.ended served.sent reply after.writer_failed ended fault);
        };
        short = λ _ fault. absurd (no_store_fault served.ended served.sent reply after.writer_failed ended fault);
      }
    where
      some_whole : (s : Option ℕ) {P : Type 0} → P → IfSome s (λ _. P)
      some_whole None p = tt
      some_whole (Some x) p = p

  -- nothing was applied, and the fixed text was sent
  pub answered_fixed : (limits : HostLimits) (before after : Ends) (served : Served) (taken reply : List ℕ) (old new : H) → limits ≡ (seen old).limits
      → TookAtMost limits before.left after.left taken → Gives before.gave after.gave taken after.reader_failed → after.reader_failed ≡ false → new ≡ old → reply ≡ fixed (request_at before.reading [])
      → served.stamp ≡ None → Appends before.held after.held (take served.sent reply) → Takes before.took after.took (take served.sent reply) after.writer_failed
      → EndsAs served.ended served.sent reply after.writer_failed
      → CameTo IsIntact IsOpen seen left before after served old new
  answered_fixed limits before after served taken reply old new same was given going stays told is out took_out ended =
      let gave : Gives before.gave after.gave taken false = gives_as before after taken false going given in
      let took : TookAtMost (seen old).limits before.left after.left taken = subst (λ l. TookAtMost l before.left after.left taken) same was in
      let all = all_of before.left taken in
      let W : Option ℕ → Type 0 = λ s. IfSome s (λ _. (n : ℕ) → HasExtent (seen old).limits all n → length taken ≡ n) in
      let D : H → Type 0 = λ x. HasAnswered IsIntact IsOpen seen left (request_at before.reading all) (None, reply) served.ended old x in
      let none : D old = record {
        mid = old;
        applied = λ _. record { applied = λ _ opened. (opened, refl); told_apart = λ _. told; acknowledged = tt; crash = λ _ x leaves. inl leaves };
        kept = not_asked served.ended old;
        read = λ _ fault. absurd (no_store_fault served.ended served.sent reply after.writer_failed ended fault);
      } in
      record {
        outcome = Some (all, (None, reply));
        came = record {
          taken = taken;
          consumed = took.consumed;
          all = refl;
          within = took.within;
          whole = subst W (sym is) tt;
          stamp = sym is;
          out = out;
          ended = ends_in served.ended None served.sent reply after.writer_failed ended;
          gave = gave;
          took = took_out;
          reader = going;
        };
        did = subst D (sym stays) none;
        short = λ _ fault. absurd (no_store_fault served.ended served.sent reply after.writer_failed ended fault);
      }

  -- the reader failed
  pub broken : (limits : HostLimits) (before after : Ends) (served : Served) (taken : List ℕ) (old new : H) → limits ≡ (seen old).limits
      → TookAtMost limits before.left after.left taken → Gives before.gave after.gave taken after.reader_failed → after.reader_failed ≡ true
      → after.writer_failed ≡ false → after.held ≡ before.held → after.took ≡ before.took → new ≡ old
      → served.ended ≡ ReadFailed → served.stamp ≡ None → served.sent ≡ 0
      → CameTo IsIntact IsOpen seen left before after served old new
  broken limits before after served taken old new same was given failed going kept untaken stays ended stamp sent =
      let gave : Gives before.gave after.gave taken true = gives_as before after taken true failed given in
      let took : TookAtMost (seen old).limits before.left after.left taken = subst (λ l. TookAtMost l before.left after.left taken) same was in
      let K : Option (List ℕ) → Type 0 = λ h. Keeps before.held h in
      record {
        outcome = None;
        came = record {
          taken = taken;
          consumed = took.consumed;
          within = took.within;
          ended = ended;
          stamp = stamp;
          sent = sent;
          out = subst K (sym kept) (keeps_same before.held);
          gave = gave;
          took = subst (λ t. Logs before.took t []) (sym untaken) (logs_nothing before.took);
          reader = failed;
          writer = going;
        };
        did = subst (λ x. IsTakenBack IsIntact IsOpen seen left old x) (sym stays) (record { same = λ intact opened. (opened, refl); survives = λ intact x leaves. leaves });
        short = λ _ _. tt;
      }
    where
      keeps_same : (a : Option (List ℕ)) → Keeps a a
      keeps_same None = tt
      keeps_same (Some xs) = refl

pub fixed_clock : (reading : ℕ) → last_reading < reading → clock_text Request ≡ fixed (request_at reading [])
fixed_clock reading late =
    let test : nat_lt last_reading reading ≡ true = grind (arith, nat_tests) in
    rw test refl

pub fixed_wanting : (reading : ℕ) → reading ≤ last_reading → wanting_text Request ≡ fixed (request_at reading [])
fixed_wanting reading early =
    let test : nat_lt last_reading reading ≡ false = grind (arith, nat_tests) in
    rw test refl

-- nothing was taken yet
pub took_nothing : (limits : HostLimits) (given : Option (List ℕ)) → TookAtMost limits given given []
took_nothing limits given = record { consumed = consumes_none given; short = inl (omega arith); within = λ n extent. omega arith }
