-- A request whose body came from the reader, as the event of all the bytes that the reader would give.
use Rattle.std.proofs.Common.{◌<◌, ◌≡◌, ◌≢◌, ℕ, ◌≤◌, ◌++◌, Bool, true, false, List, [], length, take, refl, sym, ap, subst, ◌∙◌, arith, Option, Some, None, Ok, Err, inl, inr}
use Rattle.std.specs.Prelude.{IfSome, nat_le, if◌then◌else◌}
use Rattle.std.specs.Io.KnownBytes.{Appends, Keeps}
use Rattle.std.proofs.lemmas.List.{take_all}
use Rattle.bh_types.specs.Limits.{HostLimits}
use Rattle.bh_types.specs.Rejections.{plain}
use Rattle.bh_types.specs.declared.refusal.Refusal.{Refusal}
use Rattle.bh_types.specs.declared.refusal.Refusal.TheVariants.{IncompleteBody}
use Rattle.bh_http.specs.Arriving.{HasExtent}
use Rattle.bh_http.specs.Bodies.{Coming, is_fault, broken_by}
use Rattle.bh_http.specs.Reading.{Reads, ReadsHead, completed}
use Rattle.bh_http.specs.Transfers.{Logs, Gives, Takes}
use Rattle.bh_http.specs.Views.{announced_view, with_body}
use Rattle.bh_http.specs.declared.body.Break.{Break}
use Rattle.bh_http.specs.declared.body.Break.TheVariants.{Failed, Ended}
use Rattle.bh_http.specs.declared.request.Head.{Head}
use Rattle.bh_http.proofs.TransferLemmas.{gives_then, logs_nothing}
use Rattle.bh_machine.specs.Machine.{RequestRead}
use Rattle.bh_model.specs.Runs.{last_reading}
use Rattle.bh_tables.specs.Typed.{Tables}
use Rattle.bh_view.specs.View.{limits_in}
use Rattle.bh_storage.specs.Calls.{Seen, Clean, IsAtRest}
use Rattle.bh_link.specs.Taking.{all_of, Opens, Took, TookAtMost}
use Rattle.bh_link.proofs.Opened.{opened_refused, headed_reads}
use Rattle.bh_link.proofs.TakingLemmas.{finish, finish_part}
use Rattle.bh_host.specs.Receives.{answered, AppliedAs, HasCome, AnewAs, Receives}
use Rattle.bh_host.specs.Replies.{text}
use Rattle.bh_host.specs.Turns.{Applied, AppliedTo, request_at}
use Rattle.bh_host.proofs.Answered.{anew_told, told_happened}
use Rattle.bh_host.proofs.ToldApart.{apart_on}
use Rattle.bh_connection.proofs.ConnectionLemmas.{fixed_wanting}
use Rattle.bh_connection.proofs.ConnectionLemmas.{answered as connected}
use Rattle.bh_connection.specs.Connections.{Ends, EndsAs, EndsIn, IsApplied, IsKept, IsReadFrom, IsTakenBack, Outcome, Came, Did, CameTo}
use Rattle.bh_connection.specs.declared.served.End.TheVariants.{ReadFailed, StoreFailed}
use Rattle.bh_connection.specs.declared.served.Served.{Served}

-- a link that has failed is one whose reader failed
pub fault_is : (failed ended : Bool) → is_fault (broken_by failed ended) ≡ failed
fault_is true ended = refl
fault_is false true = refl
fault_is false false = refl

no_fault : (b : Option Break) → b ≢ Some Failed → is_fault b ≡ false
no_fault None other = refl
no_fault (Some Failed) other = absurd (other refl)
no_fault (Some Ended) other = refl

-- what came is read as the request of the head and of these bytes
completed_so : (head : Head) (given : List ℕ) → length given ≤ head.body_size → completed (announced_view head) given ≡ answered head given
completed_so head given le = ap (λ (b : List ℕ). if nat_le head.body_size (length given) then Ok (with_body head b) else Err IncompleteBody) (take_all head.body_size given le)

-- the ends of a connection before, where its head came, and after; what came of the body; and how it was answered
pub record Headed {H : Type 0} (IsIntact IsOpen : H → Type 0) (seen : H → Seen) (left : H → Tables → Type 0) (IsSound : Tables → Type 0) (limits : HostLimits) (before after : Ends) (head : Head) (bytes : List ℕ) (coming came : Coming)
    (old new : H) (told : Option (Option ℕ × List ℕ)) : Type 0 where
  pub limits_are : limits ≡ (seen old).limits
  pub rest : Clean IsIntact IsOpen old → IsAtRest IsSound (seen old)
  pub still : IsIntact new → IsIntact old
  pub opens : Opens limits before.left coming.left bytes head.body_size
  pub reads : ReadsHead limits bytes (Ok (announced_view head, []))
  pub gave : Gives before.gave coming.gave bytes false
  pub due : coming.due ≡ head.body_size
  pub left_is : after.left ≡ came.left
  pub gave_is : after.gave ≡ came.gave
  pub failed_is : after.reader_failed ≡ is_fault came.broken
  pub receives : Receives IsIntact IsOpen seen left before.reading head coming came old new told

module _ {H : Type 0} (IsIntact IsOpen : H → Type 0) (seen : H → Seen) (left : H → Tables → Type 0) (IsSound : Tables → Type 0) (limits : HostLimits) (before after : Ends) (head : Head) (bytes : List ℕ) (coming came : Coming)
    (old new : H) (served : Served) where
  abbrev Goes : Option (Option ℕ × List ℕ) → Type 0
  Goes told = Headed IsIntact IsOpen seen left IsSound limits before after head bytes coming came old new told

  module _ (told : Option (Option ℕ × List ℕ)) (h : Goes told) where
    abbrev given : List ℕ
    given = h.receives.given

    abbrev all : List ℕ
    all = bytes ++ given

    fits : length given ≤ head.body_size
    fits = let c = h.receives.gives.counted in let d = h.due in omega (arith, c, d)

    taken_part : TookAtMost limits before.left after.left all
    taken_part = subst (λ l. TookAtMost limits before.left l all) (sym h.left_is) (finish_part limits before.left coming.left came.left bytes given head.body_size h.opens h.receives.gives.consumed fits)

    part : TookAtMost (seen old).limits before.left after.left all
    part = subst (λ l. TookAtMost l before.left after.left all) h.limits_are taken_part

    -- where nothing more is to come it is enough
    taken : HasCome came → Took (seen old).limits before.left after.left all
    taken come = subst (λ l. Took l before.left after.left all) h.limits_are (subst (λ l. Took limits before.left l all) (sym h.left_is)
        (finish limits before.left coming.left came.left bytes given head.body_size h.opens h.receives.gives.consumed fits (elim come [
          | inl none ↦ inl (let c = h.receives.gives.counted in let d = h.due in omega (arith, c, d, none))
          | inr end ↦ inr end
        ])))

    gave_all : Gives before.gave after.gave all (is_fault came.broken)
    gave_all = subst (λ l. Gives before.gave l all (is_fault came.broken)) (sym h.gave_is) (gives_then before.gave coming.gave came.gave bytes given (is_fault came.broken) h.gave h.receives.gives.gave)

    reads_so : Reads (seen old).limits all (answered head given)
    reads_so = subst (λ l. Reads l all (answered head given)) h.limits_are (subst (Reads limits all) (completed_so head given fits) (headed_reads limits bytes given (announced_view head) h.reads))

    applied_so : HasCome came → (x : Tables) (m : ℕ) (reply : List ℕ) → IsIntact new → IsOpen old → AppliedAs before.reading (answered head given) (seen old).now x m reply → Applied (request_at before.reading (all_of before.left all)) (seen old).now x (Some m) reply
    applied_so come x m reply intact opened (stamp, latest, turned) =
        let same : limits_in (seen old).now ≡ (seen old).limits = (h.rest (h.still intact, opened)).limits in
        let reads : Reads (limits_in (seen old).now) (all_of before.left all) (answered head given) = subst (λ l. Reads l (all_of before.left all) (answered head given)) (sym same) ((taken come).decided (answered head given) reads_so) in
        (stamp, latest, (RequestRead (answered head given), (answered head given, reads, refl), turned))

  -- a request that is answered: its reply goes out, as it was composed where the storage is intact
  pub headed_told : (last : H) → IsKept IsIntact IsOpen seen left served.ended new last → (stamp : Option ℕ) (said reply : List ℕ) → (IsIntact last → reply ≡ said) → (IsIntact last → served.ended ≡ StoreFailed → IsReadFrom (seen new).now reply) → (IsIntact last → served.ended ≡ StoreFailed → served.sent < length reply) → Goes (Some (stamp, said)) → before.reading ≤ last_reading
      → served.stamp ≡ stamp → Appends before.held after.held (take served.sent reply) → Takes before.took after.took (take served.sent reply) after.writer_failed → EndsIn served.ended stamp served.sent reply after.writer_failed
      → CameTo IsIntact IsOpen seen left before after served old last
  headed_told last goes None said reply as_said read short h early is out took ended =
      let (same, told, going, crash) = h.receives.came in
      let W : Option ℕ → Type 0 = λ s. IfSome s (λ _. (n : ℕ) → HasExtent (seen old).limits (all_of before.left (all _ h)) n → length (all _ h) ≡ n) in
      record {
        outcome = Some (all_of before.left (all _ h), (None, reply));
        came = record {
          taken = all _ h;
          consumed = (part _ h).consumed;
          all = refl;
          within = (part _ h).within;
          whole = subst W (sym is) tt;
          stamp = sym is;
          out = out;
          ended = ended;
          gave = subst (Gives before.gave after.gave (all _ h)) (no_fault came.broken going) (gave_all _ h);
          took = took;
          reader = h.failed_is ∙ no_fault came.broken going;
        };
        did = record {
          mid = new;
          applied = λ whole. subst (λ r. IsApplied IsIntact IsOpen seen left (request_at before.reading (all_of before.left (all _ h))) (None, r) old new) (sym (as_said whole)) (record {
            applied = λ intact opened. same intact opened;
            told_apart = λ _. told ∙ fixed_wanting before.reading early;
            acknowledged = tt;
            crash = λ intact x leaves. elim (crash intact x leaves) [
              | inl stays ↦ inl stays
              | inr (come, (was, (m, text, would))) ↦ inr (was, (m, text, applied_so _ h come x m text intact was would))
            ];
          });
          kept = goes;
          read = read;
        };
        short = short;
      }
  headed_told last goes (Some m) said reply as_said read short h early is out took ended =
      let (come, going, did, survives) = h.receives.came in
      let it = taken _ h come in
      let W : Option ℕ → Type 0 = λ s. IfSome s (λ _. (n : ℕ) → HasExtent (seen old).limits (all_of before.left (all _ h)) n → length (all _ h) ≡ n) in
      let event = request_at before.reading (all_of before.left (all _ h)) in
      let applied : IsIntact new → AppliedTo IsOpen seen event old new (Some m) said = λ intact. (let (was, now, turned) = did intact in (was, now, applied_so _ h come (seen new).now m said intact was turned)) in
      record {
        outcome = Some (all_of before.left (all _ h), (Some m, reply));
        came = record {
          taken = all _ h;
          consumed = it.consumed;
          all = refl;
          within = λ n extent. (let is_all = it.whole n extent in omega (arith, is_all));
          whole = subst W (sym is) it.whole;
          stamp = sym is;
          out = out;
          ended = ended;
          gave = subst (Gives before.gave after.gave (all _ h)) (no_fault came.broken going) (gave_all _ h);
          took = took;
          reader = h.failed_is ∙ no_fault came.broken going;
        };
        did = record {
          mid = new;
          applied = λ whole. subst (λ r. IsApplied IsIntact IsOpen seen left event (Some m, r) old new) (sym (as_said whole)) (record {
            applied = applied;
            told_apart = λ intact. apart_on IsOpen seen event m old new said (applied intact);
            acknowledged = survives;
            crash = tt;
          });
          kept = goes;
          read = read;
        };
        short = short;
      }

  -- the reader failed while the body came
  pub headed_broken : Goes None → after.writer_failed ≡ false → after.held ≡ before.held → after.took ≡ before.took → served.ended ≡ ReadFailed → served.stamp ≡ None → served.sent ≡ 0
      → CameTo IsIntact IsOpen seen left before after served old new
  headed_broken h going kept untaken ended stamp sent =
      let (broken, same, survives) = h.receives.came in
      let K : Option (List ℕ) → Type 0 = λ x. Keeps before.held x in
      record {
        outcome = None;
        came = record {
          taken = all _ h;
          consumed = (part _ h).consumed;
          within = (part _ h).within;
          ended = ended;
          stamp = stamp;
          sent = sent;
          out = subst K (sym kept) (keeps_same before.held);
          gave = subst (Gives before.gave after.gave (all _ h)) (ap is_fault broken) (gave_all _ h);
          took = subst (λ t. Logs before.took t []) (sym untaken) (logs_nothing before.took);
          reader = h.failed_is ∙ ap is_fault broken;
          writer = going;
        };
        did = record { same = same; survives = survives };
        short = λ _ _. tt;
      }
    where
      keeps_same : (a : Option (List ℕ)) → Keeps a a
      keeps_same None = tt
      keeps_same (Some xs) = refl

-- bytes that are no request are answered
module _ {H : Type 0} (IsIntact IsOpen : H → Type 0) (seen : H → Seen) (left : H → Tables → Type 0) where
  pub unread : (IsSound : Tables → Type 0) (limits : HostLimits) (before after : Ends) (mid : Option (List ℕ)) (served : Served) (bytes : List ℕ) (body : ℕ) (refusal : Refusal) (stamp : Option ℕ) (reply : List ℕ) (old new : H) → limits ≡ (seen old).limits
      → before.reading ≤ last_reading → (Clean IsIntact IsOpen old → IsAtRest IsSound (seen old)) → (IsIntact new → IsIntact old) → Opens limits before.left mid bytes body → mid ≡ after.left → ReadsHead limits bytes (Err refusal)
      → Gives before.gave after.gave bytes false → after.reader_failed ≡ false → AnewAs IsIntact IsOpen seen left before.reading None (text (RequestRead (Err refusal)) (Err (plain refusal))) old new stamp reply
      → served.stamp ≡ stamp → Appends before.held after.held (take served.sent reply) → Takes before.took after.took (take served.sent reply) after.writer_failed → EndsAs served.ended served.sent reply after.writer_failed
      → CameTo IsIntact IsOpen seen left before after served old new
  unread IsSound limits before after mid served bytes body refusal stamp reply old new same early rest still opens at reads gave going told is out took ended =
      let (was, answer) = opened_refused limits before.left mid bytes body opens refusal reads in
      let happened = told_happened IsIntact IsOpen seen left IsSound before.reading bytes (Err refusal) old new stamp reply early rest still (subst (λ l. Reads l bytes (Err refusal)) same answer)
      (anew_told IsIntact IsOpen seen left before.reading refusal old new stamp reply told) in
      connected IsIntact IsOpen seen left limits before after served bytes reply stamp old new rest still same (subst (λ l. Took limits before.left l bytes) at was) gave going
      (record { applied = happened.applied; told_apart = happened.told_apart; acknowledged = happened.acknowledged; crash = happened.crash }) is out took ended

  -- what is said of a connection, where its reader failed and where there is a stamp
  pub came_untouched : (before after : Ends) (served : Served) (old new : H) → CameTo IsIntact IsOpen seen left before after served old new → served.ended ≡ ReadFailed → IsTakenBack IsIntact IsOpen seen left old new
  came_untouched before after served old new came = go came.outcome came.came came.did
    where
      go : (outcome : Outcome) → Came (seen old).limits before after served outcome → Did IsIntact IsOpen seen left before.reading served.ended outcome old new → served.ended ≡ ReadFailed → IsTakenBack IsIntact IsOpen seen left old new
      go None is did ended = did
      go (Some (bytes, (stamp, reply))) is did ended = absurd (subst (λ e. EndsIn e stamp served.sent reply after.writer_failed) ended is.ended)

  pub came_acknowledged : (before after : Ends) (served : Served) (old new : H) → CameTo IsIntact IsOpen seen left before after served old new → IfSome served.stamp (λ _. Clean IsIntact IsOpen new → (x : Tables) → left new x → x ≡ (seen new).now)
  came_acknowledged before after served old new came = go came.outcome came.came came.did
    where
      S : Option ℕ → Type 0
      S stamp = IfSome stamp (λ _. Clean IsIntact IsOpen new → (x : Tables) → left new x → x ≡ (seen new).now)

      go : (outcome : Outcome) → Came (seen old).limits before after served outcome → Did IsIntact IsOpen seen left before.reading served.ended outcome old new → S served.stamp
      go None is did = subst S (sym is.stamp) tt
      go (Some (bytes, (None, reply))) is did = subst S is.stamp tt
      go (Some (bytes, (Some m, reply))) is did = subst S is.stamp (λ clean x leaves. (did.applied clean.0).acknowledged (did.kept.intact clean.0) x (did.kept.survives clean.0 x leaves) ∙ sym (did.kept.same clean.0 clean.1).1)
