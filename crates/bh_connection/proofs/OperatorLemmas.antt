-- What came of an operator's line, and how its reply was sent.
use Rattle.std.proofs.Common.{◌≡◌, ℕ, suc, ◌+◌, ◌<◌, Bool, true, false, List, [], ◌∷◌, ◌++◌, length, take, map, refl, sym, ap, subst, ◌∙◌, inl, inr, arith, Option, Some, None, append_assoc, append-nil}
use Rattle.std.specs.Prelude.{is_some}
use Rattle.std.specs.Io.KnownBytes.{Appends, Keeps}
use Rattle.std.specs.List.{concat}
use Rattle.std.proofs.lemmas.List.{map-append, take_all, take-append-le}
use Rattle.std.proofs.lemmas.List.Folds.{concat-append}
use Rattle.bh_event.specs.Events.{Arrival as Event}
use Rattle.bh_tables.specs.Typed.{Tables}
use Rattle.bh_storage.specs.Calls.{Seen}
use Rattle.bh_storage.specs.declared.error.Trouble.TheVariants.{Memory}
use Rattle.bh_host.specs.Answers.{is_wanting}
use Rattle.bh_host.specs.Replies.{wanting_text}
use Rattle.bh_host.specs.declared.reply.Caller.TheVariants.{Operator}
use Rattle.bh_http.specs.Transfers.{Transfer, Moved, Failed, Logs, MovesThen, Gives, Takes}
use Rattle.bh_http.proofs.TransferLemmas.{logs_nothing, logs_then}
use Rattle.bh_event.specs.Orders.{Instruction, ToDo, ToCopy, ToStop}
use Rattle.bh_link.specs.Lines.{TookPart}
use Rattle.bh_connection.specs.Backups.{IsBackedUp}
use Rattle.bh_connection.specs.Connections.{Ends, EndsAs, IsApplied}
use Rattle.bh_connection.specs.Operators.{bad_line, line_text, stop_text, CutOff, NotHeard, NoOrder, Obeyed, Copied, Stopping, IsReplied, TookOrder, WasOrdered, is_done_here, is_sweep}
use Rattle.bh_connection.specs.declared.served.End.TheVariants.{ReadFailed}
use Rattle.bh_connection.specs.declared.served.Served.{Served}

-- ---- a reply, and then a line feed

take-append-add : (xs ys : List ℕ) (n : ℕ) → take (length xs + n) (xs ++ ys) ≡ xs ++ take n ys
take-append-add [] ys n = let e : 0 + n ≡ n = omega arith in ap (λ k. take k ys) e
take-append-add (x ∷ xs) ys n = let e : suc (length xs) + n ≡ suc (length xs + n) = omega arith in ap (λ k. take k (x ∷ (xs ++ ys))) e ∙ ap (λ l. x ∷ l) (take-append-add xs ys n)

-- what went out, where the reply didn't whole
pub sent_part : (reply : List ℕ) (sent : ℕ) → sent < length reply → take sent (line_text reply) ≡ take sent reply
sent_part reply sent lt = take-append-le sent reply (10 ∷ []) (omega (arith, lt))

-- and where it did
pub sent_on : (reply : List ℕ) (sent n : ℕ) → sent ≡ length reply → take (sent + n) (line_text reply) ≡ take sent reply ++ take n (10 ∷ [])
sent_on reply sent n all =
    let first : take sent reply ≡ reply = take_all sent reply (omega (arith, all)) in
    ap (λ k. take (k + n) (line_text reply)) all ∙ take-append-add reply (10 ∷ []) n ∙ ap (λ l. l ++ take n (10 ∷ [])) (sym first)

pub appends_on : (a b c : Option (List ℕ)) (x y z : List ℕ) → z ≡ x ++ y → Appends a b x → Appends b c y → Appends a c z
appends_on None b c x y z e p q = tt
appends_on (Some xs) None c x y z e p q = absurd p
appends_on (Some xs) (Some ys) None x y z e p q = absurd q
appends_on (Some xs) (Some ys) (Some zs) x y z e p q = q ∙ ap (λ l. l ++ y) p ∙ append_assoc xs x y ∙ ap (λ l. xs ++ l) (sym e)

moves_on : (a b c : Option (List Transfer)) (x y : List ℕ) (last : List Transfer) → MovesThen a b x [] → MovesThen b c y last → MovesThen a c (x ++ y) last
moves_on a b c x y last (xs, xs_is, p) (ys, ys_is, q) =
    let joined : (map Moved xs ++ []) ++ (map Moved ys ++ last) ≡ map Moved (xs ++ ys) ++ last =
    ap (λ l. l ++ (map Moved ys ++ last)) (append-nil (map Moved xs)) ∙ sym (append_assoc (map Moved xs) (map Moved ys) last) ∙ ap (λ l. l ++ last) (sym (map-append Moved xs ys)) in
    let bytes : x ++ y ≡ concat (xs ++ ys) = ap (λ l. l ++ y) xs_is ∙ ap (λ l. concat xs ++ l) ys_is ∙ sym (concat-append xs ys) in
    (xs ++ ys, bytes, subst (Logs a c) joined (logs_then a b c (map Moved xs ++ []) (map Moved ys ++ last) p q))

takes_joined : (a b c : Option (List Transfer)) (x y : List ℕ) (failed : Bool) → Takes a b x false → Takes b c y failed → Takes a c (x ++ y) failed
takes_joined a b c x y false p q = moves_on a b c x y [] p q
takes_joined a b c x y true p (inl q) = inl (moves_on a b c x y (Failed ∷ []) p q)
takes_joined a b c x y true p (inr q) = inr (moves_on a b c x y (Moved [] ∷ []) p q)

pub takes_on : (a b c : Option (List Transfer)) (x y z : List ℕ) (before failed : Bool) → z ≡ x ++ y → before ≡ false → Takes a b x before → Takes b c y failed → Takes a c z failed
takes_on a b c x y z before failed e going p q =
    let P : List ℕ → Type 0 = λ l. Takes a c l failed in
    subst P (sym e) (takes_joined a b c x y failed (subst (λ f. Takes a b x f) going p) q)

-- ---- what a line came to

gives_as : (a b : Option (List Transfer)) (taken : List ℕ) (was failed : Bool) → was ≡ failed → Gives a b taken was → Gives a b taken failed
gives_as a b taken was failed is given = let P : Bool → Type 0 = λ f. Gives a b taken f in subst P is given

module _ {H C : Type 0} (IsIntact IsOpen : H → Type 0) (seen : H → Seen) (left : H → Tables → Type 0) (shows : C → Tables → Type 0) (secret : Option (List ℕ)) where
  -- an order was applied
  pub obeyed : (before after : Ends) (served : Served) (stops sweeps : Bool) (taken reply : List ℕ) (order : Option Instruction) (event : Event) (stamp : Option ℕ) (old new : H)
      → event.reading ≡ before.reading → Some (ToDo event.message) ≡ order → TookOrder secret before.left after.left taken order → Gives before.gave after.gave taken false → after.reader_failed ≡ false
      → IsApplied IsIntact IsOpen seen left event (stamp, reply) old new
      → served.stamp ≡ stamp → Appends before.held after.held (take served.sent (line_text reply))
      → Takes before.took after.took (take served.sent (line_text reply)) after.writer_failed
      → EndsAs served.ended served.sent (line_text reply) after.writer_failed → is_some served.trouble ≡ is_wanting event.reading stamp
      → stops ≡ false → sweeps ≡ is_sweep event.message → WasOrdered IsIntact IsOpen seen left shows secret before after served stops sweeps old new
  obeyed before after served stops sweeps taken reply order event stamp old new at asks took gave going did is out took_out ended noted flag swept = record {
    heard = Obeyed event (stamp, reply);
    hears = (
      at,
      record {
        taken = taken;
        replied = record { consumed = took.consumed; short = took.short; stamp = is; out = out; ended = ended; gave = gave; took = took_out; reader = going };
        is = asks ∙ took.is;
      },
    );
    notes = noted;
    told = flag;
    swept = swept;
    obeys = did;
  }

  -- a copy was ordered
  pub copied : (before after : Ends) (served : Served) (stops sweeps : Bool) (taken reply to : List ℕ) (old new : H)
      → TookOrder secret before.left after.left taken (Some (ToCopy to)) → Gives before.gave after.gave taken false → after.reader_failed ≡ false
      → IsBackedUp IsIntact IsOpen seen left shows reply old new
      → served.stamp ≡ None → Appends before.held after.held (take served.sent (line_text reply))
      → Takes before.took after.took (take served.sent (line_text reply)) after.writer_failed
      → EndsAs served.ended served.sent (line_text reply) after.writer_failed → served.trouble ≡ None
      → stops ≡ false → sweeps ≡ false → WasOrdered IsIntact IsOpen seen left shows secret before after served stops sweeps old new
  copied before after served stops sweeps taken reply to old new took gave going did is out took_out ended noted flag swept = record {
    heard = Copied to reply;
    hears = record {
      taken = taken;
      replied = record { consumed = took.consumed; short = took.short; stamp = is; out = out; ended = ended; gave = gave; took = took_out; reader = going };
      is = took.is;
    };
    notes = noted;
    told = flag;
    swept = swept;
    obeys = did;
  }

  -- a stop was ordered
  pub stopping : (before after : Ends) (served : Served) (stops sweeps : Bool) (taken : List ℕ) (old new : H)
      → TookOrder secret before.left after.left taken (Some ToStop) → Gives before.gave after.gave taken false → after.reader_failed ≡ false → new ≡ old
      → served.stamp ≡ None → Appends before.held after.held (take served.sent (line_text stop_text))
      → Takes before.took after.took (take served.sent (line_text stop_text)) after.writer_failed
      → EndsAs served.ended served.sent (line_text stop_text) after.writer_failed → served.trouble ≡ None
      → stops ≡ true → sweeps ≡ false → WasOrdered IsIntact IsOpen seen left shows secret before after served stops sweeps old new
  stopping before after served stops sweeps taken old new took gave going same is out took_out ended noted flag swept = record {
    heard = Stopping;
    hears = record {
      taken = taken;
      replied = record { consumed = took.consumed; short = took.short; stamp = is; out = out; ended = ended; gave = gave; took = took_out; reader = going };
      is = took.is;
    };
    notes = noted;
    told = flag;
    swept = swept;
    obeys = same;
  }

  -- nothing was ordered that is done here
  pub not_ordered : (before after : Ends) (served : Served) (stops sweeps : Bool) (taken reply : List ℕ) (order : Option Instruction) (old new : H)
      → is_done_here order ≡ false → TookOrder secret before.left after.left taken order → Gives before.gave after.gave taken false → after.reader_failed ≡ false → new ≡ old → reply ≡ bad_line
      → served.stamp ≡ None → Appends before.held after.held (take served.sent (line_text reply))
      → Takes before.took after.took (take served.sent (line_text reply)) after.writer_failed
      → EndsAs served.ended served.sent (line_text reply) after.writer_failed → served.trouble ≡ None
      → stops ≡ false → sweeps ≡ false → WasOrdered IsIntact IsOpen seen left shows secret before after served stops sweeps old new
  not_ordered before after served stops sweeps taken reply order old new elsewhere took gave going same text is out took_out ended noted flag swept =
      let P : List ℕ → Type 0 = λ r. IsReplied before after served taken (None, r) in
      let replied : P reply = record { consumed = took.consumed; short = took.short; stamp = is; out = out; ended = ended; gave = gave; took = took_out; reader = going } in
      record { heard = NoOrder; hears = (order, elsewhere, record { taken = taken; replied = subst P text replied; is = took.is }); notes = noted; told = flag; swept = swept; obeys = same }

  -- memory was wanting before it was known what is ordered
  pub not_heard : (before after : Ends) (served : Served) (stops sweeps : Bool) (taken reply : List ℕ) (old new : H)
      → TookPart before.left after.left taken → Gives before.gave after.gave taken after.reader_failed → after.reader_failed ≡ false → new ≡ old → reply ≡ wanting_text Operator
      → served.stamp ≡ None → Appends before.held after.held (take served.sent (line_text reply))
      → Takes before.took after.took (take served.sent (line_text reply)) after.writer_failed
      → EndsAs served.ended served.sent (line_text reply) after.writer_failed → served.trouble ≡ Some Memory
      → stops ≡ false → sweeps ≡ false → WasOrdered IsIntact IsOpen seen left shows secret before after served stops sweeps old new
  not_heard before after served stops sweeps taken reply old new took given going same text is out took_out ended noted flag swept =
      let gave : Gives before.gave after.gave taken false = gives_as before.gave after.gave taken after.reader_failed false going given in
      let P : List ℕ → Type 0 = λ r. IsReplied before after served taken (None, r) in
      let replied : P reply = record { consumed = took.consumed; short = took.short; stamp = is; out = out; ended = ended; gave = gave; took = took_out; reader = going } in
      record { heard = NotHeard; hears = (taken, subst P text replied); notes = noted; told = flag; swept = swept; obeys = same }

  -- the reader failed
  pub cut_off : (before after : Ends) (served : Served) (stops sweeps : Bool) (taken : List ℕ) (old new : H)
      → TookPart before.left after.left taken → Gives before.gave after.gave taken after.reader_failed → after.reader_failed ≡ true → after.writer_failed ≡ false
      → after.held ≡ before.held → after.took ≡ before.took → new ≡ old
      → served.ended ≡ ReadFailed → served.stamp ≡ None → served.sent ≡ 0 → served.trouble ≡ None
      → stops ≡ false → sweeps ≡ false → WasOrdered IsIntact IsOpen seen left shows secret before after served stops sweeps old new
  cut_off before after served stops sweeps taken old new took given failed going kept untaken same ended stamp sent noted flag swept =
      let gave : Gives before.gave after.gave taken true = gives_as before.gave after.gave taken after.reader_failed true failed given in
      let K : Option (List ℕ) → Type 0 = λ h. Keeps before.held h in
      record {
        heard = CutOff;
        hears = record {
          taken = taken;
          consumed = took.consumed;
          short = took.short;
          ended = ended;
          stamp = stamp;
          sent = sent;
          out = subst K (sym kept) (keeps_same before.held);
          gave = gave;
          took = subst (λ t. Logs before.took t []) (sym untaken) (logs_nothing before.took);
          reader = failed;
          writer = going;
        };
        notes = noted;
        told = flag;
        swept = swept;
        obeys = same;
      }
    where
      keeps_same : (a : Option (List ℕ)) → Keeps a a
      keeps_same None = tt
      keeps_same (Some xs) = refl
