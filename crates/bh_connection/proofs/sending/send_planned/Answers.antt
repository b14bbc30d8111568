use Rattle.std.proofs.Common.{◌≡◌, ◌++◌, [], refl, sym, ap, subst, ◌∙◌, append_assoc, arith, inl, inr, length, length-append}
use Rattle.bh_storage.specs.Calls.{Seen, IsAtRest}
use Rattle.bh_storage.specs.Plans.{to_come}
use Rattle.bh_tables.specs.Typed.{Tables}
use Rattle.bh_view.specs.View.{limits_in}
use Rattle.bh_connection.proofs.Pieces.{none_gone, gone_on, measured_on, none_left, sends_failed, sends_part, sends_whole}
use Rattle.bh_connection.proofs.sending.send_planned.Goals as goal

-- more is to come than can be counted
pub returns-then-is_too_long-clause-sends : goal.returns-then-is_too_long-clause-sends
returns-then-is_too_long-clause-sends g c =
    rw (c.sent_so.ensures.sent, c.sent_so.ensures.ended) (sends_failed _ _ _ _ _ _ _ _ [] (c.args.reply.head.items ++ to_come c.args.reply.plan (g.H.Storage.seen c.args.host.now).now) 0 (none_gone _ _ _ c.requires.writes) (λ i. refl)
    (λ i.
    let long = rw c.as_slice.ensures.value at c.is_too_long.ensures.long c.if-is_too_long.true in
    let all = length-append c.args.reply.head.items (to_come c.args.reply.plan (g.H.Storage.seen c.args.host.now).now) in
    let measured = c.requires.measured (i, c.requires.open i) in
    omega (arith, long, all, measured)))

pub pieces-init : goal.pieces-init
pieces-init g c =
    let short = rw c.as_slice.ensures.value at c.is_too_long.ensures.short c.if-is_too_long.false in
    record {
      intact = λ i. i;
      stays_open = c.requires.open;
      rest = c.requires.rest;
      same = λ clean. refl;
      limits = refl;
      survives = λ i x l. l;
      fits = omega (arith, short);
      gone = ([], none_gone _ _ _ c.requires.writes, λ i. refl);
      measured = λ i. c.requires.measured (i, c.requires.open i);
    }

pub next_piece-requires : goal.next_piece-requires
next_piece-requires g c clean = inl (c.pieces.invariant.rest clean)

pub pieces-preserved : goal.pieces-preserved
pieces-preserved g c =
    let inv = c.pieces.invariant in
    let step = c.in-Ok-Some.ensures in
    let (gone, went, is) = inv.gone in
    let piece = c.pieces.piece.items in
    let out = rw c.as_slice-bytes.ensures.value at c.send-count.ensures.bytes in
    let taken = rw c.as_slice-bytes.ensures.value at c.send-count.ensures.taken in
    let low = rw c.as_slice-bytes.ensures.value at c.send-count.ensures.within in
    let high = rw c.as_slice-bytes.ensures.value at c.if-count-bytes.false in
    let broke = rw c.as_slice-bytes.ensures.value at c.send-count.ensures.failed in
    let start = (g.H.Storage.seen c.args.host.now).now in
    let next = c.in-Ok-Some.next.items in
    let most = rw c.in-Ok-Some.field-0-is at step.falls in
    let fits = inv.fits in
    record {
      intact = λ i. inv.intact (step.within.intact i);
      stays_open = λ i. (let j = step.within.intact i in step.opens (inv.stays_open j) i);
      rest = λ clean. subst (IsAtRest g.H.Storage.IsSoundStore) (sym (step.same clean)) (inv.rest (step.within.intact clean.0, step.within.opened clean.0 clean.1));
      same = λ clean. ap (λ (s : Seen). s.now) (step.same clean) ∙ inv.same (step.within.intact clean.0, step.within.opened clean.0 clean.1);
      limits = step.within.limits ∙ inv.limits;
      survives = λ i x l. (let j = step.within.intact i in inv.survives j x (step.within.survives (inv.stays_open j) i x l));
      fits = omega (arith, most, fits, low);
      gone = (
        gone ++ piece,
        gone_on _ _ _ _ _ _ _ _ c.pieces.sent gone piece c.send-count.result went out taken low high broke,
        λ i. (
            let j = step.within.intact i in
            let before = inv.stays_open j in
            let given = rw c.in-Ok-Some.field-0-is at step.gives (i, step.opens before i) in
            ap (λ l. (gone ++ piece) ++ l) (sym (subst (λ (t : Tables). to_come c.pieces.left t ≡ next ++ to_come c.next_piece.new.plan t) (inv.same (j, before)) given))
            ∙ append_assoc gone piece (to_come c.pieces.left start) ∙ is j
            ),
      );
      measured = λ i. (
          let j = step.within.intact i in
          let before = inv.stays_open j in
          let given = rw c.in-Ok-Some.field-0-is at step.gives (i, step.opens before i) in
          let given_first = subst (λ (t : Tables). to_come c.pieces.left t ≡ next ++ to_come c.next_piece.new.plan t) (inv.same (j, before)) given in
          measured_on c.pieces.left.left c.next_piece.new.plan.left next _ (inv.measured j ∙ ap length given_first) most
          );
    }

pub returns-then-count-bytes-clause-sends : goal.returns-then-count-bytes-clause-sends
returns-then-count-bytes-clause-sends g c =
    let inv = c.pieces.invariant in
    let (gone, went, is) = inv.gone in
    let out = rw c.as_slice-bytes.ensures.value at c.send-count.ensures.bytes in
    let taken = rw c.as_slice-bytes.ensures.value at c.send-count.ensures.taken in
    let short = rw c.as_slice-bytes.ensures.value at c.if-count-bytes.true in
    let broke = rw c.as_slice-bytes.ensures.value at c.send-count.ensures.failed in
    let told = c.sent_so-then-count-bytes.ensures in
    rw (told.sent, told.ended) (sends_part _ _ _ _ _ _ _ _ _ _ _ gone c.pieces.piece.items (to_come c.pieces.left (g.H.Storage.seen c.args.host.now).now) c.pieces.sent c.send-count.result went out taken broke short is)

pub returns-in-Ok-None-clause-ready : goal.returns-in-Ok-None-clause-ready
returns-in-Ok-None-clause-ready g c clean =
    let step = c.in-Ok-None.ensures in
    subst (IsAtRest g.H.Storage.IsSoundStore) (sym (step.same clean)) (c.pieces.invariant.rest (step.within.intact clean.0, step.within.opened clean.0 clean.1))

pub returns-in-Ok-None-clause-survives : goal.returns-in-Ok-None-clause-survives
returns-in-Ok-None-clause-survives g c i x l =
    let step = c.in-Ok-None.ensures in
    let inv = c.pieces.invariant in
    let j = step.within.intact i in
    inv.survives j x (step.within.survives (inv.stays_open j) i x l)

pub returns-in-Ok-None-clause-same : goal.returns-in-Ok-None-clause-same
returns-in-Ok-None-clause-same g c clean =
    let step = c.in-Ok-None.ensures in
    ap (λ (s : Seen). s.now) (step.same clean) ∙ c.pieces.invariant.same (step.within.intact clean.0, step.within.opened clean.0 clean.1)

pub returns-in-Ok-None-clause-sends : goal.returns-in-Ok-None-clause-sends
returns-in-Ok-None-clause-sends g c =
    let inv = c.pieces.invariant in
    let step = c.in-Ok-None.ensures in
    let (gone, went, is) = inv.gone in
    let piece = c.pieces.piece.items in
    let out = rw c.as_slice-bytes.ensures.value at c.send-count.ensures.bytes in
    let taken = rw c.as_slice-bytes.ensures.value at c.send-count.ensures.taken in
    let low = rw c.as_slice-bytes.ensures.value at c.send-count.ensures.within in
    let high = rw c.as_slice-bytes.ensures.value at c.if-count-bytes.false in
    let broke = rw c.as_slice-bytes.ensures.value at c.send-count.ensures.failed in
    let rest = to_come c.pieces.left (g.H.Storage.seen c.args.host.now).now in
    let told = c.sent_so-in-Ok-None.ensures in
    rw (told.sent, told.ended) (sends_whole _ _ _ _ _ _ _ _ (gone ++ piece) rest _ (gone_on _ _ _ _ _ _ _ _ c.pieces.sent gone piece c.send-count.result went out taken low high broke)
    (λ i.
    let j = step.within.intact i in
    let before = inv.stays_open j in
    subst (λ (t : Tables). to_come c.pieces.left t ≡ []) (inv.same (j, before)) (rw c.in-Ok-None.field-0-is at step.ends (i, step.opens before i)))
    (λ i. append_assoc gone piece rest ∙ is (step.within.intact i)))

pub returns-in-Err-clause-ready : goal.returns-in-Err-clause-ready
returns-in-Err-clause-ready g c clean =
    let step = c.in-Err.ensures in
    let back = c.take_back.ensures in
    let intact = back.intact clean.0 in
    let opened = back.opened clean.0 clean.1 in
    let rest = c.pieces.invariant.rest (step.within.intact intact, step.within.opened intact opened) in
    let it = back.back clean in
    let now = it.now ∙ step.within.kept (intact, opened) ∙ rest.committed in
    record {
      outside = it.outside;
      committed = it.kept ∙ sym it.now;
      sound = subst g.H.Storage.IsSoundStore (sym now) rest.sound;
      limits = ap limits_in now ∙ rest.limits ∙ sym step.within.limits ∙ sym back.limits;
    }

pub returns-in-Err-clause-survives : goal.returns-in-Err-clause-survives
returns-in-Err-clause-survives g c i x l =
    let step = c.in-Err.ensures in
    let inv = c.pieces.invariant in
    let mid = c.take_back.ensures.intact i in
    let j = step.within.intact mid in
    inv.survives j x (step.within.survives (inv.stays_open j) mid x (c.take_back.ensures.survives i x l))

pub returns-in-Err-clause-same : goal.returns-in-Err-clause-same
returns-in-Err-clause-same g c clean =
    let step = c.in-Err.ensures in
    let back = c.take_back.ensures in
    let intact = back.intact clean.0 in
    let opened = back.opened clean.0 clean.1 in
    let was = step.within.intact intact in
    let up = step.within.opened intact opened in
    (back.back clean).now ∙ step.within.kept (intact, opened) ∙ (c.pieces.invariant.rest (was, up)).committed ∙ c.pieces.invariant.same (was, up)

pub returns-in-Err-clause-sends : goal.returns-in-Err-clause-sends
returns-in-Err-clause-sends g c =
    let inv = c.pieces.invariant in
    let step = c.in-Err.ensures in
    let (gone, went, is) = inv.gone in
    let piece = c.pieces.piece.items in
    let out = rw c.as_slice-bytes.ensures.value at c.send-count.ensures.bytes in
    let taken = rw c.as_slice-bytes.ensures.value at c.send-count.ensures.taken in
    let low = rw c.as_slice-bytes.ensures.value at c.send-count.ensures.within in
    let high = rw c.as_slice-bytes.ensures.value at c.if-count-bytes.false in
    let broke = rw c.as_slice-bytes.ensures.value at c.send-count.ensures.failed in
    let rest = to_come c.pieces.left (g.H.Storage.seen c.args.host.now).now in
    let told = c.sent_so-in-Err.ensures in
    rw (told.sent, told.ended) (sends_failed _ _ _ _ _ _ _ _ (gone ++ piece) rest _ (gone_on _ _ _ _ _ _ _ _ c.pieces.sent gone piece c.send-count.result went out taken low high broke)
    (λ i. append_assoc gone piece rest ∙ is (step.within.intact (c.take_back.ensures.intact i)))
    (λ i.
    let measured = inv.measured (step.within.intact (c.take_back.ensures.intact i)) in
    let some = c.if-left-eq0.false in
    omega (arith, measured, some)))

pub returns-then-left-eq0-clause-sends : goal.returns-then-left-eq0-clause-sends
returns-then-left-eq0-clause-sends g c =
    let inv = c.pieces.invariant in
    let (gone, went, is) = inv.gone in
    let piece = c.pieces.piece.items in
    let out = rw c.as_slice-bytes.ensures.value at c.send-count.ensures.bytes in
    let taken = rw c.as_slice-bytes.ensures.value at c.send-count.ensures.taken in
    let low = rw c.as_slice-bytes.ensures.value at c.send-count.ensures.within in
    let high = rw c.as_slice-bytes.ensures.value at c.if-count-bytes.false in
    let broke = rw c.as_slice-bytes.ensures.value at c.send-count.ensures.failed in
    let rest = to_come c.pieces.left (g.H.Storage.seen c.args.host.now).now in
    let told = c.sent_so-then-left-eq0.ensures in
    rw (told.sent, told.ended) (sends_whole _ _ _ _ _ _ _ _ (gone ++ piece) rest _ (gone_on _ _ _ _ _ _ _ _ c.pieces.sent gone piece c.send-count.result went out taken low high broke)
    (λ _. none_left c.pieces.left.left _ c.if-left-eq0.true)
    (λ i. append_assoc gone piece rest ∙ is i))

-- ---- the store is open, unless it was wanting

pub returns-then-left-eq0-clause-opens : goal.returns-then-left-eq0-clause-opens
returns-then-left-eq0-clause-opens g c i = inr (c.pieces.invariant.stays_open i)

pub returns-then-is_too_long-clause-opens : goal.returns-then-is_too_long-clause-opens
returns-then-is_too_long-clause-opens g c i = inl c.sent_so.ensures.ended

pub returns-then-count-bytes-clause-opens : goal.returns-then-count-bytes-clause-opens
returns-then-count-bytes-clause-opens g c i = inr (c.pieces.invariant.stays_open i)

pub returns-in-Ok-None-clause-opens : goal.returns-in-Ok-None-clause-opens
returns-in-Ok-None-clause-opens g c i =
    let step = c.in-Ok-None.ensures in
    inr (step.opens (c.pieces.invariant.stays_open (step.within.intact i)) i)

pub returns-in-Err-clause-opens : goal.returns-in-Err-clause-opens
returns-in-Err-clause-opens g c i = inl c.sent_so-in-Err.ensures.ended
