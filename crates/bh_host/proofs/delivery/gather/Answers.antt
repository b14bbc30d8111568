use Rattle.std.proofs.Common.{◌≡◌, ◌++◌, [], sym, ap, subst, ◌∙◌, append_assoc, append-nil, inr}
use Rattle.bh_storage.specs.Calls.{Clean, Seen, IsWorking}
use Rattle.bh_storage.specs.Plans.{to_come}
use Rattle.bh_host.proofs.Delivering.{within_after}
use Rattle.bh_host.proofs.delivery.gather.Goals as goal

pub next_piece-requires : goal.next_piece-requires
next_piece-requires g c clean =
    let inv = c.pieces.invariant in
    inr (subst (IsWorking g.H.Storage.IsSoundStore) (sym (inv.same clean)) (c.requires.working (inv.within.intact clean.0, inv.within.opened clean.0 clean.1)))

pub pieces-preserved : goal.pieces-preserved
pieces-preserved g c =
    let inv = c.pieces.invariant in
    let step = c.in_ok-piece.ensures in
    let start = (g.H.Storage.seen c.args.host.now).now in
    record {
      within = within_after g.H.Storage.IsIntact g.H.Storage.IsOpen g.H.Storage.seen g.H.Storage.left _ _ _ inv.within step.within inv.opens;
      opens = λ up intact. step.opens (inv.opens up (step.within.intact intact)) intact;
      same = λ clean. step.same clean ∙ inv.same (step.within.intact clean.0, step.within.opened clean.0 clean.1);
      all = λ clean.
          let was : Clean g.H.Storage.IsIntact g.H.Storage.IsOpen c.pieces.host = (step.within.intact clean.0, step.within.opened clean.0 clean.1) in
          let given = rw c.in-Some.is at step.gives clean in
          let later = to_come c.next_piece.new.plan start in
          let added : c.extend_from_slice.new.self.items ≡ c.pieces.bytes.items ++ c.in-Some.piece.items = c.in_ok-extend_from_slice-in-Some.ensures.items ∙ ap (λ l. c.pieces.bytes.items ++ l) c.deref.ensures.value in
          ap (λ l. l ++ later) added
          ∙ append_assoc c.pieces.bytes.items c.in-Some.piece.items later
          ∙ ap (λ l. c.pieces.bytes.items ++ l) (sym (subst (λ (s : Seen). to_come c.pieces.left s.now ≡ c.in-Some.piece.items ++ to_come c.next_piece.new.plan s.now) (inv.same was) given))
          ∙ inv.all was;
    }

pub returns-in-None-clause-all : goal.returns-in-None-clause-all
returns-in-None-clause-all g c clean =
    let inv = c.pieces.invariant in
    let step = c.in_ok-piece.ensures in
    let was : Clean g.H.Storage.IsIntact g.H.Storage.IsOpen c.pieces.host = (step.within.intact clean.0, step.within.opened clean.0 clean.1) in
    let none = rw c.in-None.is at step.ends clean in
    sym (append-nil c.pieces.bytes.items) ∙ ap (λ l. c.pieces.bytes.items ++ l) (sym (subst (λ (s : Seen). to_come c.pieces.left s.now ≡ []) (inv.same was) none)) ∙ inv.all was
