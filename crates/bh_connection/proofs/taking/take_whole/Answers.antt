use Rattle.std.proofs.Common.{◌≤◌, ◌++◌, Bool, false, length, sym, subst, arith, inl, inr}
use Rattle.bh_http.specs.Transfers.{Gives}
use Rattle.bh_http.proofs.BodyLemmas.{if_err}
use Rattle.bh_http.proofs.TransferLemmas.{gives_then}
use Rattle.bh_link.specs.Taking.{Opens, Took, announced_size}
use Rattle.bh_link.proofs.Opened.{opened_refused}
use Rattle.bh_link.proofs.TakingLemmas.{finish, finish_part}
use Rattle.bh_connection.proofs.HeadedLemmas.{fault_is}
use Rattle.bh_connection.proofs.taking.take_whole.Goals as goal

pub returns-in_err-take_body-in-Ok-clause-within : goal.returns-in_err-take_body-in-Ok-clause-within
returns-in_err-take_body-in-Ok-clause-within g c =
    let R = g.R.Source in
    let limits = c.args.limits.now in
    let start = c.args.reader.now.inner in
    let bytes = c.in_ok-opening.opening.bytes.items in
    let size = c.in-Ok.head.body_size in
    let last = c.take_body.new.body in
    let (given, gives, _) = c.take_body.ensures.came in
    let opens : Opens limits (R.remaining start) (R.remaining c.announce.new.self.inner) bytes size =
    subst (λ i. Opens limits (R.remaining start) (R.remaining i) bytes size) (sym c.announce.ensures.inner)
    (subst (λ h. Opens limits (R.remaining start) (R.remaining c.take_head.new.reader.inner) bytes (announced_size h)) c.in-Ok.is c.in_ok-opening.ensures.opens) in
    let fits : length given ≤ size = (let counted = gives.counted in let due = c.announce.ensures.due in omega (arith, counted, due)) in
    let begun : Gives (R.transfers start) (R.transfers c.announce.new.self.inner) bytes false =
    subst (λ i. Gives (R.transfers start) (R.transfers i) bytes false) (sym c.announce.ensures.inner) c.in_ok-opening.ensures.given in
    if_err c.from_residual-in_err-take_body-in-Ok.result (
      bytes ++ given,
      finish_part limits (R.remaining start) (R.remaining c.announce.new.self.inner) (R.remaining last.inner) bytes given size opens gives.consumed fits,
      subst (λ (f : Bool). Gives (R.transfers start) (R.transfers last.inner) (bytes ++ given) f) (fault_is last.failed last.ended) (gives_then _ _ _ bytes given _ begun gives.gave),
    )

pub returns-in_ok-take_body-in-Ok-clause-took : goal.returns-in_ok-take_body-in-Ok-clause-took
returns-in_ok-take_body-in-Ok-clause-took g c =
    let R = g.R.Source in
    let limits = c.args.limits.now in
    let start = c.args.reader.now.inner in
    let bytes = c.in_ok-opening.opening.bytes.items in
    let size = c.in-Ok.head.body_size in
    let last = c.take_body.new.body in
    let (given, gives, items) = c.in_ok-take_body-in-Ok.ensures.came in
    let opens : Opens limits (R.remaining start) (R.remaining c.announce.new.self.inner) bytes size =
    subst (λ i. Opens limits (R.remaining start) (R.remaining i) bytes size) (sym c.announce.ensures.inner)
    (subst (λ h. Opens limits (R.remaining start) (R.remaining c.take_head.new.reader.inner) bytes (announced_size h)) c.in-Ok.is c.in_ok-opening.ensures.opens) in
    let fits : length given ≤ size = (let counted = gives.counted in let due = c.announce.ensures.due in omega (arith, counted, due)) in
    subst (λ l. Took limits (R.remaining start) (R.remaining last.inner) l) (sym items)
    (finish limits (R.remaining start) (R.remaining c.announce.new.self.inner) (R.remaining last.inner) bytes given size opens gives.consumed fits (elim c.in_ok-take_body-in-Ok.ensures.enough [
      | inl none ↦ inl (let counted = gives.counted in let due = c.announce.ensures.due in omega (arith, counted, due, none))
      | inr end ↦ inr end
    ]))

pub returns-in_ok-take_body-in-Ok-clause-gave : goal.returns-in_ok-take_body-in-Ok-clause-gave
returns-in_ok-take_body-in-Ok-clause-gave g c =
    let R = g.R.Source in
    let start = c.args.reader.now.inner in
    let bytes = c.in_ok-opening.opening.bytes.items in
    let last = c.take_body.new.body in
    let (given, gives, items) = c.in_ok-take_body-in-Ok.ensures.came in
    let begun : Gives (R.transfers start) (R.transfers c.announce.new.self.inner) bytes false =
    subst (λ i. Gives (R.transfers start) (R.transfers i) bytes false) (sym c.announce.ensures.inner) c.in_ok-opening.ensures.given in
    let all : Gives (R.transfers start) (R.transfers last.inner) (bytes ++ given) false =
    subst (λ (f : Bool). Gives (R.transfers start) (R.transfers last.inner) (bytes ++ given) f) c.in_ok-take_body-in-Ok.ensures.whole (gives_then _ _ _ bytes given _ begun gives.gave) in
    subst (λ l. Gives (R.transfers start) (R.transfers last.inner) l false) (sym items) all

pub returns-in-Err-clause-took : goal.returns-in-Err-clause-took
returns-in-Err-clause-took g c =
    let opening = c.in_ok-opening.opening in
    (opened_refused c.args.limits.now _ _ opening.bytes.items (announced_size opening.head) c.in_ok-opening.ensures.opens c.in-Err.field-0 (rw c.in-Err.is at c.in_ok-opening.ensures.finds)).0
