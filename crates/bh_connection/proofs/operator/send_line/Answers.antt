use Rattle.std.proofs.Common.{◌≡◌, Bool, true, false, length, refl, arith}
use Rattle.std.specs.Prelude.{IsTrue}
use Rattle.bh_connection.proofs.OperatorLemmas.{sent_on, takes_on}
use Rattle.bh_connection.proofs.operator.send_line.Goals as goal

going : (f : Bool) {P : Type 0} → (IsTrue f → P) → (P → ⊥) → f ≡ false
going true h none = absurd (none (h refl))
going false h none = refl

pub returns-clause-took : goal.returns-clause-took
returns-clause-took g c =
    let all : c.send-sent.result ≡ length c.args.reply.now = omega (arith, c.send-sent.ensures.within, c.if-sent-reply.false) in
    takes_on _ _ _ _ _ _ c.send-sent.new.self.failed _ (sent_on c.args.reply.now c.send-sent.result c.send.result all)
    (going c.send-sent.new.self.failed c.send-sent.ensures.failed.0 (λ lt. omega (arith, lt, c.if-sent-reply.false))) c.send-sent.ensures.taken c.send.ensures.taken
