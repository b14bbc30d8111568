use Rattle.std.proofs.Common.{◌≡◌, ℕ, ◌+◌, if◌then◌else◌, List, ap, ◌∙◌, subst}
use Rattle.bh_tables.specs.Bodies.{same_name}
use Rattle.bh_check.specs.Sums.{Key, Keeps, kept_at}
use Rattle.bh_check.specs.declared.sums.Sums.{Sums}
use Rattle.bh_check.proofs.Added.{keeps_added}
use Rattle.bh_check.proofs.sums.Sums.add.Goals as goal

pub returns : goal.returns
returns c fits of keeps =
    let after : Sums = record { totals = c.insert.new.self } in
    let key : Key = (c.in_ok-from_slice.field-0, c.args.number) in
    let sum : c.in-Some.total ≡ kept_at c.args.self.now key + c.args.amount = c.in-Some.ensures.1 ∙ ap (λ n. n + c.args.amount) c.kept.ensures in
    subst (λ (t : List ℕ). Keeps (λ q. of q + (if same_name (t, c.args.number) q then c.args.amount else 0)) after) c.in_ok-from_slice.ensures.items
    (keeps_added c.args.self.now after key c.in-Some.total c.args.amount c.in_ok-insert.ensures.updates sum of keeps)
