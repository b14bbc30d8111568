use Rattle.std.proofs.Common.{arith, ◌≡◌, ◌+◌, if◌then◌else◌, ◌∙◌}
use Rattle.bh_tables.specs.Bodies.{same_name}
use Rattle.bh_check.specs.Holds.{number_at}
use Rattle.bh_check.specs.Tallies.{entry_key}
use Rattle.bh_check.proofs.NewestLemmas.{ok_weaker, raised, unraised}
use Rattle.bh_check.proofs.Walks.{keeps_same}
use Rattle.bh_check.proofs.tallies.raise.Goals as goal

pub returns-in-Some : goal.returns-in-Some
returns-in-Some c =
    let row = c.args.row.now in
    let more = c.in-Some.more in
    let named = c.deref-in-Some.ensures.value ∙ c.in_ok-text.ensures in
    ok_weaker c.add.result _ _ (λ fits added so rows newest.
    let of = newest.0 in
    let known : c.in_ok-known.known ≡ of (entry_key row) = c.in_ok-known.ensures of newest.1 ∙ (λ i. of ((c.deref.ensures.value ∙ c.in_ok-text.ensures) i, 0)) in
    let low = c.in-Some.ensures.0 in
    let left = c.in-Some.ensures.1 in
    let number = c.number_in.ensures in
    let is : of (entry_key row) + more ≡ number_at 2 row = omega (arith, known, low, left, number) in (
      λ q. of q + (if same_name (entry_key row) q then more else 0),
      keeps_same _ _ _ (λ q i. of q + (if same_name (named i, 0) q then more else 0)) (added so of newest.1),
      raised rows row of newest.2 more is,
    )) c.add.ensures

pub returns : goal.returns
returns c so rows newest =
    let row = c.args.row.now in
    let of = newest.0 in
    let known : c.in_ok-known.known ≡ of (entry_key row) = c.in_ok-known.ensures of newest.1 ∙ (λ i. of ((c.deref.ensures.value ∙ c.in_ok-text.ensures) i, 0)) in
    let high = c.in-None.ensures in
    let number = c.number_in.ensures in
    (of, newest.1, unraised rows row of newest.2 (omega (arith, known, high, number)))
