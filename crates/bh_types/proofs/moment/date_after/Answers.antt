use Rattle.std.proofs.Common.{arith, ◌≡◌, ℤ, pos, ◌+ℤ◌, FitsSigned, w64, ◌∙◌}
use Rattle.std.proofs.lemmas.Int.{to_z-of_z}
use Rattle.std.proofs.lemmas.Bool.{false≢true}
use Rattle.jiff.specs.Words.{epoch_day, IsEpochDay}
use Rattle.jiff.proofs.SpanFacts.{signed_arith, date_add-days, can_add-days}
use Rattle.bh_types.proofs.moment.date_after.Goals as goal

pub unreachable-requires : goal.unreachable-requires
unreachable-requires c =
    let n : ℤ = c.from.result in
    let from : n ≡ pos c.args.days = c.from.ensures in
    let small = c.requires in
    let fits : FitsSigned w64 n = omega (arith, signed_arith, from) in
    let only = simp to_z-of_z at c.days-span.ensures in
    let can = can_add-days c.epoch.result n c.days-span.result only in
    let zero = c.epoch.ensures in
    let day : IsEpochDay (epoch_day c.epoch.result +ℤ n) = omega (arith, signed_arith, from, zero) in
    false≢true (c.in-Err.ensures.succeeds.1 (can.1 day))

pub returns : goal.returns
returns c =
    let n : ℤ = c.from.result in
    let from : n ≡ pos c.args.days = c.from.ensures in
    let small = c.requires in
    let fits : FitsSigned w64 n = omega (arith, signed_arith, from) in
    let only = simp to_z-of_z at c.days-span.ensures in
    let zero = c.epoch.ensures in
    let sum : epoch_day c.epoch.result +ℤ n ≡ pos c.args.days = omega (arith, signed_arith, from, zero) in
    c.in-Ok.ensures.value ∙ date_add-days c.epoch.result n c.days-span.result only ∙ sum
