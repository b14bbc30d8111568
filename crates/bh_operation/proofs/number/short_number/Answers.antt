use Rattle.std.proofs.Common.{sym, ◌∙◌}
use Rattle.bh_operation.proofs.Digits.{ten_digits}
use Rattle.bh_operation.proofs.number.short_number.Goals as goal

pub unreachable-requires : goal.unreachable-requires
unreachable-requires c =
    ten_digits c.as_bytes-digits.result.now (sym c.is_number.ensures ∙ c.if-not-is_number.false) c.if-digits-gt10.false c.in-None.ensures.none
