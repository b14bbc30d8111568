use Rattle.std.proofs.Common.{length, nat_lt}
use Rattle.std.specs.List.{list_all}
use Rattle.std.specs.Char.{is_ascii_digit}
use Rattle.std.proofs.lemmas.Bool.{and_parts}
use Rattle.bh_types.proofs.Ascii.{IsUtf8-digits}
use Rattle.bh_types.proofs.Numerals.{too_large}
use Rattle.bh_types.proofs.digits.number_of.Goals as goal

pub returns-in_default-clause-none : goal.returns-in_default-clause-none
returns-in_default-clause-none c =
    let digits = c.args.digits.now in
    let parts = and_parts (nat_lt 0 (length digits)) (list_all is_ascii_digit digits) c.requires in
    absurd (c.in_default.ensures.cases.0 (IsUtf8-digits digits parts.1))

pub returns-in-Err-clause-none : goal.returns-in-Err-clause-none
returns-in-Err-clause-none c =
    too_large c.in-Ok.text.now c.args.digits.now c.in-Ok.ensures.cases.0 c.in-Err.ensures.value.0 c.requires
