use Rattle.std.proofs.Common.{sym}
use Rattle.bh_types.proofs.Reading.{read_nanos, read_found, reads_none}
use Rattle.bh_types.proofs.moment.Moment.read.Goals as goal

pub returns-in_default-clause-none : goal.returns-in_default-clause-none
returns-in_default-clause-none c = λ m room same.
    read_found m c.args.text.now c.parse-parsed.result c.in_default.field-0 room same c.parse-parsed.ensures.value c.in_default.is

pub returns-in_default-moment_at-clause-none : goal.returns-in_default-moment_at-clause-none
returns-in_default-moment_at-clause-none c = λ m room same.
    let nanos = read_nanos m c.args.text.now c.parse-parsed.result c.in-Ok.timestamp room same c.parse-parsed.ensures.value c.in-Ok.is in
    let found = c.moment_at.ensures.found m room nanos in
    cc (found, c.in_default-moment_at.is)

pub returns-in_default-moment_at-clause-is : goal.returns-in_default-moment_at-clause-is
returns-in_default-moment_at-clause-is c = reads_none c.args.text.now (λ m room same.
    let nanos = read_nanos m c.args.text.now c.parse-parsed.result c.in-Ok.timestamp room same c.parse-parsed.ensures.value c.in-Ok.is in
    let found = c.moment_at.ensures.found m room nanos in
    cc (found, c.in_default-moment_at.is))

pub returns-else-is_print-clause-none : goal.returns-else-is_print-clause-none
returns-else-is_print-clause-none c = λ m room same.
    let nanos = read_nanos m c.args.text.now c.parse-parsed.result c.in-Ok.timestamp room same c.parse-parsed.ensures.value c.in-Ok.is in
    let yes = (c.is_print.ensures m room nanos).1 (sym same) in
    cc (yes, c.if-is_print.false)
