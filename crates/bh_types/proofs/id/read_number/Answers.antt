use Rattle.std.proofs.Common.{sym, ◌∙◌}
use Rattle.bh_types.proofs.IdLemmas.{decodes, again}
use Rattle.bh_types.proofs.id.read_number.Goals as goal

pub returns-in_default-clause-none : goal.returns-in_default-clause-none
returns-in_default-clause-none c = λ n same. decodes c.args.text.now n c.in_default.field-0 same (sym c.from_hex-decoded.ensures ∙ c.in_default.is)

pub returns-else-is_number_text-clause-none : goal.returns-else-is_number_text-clause-none
returns-else-is_number_text-clause-none c = λ n same.
    let e = again c.args.text.now c.in-Ok.bytes n c.from_be_bytes-number.result same (sym c.from_hex-decoded.ensures ∙ c.in-Ok.is) c.from_be_bytes-number.ensures in
    let yes = c.is_number_text.ensures.1 e in cc (yes, c.if-is_number_text.false)
