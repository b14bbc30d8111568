use Rattle.std.proofs.Common.{ap, sym, ◌∙◌}
use Rattle.std.proofs.lemmas.Bool.{false≢true}
use Rattle.serde_json.specs.Read.{read}
use Rattle.bh_event.specs.Flaws.{flaw_of_value}
use Rattle.bh_event.proofs.Texts.{flaw_of-utf8, flaw_of-other}
use Rattle.bh_event.proofs.flaw.flaw_of.Goals as goal

pub returns-in_default : goal.returns-in_default
returns-in_default c = sym (flaw_of-other c.args.line.now c.in_default.ensures.cases.0)

pub returns-in-Ok-from_str : goal.returns-in-Ok-from_str
returns-in-Ok-from_str c =
    let value = flaw_of-utf8 c.args.line.now c.in-Ok.ensures.cases.1 ∙ ap flaw_of_value (ap read (sym c.in-Ok.ensures.cases.0) ∙ c.in-Ok-from_str.ensures.ok) in
    c.flaw_in.ensures ∙ sym value

pub returns-in-Err-2 : goal.returns-in-Err-2
returns-in-Err-2 c =
    let missing = c.in-Err.ensures.err (λ memory. false≢true (c.if-is_memory.ensures.1 memory)) in
    sym (flaw_of-utf8 c.args.line.now c.in-Ok.ensures.cases.1 ∙ ap flaw_of_value (ap read (sym c.in-Ok.ensures.cases.0) ∙ missing))
