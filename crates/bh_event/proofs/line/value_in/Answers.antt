use Rattle.std.proofs.Common.{ap, sym, ◌∙◌}
use Rattle.serde_json.specs.Read.{read}
use Rattle.bh_event.proofs.Texts.{value_in-utf8, value_in-other}
use Rattle.bh_event.proofs.line.value_in.Goals as goal

pub returns-in_default : goal.returns-in_default
returns-in_default c = sym (value_in-other c.args.line.now c.in_default.ensures.cases.0)

pub returns-in-Ok-from_str : goal.returns-in-Ok-from_str
returns-in-Ok-from_str c =
    sym (value_in-utf8 c.args.line.now c.in-Ok.ensures.cases.1 ∙ ap read (sym c.in-Ok.ensures.cases.0) ∙ c.in-Ok-from_str.ensures.ok)
