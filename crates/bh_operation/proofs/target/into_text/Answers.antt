use Rattle.std.proofs.Common.{sym, ◌∙◌, ap, Some}
use Rattle.std.proofs.lemmas.Bool.{false≢true}
use Rattle.bh_operation.specs.Targets.{text_of}
use Rattle.bh_operation.proofs.Texts.{text_of-string, text_of-other}
use Rattle.bh_operation.proofs.target.into_text.Goals as goal

pub returns-in-Ok : goal.returns-in-Ok
returns-in-Ok c = ap Some c.new.ensures ∙ (sym (text_of-string c.in-Ok.text) ∙ ap (λ v. text_of v.items) c.in-Ok.ensures.ok)

pub returns : goal.returns
returns c = sym (text_of-other c.args.bytes.items (λ h. false≢true (c.in-Err.ensures.succeeds h)))
