use Rattle.std.proofs.Common.{◌∷◌, ◌∙◌, ap, take}
use Rattle.bh_script.specs.Lines.{lines}
use Rattle.bh_script.proofs.Cutting.{one_line, first_line, rest_of}
use Rattle.bh_script.proofs.answers.cut_line.Goals as goal

pub returns-in-Some : goal.returns-in-Some
returns-in-Some c =
    let bytes = c.args.bytes.now in
    let at = c.in-Some.at in
    first_line bytes at c.in-Some.ensures.0 c.in-Some.ensures.1 ∙ ap (λ l. take at bytes ∷ lines l) (rest_of bytes at)

pub returns-in-None : goal.returns-in-None
returns-in-None c = one_line c.args.bytes.now c.in-None.ensures
