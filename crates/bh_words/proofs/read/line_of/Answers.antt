use Rattle.std.proofs.Common.{Some, sym, subst}
use Rattle.bh_words.proofs.Rows.{rows_met}
use Rattle.bh_words.specs.Lines.{command_line}
use Rattle.bh_event.specs.Given.{Gives}
use Rattle.bh_words.specs.Readings.{line_of}
use Rattle.bh_words.proofs.read.line_of.Goals as goal

pub returns-in-Some : goal.returns-in-Some
returns-in-Some c =
    subst (λ met. Gives command_line c.line_in.result (line_of met)) (sym (rows_met _ (Some (c.in-Some.name, c.in-Some.given)) c.in-Some.ensures.name c.in-Some.ensures.rows)) c.line_in.ensures
