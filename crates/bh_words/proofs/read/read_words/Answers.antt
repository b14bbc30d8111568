use Rattle.std.proofs.Common.{◌≡◌, ◌∙◌, Err, List, None, ap, false, map, rules, subst, sym, true}
use Rattle.std.proofs.lemmas.Bool.{false≢true}
use Rattle.std.specs.Prelude.{is_some}
use Rattle.std.specs.String.{string_bytes}
use Rattle.clap.specs.Words.{HasKind, Text, fault_of, subcommand_of, subcommand_rows_of}
use Rattle.bh_words.proofs.Whole.{told-taken}
use Rattle.bh_words.specs.Commands.{the_command}
use Rattle.bh_words.specs.Lines.{command_line}
use Rattle.bh_event.specs.Given.{Gives}
use Rattle.bh_words.specs.Readings.{faults_of, told_by, line_of}
use Rattle.bh_words.specs.Sizes.{sized}
use Rattle.bh_event.specs.declared.given.GivenError.{GivenError}
use Rattle.bh_words.proofs.read.read_words.Goals as goal

pub returns-in-Ok-clause-told : goal.returns-in-Ok-clause-told
unfolding faults_of told_by
returns-in-Ok-clause-told c =
    let same : map string_bytes c.as_slice.result.now ≡ sized (map string_bytes c.args.words.now) = search rules in
    let line = ap line_of (sym c.in_ok-matches.ensures.rows) ∙ c.in-Ok.ensures in
    (ap (fault_of the_command) (sym same) ∙ c.in_ok-matches.ensures.kinds, ap (λ (ws : List Text). line_of (subcommand_of the_command ws)) (sym same) ∙ line)

pub returns-in_err-matches-clause-refused : goal.returns-in_err-matches-clause-refused
unfolding faults_of
returns-in_err-matches-clause-refused c =
    let same : map string_bytes c.as_slice.result.now ≡ sized (map string_bytes c.args.words.now) = search rules in
    let error = c.in_err-matches.field-0.0 in
    let kinds : HasKind (faults_of (map string_bytes c.args.words.now)) error =
    subst (λ (ws : List Text). HasKind (fault_of the_command ws) error) same c.in_err-matches.ensures.kinds in
    search rules

pub unreachable-requires : goal.unreachable-requires
unreachable-requires c =
    let none : line_of (subcommand_rows_of c.in_ok-matches.matches) ≡ None =
    subst (λ (e : GivenError). Gives command_line (Err e) (line_of (subcommand_rows_of c.in_ok-matches.matches)))
    c.in-Err-NotGiven.field-0-is c.in-Err-NotGiven.ensures in
    let some = told-taken (map string_bytes c.as_slice.result.now) c.in_ok-matches.ensures.kinds in
    let bad : false ≡ true = sym (ap is_some (ap line_of (sym c.in_ok-matches.ensures.rows) ∙ none)) ∙ some in
    false≢true bad
