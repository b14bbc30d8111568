use Rattle.std.proofs.Common.{◌∙◌, ap, subst, map}
use Rattle.std.proofs.lemmas.Result.{IfOk-weaker}
use Rattle.std.specs.String.{string_bytes}
use Rattle.clap.specs.Words.{App, FailsBy, fault_of, is_simple, is_simple_and_free, subcommand_of}
use Rattle.bh_words.proofs.Commands.{is_simple_command, is_free_command}
use Rattle.bh_words.proofs.read.matches_of.Goals as goal

pub returns-clause-rows : goal.returns-clause-rows
returns-clause-rows c =
    let command = c.in_ok-command.ensures in
    IfOk-weaker c.try_get_matches_from.result _ _ (λ m met.
    (met (ap is_simple command ∙ is_simple_command)).1 ∙ ap (λ (a : App). subcommand_of a (map string_bytes c.args.words.now)) command)
    c.try_get_matches_from.ensures.matches

pub returns-clause-kinds : goal.returns-clause-kinds
returns-clause-kinds c =
    let command = c.in_ok-command.ensures in
    subst (λ (a : App). FailsBy (fault_of a (map string_bytes c.args.words.now)) c.try_get_matches_from.result) command
    (c.try_get_matches_from.ensures.kinds (ap is_simple_and_free command ∙ is_free_command))
