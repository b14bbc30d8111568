use Rattle.std.proofs.Common.{◌∙◌, ap₂, sym}
use Rattle.std.proofs.lemmas.List.Sums.{fold_more}
use Rattle.clap.specs.Words.{with_subcommand}
use Rattle.bh_words.proofs.command.with_subcommands.Goals as goal

pub loop-subcommand-preserved : goal.loop-subcommand-preserved
loop-subcommand-preserved c =
    c.in_ok-command.ensures.shape c.in_ok-subcommand_command.ensures.local
    ∙ ap₂ with_subcommand c.loop-subcommand.invariant c.in_ok-subcommand_command.ensures.shape
    ∙ sym (fold_more _ _ c.args.subcommands.now c.loop-subcommand.subcommand-index _ c.loop-subcommand-test.true)
