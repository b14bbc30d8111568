use Rattle.std.proofs.Common.{◌≡◌, take}
use Rattle.clap.specs.Words.{app_of}
use Rattle.bh_words.specs.Commands as spec
use Rattle.bh_words.proofs.command.with_subcommands.Given as goal

abbrev pub invariant-loop-subcommand : goal.invariant-loop-subcommand
invariant-loop-subcommand l =
    app_of l.command ≡ spec.with_subcommands (app_of l.fn.bare) (take l.subcommand-index l.subcommands)
