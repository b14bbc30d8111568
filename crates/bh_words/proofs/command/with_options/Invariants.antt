use Rattle.std.proofs.Common.{◌≡◌, take}
use Rattle.clap.specs.Words.{app_of}
use Rattle.clap.specs.declared.builder.command.Command.TheViews.{out-Command as fields_of}
use Rattle.bh_words.specs.Commands as spec
use Rattle.bh_words.proofs.command.with_options.Given as goal

abbrev pub invariant-loop-option : goal.invariant-loop-option
invariant-loop-option l = record {
  rules : app_of l.command ≡ spec.with_options (app_of l.fn.bare) (take l.option-index l.options);
  local : (fields_of l.command).has_globals ≡ (fields_of l.fn.bare).has_globals;
}
