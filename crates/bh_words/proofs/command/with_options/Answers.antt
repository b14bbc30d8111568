use Rattle.std.proofs.Common.{◌∙◌, ap, ap₂, sym}
use Rattle.std.proofs.Math.Bool.{or-false}
use Rattle.std.proofs.lemmas.List.Sums.{fold_more}
use Rattle.clap.specs.Words.{with_rule}
use Rattle.clap.specs.declared.builder.command.Command.TheViews.{out-Command as fields_of}
use Rattle.std.specs.Prelude.{◌||◌}
use Rattle.bh_words.proofs.command.with_options.Goals as goal

pub loop-option-preserved : goal.loop-option-preserved
loop-option-preserved c = record {
  rules = c.in_ok-command.ensures.shape c.arg.ensures.local
      ∙ ap₂ with_rule c.loop-option.invariant.rules c.arg.ensures.rule
      ∙ sym (fold_more _ _ c.args.options.now c.loop-option.option-index _ c.loop-option-test.true);
  local = c.in_ok-command.ensures.globals ∙ ap (λ b. (fields_of c.loop-option.command).has_globals || b) c.arg.ensures.local
      ∙ or-false _ ∙ c.loop-option.invariant.local;
}
