use Rattle.std.proofs.Common.{◌≡◌, ◌∙◌, ap, ap₂, rules}
use Rattle.std.proofs.lemmas.Result.{IfOk-weaker}
use Rattle.clap.specs.Simple.{app_of_fields}
use Rattle.clap.specs.Words.{App, app_of, new_app}
use Rattle.bh_words.specs.Commands.{options, shape, with_options}
use Rattle.bh_words.proofs.Commands.{shape-of_options}
use Rattle.bh_words.proofs.command.subcommand_command.Goals as goal

pub returns-clause-shape : goal.returns-clause-shape
returns-clause-shape c =
    let bare : app_of c.about-bare.result ≡ new_app c.word.result.now = ap app_of_fields c.about-bare.ensures ∙ c.new.ensures.app in
    let chosen : c.as_slice.result.now ≡ options c.args.subcommand = search rules in
    IfOk-weaker c.with_options.result _ _ (λ d whole.
    ap (λ (a : App). a.top) (whole ∙ ap (λ a. with_options a c.as_slice.result.now) bare)
    ∙ shape-of_options c.word.result.now c.as_slice.result.now ∙ ap₂ shape c.word.ensures chosen) c.with_options.ensures.rules
