-- A command with its options added in turn.
use Rattle.std.proofs.Common.{◌≡◌, ◌∙◌, true, refl, List, [], ◌∷◌, ◌++◌, ap, sym, map}
use Rattle.std.proofs.lemmas.List.{append-nil, append_assoc}
use Rattle.clap.proofs.OnLiterals.{clap_on_literals}
use Rattle.clap.specs.Words.{App, Rule, Text, with_rule, new_app, is_simple, is_simple_and_free}
use Rattle.bh_words.specs.Commands.{shape, the_command, with_options}
use Rattle.bh_words.specs.Options.{rule}
use Rattle.bh_words.specs.declared.options.OptionName.{OptionName}

abbrev with_rules : App → List Rule → App
with_rules a more = record a { top = record a.top { rules = a.top.rules ++ more } }

pub with_options-rules : (a : App) (options : List OptionName) → with_options a options ≡ with_rules a (map rule options)
with_options-rules a [] = ap (λ (rs : List Rule). record a { top = record a.top { rules = rs } }) (sym (append-nil a.top.rules))
with_options-rules a (o ∷ rest) =
    with_options-rules (with_rule a (rule o)) rest
    ∙ ap (λ (rs : List Rule). record a { top = record a.top { rules = rs } }) (append_assoc a.top.rules (rule o ∷ []) (map rule rest))

pub shape-of_options : (name : Text) (options : List OptionName) → (with_options (new_app name) options).top ≡ shape name options
shape-of_options name options = ap (λ (a : App). a.top) (with_options-rules (new_app name) options)

-- `clap`'s definitions give the matches and the faults of this command
pub is_simple_command : is_simple the_command ≡ true
unfolding clap_on_literals
is_simple_command = refl

pub is_free_command : is_simple_and_free the_command ≡ true
unfolding clap_on_literals
is_free_command = refl
