use Rattle.std.proofs.Common.{refl}
use Rattle.bh_words.proofs.Texts.{unequal}
use Rattle.bh_words.proofs.subcommands.own_named.Goals as goal

pub returns-in_default : goal.returns-in_default
returns-in_default c =
    let d = c.in_default in
    rw (unequal _ _ d.not-script, unequal _ _ d.not-init, unequal _ _ d.not-check, unequal _ _ d.not-export, unequal _ _ d.not-import, unequal _ _ d.not-serve, unequal _ _ d.not-tell) refl
