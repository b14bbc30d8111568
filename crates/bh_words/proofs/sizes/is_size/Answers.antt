use Rattle.std.proofs.Common.{refl}
use Rattle.bh_words.proofs.Texts.{unequal}
use Rattle.bh_words.proofs.sizes.is_size.Goals as goal

pub returns-in_default : goal.returns-in_default
returns-in_default c =
    let d = c.in_default in
    rw (unequal _ _ d.not-text, unequal _ _ d.not-text-2, unequal _ _ d.not-text-3, unequal _ _ d.not-text-4, unequal _ _ d.not-text-5, unequal _ _ d.not-text-6) refl
