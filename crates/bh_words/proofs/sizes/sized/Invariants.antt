use Rattle.std.proofs.Common.{◌≡◌, ◌++◌, drop, map}
use Rattle.std.specs.String.{string_bytes}
use denote.Shadow.{shadow}
use denote.Text.{Utf8}
use Rattle.bh_words.specs.Sizes as spec
use Rattle.bh_words.proofs.sizes.sized.Given as goal

-- the words that are done, and then those that are left as they will be
abbrev pub invariant-loop-word : goal.invariant-loop-word
invariant-loop-word l = shadow (Utf8 l.before)
    × (map string_bytes l.sized.items ++ spec.sized_after l.before (map string_bytes (drop l.word-index l.words)) ≡ spec.sized (map string_bytes l.words))
