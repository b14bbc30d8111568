-- Sizes on the command line: decimal digits with a unit directly after them tell bytes.
use Rattle.std.specs.Prelude.{ℕ, Bool, ◌*◌, ◌^◌, ◌==◌, not, List, [], ◌∷◌, ◌++◌, drop, codes, decimal, find, position, nat_lt}
use Rattle.std.specs.Prelude.{Option, Some, None, is_none, option_map, if◌then◌else◌}
use Rattle.std.specs.Char.{is_ascii_digit}
use Rattle.std.specs.List.{after_first, before_first, list_any, position_or_len}
use Rattle.std.specs.Option.{option_map_or}
use Rattle.std.specs.Str.{bytes_eq}
use Rattle.clap.specs.Words.{Text}
use Rattle.bh_words.specs.Numbers.{◌>>=◌, number_of}
use Rattle.bh_words.specs.Options.{word}
use Rattle.bh_words.specs.declared.options.OptionName.{OptionName}
use Rattle.bh_words.specs.declared.options.OptionName.TheVariants.{Quota, MinPart, MaxBody, BlockSize, CacheBytes, KeepGarbage}

-- the units, with how many bytes each is
abbrev pub units : List (Text × ℕ)
units = (codes "B", 1) ∷ (codes "kB", 1000) ∷ (codes "KB", 1000) ∷ (codes "MB", 1000 ^ 2) ∷ (codes "GB", 1000 ^ 3)
    ∷ (codes "TB", 1000 ^ 4) ∷ (codes "KiB", 1024) ∷ (codes "MiB", 1024 ^ 2) ∷ (codes "GiB", 1024 ^ 3) ∷ (codes "TiB", 1024 ^ 4) ∷ []

abbrev pub unit_bytes : Text → Option ℕ
unit_bytes unit = option_map (λ u. u.1) (find (λ u. bytes_eq u.0 unit) units)

abbrev pub is_no_digit : ℕ → Bool
is_no_digit b = not (is_ascii_digit b)

-- the digits that a text begins with, and what follows them
abbrev pub digits_in : Text → Text
digits_in size = before_first is_no_digit size

abbrev pub unit_in : Text → Text
unit_in size = drop (position_or_len is_no_digit size) size

abbrev pub in_64_bits : ℕ → Option ℕ
in_64_bits n = if nat_lt n (2 ^ 64) then Some n else None

-- how many bytes digits with a unit are, if 64 bits hold them
abbrev pub bytes_of : Text → Option ℕ
bytes_of size = do
  bytes ← unit_bytes (unit_in size)
  number ← number_of 64 (digits_in size)
  in_64_bits (number * bytes)

-- these bytes in decimal digits; any other text stays as it is
abbrev pub in_bytes : Text → Text
in_bytes text = option_map_or decimal (bytes_of text) text

-- the options whose values are sizes
abbrev pub sizes : List OptionName
sizes = Quota ∷ MinPart ∷ MaxBody ∷ BlockSize ∷ CacheBytes ∷ KeepGarbage ∷ []

abbrev pub is_size : Text → Bool
is_size text = list_any (λ o. bytes_eq (codes "--" ++ word o) text) sizes

abbrev pub is_equals : ℕ → Bool
is_equals b = b == 61

-- the value of `--word=value` is a size too
abbrev pub sized_pair : Text → Text
sized_pair text =
    if is_none (position is_equals text) then text
    else if is_size (before_first is_equals text) then before_first is_equals text ++ codes "=" ++ in_bytes (after_first is_equals text)
    else text

-- a word, by the one before it
abbrev pub sized_word : Text → Text → Text
sized_word before text = if is_size before then in_bytes text else sized_pair text

abbrev pub sized_after : Text → List Text → List Text
sized_after before [] = []
sized_after before (text ∷ words) = sized_word before text ∷ sized_after text words

-- the words of a command line, in which each size is told in bytes
abbrev pub sized : List Text → List Text
sized words = sized_after [] words
