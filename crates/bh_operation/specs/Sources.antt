-- The header field x-amz-copy-source: `bucket/key` or `/bucket/key`, percent-encoded, with an
-- optional `?versionId=` and an id.
use Rattle.std.specs.Prelude.{ℕ, ◌==◌, List, [], ◌∷◌, length, take, drop, codes, Option, Some, None, is_none, position, if◌then◌else◌}
use Rattle.std.specs.Prelude.{Result, Ok, Err}
use Rattle.std.specs.List.{before_first, after_first}
use Rattle.std.specs.Str.{bytes_eq}
use Rattle.bh_types.specs.Outcomes.{◌>>=◌}
use Rattle.bh_types.specs.declared.wanted.Wanted.{Wanted}
use Rattle.bh_types.specs.declared.wanted.Wanted.TheVariants.{Current, Unknown}
use Rattle.bh_types.specs.declared.refusal.Refusal.{Refusal}
use Rattle.bh_types.specs.declared.refusal.Refusal.TheVariants.{InvalidArgument}
use Rattle.bh_http.specs.Fields.{Occurrence, Missing, Once, Repeated}
use Rattle.bh_operation.specs.Numbers.{or_invalid_argument, wanted}
use Rattle.bh_operation.specs.Targets.{is_question, is_slash, decoded, text_of}
use Rattle.bh_operation.specs.declared.source.Source.{Source}

-- without one slash at its beginning
abbrev pub without_slash : List ℕ → List ℕ
without_slash [] = []
without_slash (b ∷ rest) = if is_slash b then rest else b ∷ rest

-- an id is taken as it is; one that is not a text is unknown
abbrev pub named_by : Option (List ℕ) → Wanted
named_by None = Unknown
named_by (Some text) = wanted (Some text)

unfoldable pub version_after : List ℕ → Result Wanted Refusal
version_after query =
    if bytes_eq (take 10 query) (codes "versionId=") then Ok (named_by (text_of (drop 10 query)))
    else Err InvalidArgument

unfoldable pub source_version : List ℕ → Result Wanted Refusal
source_version value =
    if is_none (position is_question value) then Ok Current else version_after (after_first is_question value)

-- a part that is not empty, decoded
unfoldable pub source_part : List ℕ → Result (List ℕ) Refusal
source_part part = if length part == 0 then Err InvalidArgument else or_invalid_argument (decoded part)

abbrev pub source_path : List ℕ → List ℕ
source_path value = without_slash (before_first is_question value)

-- Amazon S3 API Reference, CopyObject: x-amz-copy-source
unfoldable pub source_of : List ℕ → Result Source Refusal
source_of value = do
  version ← source_version value
  bucket ← source_part (before_first is_slash (source_path value))
  key ← source_part (after_first is_slash (source_path value))
  Ok (record { bucket = bucket; key = key; version = version })

-- the source in a field that occurs exactly once
unfoldable pub source_in : Occurrence → Result Source Refusal
source_in Missing = Err InvalidArgument
source_in (Once value) = source_of value
source_in Repeated = Err InvalidArgument
