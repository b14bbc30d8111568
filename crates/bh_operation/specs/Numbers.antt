-- The numbers and ids in parameters.
use Rattle.std.specs.Prelude.{ℕ, ◌^◌, ◌&&◌, min, nat_le, nat_lt, List, length, Option, Some, None, if◌then◌else◌, Result, Ok, Err}
use Rattle.std.specs.Str.Parse.{digits_value}
use Rattle.bh_types.specs.Ids.{version_of}
use Rattle.bh_types.specs.Digits.{is_number}
use Rattle.bh_types.specs.Outcomes.{◌>>=◌}
use Rattle.bh_types.specs.declared.id.VersionId.{VersionId}
use Rattle.bh_types.specs.declared.id.VersionId.TheVariants.{Null, Numbered}
use Rattle.bh_types.specs.declared.wanted.Wanted.{Wanted}
use Rattle.bh_types.specs.declared.wanted.Wanted.TheVariants.{Current, Named, Unknown}
use Rattle.bh_types.specs.declared.refusal.Refusal.{Refusal}
use Rattle.bh_types.specs.declared.refusal.Refusal.TheVariants.{InvalidArgument}

abbrev pub or_invalid_argument : {A : Type 0} → Option A → Result A Refusal
or_invalid_argument None = Err InvalidArgument
or_invalid_argument (Some x) = Ok x

-- 1 to 10 digits
unfoldable pub short_number : List ℕ → Result ℕ Refusal
short_number text =
    if is_number text && nat_le (length text) 10 then Ok (digits_value 10 text) else Err InvalidArgument

-- the number of entries on a page: 1,000 by default and at most
-- Amazon S3 API Reference, ListObjectsV2: max-keys, and its like of the other listings
unfoldable pub page_size : Option (List ℕ) → Result ℕ Refusal
page_size None = Ok 1000
page_size (Some text) = do
  n ← short_number text
  Ok (min n 1000)

-- the number after which a page of parts begins
-- Amazon S3 API Reference, ListParts: part-number-marker
unfoldable pub part_marker : Option (List ℕ) → Result ℕ Refusal
part_marker None = Ok 0
part_marker (Some text) = short_number text

-- digits, 1 to 10,000
-- Amazon S3 API Reference, UploadPart: 1 to 10,000
unfoldable pub part_number : Option (List ℕ) → Result ℕ Refusal
part_number None = Err InvalidArgument
part_number (Some text) =
    if is_number text && nat_le 1 (digits_value 10 text) && nat_le (digits_value 10 text) 10000
    then Ok (digits_value 10 text)
    else Err InvalidArgument

-- the version with an id; the numbers of versions begin at 1 and are below 2^63
abbrev pub named_version : Option VersionId → Wanted
named_version None = Unknown
named_version (Some Null) = Named Null
named_version (Some (Numbered n)) = if nat_le 1 n && nat_lt n (2 ^ 63) then Named (Numbered n) else Unknown

-- Amazon S3 API Reference, GetObject: versionId
unfoldable pub wanted : Option (List ℕ) → Wanted
wanted None = Current
wanted (Some text) = named_version (version_of text)
