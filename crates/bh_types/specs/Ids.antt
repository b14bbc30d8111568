-- The texts of ids.
use Rattle.std.specs.Prelude.{ℕ, List, codes, Option, Some, None, option_map, option_and_then, if◌then◌else◌}
use Rattle.std.specs.Int.{w64, to_be_bytes, from_be_bytes}
use Rattle.std.specs.Result.{result_ok}
use Rattle.std.specs.Str.{bytes_eq}
use Rattle.hex.specs.Hex.{encode_lower, decode_sized}
use Rattle.bh_types.specs.declared.id.VersionId.{VersionId}
use Rattle.bh_types.specs.declared.id.VersionId.TheVariants.{Null, Numbered}
use Rattle.bh_types.specs.declared.id.UploadId.{UploadId}

-- 16 lower-case hexadecimal digits
-- RFC 4648, section 8, in lower case
abbrev pub number_text : ℕ → List ℕ
number_text n = encode_lower (to_be_bytes w64 n)

-- the number with this text, if there is one
abbrev pub if_text_of : List ℕ → ℕ → Option ℕ
if_text_of text n = if bytes_eq (number_text n) text then Some n else None

abbrev pub number_of : List ℕ → Option ℕ
number_of text = option_and_then (λ bytes. if_text_of text (from_be_bytes w64 bytes)) (result_ok (decode_sized text 8))

-- Amazon S3 User Guide, "How S3 Versioning works": the version id null
abbrev pub version_text : VersionId → List ℕ
version_text Null = codes "null"
version_text (Numbered n) = number_text n

abbrev pub version_of : List ℕ → Option VersionId
version_of text = if bytes_eq text (codes "null") then Some Null else option_map Numbered (number_of text)

abbrev pub upload_text : UploadId → List ℕ
upload_text id = number_text id.number

abbrev pub upload_of : List ℕ → Option UploadId
upload_of text = option_map (λ n. record { number = n }) (number_of text)
