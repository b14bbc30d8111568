-- Checksum texts: base64 (RFC 4648) of SHA-256 digests (FIPS 180-4).
use Rattle.std.specs.Prelude.{ℕ, List, ◌++◌, length, codes, decimal}
use Rattle.std.specs.List.{flat_map}
use Rattle.sha2.specs.Sha256.{sha256}
use Rattle.base64.specs.GeneralPurpose.{encode_of}
use Rattle.base64.specs.Engines.{standard}

-- the base64 of a digest
-- RFC 4648, section 4
abbrev pub digest_text : List ℕ → List ℕ
digest_text digest = encode_of standard digest

-- the base64 of the SHA-256 digest of the bytes
-- FIPS 180-4, section 6.2; Amazon S3 API Reference, PutObject: x-amz-checksum-sha256
abbrev pub checksum_text : List ℕ → List ℕ
checksum_text bytes = digest_text (sha256 bytes)

-- the checksum of the parts' digests joined, then `-` and the number of parts
-- Amazon S3 User Guide, "Checking object integrity for data uploads": composite checksums
abbrev pub joined_text : List (List ℕ) → List ℕ
joined_text digests = checksum_text (flat_map (λ d. d) digests) ++ codes "-" ++ decimal (length digests)
