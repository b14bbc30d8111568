-- Names of tenants, access keys, buckets and objects, ids, and tokens.
use Rattle.std.proofs.Common.{ℕ, true, false, List, [], ◌∷◌, ◌++◌, codes, replicate, Some, None, refl}
use Rattle.example_calls.proofs.Rows.{Holds}
use Rattle.std.specs.List.{flat_map}
use Rattle.hex.specs.Hex.{encode_with, decode_pairs}
use Rattle.bh_types.specs.Names.{is_tenant_name, is_key_name, is_secret, is_bucket_name, is_object_key}
use Rattle.bh_types.specs.Ids.{version_of, version_text, upload_of, upload_text}
use Rattle.bh_types.specs.Tokens.{token_text}
use Rattle.bh_types.specs.declared.id.VersionId.TheVariants.{Null, Numbered}

-- é so many times
abbrev e_acute : ℕ → List ℕ
e_acute count = flat_map {X = ℕ} (λ _. 195 ∷ 169 ∷ []) (replicate count 0)

-- Names of tenants and of access keys: 1 to 32 of a to z, 0 to 9.
names : Holds (
    (is_tenant_name [], false)
    ∷ (is_key_name [], false)
    ∷ (is_tenant_name (codes "a"), true)
    ∷ (is_key_name (codes "a"), true)
    ∷ (is_tenant_name (codes "z09"), true)
    ∷ (is_key_name (codes "z09"), true)
    ∷ (is_tenant_name (codes "abcdefghijklmnopqrstuvwxyz012345"), true)
    ∷ (is_key_name (codes "abcdefghijklmnopqrstuvwxyz012345"), true)
    ∷ (is_tenant_name (codes "abcdefghijklmnopqrstuvwxyz0123456"), false)
    ∷ (is_key_name (codes "abcdefghijklmnopqrstuvwxyz0123456"), false)
    ∷ (is_tenant_name (codes "Green"), false)
    ∷ (is_key_name (codes "Green"), false)
    ∷ (is_tenant_name (codes "green-1"), false)
    ∷ (is_key_name (codes "green-1"), false)
    ∷ (is_tenant_name (codes "gr" ++ (195 ∷ 188 ∷ []) ++ codes "n"), false)
    ∷ (is_key_name (codes "gr" ++ (195 ∷ 188 ∷ []) ++ codes "n"), false)
    ∷ [])
names = refl

-- Secrets: 8 to 64 of ! to ~.
secrets : Holds (
    (is_secret (codes "1234567"), false)
    ∷ (is_secret (codes "!234567~"), true)
    ∷ (is_secret (codes " 2345678"), false)
    ∷ (is_secret (codes "1234567" ++ (127 ∷ [])), false)
    ∷ (is_secret (replicate 64 120), true)
    ∷ (is_secret (codes "xxxxxxxxxxxxxxxxxxxxxxxxxxxxxxxxxxxxxxxxxxxxxxxxxxxxxxxxxxxxxxxxy"), false)
    ∷ [])
secrets = refl

-- Names of buckets. Those without a length of 63 or 64 are examples of the S3 User Guide or bend its rules.
buckets : Holds (
    (is_bucket_name (codes "ab"), false)
    ∷ (is_bucket_name (codes "abc"), true)
    ∷ (is_bucket_name (codes "my.example.s3.bucket"), true)
    ∷ (is_bucket_name (codes "amzn_s3_demo_bucket"), false)
    ∷ (is_bucket_name (codes "AmznS3DemoBucket"), false)
    ∷ (is_bucket_name (codes "amzn-s3-demo-bucket-"), false)
    ∷ (is_bucket_name (codes "-plans"), false)
    ∷ (is_bucket_name (codes ".plans"), false)
    ∷ (is_bucket_name (codes "pl..ans"), false)
    ∷ (is_bucket_name (codes "pl.-ans"), true)
    ∷ (is_bucket_name (codes "192.168.5.4"), false)
    ∷ (is_bucket_name (codes "192.168.5.4567"), true)
    ∷ (is_bucket_name (codes "192.168.5"), true)
    ∷ (is_bucket_name (codes "1.2.3.4.5"), true)
    ∷ (is_bucket_name (codes "192.168.5.a"), true)
    ∷ (is_bucket_name (replicate 63 98), true)
    ∷ (is_bucket_name (codes "bbbbbbbbbbbbbbbbbbbbbbbbbbbbbbbbbbbbbbbbbbbbbbbbbbbbbbbbbbbbbbbc"), false)
    ∷ [])
buckets = refl

-- Keys have 1 to 1,024 bytes.
keys : Holds (
    (is_object_key [], false)
    ∷ (is_object_key (codes "/"), true)
    ∷ (is_object_key (e_acute 512), true)
    ∷ (is_object_key (e_acute 512 ++ codes "k"), false)
    ∷ [])
keys = refl

-- Ids of versions are `null` or 16 lower hexadecimal digits.
version_ids : Holds (
    (version_of (codes "null"), Some Null)
    ∷ (version_of (codes "0000000000000001"), Some (Numbered 1))
    ∷ (version_of (codes "00000000000000ff"), Some (Numbered 255))
    ∷ (version_of (codes "ffffffffffffffff"), Some (Numbered 18446744073709551615))
    ∷ (version_of (codes "00000000000000FF"), None)
    ∷ (version_of (codes "00000000000000f"), None)
    ∷ (version_of (codes "00000000000000fff"), None)
    ∷ (version_of (codes "0x000000000000ff"), None)
    ∷ (version_of (codes "Null"), None)
    ∷ (version_of [], None)
    ∷ [])
unfolding encode_with decode_pairs
version_ids = refl

version_ids_printed : Holds (
    (version_text Null, codes "null")
    ∷ (version_text (Numbered 1), codes "0000000000000001")
    ∷ (version_text (Numbered 255), codes "00000000000000ff")
    ∷ (version_text (Numbered 18446744073709551615), codes "ffffffffffffffff")
    ∷ [])
unfolding encode_with decode_pairs
version_ids_printed = refl

-- Those of uploads are such digits alone.
upload_ids : Holds (
    (upload_of (codes "null"), None)
    ∷ (upload_of (codes "00000000000000A0"), None)
    ∷ (upload_of (codes "00000000000000a0"), Some (record { number = 160 }))
    ∷ [])
unfolding encode_with decode_pairs
upload_ids = refl

upload_ids_printed : Holds (
    (upload_text (record { number = 160 }), codes "00000000000000a0")
    ∷ [])
unfolding encode_with decode_pairs
upload_ids_printed = refl

-- A token is the hexadecimal digits of a name's bytes.
token : Holds (
    (token_text (codes "a/" ++ 195 ∷ 169 ∷ []), codes "612fc3a9")
    ∷ [])
unfolding encode_with decode_pairs
token = refl
