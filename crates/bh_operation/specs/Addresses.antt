-- The bucket and the key that texts name for a caller.
use Rattle.std.specs.Prelude.{ℕ, ◌==◌, Bool, List, is_none, position, if◌then◌else◌, Result, Ok, Err}
use Rattle.std.specs.List.{before_first, after_first}
use Rattle.std.specs.Str.{bytes_eq}
use Rattle.bh_types.specs.Names.{is_bucket_name, is_object_key}
use Rattle.bh_types.specs.Outcomes.{◌>>=◌}
use Rattle.bh_types.specs.declared.refusal.Refusal.{Refusal}
use Rattle.bh_types.specs.declared.refusal.Refusal.TheVariants.{AccessDenied, InvalidBucketName, KeyTooLong}
use Rattle.bh_operation.specs.declared.address.ObjectName.{ObjectName}

-- 58 is ':'
abbrev pub is_colon : ℕ → Bool
is_colon b = b == 58

-- the name in `tenant:bucket`, whose tenant must be the caller; a text with no colon is a name alone
-- Ceph Object Gateway, "Multitenancy": `tenant:bucket`
unfoldable pub own_part : List ℕ → List ℕ → Result (List ℕ) Refusal
own_part caller text =
    if is_none (position is_colon text) then Ok text
    else if bytes_eq (before_first is_colon text) caller then Ok (after_first is_colon text)
    else Err AccessDenied

unfoldable pub bucket_name : List ℕ → Result (List ℕ) Refusal
bucket_name text = if is_bucket_name text then Ok text else Err InvalidBucketName

unfoldable pub object_key : List ℕ → Result (List ℕ) Refusal
object_key text = if is_object_key text then Ok text else Err KeyTooLong

-- the caller's bucket that a text names, which depends on the text alone
unfoldable pub bucket_named : List ℕ → List ℕ → Result (List ℕ) Refusal
bucket_named caller text = do
  name ← own_part caller text
  bucket_name name

-- the caller's object that two texts name
unfoldable pub object_named : List ℕ → List ℕ → List ℕ → Result ObjectName Refusal
object_named caller text key_text = do
  bucket ← bucket_named caller text
  key ← object_key key_text
  Ok (record { bucket = bucket; key = key })
