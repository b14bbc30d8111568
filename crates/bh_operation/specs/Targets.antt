-- The target of a request: its path and its query, the route of the path, and the names in it.
use Rattle.std.specs.Prelude.{ℕ, ◌&&◌, ◌||◌, ◌==◌, not, Bool, true, false, List, [], ◌∷◌, drop, Option, Some, None, option_and_then}
use Rattle.std.specs.Prelude.{if◌then◌else◌, Result, Ok, Err}
use Rattle.std.specs.Char.{is_ascii_hexdigit}
use Rattle.std.specs.List.{before_first, after_first}
use Rattle.std.specs.Str.{is_utf8}
use Rattle.percent_encoding.specs.Percent.{percent_decode}
use Rattle.bh_types.specs.declared.refusal.Refusal.{Refusal}
use Rattle.bh_types.specs.declared.refusal.Refusal.TheVariants.{InvalidUri}
use Rattle.bh_types.specs.Outcomes.{◌>>=◌}
use Rattle.bh_operation.specs.declared.target.Kind.{Kind}
use Rattle.bh_operation.specs.declared.target.Kind.TheVariants as kind
use Rattle.bh_operation.specs.declared.target.Target.{Target}
use Rattle.bh_operation.specs.declared.target.Target.TheVariants.{Host, Bucket, Object}

-- 63 is '?', 47 is '/', 37 is '%'
abbrev pub is_question : ℕ → Bool
is_question b = b == 63

abbrev pub is_slash : ℕ → Bool
is_slash b = b == 47

abbrev pub is_percent : ℕ → Bool
is_percent b = b == 37

-- RFC 3986, section 3.3
abbrev pub path_of : List ℕ → List ℕ
path_of target = before_first is_question target

-- RFC 3986, section 3.4
abbrev pub query_of : List ℕ → List ℕ
query_of target = after_first is_question target

abbrev pub begins_with_digits : List ℕ → Bool
begins_with_digits [] = false
begins_with_digits (high ∷ []) = false
begins_with_digits (high ∷ low ∷ rest) = is_ascii_hexdigit high && is_ascii_hexdigit low

-- each percent sign is followed by two hexadecimal digits
-- RFC 3986, section 2.1
abbrev pub has_whole_escapes : List ℕ → Bool
has_whole_escapes [] = true
has_whole_escapes (b ∷ rest) = (not (is_percent b) || begins_with_digits rest) && has_whole_escapes rest

-- the text of bytes, if they are UTF-8
abbrev pub text_of : List ℕ → Option (List ℕ)
text_of bytes = if is_utf8 bytes then Some bytes else None

-- the text that percent-encoded bytes encode, if they do
-- RFC 3986, section 2.1
abbrev pub decoded : List ℕ → Option (List ℕ)
decoded bytes = if has_whole_escapes bytes then text_of (percent_decode bytes) else None

-- a bucket that is not empty, with or without a key
abbrev pub kind_with : List ℕ → List ℕ → Option Kind
kind_with [] key = None
kind_with (b ∷ bucket) [] = Some kind.Bucket
kind_with (b ∷ bucket) (k ∷ key) = Some kind.Object

-- after a path's first slash there is nothing, a bucket, or a bucket, a slash and a key
abbrev pub kind_in : List ℕ → Option Kind
kind_in [] = Some kind.Host
kind_in (b ∷ rest) = kind_with (before_first is_slash (b ∷ rest)) (after_first is_slash (b ∷ rest))

-- the kind of a path's target: `/`, `/bucket`, `/bucket/` or `/bucket/key`
-- Amazon S3 User Guide, "Path-style requests"
abbrev pub kind_at : List ℕ → Option Kind
kind_at [] = None
kind_at (b ∷ rest) = if is_slash b then kind_in rest else None

-- the kind of a path, if it has one
abbrev pub kind_of : List ℕ → Option Kind
kind_of path = option_and_then kind_at (text_of path)

abbrev pub or_invalid_uri : {A : Type 0} → Option A → Result A Refusal
or_invalid_uri None = Err InvalidUri
or_invalid_uri (Some x) = Ok x

-- first step: the path has a kind
unfoldable pub routed : List ℕ → Result Kind Refusal
routed path = or_invalid_uri (kind_of path)

-- the bytes between the first slash and the next, and all bytes after that
abbrev pub bucket_part : List ℕ → List ℕ
bucket_part path = before_first is_slash (drop 1 path)

abbrev pub key_part : List ℕ → List ℕ
key_part path = after_first is_slash (drop 1 path)

unfoldable pub name_at : List ℕ → Result (List ℕ) Refusal
name_at part = or_invalid_uri (decoded part)

-- second step: the names in the path are decoded once
unfoldable pub target_at : Kind → List ℕ → Result Target Refusal
target_at kind.Host path = Ok Host
target_at kind.Bucket path = do
  bucket ← name_at (bucket_part path)
  Ok (Bucket bucket)
target_at kind.Object path = do
  bucket ← name_at (bucket_part path)
  key ← name_at (key_part path)
  Ok (Object bucket key)
