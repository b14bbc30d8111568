-- The rules for names, as tests that compute.
use Rattle.std.specs.Prelude.{ℕ, ◌+◌, ◌-◌, Bool, ◌&&◌, ◌||◌, not, nat_le, ◌==◌, List, length, take, drop, if◌then◌else◌, false, Option}
use Rattle.std.specs.Prelude.{Some, None, position, unwrap_or, option_map, option_and_then, slice_index}
use Rattle.std.specs.List.{list_all, list_any, zip}
use Rattle.std.specs.Char.{is_ascii_lowercase, is_ascii_digit}

-- the number of bytes is in a range
abbrev pub has_length : ℕ → ℕ → List ℕ → Bool
has_length low high text = nat_le low (length text) && nat_le (length text) high

-- a to z, 0 to 9
abbrev pub is_name_byte : ℕ → Bool
is_name_byte b = is_ascii_lowercase b || is_ascii_digit b

-- 1 to 32 of a to z, 0 to 9
abbrev pub is_name : List ℕ → Bool
is_name text = has_length 1 32 text && list_all is_name_byte text

abbrev pub is_tenant_name : List ℕ → Bool
is_tenant_name text = is_name text

abbrev pub is_key_name : List ℕ → Bool
is_key_name text = is_name text

-- visible ASCII: '!' to '~'
-- RFC 5234, appendix B.1: VCHAR
abbrev pub is_secret_byte : ℕ → Bool
is_secret_byte b = nat_le 33 b && nat_le b 126

-- 8 to 64 visible ASCII characters
abbrev pub is_secret : List ℕ → Bool
is_secret text = has_length 8 64 text && list_all is_secret_byte text

-- 46 is '.', 45 is '-'
abbrev pub is_dot : ℕ → Bool
is_dot b = b == 46

-- a to z, 0 to 9, dot, hyphen
abbrev pub is_bucket_byte : ℕ → Bool
is_bucket_byte b = is_name_byte b || is_dot b || b == 45

-- two dots together
abbrev pub has_dots_together : List ℕ → Bool
has_dots_together text = list_any (λ p. is_dot p.0 && is_dot p.1) (zip text (drop 1 text))

-- 1 to 3 digits
abbrev pub is_group : List ℕ → Bool
is_group text = has_length 1 3 text && list_all is_ascii_digit text

-- the text after a group and a dot
abbrev pub after_group : List ℕ → Option (List ℕ)
after_group text =
    option_and_then (λ at. if is_group (take at text) then Some (drop (at + 1) text) else None) (position is_dot text)

-- four groups of 1 to 3 digits joined by dots, as an IPv4 address is written
abbrev pub is_four_groups : List ℕ → Bool
is_four_groups text =
    unwrap_or (option_map is_group (option_and_then after_group (option_and_then after_group (after_group text)))) false

-- 3 to 63 of a to z, 0 to 9, dot, hyphen; first and last a letter or digit; no two dots together; not four groups
-- Amazon S3 User Guide, "General purpose bucket naming rules", without the forbidden prefixes and suffixes
abbrev pub is_bucket_name : List ℕ → Bool
is_bucket_name text =
    has_length 3 63 text && list_all is_bucket_byte text
    && is_name_byte (slice_index text 0) && is_name_byte (slice_index text (length text - 1))
    && not (has_dots_together text) && not (is_four_groups text)

-- 1 to 1,024 bytes; that they are UTF-8 is known of each `&str`
-- Amazon S3 User Guide, "Naming Amazon S3 objects"
abbrev pub is_object_key : List ℕ → Bool
is_object_key text = has_length 1 1024 text
