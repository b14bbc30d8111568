-- The bytes of an object that a Range field requests.
use Rattle.std.specs.Prelude.{ℕ, ◌+◌, ◌-◌, ◌^◌, min, Bool, ◌&&◌, ◌==◌, nat_le, nat_lt, List, length, take, drop, codes, position, Option}
use Rattle.std.specs.Prelude.{Some, None, option_and_then, Result, Ok, Err, if◌then◌else◌}
use Rattle.std.specs.Str.{str_eq_ignore_ascii_case}
use Rattle.std.specs.Str.Parse.{digits_value}
use Rattle.bh_types.specs.Digits.{is_number}
use Rattle.bh_types.specs.declared.range.RangePlan.{RangePlan}
use Rattle.bh_types.specs.declared.range.RangePlan.TheVariants.{Whole, Part}
use Rattle.bh_types.specs.declared.refusal.Refusal.{Refusal}
use Rattle.bh_types.specs.declared.refusal.Refusal.TheVariants.{InvalidRange}

-- a requested range: the bytes between two positions, both included; those from a position on; the
-- last bytes, by number
pub data Asked : Type 0 where
  Between : (first last : ℕ) → Asked
  From : (first : ℕ) → Asked
  Last : (count : ℕ) → Asked

-- the value of digits; above 2^62 it counts as 2^62
abbrev pub number_in : List ℕ → ℕ
number_in digits = min (digits_value 10 digits) (2 ^ 62)

abbrev pub between : ℕ → ℕ → Option Asked
between first last = if nat_le first last then Some (Between first last) else None

-- the range, by the texts before and after the hyphen
-- RFC 9110, section 14.1.1: int-range and suffix-range
abbrev pub asked_by : List ℕ → List ℕ → Option Asked
asked_by before after =
    if is_number before && is_number after then between (number_in before) (number_in after)
    else if is_number before && length after == 0 then Some (From (number_in before))
    else if length before == 0 && is_number after then Some (Last (number_in after))
    else None

-- 45 is '-'
abbrev pub is_hyphen : ℕ → Bool
is_hyphen b = b == 45

-- one range: several have a comma, and so none of them is parsed
abbrev pub asked_in_set : List ℕ → Option Asked
asked_in_set set = option_and_then (λ i. asked_by (take i set) (drop (i + 1) set)) (position is_hyphen set)

-- the request of a Range field, if it is one range of bytes
-- RFC 9110, sections 14.1 and 14.1.2
abbrev pub asked_in : List ℕ → Option Asked
asked_in text = if str_eq_ignore_ascii_case (take 6 text) (codes "bytes=") then asked_in_set (drop 6 text) else None

abbrev pub part : Bool → ℕ → ℕ → Result RangePlan Refusal
part has_bytes first last = if has_bytes then Ok (Part first last) else Err InvalidRange

-- the requested bytes that an object of a size has
-- RFC 9110, sections 14.1.2 and 15.5.17 (416 if the object has none of its bytes)
abbrev pub planned : Asked → ℕ → Result RangePlan Refusal
planned (Between first last) size = part (nat_lt first size) first (min last (size - 1))
planned (From first) size = part (nat_lt first size) first (size - 1)
planned (Last count) size = part (nat_lt 0 (min count size)) (size - min count size) (size - 1)

-- a field without a range is ignored
abbrev pub planned_if_asked : Option Asked → ℕ → Result RangePlan Refusal
planned_if_asked None size = Ok Whole
planned_if_asked (Some asked) size = planned asked size

-- the bytes to return of an object of a size, given the request's Range field, if it has one
-- Amazon S3 API Reference, GetObject: Range; RFC 9110, section 14.2
abbrev pub range_of : Option (List ℕ) → ℕ → Result RangePlan Refusal
range_of None size = Ok Whole
range_of (Some text) size = planned_if_asked (asked_in text) size

-- the bytes in a plan
abbrev pub cut : RangePlan → List ℕ → List ℕ
cut Whole bytes = bytes
cut (Part first last) bytes = take (last + 1 - first) (drop first bytes)
