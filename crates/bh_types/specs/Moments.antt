-- Moments on the calendar of ISO 8601, and as texts.
use Rattle.std.specs.Prelude.{ℕ, zero, suc, ◌+◌, ◌*◌, ◌/◌, ◌%◌, ◌==◌, ◌&&◌, ◌||◌, not, Bool, List, [], ◌∷◌, ◌++◌, nat_lt, nat_le}
use Rattle.std.specs.Prelude.{unsigned_abs, Option, Some, None, option_and_then, if◌then◌else◌}
use Rattle.std.specs.Result.{result_ok}
use Rattle.std.specs.Str.{bytes_eq}
use Rattle.jiff.specs.Words.{parse_timestamp}

pub record Day : Type 0 where
  pub year : ℕ
  pub month : ℕ
  pub day : ℕ

-- every fourth year, but of the full hundreds only every fourth
-- RFC 3339, appendix C
abbrev pub is_leap_year : ℕ → Bool
is_leap_year year = year % 4 == 0 && (not (year % 100 == 0) || year % 400 == 0)

-- April, June, September and November have thirty days
-- RFC 3339, section 5.7
abbrev pub days_in_month : ℕ → ℕ → ℕ
days_in_month year month =
    if month == 2 then (if is_leap_year year then 29 else 28)
    else (if month == 4 || month == 6 || month == 9 || month == 11 then 30 else 31)

-- tomorrow
abbrev pub next_day : Day → Day
next_day d =
    if nat_lt d.day (days_in_month d.year d.month) then record { year = d.year; month = d.month; day = d.day + 1 }
    else if nat_lt d.month 12 then record { year = d.year; month = d.month + 1; day = 1 }
    else record { year = d.year + 1; month = 1; day = 1 }

-- the day that is that many days after 1 January 1970
unfoldable pub day_at : ℕ → Day
day_at zero = record { year = 1970; month = 1; day = 1 }
day_at (suc n) = next_day (day_at n)

-- a number below 100 in two digits, and one below 10,000 in four
abbrev pub two_digits : ℕ → List ℕ
two_digits n = (48 + n / 10) ∷ (48 + n % 10) ∷ []

abbrev pub four_digits : ℕ → List ℕ
four_digits n = two_digits (n / 100) ++ two_digits (n % 100)

-- YYYY-MM-DD; 45 is '-'
abbrev pub day_text : Day → List ℕ
day_text d = four_digits d.year ++ 45 ∷ [] ++ two_digits d.month ++ 45 ∷ [] ++ two_digits d.day

-- HH:MM:SS of a second of the day; 58 is ':'
abbrev pub time_text : ℕ → List ℕ
time_text s = two_digits (s / 3600) ++ 58 ∷ two_digits (s / 60 % 60) ++ 58 ∷ two_digits (s % 60)

-- YYYY-MM-DDTHH:MM:SSZ of seconds since 1970, each day having 86,400; 84 is 'T', 90 is 'Z'
-- RFC 3339, section 5.6
abbrev pub moment_text : ℕ → List ℕ
moment_text m = day_text (day_at (m / 86400)) ++ (84 ∷ (time_text (m % 86400) ++ 90 ∷ []))

-- the moment, in this many nanoseconds since 1970, with this text, if there is one
abbrev pub if_text_of : List ℕ → ℕ → Option ℕ
if_text_of text n = if bytes_eq (moment_text (n / 1_000_000_000)) text
    && nat_le n 251_000_000_000_000_000_000 then Some (n / 1_000_000_000) else None

-- the moment in a text
abbrev pub moment_of : List ℕ → Option ℕ
moment_of text = option_and_then (λ n. if_text_of text (unsigned_abs n)) (result_ok (parse_timestamp text))

-- when an upload that began at a moment becomes stale under a rule of some days: the midnight at
-- the end of the day that is that many days later
-- Amazon S3 API Reference, AbortIncompleteMultipartUpload, and x-amz-abort-date of CreateMultipartUpload
abbrev pub abort_moment : ℕ → ℕ → ℕ
abort_moment begun days = 86400 * (begun / 86400 + days + 1)
