-- The days that follow 1 January 1970, one after another, are the dates of jiff by their day numbers.
use Rattle.std.proofs.Common.{◌≡◌, ℕ, zero, suc, ◌+◌, ◌<◌, ◌≤◌, inl, inr, refl, sym, ◌∙◌, arith, subst, pos}
use Rattle.std.proofs.lemmas.Bool.{cases_lt, lt-ltb, le-ltb}
use Rattle.jiff_core.specs.declared.civil.date.Date.{Date}
use Rattle.jiff_core.specs.Calendar.{days_from_civil, days_in_month}
use Rattle.jiff_core.specs.Date.{epoch_day}
use Rattle.jiff.specs.Words.{date_text}
use Rattle.jiff_core.proofs.CalendarLemmas.{days_in_month_bounds}
use Rattle.jiff_core.proofs.DateLemmas.{epoch_day_injective, days_from_civil-day, days_from_civil-next_month, days_from_civil-next_year, days_from_civil-max}
use Rattle.jiff_core.proofs.SignedLemmas.{signed_arith}
use Rattle.bh_types.specs.Moments.{Day, next_day, day_at, day_text}

-- the date of the day number n
pub record IsDay (n : ℕ) (d : Day) : Type 0 where
  pub number : days_from_civil (pos d.year) d.month d.day ≡ pos n
  pub year_low : 1970 ≤ d.year
  pub year_high : d.year ≤ 9999
  pub month_low : 1 ≤ d.month
  pub month_high : d.month ≤ 12
  pub day_low : 1 ≤ d.day
  pub day_high : d.day ≤ days_in_month (pos d.year) d.month

-- a day within a month
within : (n : ℕ) (d : Day) → IsDay n d → d.day < days_in_month (pos d.year) d.month
    → IsDay (n + 1) (record { year = d.year; month = d.month; day = d.day + 1 })
within n d h small =
    let step = days_from_civil-day (pos d.year) d.month d.day (d.day + 1) h.day_low (omega arith) in
    let number : days_from_civil (pos d.year) d.month (d.day + 1) ≡ pos (n + 1) = omega (arith, signed_arith, step, h.number) in
    record {
      number = number;
      year_low = h.year_low;
      year_high = h.year_high;
      month_low = h.month_low;
      month_high = h.month_high;
      day_low = omega arith;
      day_high = omega arith;
    }

-- the first of the next month
month_after : (n : ℕ) (d : Day) → IsDay n d → d.day ≡ days_in_month (pos d.year) d.month → d.month < 12
    → IsDay (n + 1) (record { year = d.year; month = d.month + 1; day = 1 })
month_after n d h last small =
    let step = days_from_civil-next_month (pos d.year) d.month d.day h.month_low last in
    let number : days_from_civil (pos d.year) (d.month + 1) 1 ≡ pos (n + 1) = omega (arith, signed_arith, step, h.number) in
    let long = days_in_month_bounds (pos d.year) (d.month + 1) in
    record {
      number = number;
      year_low = h.year_low;
      year_high = h.year_high;
      month_low = omega arith;
      month_high = omega arith;
      day_low = omega arith;
      day_high = omega arith;
    }

-- 1 January
year_after : (n : ℕ) (d : Day) → n < 2_932_896 → IsDay n d → d.day ≡ days_in_month (pos d.year) d.month → d.month ≡ 12
    → IsDay (n + 1) (record { year = d.year + 1; month = 1; day = 1 })
year_after n d room h last december =
    let P : ℕ → Type 0 = λ m. d.day ≡ days_in_month (pos d.year) m in
    let long : d.day ≡ 31 = subst P december last in
    let Q : ℕ → Type 0 = λ m. days_from_civil (pos d.year) m d.day ≡ pos n in
    let in_december : days_from_civil (pos d.year) 12 d.day ≡ pos n = subst Q december h.number in
    let R : ℕ → Type 0 = λ k. days_from_civil (pos d.year) 12 k ≡ pos n in
    let here : days_from_civil (pos d.year) 12 31 ≡ pos n = subst R long in_december in
    let step = days_from_civil-next_year (pos d.year) (pos (d.year + 1)) (omega (arith, signed_arith)) (omega (arith, signed_arith)) in
    let number : days_from_civil (pos (d.year + 1)) 1 1 ≡ pos (n + 1) = omega (arith, signed_arith, step, here) in
    let high : d.year + 1 ≤ 9999 = elim (cases_lt d.year 9999) [
      | inl lower ↦ omega arith
      | inr upper ↦
          let same : d.year ≡ 9999 = omega arith in
          let S : ℕ → Type 0 = λ y. days_from_civil (pos y) 12 31 ≡ pos n in
          let end : days_from_civil (pos 9999) 12 31 ≡ pos n = subst S same here in
          let max = days_from_civil-max in
          absurd (omega (arith, signed_arith, end, max))
    ] in
    record {
      number = number;
      year_low = omega arith;
      year_high = high;
      month_low = omega arith;
      month_high = omega arith;
      day_low = omega arith;
      day_high = omega arith;
    }

next : (n : ℕ) (d : Day) → n < 2_932_896 → IsDay n d → IsDay (n + 1) (next_day d)
next n d room h = elim (cases_lt d.day (days_in_month (pos d.year) d.month)) [
  | inl small ↦ rw (lt-ltb d.day (days_in_month (pos d.year) d.month) small) (within n d h small)
  | inr large ↦
      let last : d.day ≡ days_in_month (pos d.year) d.month = omega (arith, h.day_high) in
      elim (cases_lt d.month 12) [
        | inl small ↦ rw (le-ltb d.day (days_in_month (pos d.year) d.month) large, lt-ltb d.month 12 small) (month_after n d h last small)
        | inr december ↦ rw (le-ltb d.day (days_in_month (pos d.year) d.month) large, le-ltb d.month 12 december) (year_after n d room h last (omega (arith, h.month_high)))
      ]
]

first : IsDay 0 (record { year = 1970; month = 1; day = 1 })
unfolding days_from_civil
first = record {
  number = omega (arith, signed_arith);
  year_low = omega arith;
  year_high = omega arith;
  month_low = omega arith;
  month_high = omega arith;
  day_low = omega arith;
  day_high = omega arith;
}

pub IsDay-day_at : (n : ℕ) → n ≤ 2_932_896 → IsDay n (day_at n)
unfolding day_at
IsDay-day_at zero h = first
IsDay-day_at (suc n) h =
    let e : n + 1 ≡ suc n = omega arith in
    let P : ℕ → Type 0 = λ m. IsDay m (next_day (day_at n)) in
    subst P e (next n (day_at n) (omega arith) (IsDay-day_at n (omega arith)))

-- jiff's date of a day number is that day
pub date_is : (n : ℕ) (d : Date) → n ≤ 2_932_896 → epoch_day d ≡ pos n
    → (d.year ≡ pos (day_at n).year) × (d.month ≡ (day_at n).month) × (d.day ≡ (day_at n).day)
date_is n d room h =
    let k = IsDay-day_at n room in
    let low = k.year_low in
    let high = k.year_high in
    let other : Date = record {
      year = pos (day_at n).year;
      month = (day_at n).month;
      day = (day_at n).day;
      year_in = omega (arith, signed_arith, low, high);
      month_in = (k.month_low, k.month_high);
      day_in = (k.day_low, k.day_high);
    } in
    epoch_day_injective d other (h ∙ sym k.number)

pub epoch : (d : Date) → d.year ≡ pos 1970 → pos d.month ≡ pos 1 → pos d.day ≡ pos 1 → epoch_day d ≡ pos 0
unfolding days_from_civil
epoch d y m e =
    let month : d.month ≡ 1 = omega (arith, signed_arith) in
    let day : d.day ≡ 1 = omega (arith, signed_arith) in
    rw (y, month, day) (omega (arith, signed_arith))

-- the text that jiff writes of it
pub date_text-day_at : (n : ℕ) (d : Date) → n ≤ 2_932_896 → epoch_day d ≡ pos n → date_text d ≡ day_text (day_at n)
date_text-day_at n d room h =
    let same = date_is n d room h in
    rw (same.0, same.1, same.2) refl
