-- The text of a moment is the one text of jiff's that its reader takes for it.
use Rattle.std.proofs.Common.{◌≡◌, ◌≢◌, ℕ, ◌+◌, ◌*◌, ◌/◌, ◌%◌, ◌≤◌, List, [], ◌∷◌, ◌++◌, Bool, true, false, cond, ◌&&◌, nat_le, pos, ℤ, unsigned_abs, Option, Some, None, option_and_then, Result, Ok, Err, refl, sym, ap, ap₂, subst, ◌∙◌, arith, le-leb, leb-true}
use Rattle.std.proofs.lemmas.List.{append_assoc}
use Rattle.std.proofs.lemmas.Bool.{and_parts}
use Rattle.std.proofs.lemmas.Option.{none-some, same_Some}
use Rattle.std.proofs.lemmas.Slice.Eq.{bytes_eq-Decides}
use Rattle.std.specs.Result.{result_ok}
use Rattle.std.specs.Str.{bytes_eq}
use Rattle.jiff_core.specs.declared.civil.time.Time.{Time}
use Rattle.jiff_core.specs.declared.civil.datetime.DateTime.{DateTime}
use Rattle.jiff_core.specs.declared.timestamp.Timestamp.{Timestamp}
use Rattle.jiff_core.specs.Date.{epoch_day}
use Rattle.jiff_core.specs.DateTime.{civil_nanos}
use Rattle.jiff_core.proofs.SignedLemmas.{signed_arith}
use Rattle.jiff.specs.Words.{Error, date_text, time_text, datetime_text, timestamp_view, parse_timestamp}
use Rattle.jiff_fmt.specs.Printer.{options, IsTimestampText}
use Rattle.jiff_fmt.specs.Text.{zulu_text}
use Rattle.jiff_fmt.specs.declared.temporal.printer.DateTimePrinter.{DateTimePrinter}
use Rattle.jiff_fmt.proofs.RoundTrip.{parse_timestamp-text}
use Rattle.bh_types.specs.Moments as spec
use Rattle.bh_types.specs.Moments.{day_at, moment_text, moment_of}
use Rattle.bh_types.proofs.Days.{IsDay-day_at, date_text-day_at}

-- a clock that shows a moment
pub record Shows (m : ℕ) (dt : DateTime) : Type 0 where
  pub day : epoch_day dt.date ≡ pos (m / 86400)
  pub hour : dt.time.hour ≡ m % 86400 / 3600
  pub minute : dt.time.minute ≡ m % 86400 / 60 % 60
  pub second : dt.time.second ≡ m % 86400 % 60
  pub whole : dt.time.subsec_nanosecond ≡ 0

shown : (m : ℕ) (dt : DateTime) → civil_nanos dt ≡ pos (m * 1_000_000_000) → Shows m dt
unfolding civil_nanos
shown m dt h =
    let t : Time = dt.time in
    let hours = t.hour_in in
    let minutes = t.minute_in in
    let seconds = t.second_in in
    let fraction = t.subsec_in in
    let day : epoch_day dt.date ≡ pos (m / 86400) = omega (arith, signed_arith, h, hours, minutes, seconds, fraction) in
    let rest : (t.hour * 3600 + t.minute * 60 + t.second) * 1_000_000_000 + t.subsec_nanosecond ≡ m % 86400 * 1_000_000_000 = omega (arith, signed_arith, h, day) in
    let whole : t.subsec_nanosecond ≡ 0 = omega (arith, rest, fraction) in
    let sum : t.hour * 3600 + t.minute * 60 + t.second ≡ m % 86400 = omega (arith, rest, whole) in
    record {
      day = day;
      hour = omega (arith, sum, minutes, seconds);
      minute = omega (arith, sum, minutes, seconds);
      second = omega (arith, sum, seconds);
      whole = whole;
    }

-- what is printed of an instant that is a moment
pub printed_is : (m : ℕ) (dt : DateTime) → m ≤ 251_000_000_000 → civil_nanos dt ≡ pos (m * 1_000_000_000) → datetime_text false 84 None dt ++ zulu_text false ≡ moment_text m
printed_is m dt room h =
    let s = shown m dt h in
    let date : date_text dt.date ≡ spec.day_text (day_at (m / 86400)) = date_text-day_at (m / 86400) dt.date (omega (arith, room)) s.day in
    let clock : time_text None dt.time ≡ spec.time_text (m % 86400) = rw (s.hour, s.minute, s.second, s.whole) refl in
    append_assoc (date_text dt.date) (84 ∷ time_text None dt.time) (90 ∷ []) ∙ ap₂ (λ d t. d ++ (84 ∷ (t ++ 90 ∷ []))) date clock

-- the clock at a moment
clock_at : (m : ℕ) → m ≤ 251_000_000_000 → DateTime
clock_at m room =
    let k = IsDay-day_at (m / 86400) (omega (arith, room)) in
    let low = k.year_low in
    let high = k.year_high in
    record {
      date = record {
        year = pos (day_at (m / 86400)).year;
        month = (day_at (m / 86400)).month;
        day = (day_at (m / 86400)).day;
        year_in = omega (arith, signed_arith, low, high);
        month_in = (k.month_low, k.month_high);
        day_in = (k.day_low, k.day_high);
      };
      time = record {
        hour = m % 86400 / 3600;
        minute = m % 86400 / 60 % 60;
        second = m % 86400 % 60;
        subsec_nanosecond = 0;
        hour_in = omega arith;
        minute_in = omega arith;
        second_in = omega arith;
        subsec_in = omega arith;
      };
    }

clock-nanos : (m : ℕ) (room : m ≤ 251_000_000_000) → civil_nanos (clock_at m room) ≡ pos (m * 1_000_000_000)
unfolding civil_nanos clock_at
clock-nanos m room =
    let day = (IsDay-day_at (m / 86400) (omega (arith, room))).number in
    omega (arith, signed_arith, day)

-- what the reader makes of a moment's text
pub parses : (m : ℕ) → m ≤ 251_000_000_000 → parse_timestamp (moment_text m) ≡ Ok (pos (m * 1_000_000_000))
parses m room =
    let dt = clock_at m room in
    let nanos = clock-nanos m room in
    let t : Timestamp = record { nanosecond = pos (m * 1_000_000_000); in_range = (omega (arith, signed_arith), omega (arith, signed_arith, room)) } in
    subst (λ text. parse_timestamp text ≡ Ok (pos (m * 1_000_000_000))) (printed_is m dt room nanos) (parse_timestamp-text dt t nanos)

-- a moment's text is read as the moment
pub reads : (m : ℕ) (text : List ℕ) → m ≤ 251_000_000_000 → moment_text m ≡ text → moment_of text ≡ Some m
reads m text room same =
    let back : m * 1_000_000_000 / 1_000_000_000 ≡ m = omega arith in
    let fits : nat_le (m * 1_000_000_000) 251_000_000_000_000_000_000 ≡ true = le-leb _ _ (omega (arith, room)) in
    let equal : bytes_eq (moment_text m) text ≡ true = (bytes_eq-Decides (moment_text m) text).1 same in
    let read : parse_timestamp text ≡ Ok (pos (m * 1_000_000_000)) = subst (λ x. parse_timestamp x ≡ Ok (pos (m * 1_000_000_000))) same (parses m room) in
    ap (λ r. option_and_then (λ n. spec.if_text_of text (unsigned_abs n)) (result_ok r)) read
    ∙ subst (λ k. cond (bytes_eq (moment_text k) text && nat_le (m * 1_000_000_000) 251_000_000_000_000_000_000) (Some k) None ≡ Some m) (sym back) (ap₂ (λ a b. cond (a && b) (Some m) None) equal fits)

-- and what is read has that text
pub read_has : (m : ℕ) (text : List ℕ) → moment_of text ≡ Some m → (moment_text m ≡ text) × (m ≤ 251_000_000_000)
read_has m text is = at (result_ok (parse_timestamp text)) is
  where
    tested : (n : ℕ) (b : Bool) → bytes_eq (moment_text (n / 1_000_000_000)) text && nat_le n 251_000_000_000_000_000_000 ≡ b → cond b (Some (n / 1_000_000_000)) None ≡ Some m
        → (moment_text m ≡ text) × (m ≤ 251_000_000_000)
    tested n false e none = absurd (none-some m none)
    tested n true e some =
        let parts = and_parts _ _ e in
        let same : n / 1_000_000_000 ≡ m = same_Some _ _ some in
        let small = leb-true _ _ parts.1 in
        (ap moment_text (sym same) ∙ (bytes_eq-Decides (moment_text (n / 1_000_000_000)) text).0 parts.0, omega (arith, small, same))

    at : (o : Option ℤ) → option_and_then (λ n. spec.if_text_of text (unsigned_abs n)) o ≡ Some m → (moment_text m ≡ text) × (m ≤ 251_000_000_000)
    at None none = absurd (none-some m none)
    at (Some n) some = tested (unsigned_abs n) _ refl some

-- so where no moment has a text, none is read
pub reads_none : (text : List ℕ) → ((m : ℕ) → m ≤ 251_000_000_000 → text ≢ moment_text m) → None ≡ moment_of text
reads_none text never = at (moment_of text) refl
  where
    at : (o : Option ℕ) → moment_of text ≡ o → None ≡ o
    at None e = refl
    at (Some m) e = let has = read_has m text e in absurd (never m has.1 (sym has.0))

-- what a printer of jiff's writes of an instant that is a moment
pub printed_by : (p : DateTimePrinter) (t : Timestamp) (m : ℕ) (text : List ℕ) → options p ≡ (false, 84, None) → IsTimestampText p t text → m ≤ 251_000_000_000 → t.nanosecond ≡ pos (m * 1_000_000_000)
    → text ≡ moment_text m
printed_by p t m text plain h room is =
    let lower : p.lowercase ≡ false = ap (λ x. x.0) plain in
    let separator : p.separator ≡ 84 = ap (λ x. x.1) plain in
    let precision : p.precision ≡ None = ap (λ x. x.2) plain in
    rw (h.2, lower, separator, precision) (printed_is m h.0 room (h.1 ∙ is))

-- the instant that the reader finds in a moment's text
pub read_nanos : (m : ℕ) (text : List ℕ) (r : Result Timestamp Error) (t : Timestamp) → m ≤ 251_000_000_000 → text ≡ moment_text m → timestamp_view r ≡ parse_timestamp text → r ≡ Ok t
    → t.nanosecond ≡ pos (m * 1_000_000_000)
read_nanos m text r t room same read is =
    let Views : Type 0 = Result ℤ Error in
    let both : ◌≡◌ {A = Views} (Ok t.nanosecond) (Ok (pos (m * 1_000_000_000))) = ap timestamp_view (sym is) ∙ read ∙ ap parse_timestamp same ∙ parses m room in
    cc both

-- so it finds one
pub read_found : (m : ℕ) (text : List ℕ) (r : Result Timestamp Error) (e : Error) → m ≤ 251_000_000_000 → text ≡ moment_text m → timestamp_view r ≡ parse_timestamp text → r ≡ Err e → ⊥
read_found m text r e room same read is =
    let Views : Type 0 = Result ℤ Error in
    let both : ◌≡◌ {A = Views} (Err e) (Ok (pos (m * 1_000_000_000))) = ap timestamp_view (sym is) ∙ read ∙ ap parse_timestamp same ∙ parses m room in
    cc both
