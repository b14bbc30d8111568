-- Sums over rows, by name.
use Rattle.std.specs.Prelude.{◌≡◌, ℕ, pos, if◌then◌else◌, List, length, sum_by, unwrap_or, Option, Some, None}
use Rattle.std.specs.declared.cmp.Ordering.{Ordering}
use Rattle.std.specs.Ordering.{nat_cmp, int_eq, ordering_then}
use Rattle.std.specs.Cmp.Lexicographic.{slice_cmp}
use Rattle.std.specs.BTreeMap.{get}
use Rattle.std.specs.Prelude.{Vec}
use Rattle.std.specs.declared.alloc.Global.{Global}
use Rattle.sqlite.specs.Order.{Row, column}
use Rattle.sqlite_typed.specs.Columns.{bytes_of}
use Rattle.bh_tables.specs.Typed.{column_number}
use Rattle.bh_tables.specs.Bodies.{Name, same_name}
use Rattle.bh_check.specs.declared.sums.Amount.{Amount}
use Rattle.bh_check.specs.declared.sums.Amount.TheVariants.{One, Number, Length, Is}
use Rattle.bh_check.specs.declared.sums.Grouping.{Grouping}
use Rattle.bh_check.specs.declared.sums.Sums.{Sums}

-- the sum of the amounts of a name's rows
abbrev pub total : {T : Type 0} → (T → Name) → (T → ℕ) → List T → Name → ℕ
total name amount rows q = sum_by (λ r. if same_name (name r) q then amount r else 0) rows

-- ---- rows in groups

abbrev pub number_or_none : Row → Option ℕ → ℕ
number_or_none r None = 0
number_or_none r (Some at) = column_number (column r at)

-- the columns of a name
abbrev pub name_at : ℕ × Option ℕ → Row → Name
name_at at r = (bytes_of (column r at.0), number_or_none r at.1)

abbrev pub name_in : Grouping → Row → Name
name_in by = name_at (by.text, by.number)

abbrev pub adds : Row → Amount → ℕ
adds r One = 1
adds r (Number at) = column_number (column r at)
adds r (Length at) = length (bytes_of (column r at))
adds r (Is at n) = if int_eq (pos (column_number (column r at))) (pos n) then 1 else 0

-- the amount that a row adds
abbrev pub amount_in : Grouping → Row → ℕ
amount_in by r = adds r by.amount

-- ---- the sums

abbrev pub Key : Type 0
Key = Vec ℕ Global × ℕ

abbrev pub key_name : Key → Name
key_name k = (k.0.items, k.1)

abbrev pub key_cmp : Key → Key → Ordering
key_cmp a b = ordering_then (slice_cmp nat_cmp a.0.items b.0.items) (nat_cmp a.1 b.1)

unfoldable pub kept_at : Sums → Key → ℕ
kept_at s k = unwrap_or (get key_cmp s.totals k) 0

-- each name has this number
pub record Keeps (of : Name → ℕ) (s : Sums) : Type 0 where
  pub each : (k : Key) → kept_at s k ≡ of (key_name k)

-- the sum of the amounts of the name's rows
abbrev pub IsSumOf : {T : Type 0} → (T → Name) → (T → ℕ) → List T → Sums → Type 0
IsSumOf name amount rows s = Keeps (total name amount rows) s
