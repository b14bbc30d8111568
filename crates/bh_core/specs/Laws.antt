-- Evidence that a range is the intended one.
use Rattle.std.specs.Prelude.{◌≡◌, ℕ, ◌+◌, ◌-◌, ◌^◌, ◌<◌, ◌≤◌, List, [], ◌∷◌, ◌++◌, length, codes, Option, Some, IfOk}
use Rattle.std.specs.Fmt.{decimal}
use Rattle.bh_types.specs.Ranges.{Asked, Asked.Between, Asked.From, Asked.Last, asked_in, range_of, cut}
use Rattle.bh_types.specs.declared.range.RangePlan.{RangePlan}
use Rattle.bh_types.specs.declared.range.RangePlan.TheVariants.{Whole, Part}

-- a part has at least one byte, and lies within the object
abbrev pub LiesWithin : ℕ → RangePlan → Type 0
LiesWithin size Whole = Unit {0}
LiesWithin size (Part first last) = (first ≤ last) × (last < size)

abbrev pub RangesLieWithin : Type 0
RangesLieWithin = (text : Option (List ℕ)) (size : ℕ) → IfOk (range_of text size) (LiesWithin size)

-- the number of bytes in a plan for a body of a size
abbrev pub plan_size : ℕ → RangePlan → ℕ
plan_size size Whole = size
plan_size size (Part first last) = last + 1 - first

abbrev pub PartsAreCut : Type 0
PartsAreCut = (text : Option (List ℕ)) (bytes : List ℕ)
    → IfOk (range_of text (length bytes)) (λ plan. length (cut plan bytes) ≡ plan_size (length bytes) plan)

-- a Range field as it is written for a range of bytes; 45 is '-'
-- RFC 9110, section 14.1.1
abbrev pub written : Asked → List ℕ
written (Between first last) = codes "bytes=" ++ (decimal first ++ 45 ∷ decimal last)
written (From first) = codes "bytes=" ++ (decimal first ++ 45 ∷ [])
written (Last count) = codes "bytes=" ++ 45 ∷ decimal count

-- numbers up to 2^62, and two positions in their order
abbrev pub CanBeAsked : Asked → Type 0
CanBeAsked (Between first last) = (first ≤ last) × (last ≤ 2 ^ 62)
CanBeAsked (From first) = first ≤ 2 ^ 62
CanBeAsked (Last count) = count ≤ 2 ^ 62

-- each range that is written so is parsed as itself
abbrev pub WrittenIsAsked : Type 0
WrittenIsAsked = (asked : Asked) → CanBeAsked asked → asked_in (written asked) ≡ Some asked
