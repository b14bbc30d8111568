-- How many bytes a range has.
use Rattle.std.proofs.Common.{◌≡◌, ℕ, ◌<◌, ◌≤◌, ◌+◌, ◌-◌, Bool, true, false, nat_lt, min, List, length, take, drop, Option, Some, None, refl, inl, inr, arith, Ok, Err, Result}
use Rattle.std.specs.Prelude.{IfOk, IfSome, ◌&&◌, ◌==◌, nat_le, codes, position, option_and_then, if◌then◌else◌}
use Rattle.std.specs.Str.{str_eq_ignore_ascii_case}
use Rattle.bh_types.specs.Digits.{is_number}
use Rattle.std.proofs.lemmas.List.{length-take, length-drop}
use Rattle.std.proofs.lemmas.Bool.{cases_Bool, ltb-true, leb-true}
use Rattle.bh_types.specs.declared.range.RangePlan.{RangePlan}
use Rattle.bh_types.specs.declared.range.RangePlan.TheVariants.{Whole, Part}
use Rattle.bh_types.specs.declared.refusal.Refusal.{Refusal}
use Rattle.bh_types.specs.Ranges.{Asked, Asked.Between, Asked.From, Asked.Last, number_in, between, asked_by, is_hyphen, part, planned, planned_if_asked, range_of, asked_in, cut}
use Rattle.bh_core.specs.Laws.{LiesWithin, RangesLieWithin, PartsAreCut, plan_size}

-- a plan within the bytes cuts so many
cut_within : (plan : RangePlan) (bytes : List ℕ) → LiesWithin (length bytes) plan → length (cut plan bytes) ≡ plan_size (length bytes) plan
cut_within Whole bytes h = refl
cut_within (Part first last) bytes h = omega (arith, length-take (last + 1 - first) (drop first bytes), length-drop first bytes, h.0, h.1)

-- two positions that are asked for are in their order
abbrev IsOrdered : Asked → Type 0
IsOrdered (Between first last) = first ≤ last
IsOrdered (From first) = Unit {0}
IsOrdered (Last count) = Unit {0}

between_ordered : (first last : ℕ) → IfSome (between first last) IsOrdered
between_ordered first last = elim (cases_Bool (nat_le first last)) [
  | inl holds ↦ rw (holds) (leb-true first last holds)
  | inr fails ↦ rw (fails) tt
]

if_shapes : (A : Option Asked) (both from_on suffix : Bool) (from count : ℕ) → IfSome A IsOrdered
    → IfSome (if both then A else if from_on then Some (From from) else if suffix then Some (Last count) else None) IsOrdered
if_shapes A true from_on suffix from count h = h
if_shapes A false true suffix from count h = tt
if_shapes A false false true from count h = tt
if_shapes A false false false from count h = tt

asked_by_ordered : (before after : List ℕ) → IfSome (asked_by before after) IsOrdered
asked_by_ordered before after =
    if_shapes (between (number_in before) (number_in after)) (is_number before && is_number after) (is_number before && length after == 0) (length before == 0 && is_number after) (number_in before) (number_in after)
    (between_ordered (number_in before) (number_in after))

set_ordered : (set : List ℕ) (at : Option ℕ) → IfSome (option_and_then (λ i. asked_by (take i set) (drop (i + 1) set)) at) IsOrdered
set_ordered set None = tt
set_ordered set (Some i) = asked_by_ordered (take i set) (drop (i + 1) set)

if_set : (A : Option Asked) (has_unit : Bool) → IfSome A IsOrdered → IfSome (if has_unit then A else None) IsOrdered
if_set A true h = h
if_set A false h = tt

asked_ordered : (text : List ℕ) → IfSome (asked_in text) IsOrdered
asked_ordered text = if_set _ (str_eq_ignore_ascii_case (take 6 text) (codes "bytes=")) (set_ordered (drop 6 text) (position is_hyphen (drop 6 text)))

part_within : (has_bytes : Bool) (first last size : ℕ) → (has_bytes ≡ true → (first ≤ last) × (last < size)) → IfOk (part has_bytes first last) (LiesWithin size)
part_within true first last size h = h refl
part_within false first last size h = tt

planned_within : (asked : Asked) (size : ℕ) → IsOrdered asked → IfOk (planned asked size) (LiesWithin size)
planned_within (Between first last) size h = part_within (nat_lt first size) first (min last (size - 1)) size (λ t. let below = ltb-true first size t in (omega (arith, below, h), omega (arith, below, h)))
planned_within (From first) size h = part_within (nat_lt first size) first (size - 1) size (λ t. let below = ltb-true first size t in (omega (arith, below), omega (arith, below)))
planned_within (Last count) size h = part_within (nat_lt 0 (min count size)) (size - min count size) (size - 1) size (λ t. let some = ltb-true 0 (min count size) t in (omega (arith, some), omega (arith, some)))

if_asked_within : (asked : Option Asked) (size : ℕ) → IfSome asked IsOrdered → IfOk (planned_if_asked asked size) (LiesWithin size)
if_asked_within None size h = tt
if_asked_within (Some asked) size h = planned_within asked size h

pub ranges_lie_within : RangesLieWithin
ranges_lie_within None size = tt
ranges_lie_within (Some text) size = if_asked_within (asked_in text) size (asked_ordered text)

cut_ok : (plan : Result RangePlan Refusal) (bytes : List ℕ) → IfOk plan (LiesWithin (length bytes))
    → IfOk plan (λ plan. length (cut plan bytes) ≡ plan_size (length bytes) plan)
cut_ok (Ok plan) bytes h = cut_within plan bytes h
cut_ok (Err refusal) bytes h = tt

pub parts_are_cut : PartsAreCut
parts_are_cut text bytes = cut_ok (range_of text (length bytes)) bytes (ranges_lie_within text (length bytes))
