-- What is decided of the completion of an upload, of quotas and of stale uploads.
use Rattle.std.proofs.Common.{◌≡◌, ℕ, true, false, List, [], ◌∷◌, codes, Some, None, Ok, Err, refl}
use Rattle.example_calls.proofs.Rows.{Holds}
use Rattle.std.specs.FinMap.{empty}
use Rattle.std.specs.String.{string_bytes}
use Rattle.std.specs.declared.string.String.{String}
use Rattle.bh_types.specs.declared.refusal.Refusal.TheVariants.{InvalidPart, InvalidPartOrder, EntityTooSmall}
use Rattle.bh_model.specs.State.{Upload, is_stale, fresh}
use Rattle.bh_model.specs.Quotas.{fits_quota}
use Rattle.bh_model.specs.Parts.{Naming}
use Rattle.bh_core.specs.Completions.{complete_plan}
use Rattle.bh_core.specs.declared.parts.PartRow.{PartRow}

-- a part as it is named, without a checksum and with one
abbrev plain : ℕ → Naming
plain number = record { number = number; checksum = None }

abbrev with_sum : ℕ → List ℕ → Naming
with_sum number sum = record { number = number; checksum = Some sum }

-- the checksums of an upload's parts
module _ (a b c d : String (Rattle.std.specs.contracts.alloc.Global.the_row).Denot) where
  -- a part's number, its size and its checksum
  abbrev part : ℕ → ℕ → String (Rattle.std.specs.contracts.alloc.Global.the_row).Denot → PartRow
  part number size sum = record { number = number; size = size; sum = sum }

  abbrev four : List PartRow
  four = part 1 5 a ∷ part 2 4 b ∷ part 5 4 c ∷ part 10000 1 d ∷ []

  abbrev a_small_one : List PartRow
  a_small_one = part 1 3 a ∷ part 2 4 b ∷ []

  abbrev empty_ones : List PartRow
  empty_ones = part 1 0 a ∷ part 2 0 b ∷ []

  abbrev one : List PartRow
  one = part 1 5 a ∷ []

  abbrev in_another_order : List PartRow
  in_another_order = part 5 4 c ∷ part 2 4 b ∷ part 1 4 a ∷ []

  -- The least size of a part, an upload's parts, and those that its completion names: their places (Amazon S3 API Reference,
  -- CompleteMultipartUpload); the order of the refusals is this host's.
  completions : Holds (
      (complete_plan 4 four (plain 1 ∷ plain 2 ∷ plain 5 ∷ plain 10000 ∷ []), Ok (0 ∷ 1 ∷ 2 ∷ 3 ∷ []))
      ∷ (complete_plan 4 four (plain 2 ∷ plain 10000 ∷ []), Ok (1 ∷ 3 ∷ []))
      ∷ (complete_plan 4 four (plain 5 ∷ []), Ok (2 ∷ []))
      -- The last part may be small, also where it is the only one.
      ∷ (complete_plan 4 four (plain 10000 ∷ []), Ok (3 ∷ []))
      ∷ (complete_plan 4 a_small_one (plain 1 ∷ []), Ok (0 ∷ []))
      ∷ (complete_plan 4 a_small_one (plain 1 ∷ plain 2 ∷ []), Err EntityTooSmall)
      ∷ (complete_plan 5 four (plain 1 ∷ plain 2 ∷ plain 5 ∷ []), Err EntityTooSmall)
      ∷ (complete_plan 0 empty_ones (plain 1 ∷ plain 2 ∷ []), Ok (0 ∷ 1 ∷ []))
      -- A part that is not there, also before a small one is met.
      ∷ (complete_plan 4 four (plain 1 ∷ plain 3 ∷ []), Err InvalidPart)
      ∷ (complete_plan 4 four (plain 10001 ∷ []), Err InvalidPart)
      ∷ (complete_plan 4 a_small_one (plain 1 ∷ plain 3 ∷ []), Err InvalidPart)
      ∷ (complete_plan 4 [] (plain 1 ∷ []), Err InvalidPart)
      -- The order counts first.
      ∷ (complete_plan 4 four (plain 2 ∷ plain 1 ∷ []), Err InvalidPartOrder)
      ∷ (complete_plan 4 four (plain 1 ∷ plain 1 ∷ []), Err InvalidPartOrder)
      ∷ (complete_plan 4 four (plain 1 ∷ plain 2 ∷ plain 7 ∷ plain 7 ∷ []), Err InvalidPartOrder)
      ∷ (complete_plan 4 four (with_sum 2 (codes "a") ∷ with_sum 1 (codes "b") ∷ []), Err InvalidPartOrder)
      ∷ (complete_plan 4 a_small_one (plain 1 ∷ plain 2 ∷ plain 1 ∷ []), Err InvalidPartOrder)
      -- No part is named, and parts that don't stand in the order of their numbers.
      ∷ (complete_plan 4 one [], Ok [])
      ∷ (complete_plan 4 [] [], Ok [])
      ∷ (complete_plan 4 in_another_order (plain 1 ∷ plain 2 ∷ plain 5 ∷ []), Ok (2 ∷ 1 ∷ 0 ∷ []))
      ∷ [])
  completions = refl

  -- So where checksums are named: in the last four rows one of another part, or none of any.
  with_checksums : string_bytes a ≡ codes "a" → string_bytes b ≡ codes "b" → string_bytes c ≡ codes "c" → string_bytes d ≡ codes "d" → Holds (
      (complete_plan 4 four (with_sum 1 (codes "a") ∷ plain 2 ∷ with_sum 5 (codes "c") ∷ []), Ok (0 ∷ 1 ∷ 2 ∷ []))
      ∷ (complete_plan 4 four (plain 1 ∷ with_sum 10000 (codes "d") ∷ []), Ok (0 ∷ 3 ∷ []))
      ∷ (complete_plan 4 four (with_sum 1 (codes "a") ∷ with_sum 2 (codes "c") ∷ []), Err InvalidPart)
      ∷ (complete_plan 4 four (with_sum 1 [] ∷ []), Err InvalidPart)
      ∷ (complete_plan 4 four (plain 1 ∷ with_sum 10000 (codes "a") ∷ []), Err InvalidPart)
      ∷ (complete_plan 4 a_small_one (plain 1 ∷ with_sum 2 (codes "a") ∷ []), Err InvalidPart)
      ∷ [])
  with_checksums is_a is_b is_c is_d = simp (is_a, is_b, is_c, is_d)

-- The bytes used before and after a change, and the quota: refused where it is passed, but not where less is left above it.
quotas : Holds (
    (fits_quota 0 0 0, true)
    ∷ (fits_quota 0 1 0, false)
    ∷ (fits_quota 0 8 8, true)
    ∷ (fits_quota 0 9 8, false)
    ∷ (fits_quota 8 9 8, false)
    ∷ (fits_quota 9 9 8, true)
    ∷ (fits_quota 12 10 8, true)
    ∷ (fits_quota 9 10 8, false)
    ∷ (fits_quota 3 2 8, true)
    ∷ (fits_quota 0 1152921504606846977 1152921504606846976, false)
    ∷ (fits_quota 18446744073709551615 18446744073709551615 0, true)
    ∷ [])
quotas = refl

-- AbortIncompleteMultipartUpload: the rule's days, when an upload began, and the moment. The first began on 2014-01-15 at 10:30:
-- stale from 2014-01-19 on. The next ones began on that day's first second, and a second before it.
stale : Holds (
    (is_stale (Some 3) 1389781800 1390089599, false)
    ∷ (is_stale (Some 3) 1389781800 1390089600, true)
    ∷ (is_stale (Some 3) 1389781800 1390089601, true)
    ∷ (is_stale None 1389781800 250000000000, false)
    ∷ (is_stale (Some 1) 1389744000 1389916799, false)
    ∷ (is_stale (Some 1) 1389744000 1389916800, true)
    ∷ (is_stale (Some 1) 1389743999 1389830399, false)
    ∷ (is_stale (Some 1) 1389743999 1389830400, true)
    -- The last reading of a clock, and the longest rule; and a moment before the beginning.
    ∷ (is_stale (Some 3650) 250000000000 250315401599, false)
    ∷ (is_stale (Some 3650) 250000000000 250315401600, true)
    ∷ (is_stale (Some 1) 86400 0, false)
    ∷ [])
stale = refl

abbrev begun : Upload
begun = record { key = []; begun = 1389781800; parts = empty }

-- what is left of it under a rule of three days
left : Holds (
    (fresh (Some 3) 1390089599 begun, Some begun)
    ∷ (fresh (Some 3) 1390089600 begun, None)
    ∷ [])
left = refl
