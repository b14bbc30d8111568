-- What a Range field names of an object of a size: the first and the last byte that are answered, both included; `Whole` where
-- the field is ignored; `InvalidRange` where the object has none of the bytes asked for.
use Rattle.std.proofs.Common.{ℕ, List, [], ◌∷◌, ◌++◌, codes, Some, None, Result, Ok, Err, refl}
use Rattle.example_calls.proofs.Rows.{Holds}
use Rattle.bh_types.specs.Ranges.{range_of}
use Rattle.bh_types.specs.declared.range.RangePlan.{RangePlan}
use Rattle.bh_types.specs.declared.range.RangePlan.TheVariants.{Whole, Part}
use Rattle.bh_types.specs.declared.refusal.Refusal.{Refusal}
use Rattle.bh_types.specs.declared.refusal.Refusal.TheVariants.{InvalidRange}

abbrev of : ℕ → List ℕ → Result RangePlan Refusal
of size text = range_of (Some text) size

-- The examples of RFC 9110, section 14.1.2, at a representation of 10,000 bytes; several ranges in one field are not answered
-- apart, so the field is ignored.
rfc_9110 : Holds (
    (of 10000 (codes "bytes=0-499"), Ok (Part 0 499))
    ∷ (of 10000 (codes "bytes=500-999"), Ok (Part 500 999))
    ∷ (of 10000 (codes "bytes=-500"), Ok (Part 9500 9999))
    ∷ (of 10000 (codes "bytes=9500-"), Ok (Part 9500 9999))
    ∷ (of 10000 (codes "bytes=0-0,-1"), Ok Whole)
    ∷ (of 10000 (codes "bytes= 0-999, 4500-5499, -1000"), Ok Whole)
    ∷ (of 10000 (codes "bytes=500-600,601-999"), Ok Whole)
    ∷ [])
rfc_9110 = refl

-- An end past the object's is cut to it; a range that begins past it is refused.
ends_are_cut : Holds (
    (of 10 (codes "bytes=0-9"), Ok (Part 0 9))
    ∷ (of 10 (codes "bytes=9-9"), Ok (Part 9 9))
    ∷ (of 10 (codes "bytes=3-100"), Ok (Part 3 9))
    ∷ (of 10 (codes "bytes=9-10"), Ok (Part 9 9))
    ∷ (of 10 (codes "bytes=10-10"), Err InvalidRange)
    ∷ (of 10 (codes "bytes=10-"), Err InvalidRange)
    ∷ (of 10 (codes "bytes=0-"), Ok (Part 0 9))
    ∷ (of 10 (codes "bytes=-10"), Ok (Part 0 9))
    ∷ (of 10 (codes "bytes=-11"), Ok (Part 0 9))
    ∷ (of 10 (codes "bytes=-1"), Ok (Part 9 9))
    ∷ (of 10 (codes "bytes=-0"), Err InvalidRange)
    ∷ (of 10 (codes "bytes=-00"), Err InvalidRange)
    ∷ (of 10 (codes "bytes=002-0005"), Ok (Part 2 5))
    ∷ [])
ends_are_cut = refl

-- An object without bytes has none of any range.
of_no_bytes : Holds (
    (of 0 (codes "bytes=0-0"), Err InvalidRange)
    ∷ (of 0 (codes "bytes=0-"), Err InvalidRange)
    ∷ (of 0 (codes "bytes=-1"), Err InvalidRange)
    ∷ (of 0 (codes "bytes=-0"), Err InvalidRange)
    ∷ (of 0 (codes "bytes=5-3"), Ok Whole)
    ∷ (range_of None 0, Ok Whole)
    ∷ (range_of None 10, Ok Whole)
    ∷ [])
of_no_bytes = refl

-- A number above 2^62 counts as 2^62, however many digits it has.
great_numbers : Holds (
    (of 10 (codes "bytes=0-4611686018427387904"), Ok (Part 0 9))
    ∷ (of 10 (codes "bytes=0-18446744073709551616"), Ok (Part 0 9))
    ∷ (of 10 (codes "bytes=-99999999999999999999999999999999"), Ok (Part 0 9))
    ∷ (of 10 (codes "bytes=4611686018427387904-4611686018427387904"), Err InvalidRange)
    ∷ (of 10 (codes "bytes=4611686018427387906-4611686018427387905"), Err InvalidRange)
    ∷ (of 10 (codes "bytes=18446744073709551617-5"), Ok Whole)
    ∷ (of 10 (codes "bytes=00000000000000000000000000000000000000001-00000000000000000000000000000000000000003"), Ok (Part 1 3))
    ∷ (of 10 (codes "bytes=1-9999999999999999999999999999999999999999999999999999999999999999999999999999999999999999999999999999"), Ok (Part 1 9))
    ∷ [])
great_numbers = refl

-- The unit is of any case, and no other.
units : Holds (
    (of 10 (codes "BYTES=1-2"), Ok (Part 1 2))
    ∷ (of 10 (codes "bYtEs=1-2"), Ok (Part 1 2))
    ∷ (of 10 (codes "items=1-2"), Ok Whole)
    ∷ (of 10 (codes "byte=1-2"), Ok Whole)
    ∷ (of 10 (codes "bytess=1-2"), Ok Whole)
    ∷ (of 10 (codes "bytes:1-2"), Ok Whole)
    ∷ (of 10 (codes "bytes"), Ok Whole)
    ∷ (of 10 (codes "1-2"), Ok Whole)
    ∷ [])
units = refl

-- Text of another form is ignored.
other_texts : Holds (
    (of 10 (codes "bytes=5-3"), Ok Whole)
    ∷ (of 10 (codes "bytes=-"), Ok Whole)
    ∷ (of 10 (codes "bytes="), Ok Whole)
    ∷ (of 10 (codes "bytes=5"), Ok Whole)
    ∷ (of 10 (codes "bytes=1-2-3"), Ok Whole)
    ∷ (of 10 (codes "bytes=--1"), Ok Whole)
    ∷ (of 10 (codes "bytes=1--2"), Ok Whole)
    ∷ (of 10 (codes "bytes=+1-2"), Ok Whole)
    ∷ (of 10 (codes "bytes=1-+2"), Ok Whole)
    ∷ (of 10 (codes "bytes=0x1-2"), Ok Whole)
    ∷ (of 10 (codes "bytes=a-b"), Ok Whole)
    ∷ (of 10 (codes "bytes=1-2,"), Ok Whole)
    ∷ (of 10 (codes "bytes=1 -2"), Ok Whole)
    ∷ (of 10 (codes "bytes=1- 2"), Ok Whole)
    ∷ (of 10 (codes "bytes=1-2 "), Ok Whole)
    ∷ (of 10 (codes "bytes =1-2"), Ok Whole)
    ∷ (of 10 (codes " bytes=1-2"), Ok Whole)
    ∷ (of 10 (codes "bytes=" ++ (217 ∷ 161 ∷ []) ++ codes "-" ++ (217 ∷ 162 ∷ [])), Ok Whole)
    ∷ [])
other_texts = refl
