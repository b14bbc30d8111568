-- How the reading of a request may be refused.
use Rattle.std.proofs.Common.{ℕ, List, Ok, Err, Result, refl, sym, subst, inl, inr}
use Rattle.std.specs.Prelude.{codes, nat_le, length, ◌&&◌, ◌==◌, not}
use Rattle.std.specs.Str.Parse.{digits_value}
use Rattle.std.proofs.lemmas.Bool.{cases_Bool}
use Rattle.bh_types.specs.Limits.{HostLimits}
use Rattle.bh_types.specs.Refusing.{RefusedOnly}
use Rattle.bh_types.specs.declared.refusal.Refusal.{Refusal}
use Rattle.bh_http.specs.Fields.{Occurrence, Missing, Once, Repeated, field_named}
use Rattle.bh_types.specs.Digits.{is_number}
use Rattle.bh_http.specs.Reading.{parts_of, taken, framing, announced, length_in, needs_length, is_once, is_missing}
use Rattle.bh_http.specs.Refused.{ReadingRefusals, is_reading_refusal}
use Rattle.bh_http.specs.Views.{Parts}

abbrev Only : {X : Type 0} → Result X Refusal → Type 0
Only r = RefusedOnly is_reading_refusal r

length_only : (max_body : ℕ) (value : List ℕ) → Only (length_in max_body value)
length_only max_body value = elim (cases_Bool (is_number value)) [
  | inl number ↦ elim (cases_Bool (nat_le (digits_value 10 value) max_body)) [ inl small ↦ rw (number, small) tt | inr large ↦ rw (number, large) refl ]
  | inr other ↦ rw other refl
]

announced_only : (max_body : ℕ) (method : List ℕ) (length : Occurrence) → Only (announced max_body method length)
announced_only max_body method Missing = elim (cases_Bool (needs_length method)) [ inl needs ↦ rw needs refl | inr not_so ↦ rw not_so tt ]
announced_only max_body method (Once value) = length_only max_body value
announced_only max_body method Repeated = refl

framing_only : (limits : HostLimits) (head : Parts) → Only (framing limits head)
framing_only limits head = elim (cases_Bool (head.minor == 1 && not (is_once (field_named (codes "host") head.fields)))) [
  | inl hostless ↦ rw hostless refl
  | inr host ↦ elim (cases_Bool (not (is_missing (field_named (codes "transfer-encoding") head.fields)))) [
    | inl coded ↦ rw (host, coded) refl
    | inr plain ↦ rw (host, plain) (announced_only limits.max_body head.method (field_named (codes "content-length") head.fields))
  ]
]

taken_only : (head : Parts) (rest : List ℕ) (size : Result ℕ Refusal) → Only size → Only (taken head rest size)
taken_only head rest (Err refusal) only = only
taken_only head rest (Ok size) only = elim (cases_Bool (nat_le size (length rest))) [ inl whole ↦ rw whole tt | inr part ↦ rw part refl ]

pub reads_only : ReadingRefusals
reads_only limits bytes answer (inl none) = subst Only (sym none.1) refl
reads_only limits bytes answer (inr found) = subst Only (sym found.3) (taken_only (parts_of found.0) found.1 (framing limits (parts_of found.0)) (framing_only limits (parts_of found.0)))
