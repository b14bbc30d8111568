-- `is_utf8` as its test answers.
use Rattle.std.proofs.Common.{◌≡◌, ℕ, List, String, refl, inl, inr, Some, None}
use Rattle.std.proofs.lemmas.Bool.{cases_Bool}
use Rattle.std.specs.Str.{IsUtf8, is_utf8}
use Rattle.std.specs.String.{string_bytes}
use Rattle.std.proofs.lemmas.Str.{IsUtf8-from_is_utf8, is_utf8-from_IsUtf8, IsUtf8-string_bytes}
use Rattle.bh_operation.specs.Targets.{text_of}

pub text_of-IsUtf8 : (bs : List ℕ) → IsUtf8 bs → text_of bs ≡ Some bs
text_of-IsUtf8 bs h = rw (is_utf8-from_IsUtf8 bs h) refl

pub text_of-string : {Z : Type 0} (s : String Z) → text_of (string_bytes s) ≡ Some (string_bytes s)
text_of-string s = text_of-IsUtf8 (string_bytes s) (IsUtf8-string_bytes s)

pub text_of-other : (bs : List ℕ) → (IsUtf8 bs → ⊥) → text_of bs ≡ None
text_of-other bs h = elim (cases_Bool (is_utf8 bs)) [ inl valid ↦ absurd (h (IsUtf8-from_is_utf8 bs valid)) | inr other ↦ rw other refl ]
