-- Bytes have one reading.
use Rattle.std.proofs.Common.{◌≡◌, inl, inr, sym, ap, ◌∙◌}
use Rattle.httparse.proofs.GrammarLemmas.{request_unique}
use Rattle.bh_http.specs.Reading.{OneReading, outcome, parts_of}

pub same_reading : OneReading
same_reading limits bytes a b x y =
    elim x [
      | inl none ↦ elim y [
        | inl none_too ↦ none.1 ∙ sym none_too.1
        | inr found ↦ absurd (none.0 found.0 found.1 found.2)
      ]
      | inr found ↦ elim y [
        | inl none ↦ absurd (none.0 found.0 found.1 found.2)
        | inr other ↦
            let same = request_unique bytes found.0 other.0 found.1 other.1 found.2.reads other.2.reads in
            let heads : found.0 ≡ other.0 = same.0 in
            let rests : found.1 ≡ other.1 = same.1 in
            found.3 ∙ ap (λ h. outcome limits (parts_of h) found.1) heads ∙ ap (outcome limits (parts_of other.0)) rests ∙ sym other.3
      ]
    ]
