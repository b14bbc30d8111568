-- The documents that show what a request's document asked are short enough to be one.
use Rattle.std.proofs.Common.{◌≡◌, ℕ, ◌+◌, ◌*◌, ◌≤◌, ◌/◌, ◌%◌, nat_lt, List, [], ◌∷◌, ◌++◌, length, codes, cond, true, false, Some, refl, arith}
use Rattle.std.proofs.lemmas.Fmt.{length-decimal-le}
use Rattle.std.proofs.lemmas.List.{length-append}
use Rattle.std.specs.Char.{digit_char}
use Rattle.std.specs.Fmt.{decimal}
use Rattle.serde_json.specs.Data.{depth}
use Rattle.serde_json.specs.Read.{max_depth}
use Rattle.serde_json.specs.Written.{compact_text}
use Rattle.json.specs.Print.{escape_letter, escape_byte, escape, quoted}
use Rattle.bh_types.specs.Moments.{moment_text}
use Rattle.bh_types.specs.declared.bucket_state.BucketState.{BucketState}
use Rattle.bh_types.specs.declared.bucket_state.BucketState.TheVariants.{Unversioned, Enabled, Suspended}
use Rattle.bh_docs.specs.Documents.{status_data, versioning_data, versioning_text, days_data, rule_data, lifecycle_text, retention_text}
use Rattle.bh_docs.specs.Requests.{document_end}

escaped_byte : (x : ℕ) → length (escape_byte x) ≤ 6
unfolding escape_byte
escaped_byte x =
    let long : List ℕ = 92 ∷ 117 ∷ 48 ∷ 48 ∷ digit_char (x / 16) ∷ digit_char (x % 16) ∷ [] in
    elim (nat_lt 0 (escape_letter x)) as (λ b. length (cond b (92 ∷ escape_letter x ∷ []) (cond (nat_lt x 32) long (x ∷ []))) ≤ 6) [
      | true ↦ omega arith
      | false ↦ elim (nat_lt x 32) as (λ b. length (cond b long (x ∷ [])) ≤ 6) [
        | true ↦ omega arith
        | false ↦ omega arith
      ]
    ]

escaped : (s : List ℕ) → length (escape s) ≤ 6 * length s
escaped [] = omega arith
escaped (x ∷ s) =
    let first = escaped_byte x in
    let rest = escaped s in
    let both = length-append (escape_byte x) (escape s) in
    omega (arith, first, rest, both)

quoted_length : (s : List ℕ) → length (quoted s) ≤ 6 * length s + 2
quoted_length s =
    let inner = escaped s in
    let both = length-append (escape s) (34 ∷ []) in
    omega (arith, inner, both)

member_length : (k v rest : List ℕ) → length (quoted k ++ 58 ∷ (quoted v ++ rest)) ≤ 6 * length k + 6 * length v + 5 + length rest
member_length k v rest =
    let key = quoted_length k in
    let value = quoted_length v in
    let outer = length-append (quoted k) (58 ∷ (quoted v ++ rest)) in
    let inner = length-append (quoted v) rest in
    omega (arith, key, value, outer, inner)

object_length : (k v rest : List ℕ) → length (quoted k ++ 58 ∷ (v ++ rest)) ≤ 6 * length k + 3 + length v + length rest
object_length k v rest =
    let key = quoted_length k in
    let outer = length-append (quoted k) (58 ∷ (v ++ rest)) in
    let inner = length-append v rest in
    omega (arith, key, outer, inner)

status_length : (status : List ℕ) → length (compact_text (status_data status)) ≤ 6 * length status + 44
status_length status =
    let one = member_length (codes "Status") status (125 ∷ []) in
    let key : length (codes "Status") ≡ 6 = refl in
    omega (arith, one, key)

pub versioning_length : (state : BucketState) → length (versioning_text state) ≤ document_end
versioning_length Unversioned = omega arith
versioning_length Enabled =
    let one = status_length (codes "Enabled") in
    let word : length (codes "Enabled") ≡ 7 = refl in
    let end : document_end ≡ 2097152 = refl in
    omega (arith, one, word, end)
versioning_length Suspended =
    let one = status_length (codes "Suspended") in
    let word : length (codes "Suspended") ≡ 9 = refl in
    let end : document_end ≡ 2097152 = refl in
    omega (arith, one, word, end)

pub flat_state : (state : BucketState) → depth (versioning_data state) ≤ max_depth
flat_state Unversioned = omega arith
flat_state Enabled = omega arith
flat_state Suspended = omega arith

pub lifecycle_length : (days : ℕ) → days ≤ 3650 → length (lifecycle_text days) ≤ document_end
lifecycle_length days most =
    let number = length-decimal-le 4 days (omega arith) (omega (arith, most)) (omega (arith, most)) in
    let day_text : List ℕ = compact_text (days_data days) in
    let rule_text : List ℕ = compact_text (rule_data days) in
    let status : List ℕ = quoted (codes "Status") ++ 58 ∷ (quoted (codes "Enabled") ++ 125 ∷ []) in
    let inner = object_length (codes "DaysAfterInitiation") (decimal days) (125 ∷ []) in
    let enabled = member_length (codes "Status") (codes "Enabled") (125 ∷ []) in
    let rule = object_length (codes "AbortIncompleteMultipartUpload") day_text (44 ∷ status) in
    let list = length-append rule_text (93 ∷ []) in
    let whole = object_length (codes "Rules") (91 ∷ (rule_text ++ 93 ∷ [])) (125 ∷ []) in
    let words : (length (codes "DaysAfterInitiation") ≡ 19) × (length (codes "Status") ≡ 6) × (length (codes "Enabled") ≡ 7) × (length (codes "AbortIncompleteMultipartUpload") ≡ 30) × (length (codes "Rules") ≡ 5) = (refl, refl, refl, refl, refl) in
    let end : document_end ≡ 2097152 = refl in
    omega (arith, number, inner, enabled, rule, list, whole, words.0, words.1, words.2, words.3, words.4, end)

pub dated_length : (date : ℕ) → length (retention_text (Some date)) ≤ document_end
dated_length date =
    let last : List ℕ = quoted (codes "RetainUntilDate") ++ 58 ∷ (quoted (moment_text date) ++ 125 ∷ []) in
    let one = member_length (codes "Mode") (codes "COMPLIANCE") (44 ∷ last) in
    let two = member_length (codes "RetainUntilDate") (moment_text date) (125 ∷ []) in
    let mode : length (codes "Mode") ≡ 4 = refl in
    let compliance : length (codes "COMPLIANCE") ≡ 10 = refl in
    let until : length (codes "RetainUntilDate") ≡ 15 = refl in
    let moment : length (moment_text date) ≡ 20 = refl in
    let end : document_end ≡ 2097152 = refl in
    omega (arith, one, two, mode, compliance, until, moment, end)
