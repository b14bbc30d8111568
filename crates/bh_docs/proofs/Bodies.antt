-- Which bodies are documents.
use Rattle.std.proofs.Common.{◌≡◌, ℕ, List, Some, None, inl, inr, refl}
use Rattle.std.proofs.lemmas.Bool.{cases_Bool}
use Rattle.std.proofs.lemmas.Str.{IsUtf8-from_is_utf8, is_utf8-from_IsUtf8}
use Rattle.std.specs.Str.{IsUtf8, is_utf8}
use Rattle.serde_json.specs.Data.{Data}
use Rattle.serde_json.specs.Read.{read}
use Rattle.bh_docs.specs.Shapes.{data_of}

pub data_of-read : (body : List ℕ) (d : Data) → IsUtf8 body → read body ≡ Some d → data_of body ≡ Some d
data_of-read body d h e = rw (is_utf8-from_IsUtf8 body h) e

pub data_of-refused : (body : List ℕ) → (IsUtf8 body → read body ≡ None) → data_of body ≡ None
data_of-refused body h = elim (cases_Bool (is_utf8 body)) [
  | inl text ↦ rw text (h (IsUtf8-from_is_utf8 body text))
  | inr other ↦ rw other refl
]
