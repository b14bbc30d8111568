-- The header fields of one name.
use Rattle.std.specs.Prelude.{ℕ, Bool, List, [], ◌∷◌, map, filter}
use Rattle.std.specs.Str.{str_eq_ignore_ascii_case}
use Rattle.bh_http.specs.declared.fields.Given.{Given}
use Rattle.bh_http.specs.declared.fields.Given.TheVariants as code

-- the field has this name; case doesn't count
-- RFC 9110, section 5.1
abbrev pub is_named : List ℕ → List ℕ × List ℕ → Bool
is_named name field = str_eq_ignore_ascii_case field.0 name

-- the values of the fields of a name, in their order
-- RFC 9110, section 5.3
abbrev pub values_of : List ℕ → List (List ℕ × List ℕ) → List (List ℕ)
values_of name fields = map (λ f. f.1) (filter (is_named name) fields)

-- how often a field occurs, and its value if it occurs once
pub data Occurrence : Type 0 where
  Missing : Occurrence
  Once : List ℕ → Occurrence
  Repeated : Occurrence

abbrev pub occurrence : List (List ℕ) → Occurrence
occurrence [] = Missing
occurrence (value ∷ []) = Once value
occurrence (value ∷ next ∷ others) = Repeated

-- the field of a name
abbrev pub field_named : List ℕ → List (List ℕ × List ℕ) → Occurrence
field_named name fields = occurrence (values_of name fields)

-- a field as contracts see it
abbrev pub given_view : Given → Occurrence
given_view code.Missing = Missing
given_view (code.Once value) = Once value.now
given_view code.Repeated = Repeated
