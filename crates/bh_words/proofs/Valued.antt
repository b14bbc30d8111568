-- Where `clap` takes the words after a subcommand, each option that it needs has a value.
use Rattle.std.proofs.Common.{◌≡◌, ◌∙◌, ◌<◌, ◌≤◌, ◌^◌, ℕ, Bool, true, false, List, [], ◌∷◌, Some, refl, sym, subst, ap, arith}
use Rattle.std.specs.Prelude.{◌&&◌, fold, not, nat_le, nat_lt}
use Rattle.std.specs.List.{list_any}
use Rattle.std.specs.Str.{bytes_eq}
use Rattle.std.specs.Str.Parse.{digits_value, without_leading_plus}
use Rattle.std.proofs.lemmas.Bool.{leb-true, lt-ltb}
use Rattle.std.proofs.lemmas.List.Folds.{list_any-append}
use Rattle.std.proofs.lemmas.Slice.Eq.{bytes_eq-Decides}
use Rattle.clap.proofs.WalkLemmas.{both}
use Rattle.clap.specs.Faults.{defaults_fault, level_fault, settle_fault, values_fault, walk_fault}
use Rattle.clap.specs.Kinds.{check_kinds, values_kinds}
use Rattle.clap.specs.Simple.{Shape}
use Rattle.clap.specs.Takes.{is_given}
use Rattle.clap.specs.ValueTests.{is_numeral, is_unsigned_in}
use Rattle.clap.specs.Walk.{Row, Rule, Text, arg_by_id, default_rows, first_of, has_row, is_empty, more_values, nothing_held, reading_by, rows_after, settled, walk, walk_from, with_default}
use Rattle.clap.specs.declared.builder.value_parser.ValueParser.TheVariants.{Unsigned}
use Rattle.clap.specs.declared.error.kind.ErrorKind.TheVariants.{ValueValidation}
use Rattle.clap.specs.declared.parser.matches.ValueSource.TheVariants.{DefaultValue}
use Rattle.bh_words.proofs.Taken.{AllFit, AreFine, at_row-new, defaults-fit, or_none, same_some, settled-fits, walk-fits}
use Rattle.bh_words.specs.Readings.{number_of}

-- ---- rows that have to be there

given_row : (id : Text) (rows : List Row) → is_given id rows ≡ true → has_row id rows ≡ true
given_row id [] e = cc
given_row id (r ∷ rs) e = go (bytes_eq r.id id) refl (given_row id rs)
  where
    go : (b : Bool) → bytes_eq r.id id ≡ b → (is_given id rs ≡ true → has_row id rs ≡ true) → has_row id (r ∷ rs) ≡ true
    go true t rest = rw t refl
    go false t rest = rw t (rest (rw t at e))

-- the row of an id that is there, with the one value that its rule takes
row-value : (c : List Rule) (rows : List Row) (id : Text) (b : Rule) → AllFit c rows → has_row id rows ≡ true → arg_by_id c id ≡ Some b
    → (v : Text) × (first_of id rows ≡ Some v) × (values_fault b (v ∷ []) ≡ [])
row-value c [] id b fit e known = cc
row-value c (r ∷ rs) id b fit e known = go (bytes_eq r.id id) refl (λ h. row-value c rs id b fit.1 h known)
  where
    go : (t : Bool) → bytes_eq r.id id ≡ t → (has_row id rs ≡ true → (v : Text) × (first_of id rs ≡ Some v) × (values_fault b (v ∷ []) ≡ []))
        → (v : Text) × (first_of id (r ∷ rs) ≡ Some v) × (values_fault b (v ∷ []) ≡ [])
    go true t rest =
        let same : r.id ≡ id = (bytes_eq-Decides r.id id).0 t in
        let rule : fit.0.0 ≡ b = same_some _ _ (sym fit.0.2 ∙ ap (arg_by_id c) same ∙ known) in
        (fit.0.1, rw (t, fit.0.3) refl, subst (λ (a : Rule). values_fault a (fit.0.1 ∷ []) ≡ []) rule fit.0.4)
    go false t rest = rw t (rest (rw t at e))

kept : (id : Text) (rows : List Row) (a : Rule) → has_row id rows ≡ true → has_row id (with_default rows a) ≡ true
kept id rows a h = go (has_row a.id rows) refl
  where
    values : (vs : List Text) → has_row a.id rows ≡ false → has_row id (default_rows a.id (reading_by a) vs rows) ≡ true
    values [] fresh = h
    values (v ∷ vs) fresh = rw (at_row-new a.id (more_values DefaultValue (v ∷ vs)) _ rows fresh, list_any-append (λ (r : Row). bytes_eq r.id id) rows _, h) refl

    go : (b : Bool) → has_row a.id rows ≡ b → has_row id (with_default rows a) ≡ true
    go true t = rw t h
    go false t = rw t (values a.defaults t)

kept_all : (id : Text) (rows : List Row) (args : List Rule) → has_row id rows ≡ true → has_row id (fold with_default rows args) ≡ true
kept_all id rows [] h = h
kept_all id rows (a ∷ rest) h = kept_all id (with_default rows a) rest (kept id rows a h)

-- an argument with a default has a row at the end
default_row : (id : Text) (rows : List Row) (args : List Rule) → list_any (λ a. bytes_eq a.id id && not (is_empty a.defaults)) args ≡ true
    → has_row id (fold with_default rows args) ≡ true
default_row id rows [] e = cc
default_row id rows (a ∷ rest) e = go (bytes_eq a.id id && not (is_empty a.defaults)) refl (default_row id (with_default rows a) rest)
  where
    new : (vs : List Text) → not (is_empty vs) ≡ true → has_row a.id rows ≡ false → has_row a.id (default_rows a.id (reading_by a) vs rows) ≡ true
    new [] some fresh = cc
    new (v ∷ vs) some fresh = rw (at_row-new a.id (more_values DefaultValue (v ∷ vs)) _ rows fresh, list_any-append (λ (r : Row). bytes_eq r.id a.id) rows _, fresh, (bytes_eq-Decides a.id a.id).1 refl) refl

    here : not (is_empty a.defaults) ≡ true → (b : Bool) → has_row a.id rows ≡ b → has_row a.id (with_default rows a) ≡ true
    here some true t = rw t t
    here some false t = rw t (new a.defaults some t)

    go : (b : Bool) → (bytes_eq a.id id && not (is_empty a.defaults)) ≡ b
        → (list_any (λ a. bytes_eq a.id id && not (is_empty a.defaults)) rest ≡ true → has_row id (fold with_default (with_default rows a) rest) ≡ true)
        → has_row id (fold with_default (with_default rows a) rest) ≡ true
    go true t more =
        let parts = both _ _ t in
        let same : a.id ≡ id = (bytes_eq-Decides a.id id).0 parts.0 in
        kept_all id (with_default rows a) rest (subst (λ (i : Text). has_row i (with_default rows a) ≡ true) same (here parts.1 (has_row a.id rows) refl))
    go false t more = more (rw t at e)

-- a required argument has a row
required_row : (id : Text) (rows : List Row) (args : List Rule) → list_any (λ a. a.required && not (is_given a.id rows)) args ≡ false
    → list_any (λ a. bytes_eq a.id id && a.required) args ≡ true → has_row id rows ≡ true
required_row id rows [] e f = cc
required_row id rows (a ∷ rest) e f = go (bytes_eq a.id id && a.required) refl (required_row id rows rest)
  where
    given : (g : Bool) → is_given a.id rows ≡ g → a.required ≡ true → is_given a.id rows ≡ true
    given true t needed = t
    given false t needed =
        let bad : true ≡ false = rw (needed, t) at e in
        cc

    others : (b : Bool) → (a.required && not (is_given a.id rows)) ≡ b → list_any (λ a. a.required && not (is_given a.id rows)) rest ≡ false
    others true t =
        let bad : true ≡ false = rw t at e in
        cc
    others false t = rw t at e

    go : (b : Bool) → (bytes_eq a.id id && a.required) ≡ b
        → (list_any (λ a. a.required && not (is_given a.id rows)) rest ≡ false → list_any (λ a. bytes_eq a.id id && a.required) rest ≡ true → has_row id rows ≡ true)
        → has_row id rows ≡ true
    go true t more =
        let parts = both _ _ t in
        let same : a.id ≡ id = (bytes_eq-Decides a.id id).0 parts.0 in
        subst (λ (i : Text). has_row i rows ≡ true) same (given_row a.id rows (given (is_given a.id rows) refl parts.1))
    go false t more = more (others (a.required && not (is_given a.id rows)) refl) (rw t at f)

-- ---- a subcommand whose words are taken

pub record IsLeaf (s : Shape) : Type 0 where
  pub fine : AreFine s.rules s.rules
  pub once : s.args_override_self ≡ false
  pub negates : s.subcommand_negates_reqs ≡ false

-- `clap` finds no fault in the words after the subcommand
abbrev pub IsTaken : Shape → List Text → Type 0
IsTaken s words = level_fault s [] nothing_held words false [] ≡ []

no_check : (a b c : Bool) → check_kinds a b c ≡ [] → c ≡ false
no_check true b c e = cc
no_check false true c e = cc
no_check false false true e = cc
no_check false false false e = refl

fitting : (s : Shape) (words : List Text) → IsLeaf s → IsTaken s words → AllFit s.rules (rows_after s.rules [] words)
fitting s words leaf e =
    let walked_well = or_none (walk_fault s [] (walk_from nothing_held) words) _ e in
    let end = (walk s.rules [] nothing_held words).held in
    let settles = or_none (settle_fault s.rules s.args_override_self end) _ walked_well.1 in
    let defaults = or_none (defaults_fault (settled s.rules end).rows s.rules) _ settles.1 in
    let fit = walk-fits s (walk_from nothing_held) words leaf.once leaf.fine tt walked_well.0 in
    defaults-fit s.rules s.rules (settled s.rules end).rows leaf.fine
    (settled-fits s.rules end leaf.fine fit (subst (λ (again : Bool). settle_fault s.rules again end ≡ []) leaf.once settles.0)) defaults.0

none_missing : (s : Shape) (words : List Text) → IsLeaf s → IsTaken s words
    → list_any (λ a. a.required && not (is_given a.id (rows_after s.rules [] words))) s.rules ≡ false
none_missing s words leaf e =
    let walked_well = or_none (walk_fault s [] (walk_from nothing_held) words) _ e in
    let end = (walk s.rules [] nothing_held words).held in
    let settles = or_none (settle_fault s.rules s.args_override_self end) _ walked_well.1 in
    let defaults = or_none (defaults_fault (settled s.rules end).rows s.rules) _ settles.1 in
    let checked = no_check _ _ _ defaults.1 in
    rw leaf.negates at checked

pub required-value : (s : Shape) (words : List Text) (id : Text) (b : Rule) → IsLeaf s → IsTaken s words → arg_by_id s.rules id ≡ Some b
    → list_any (λ a. bytes_eq a.id id && a.required) s.rules ≡ true
    → (v : Text) × (first_of id (rows_after s.rules [] words) ≡ Some v) × (values_fault b (v ∷ []) ≡ [])
required-value s words id b leaf e known needed =
    row-value s.rules _ id b (fitting s words leaf e) (required_row id _ s.rules (none_missing s words leaf e) needed) known

pub default-value : (s : Shape) (words : List Text) (id : Text) (b : Rule) → IsLeaf s → IsTaken s words → arg_by_id s.rules id ≡ Some b
    → list_any (λ a. bytes_eq a.id id && not (is_empty a.defaults)) s.rules ≡ true
    → (v : Text) × (first_of id (rows_after s.rules [] words) ≡ Some v) × (values_fault b (v ∷ []) ≡ [])
default-value s words id b leaf e known preset =
    row-value s.rules _ id b (fitting s words leaf e) (default_row id (settled s.rules (walk s.rules [] nothing_held words).held).rows s.rules preset) known

-- ---- numbers

passed : (low high : ℕ) (v : Text) → values_kinds false (Unsigned low high) (v ∷ []) ≡ [] → is_unsigned_in low high v ≡ true
passed low high v e = go (is_unsigned_in low high v) refl
  where
    go : (b : Bool) → is_unsigned_in low high v ≡ b → is_unsigned_in low high v ≡ true
    go true t = t
    go false t =
        let bad : ValueValidation ∷ [] ≡ [] = rw t at e in
        cc

pub number_in : (bits low high : ℕ) (v : Text) → high < 2 ^ bits → values_kinds false (Unsigned low high) (v ∷ []) ≡ []
    → (n : ℕ) × (number_of bits v ≡ Some n) × (low ≤ n) × (n ≤ high)
number_in bits low high v fits e =
    let n = digits_value 10 (without_leading_plus v) in
    let a = both (is_numeral (without_leading_plus v)) (nat_lt n (2 ^ 64) && (nat_le low n && nat_le n high)) (passed low high v e) in
    let b = both (nat_lt n (2 ^ 64)) (nat_le low n && nat_le n high) a.1 in
    let c = both (nat_le low n) (nat_le n high) b.1 in
    let least : low ≤ n = leb-true low n c.0 in
    let most : n ≤ high = leb-true n high c.1 in
    let below : n < 2 ^ bits = omega (arith, fits, most) in
    (n, rw (a.0, lt-ltb n (2 ^ bits) below) refl, least, most)
