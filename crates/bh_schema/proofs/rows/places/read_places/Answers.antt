use Rattle.std.proofs.Common.{◌≡◌, List, [], ◌∷◌, map, take, Option, Some, None, option_map, slice_get, get_or, length, arith, ◌≤◌, ◌<◌, refl, sym, ap, ◌∙◌}
use Rattle.std.proofs.lemmas.Bool.{ltb-true, ltb-false}
use Rattle.std.proofs.lemmas.Option.{slice_get-get_or}
use Rattle.sqlite.specs.Order.{Row}
use Rattle.bh_rows.specs.Means.{is_trouble}
use Rattle.bh_tables.specs.Typed.{VersionRow}
use Rattle.bh_tables.specs.Shown.{shown_place}
use Rattle.bh_schema.proofs.Finds.{handed_on}
use Rattle.bh_schema.specs.Tallies.{place_of}
use Rattle.bh_schema.proofs.rows.places.read_places.Goals as goal

-- the first two rows, of those of entries
first_of : (rows : List Row) (vs : List VersionRow) → rows ≡ take 2 (map shown_place vs) → slice_get rows 0 ≡ option_map shown_place (slice_get vs 0)
first_of rows vs is = ap (λ l. slice_get l 0) is ∙ go vs
  where
    go : (vs : List VersionRow) → slice_get (take 2 (map shown_place vs)) 0 ≡ option_map shown_place (slice_get vs 0)
    go [] = refl
    go (v ∷ vs) = refl

second_of : (rows : List Row) (vs : List VersionRow) → rows ≡ take 2 (map shown_place vs) → slice_get rows 1 ≡ option_map shown_place (slice_get vs 1)
second_of rows vs is = ap (λ l. slice_get l 1) is ∙ go vs
  where
    go : (vs : List VersionRow) → slice_get (take 2 (map shown_place vs)) 1 ≡ option_map shown_place (slice_get vs 1)
    go [] = refl
    go (v ∷ []) = refl
    go (v ∷ w ∷ vs) = refl

same_value : {A : Type 0} (o : Option A) → option_map (λ x. x) o ≡ o
same_value None = refl
same_value (Some x) = refl

some_of : {P : Type 0} (row : Row) (o : Option VersionRow) → Some row ≡ option_map shown_place o → ((v : VersionRow) → o ≡ Some v → row ≡ shown_place v → P) → P
some_of row None is use_it = absurd (cc)
some_of row (Some v) is use_it = use_it v refl (cc)

none_of : (o : Option VersionRow) → None ≡ option_map shown_place o → None ≡ option_map place_of o
none_of None is = refl
none_of (Some v) is = absurd (cc)

none_at : {X : Type 0} (l : List X) → length l ≤ 1 → None ≡ slice_get l 1
none_at [] few = refl
none_at (x ∷ []) few = refl
none_at (x ∷ y ∷ l) few = absurd (omega (arith, few))

some_at : {X : Type 0} (l : List X) (x : X) → 1 < length l → x ≡ get_or l 1 x → Some x ≡ slice_get l 1
some_at l x more is = ap Some is ∙ sym (slice_get-get_or l 1 x more)

pub returns-in_err-first-clause-trouble : goal.returns-in_err-first-clause-trouble
returns-in_err-first-clause-trouble c = handed_on c.from_residual.result _ _ c.from_residual.ensures (λ e same vs is. ap is_trouble same ∙ c.in_err-first.ensures.trouble (slice_get vs 0) (first_of c.args.rows.now vs is) (λ t there. tt))

pub returns-in_err-read-in-Some-clause-trouble : goal.returns-in_err-read-in-Some-clause-trouble
returns-in_err-read-in-Some-clause-trouble c = handed_on c.from_residual-in_err-read-in-Some.result _ _ c.from_residual-in_err-read-in-Some.ensures (λ e same vs is.
    some_of c.in-Some.row.now (slice_get vs 1) (some_at c.args.rows.now c.in-Some.row.now (ltb-true 1 (length c.args.rows.now) (sym c.in-Some.ensures.lookup.0)) c.in-Some.ensures.lookup.1 ∙ second_of c.args.rows.now vs is) (λ v there shows. ap is_trouble same ∙ c.in_err-read-in-Some.ensures.trouble v shows tt))

pub returns-in-None-clause-first : goal.returns-in-None-clause-first
returns-in-None-clause-first c = λ vs is. sym (same_value c.in_ok-first.first) ∙ c.in_ok-first.ensures.found (slice_get vs 0) (first_of c.args.rows.now vs is)

pub returns-in_ok-read-in-Some-clause-first : goal.returns-in_ok-read-in-Some-clause-first
returns-in_ok-read-in-Some-clause-first c = λ vs is. sym (same_value c.in_ok-first.first) ∙ c.in_ok-first.ensures.found (slice_get vs 0) (first_of c.args.rows.now vs is)

pub returns-in-None-clause-second : goal.returns-in-None-clause-second
returns-in-None-clause-second c = λ vs is. none_of (slice_get vs 1) (none_at c.args.rows.now (ltb-false 1 (length c.args.rows.now) (sym c.in-None.ensures.lookup.0)) ∙ second_of c.args.rows.now vs is)

pub returns-in_ok-read-in-Some-clause-second : goal.returns-in_ok-read-in-Some-clause-second
returns-in_ok-read-in-Some-clause-second c = λ vs is. some_of c.in-Some.row.now (slice_get vs 1) (some_at c.args.rows.now c.in-Some.row.now (ltb-true 1 (length c.args.rows.now) (sym c.in-Some.ensures.lookup.0)) c.in-Some.ensures.lookup.1 ∙ second_of c.args.rows.now vs is) (λ v there shows. ap Some (c.in_ok-read-in-Some.ensures.read v shows) ∙ sym (ap (option_map place_of) there))
