-- The test says what it is to say.
use Rattle.std.proofs.Common.{◌≡◌, ◌⊎◌, inl, inr, Bool, true, false, true≢false, cond, length, arith, ℕ, List, [], ◌∷◌, map, pos, refl, sym, ap, ap₂, ◌∙◌, subst, Ordering, Less, Equal, Greater, is_lt}
use Rattle.std.specs.List.{AllByRecursion, list_all}
use Rattle.std.specs.Coded.{Coded, coded_list}
use Rattle.std.proofs.lemmas.Bool.{and_parts, and_from, cases_Bool, eqb-true, eq-eqb}
use base.Stored.{Gv, gnil, gnum, gcons}
use Rattle.sqlite.specs.declared.types.Value.TheVariants.{Int}
use Rattle.sqlite.specs.Order.{Row}
use Rattle.sqlite.specs.Tree.{IsTable}
use Rattle.sqlite.specs.Effect.{Database}
use Rattle.sqlite.specs.Schema.{Schema}
use Rattle.sqlite_tied.specs.Compute.{everything}
use Rattle.sqlite_schema.specs.contracts.schema.Schema as schema
use Rattle.bh_rows.specs.Form.{Form, AreRows, typed}
use Rattle.bh_tables.specs.Schema.{first_schema, second_schema, third_schema, fourth_schema, host_schema}
use Rattle.bh_tables.specs.Typed.{Totals, totals_of, unweighed, untallied, HostRow, Tables, Raw, raw, first_raw, second_raw, third_raw, fourth_raw, tables_in, first_tables_in, no_rows, AreHeld, IsHost, IsFirstHost, IsSecondHost, IsThirdHost, IsFourthHost, lock_form, retain_form, tally_form, garbage_form, host_form, tenant_form, key_form, bucket_form, version_form, block_form, ref_form, upload_form, part_form, use_form, pack_form, place_form}
use Rattle.bh_tables.specs.Hosts.{same_code, same, ascends, coded_row, are_rows, are_these, are_held, is_host, is_first_host, is_second_host, is_third_host, is_fourth_host, is_of_version, brought_over, earlier_shown, IsOfVersion1, IsOfVersion2, IsOfVersion3, IsOfVersion4, tables_shown, tables_opened}

-- ---- codes

same_is : (a b : Gv) → same_code a b ≡ true → a ≡ b
same_is gnil gnil h = refl
same_is gnil (gnum n) h = absurd (true≢false (sym h))
same_is gnil (gcons a b) h = absurd (true≢false (sym h))
same_is (gnum m) gnil h = absurd (true≢false (sym h))
same_is (gnum m) (gnum n) h = ap gnum (eqb-true m n h)
same_is (gnum m) (gcons a b) h = absurd (true≢false (sym h))
same_is (gcons a b) gnil h = absurd (true≢false (sym h))
same_is (gcons a b) (gnum n) h = absurd (true≢false (sym h))
same_is (gcons a b) (gcons c d) h = let parts = and_parts _ _ h in ap₂ gcons (same_is a c parts.0) (same_is b d parts.1)

same_self : (a : Gv) → same_code a a ≡ true
same_self gnil = refl
same_self (gnum n) = eq-eqb n n refl
same_self (gcons a b) = and_from _ _ (same_self a) (same_self b)

same_value : {X : Type 0} (coded : Coded X) (x y : X) → same coded x y ≡ true → x ≡ y
same_value coded x y h = coded.inj x y (same_is _ _ h)

value_same : {X : Type 0} (coded : Coded X) (x y : X) → x ≡ y → same coded x y ≡ true
value_same coded x y e = subst (λ z. same coded x z ≡ true) e (same_self (coded.code x))

-- ---- rows

each_of : {X : Type 0} (p : X → Bool) (P : X → Type 0) → ((x : X) → p x ≡ true → P x) → (xs : List X) → list_all p xs ≡ true → AllByRecursion P xs
each_of p P f [] h = tt
each_of p P f (x ∷ xs) h = let parts = and_parts _ _ h in (f x parts.0, each_of p P f xs parts.1)

of_each : {X : Type 0} (p : X → Bool) (P : X → Type 0) → ((x : X) → P x → p x ≡ true) → (xs : List X) → AllByRecursion P xs → list_all p xs ≡ true
of_each p P f [] h = refl
of_each p P f (x ∷ xs) h = and_from _ _ (f x h.0) (of_each p P f xs h.1)

less_is : (o : Ordering) → is_lt o ≡ true → o ≡ Less
less_is Less h = refl
less_is Equal h = absurd (true≢false (sym h))
less_is Greater h = absurd (true≢false (sym h))

rises_of : (rows : List Row) → ascends rows ≡ true → IsTable rows
rises_of [] h = tt
rises_of (r ∷ rows) h = let parts = and_parts _ _ h in (each_of _ _ (λ s is. less_is _ is) rows parts.0, rises_of rows parts.1)

of_rises : (rows : List Row) → IsTable rows → ascends rows ≡ true
of_rises [] h = refl
of_rises (r ∷ rows) h = and_from _ _ (of_each _ _ (λ s is. ap is_lt is) rows h.0) (of_rises rows h.1)

module _ {T : Type 0} (form : Form T) (rows : List Row) where
  rows_of : are_rows form rows ≡ true → AreRows form rows
  rows_of h = let parts = and_parts _ _ h in record { each = each_of _ _ (λ r is. same_value coded_row r _ is) rows parts.0; rises = rises_of rows parts.1 }

  of_rows : AreRows form rows → are_rows form rows ≡ true
  of_rows h = and_from _ _ (of_each _ _ (λ r is. value_same coded_row r _ is) rows h.each) (of_rises rows h.rises)

-- typed rows are read back from their columns
module _ {T : Type 0} (form : Form T) where
  decoded : (xs : List T) → map (λ (r : Row). form.decode (Int (pos 0) ∷ r)) (map form.encode xs) ≡ xs
  decoded [] = refl
  decoded (x ∷ xs) = ap₂ ◌∷◌ (form.back (Int (pos 0)) x) (decoded xs)

  these_of : (rows : List Row) (xs : List T) → are_these form rows xs ≡ true → typed form rows ≡ xs
  these_of rows xs h = sym (decoded (typed form rows)) ∙ ap (map (λ (r : Row). form.decode (Int (pos 0) ∷ r))) (same_value (coded_list coded_row) (map form.encode (typed form rows)) (map form.encode xs) h) ∙ decoded xs

  of_these : (rows : List Row) (xs : List T) → typed form rows ≡ xs → are_these form rows xs ≡ true
  of_these rows xs h = value_same (coded_list coded_row) (map form.encode (typed form rows)) (map form.encode xs) (ap (map form.encode) h)

held_of : (sums : Totals) (r : Raw) → are_held sums r ≡ true → AreHeld sums r
held_of sums r h =
    let a = and_parts _ _ h in
    let b = and_parts _ _ a.1 in
    let c = and_parts _ _ b.1 in
    let d = and_parts _ _ c.1 in
    let e = and_parts _ _ d.1 in
    let f = and_parts _ _ e.1 in
    let g = and_parts _ _ f.1 in
    let i = and_parts _ _ g.1 in
    let j = and_parts _ _ i.1 in
    let k = and_parts _ _ j.1 in
    let l = and_parts _ _ k.1 in
    let m = and_parts _ _ l.1 in
    let n = and_parts _ _ m.1 in
    let o = and_parts _ _ n.1 in
    let p = and_parts _ _ o.1 in
    let q = and_parts _ _ p.1 in
    let s = and_parts _ _ q.1 in
    let t = and_parts _ _ s.1 in
    let u = and_parts _ _ t.1 in
    let v = and_parts _ _ u.1 in
    record {
      host = rows_of host_form r.host a.0;
      tenants = rows_of (tenant_form sums) r.tenants b.0;
      keys = rows_of key_form r.keys c.0;
      buckets = rows_of bucket_form r.buckets d.0;
      versions = rows_of version_form r.versions e.0;
      blocks = rows_of block_form r.blocks f.0;
      refs = rows_of ref_form r.refs g.0;
      uploads = rows_of (upload_form sums) r.uploads i.0;
      parts = rows_of part_form r.parts j.0;
      uses = rows_of use_form r.uses k.0;
      counts = these_of use_form r.uses sums.uses l.0;
      locks = rows_of lock_form r.locks m.0;
      retains = rows_of retain_form r.retains n.0;
      tallies = rows_of tally_form r.tallies o.0;
      tallied = these_of tally_form r.tallies sums.tallies p.0;
      garbage = rows_of garbage_form r.garbage q.0;
      weighed = these_of garbage_form r.garbage sums.garbage s.0;
      measured = t.0;
      packs = rows_of pack_form r.packs u.0;
      places = rows_of place_form r.places v.0;
      unfilled = same_value (coded_list coded_row) r.unfilled [] v.1;
    }

of_held : (sums : Totals) (r : Raw) → AreHeld sums r → are_held sums r ≡ true
of_held sums r h = and_from _ _ (of_rows host_form r.host h.host) (and_from _ _ (of_rows (tenant_form sums) r.tenants h.tenants) (and_from _ _ (of_rows key_form r.keys h.keys) (and_from _ _ (of_rows bucket_form r.buckets h.buckets)
    (and_from _ _ (of_rows version_form r.versions h.versions) (and_from _ _ (of_rows block_form r.blocks h.blocks) (and_from _ _ (of_rows ref_form r.refs h.refs)
    (and_from _ _ (of_rows (upload_form sums) r.uploads h.uploads) (and_from _ _ (of_rows part_form r.parts h.parts) (and_from _ _ (of_rows use_form r.uses h.uses) (and_from _ _ (of_these use_form r.uses sums.uses h.counts) (and_from _ _ (of_rows lock_form r.locks h.locks)
    (and_from _ _ (of_rows retain_form r.retains h.retains) (and_from _ _ (of_rows tally_form r.tallies h.tallies)
    (and_from _ _ (of_these tally_form r.tallies sums.tallies h.tallied) (and_from _ _ (of_rows garbage_form r.garbage h.garbage) (and_from _ _ (of_these garbage_form r.garbage sums.garbage h.weighed)
    (and_from _ _ h.measured (and_from _ _ (of_rows pack_form r.packs h.packs) (and_from _ _ (of_rows place_form r.places h.places) (value_same (coded_list coded_row) r.unfilled [] h.unfilled))))))))))))))))))))

-- ---- databases

host_of : (db : Database) → is_host db ≡ true → IsHost db
unfolding is_host
host_of db h = let parts = and_parts _ _ h in record { schema = same_value schema.the_row.coded db.schema host_schema parts.0; held = held_of (totals_of (tables_in db)) (raw db.trees) parts.1 }

of_host : (db : Database) → IsHost db → is_host db ≡ true
unfolding is_host
of_host db h = and_from _ _ (value_same schema.the_row.coded db.schema host_schema h.schema) (of_held (totals_of (tables_in db)) (raw db.trees) h.held)

first_of : (db : Database) → is_first_host db ≡ true → IsFirstHost db
unfolding is_first_host
first_of db h = let parts = and_parts _ _ h in record { schema = same_value schema.the_row.coded db.schema first_schema parts.0; held = held_of (untallied (totals_of (first_tables_in db))) (first_raw db.trees) parts.1 }

of_first : (db : Database) → IsFirstHost db → is_first_host db ≡ true
unfolding is_first_host
of_first db h = and_from _ _ (value_same schema.the_row.coded db.schema first_schema h.schema) (of_held (untallied (totals_of (first_tables_in db))) (first_raw db.trees) h.held)

second_of : (db : Database) → is_second_host db ≡ true → IsSecondHost db
unfolding is_second_host
second_of db h = let parts = and_parts _ _ h in record { schema = same_value schema.the_row.coded db.schema second_schema parts.0; held = held_of (untallied (totals_of (tables_in db))) (second_raw db.trees) parts.1 }

of_second : (db : Database) → IsSecondHost db → is_second_host db ≡ true
unfolding is_second_host
of_second db h = and_from _ _ (value_same schema.the_row.coded db.schema second_schema h.schema) (of_held (untallied (totals_of (tables_in db))) (second_raw db.trees) h.held)

third_of : (db : Database) → is_third_host db ≡ true → IsThirdHost db
unfolding is_third_host
third_of db h = let parts = and_parts _ _ h in record { schema = same_value schema.the_row.coded db.schema third_schema parts.0; held = held_of (unweighed (totals_of (tables_in db))) (third_raw db.trees) parts.1 }

of_third : (db : Database) → IsThirdHost db → is_third_host db ≡ true
unfolding is_third_host
of_third db h = and_from _ _ (value_same schema.the_row.coded db.schema third_schema h.schema) (of_held (unweighed (totals_of (tables_in db))) (third_raw db.trees) h.held)

fourth_of : (db : Database) → is_fourth_host db ≡ true → IsFourthHost db
unfolding is_fourth_host
fourth_of db h = let parts = and_parts _ _ h in record { schema = same_value schema.the_row.coded db.schema fourth_schema parts.0; held = held_of (unweighed (totals_of (tables_in db))) (fourth_raw db.trees) parts.1 }

of_fourth : (db : Database) → IsFourthHost db → is_fourth_host db ≡ true
unfolding is_fourth_host
of_fourth db h = and_from _ _ (value_same schema.the_row.coded db.schema fourth_schema h.schema) (of_held (unweighed (totals_of (tables_in db))) (fourth_raw db.trees) h.held)

-- a host's database shows its tables
pub host_shows : (db : Database) → IsHost db → tables_shown db ≡ tables_in db
unfolding tables_shown
host_shows db h = ap (λ b. cond b (tables_in db) no_rows) (of_host db h)

-- and only a host's shows a row of the host
pub shown_host : (db : Database) (row : HostRow) → (tables_shown db).host ≡ row ∷ [] → IsHost db
unfolding tables_shown
shown_host db row there = elim (cases_Bool (is_host db)) [
  | inl is ↦ host_of db is
  | inr other ↦ let none : [] ≡ row ∷ [] = sym (ap (λ b. (cond b (tables_in db) no_rows).host) other) ∙ there in absurd (cc)
]

-- ---- once it is opened

-- each two schemas have another number of tables
other_schemas : (db : Database) (a b : Schema) → (length a.tables ≡ length b.tables → ⊥) → db.schema ≡ a → db.schema ≡ b → ⊥
other_schemas db a b apart is other = apart (ap (λ (s : Schema). length s.tables) (sym is ∙ other))

pub other_schema : (db : Database) → db.schema ≡ host_schema → db.schema ≡ first_schema → ⊥
unfolding everything
other_schema db = other_schemas db host_schema first_schema (λ same. omega (arith, same))

pub unlike_second : (db : Database) → db.schema ≡ host_schema → db.schema ≡ second_schema → ⊥
unfolding everything
unlike_second db = other_schemas db host_schema second_schema (λ same. omega (arith, same))

pub unlike_third : (db : Database) → db.schema ≡ host_schema → db.schema ≡ third_schema → ⊥
unfolding everything
unlike_third db = other_schemas db host_schema third_schema (λ same. omega (arith, same))

pub unlike_fourth : (db : Database) → db.schema ≡ host_schema → db.schema ≡ fourth_schema → ⊥
unfolding everything
unlike_fourth db = other_schemas db host_schema fourth_schema (λ same. omega (arith, same))

pub second_unlike_first : (db : Database) → db.schema ≡ second_schema → db.schema ≡ first_schema → ⊥
unfolding everything
second_unlike_first db = other_schemas db second_schema first_schema (λ same. omega (arith, same))

pub third_unlike_first : (db : Database) → db.schema ≡ third_schema → db.schema ≡ first_schema → ⊥
unfolding everything
third_unlike_first db = other_schemas db third_schema first_schema (λ same. omega (arith, same))

pub third_unlike_second : (db : Database) → db.schema ≡ third_schema → db.schema ≡ second_schema → ⊥
unfolding everything
third_unlike_second db = other_schemas db third_schema second_schema (λ same. omega (arith, same))

pub fourth_unlike_first : (db : Database) → db.schema ≡ fourth_schema → db.schema ≡ first_schema → ⊥
unfolding everything
fourth_unlike_first db = other_schemas db fourth_schema first_schema (λ same. omega (arith, same))

pub fourth_unlike_second : (db : Database) → db.schema ≡ fourth_schema → db.schema ≡ second_schema → ⊥
unfolding everything
fourth_unlike_second db = other_schemas db fourth_schema second_schema (λ same. omega (arith, same))

pub fourth_unlike_third : (db : Database) → db.schema ≡ fourth_schema → db.schema ≡ third_schema → ⊥
unfolding everything
fourth_unlike_third db = other_schemas db fourth_schema third_schema (λ same. omega (arith, same))

-- what a database shows, past each earlier version that it isn't of
from_fourth : Database → Tables
from_fourth db = cond (is_fourth_host db) (earlier_shown 4 (tables_in db)) (tables_shown db)

from_third : Database → Tables
from_third db = cond (is_third_host db) (earlier_shown 3 (tables_in db)) (from_fourth db)

from_second : Database → Tables
from_second db = cond (is_second_host db) (earlier_shown 2 (tables_in db)) (from_third db)

past_first : (db : Database) → (db.schema ≡ first_schema → ⊥) → tables_opened db ≡ from_second db
unfolding tables_opened from_second from_third from_fourth
past_first db unlike = elim (cases_Bool (is_first_host db)) [
  | inl is ↦ absurd (unlike (first_of db is).schema)
  | inr none ↦ ap (λ b. cond b (earlier_shown 1 (first_tables_in db)) (from_second db)) none
]

past_second : (db : Database) → (db.schema ≡ second_schema → ⊥) → from_second db ≡ from_third db
unfolding from_second
past_second db unlike = elim (cases_Bool (is_second_host db)) [
  | inl is ↦ absurd (unlike (second_of db is).schema)
  | inr none ↦ ap (λ b. cond b (earlier_shown 2 (tables_in db)) (from_third db)) none
]

past_third : (db : Database) → (db.schema ≡ third_schema → ⊥) → from_third db ≡ from_fourth db
unfolding from_third
past_third db unlike = elim (cases_Bool (is_third_host db)) [
  | inl is ↦ absurd (unlike (third_of db is).schema)
  | inr none ↦ ap (λ b. cond b (earlier_shown 3 (tables_in db)) (from_fourth db)) none
]

past_fourth : (db : Database) → (db.schema ≡ fourth_schema → ⊥) → from_fourth db ≡ tables_shown db
unfolding from_fourth
past_fourth db unlike = elim (cases_Bool (is_fourth_host db)) [
  | inl is ↦ absurd (unlike (fourth_of db is).schema)
  | inr none ↦ ap (λ b. cond b (earlier_shown 4 (tables_in db)) (tables_shown db)) none
]

-- a database of another schema than the first four shows what it shows
pub others_open : (db : Database) → (db.schema ≡ first_schema → ⊥) → (db.schema ≡ second_schema → ⊥) → (db.schema ≡ third_schema → ⊥) → (db.schema ≡ fourth_schema → ⊥) → tables_opened db ≡ tables_shown db
others_open db one two three four = past_first db one ∙ past_second db two ∙ past_third db three ∙ past_fourth db four

-- so a host's shows its tables
pub host_opens : (db : Database) → IsHost db → tables_opened db ≡ tables_in db
host_opens db h = others_open db (other_schema db h.schema) (unlike_second db h.schema) (unlike_third db h.schema) (unlike_fourth db h.schema) ∙ host_shows db h

-- one of a host of version 1 shows them as they are once it is brought over
pub first_opens : (db : Database) → IsOfVersion1 db → tables_opened db ≡ brought_over (first_tables_in db)
unfolding tables_opened from_second from_third from_fourth
first_opens db h = ap (λ b. cond b (earlier_shown 1 (first_tables_in db)) (from_second db)) (of_first db h.first)
    ∙ ap (λ b. cond b (brought_over (first_tables_in db)) no_rows) h.version

-- and so does one of a host of version 2
pub second_opens : (db : Database) → IsOfVersion2 db → tables_opened db ≡ brought_over (tables_in db)
unfolding from_second
second_opens db h = past_first db (second_unlike_first db h.second.schema)
    ∙ ap (λ b. cond b (earlier_shown 2 (tables_in db)) (from_third db)) (of_second db h.second) ∙ ap (λ b. cond b (brought_over (tables_in db)) no_rows) h.version

-- and of version 3
pub third_opens : (db : Database) → IsOfVersion3 db → tables_opened db ≡ brought_over (tables_in db)
unfolding from_third
third_opens db h = past_first db (third_unlike_first db h.third.schema) ∙ past_second db (third_unlike_second db h.third.schema)
    ∙ ap (λ b. cond b (earlier_shown 3 (tables_in db)) (from_fourth db)) (of_third db h.third) ∙ ap (λ b. cond b (brought_over (tables_in db)) no_rows) h.version

-- and of version 4
pub fourth_opens : (db : Database) → IsOfVersion4 db → tables_opened db ≡ brought_over (tables_in db)
unfolding from_fourth
fourth_opens db h = past_first db (fourth_unlike_first db h.fourth.schema) ∙ past_second db (fourth_unlike_second db h.fourth.schema) ∙ past_third db (fourth_unlike_third db h.fourth.schema)
    ∙ ap (λ b. cond b (earlier_shown 4 (tables_in db)) (tables_shown db)) (of_fourth db h.fourth) ∙ ap (λ b. cond b (brought_over (tables_in db)) no_rows) h.version

-- only tables whose row tells the version are shown once they are brought over
earlier_told : (n : ℕ) (t : Tables) (row : HostRow) → (earlier_shown n t).host ≡ row ∷ [] → list_all (is_of_version n) t.host ≡ true
earlier_told n t row there = elim (cases_Bool (list_all (is_of_version n) t.host)) [
  | inl is ↦ is
  | inr other ↦ let none : [] ≡ row ∷ [] = sym (ap (λ b. (cond b (brought_over t) no_rows).host) other) ∙ there in absurd (cc)
]

-- and only a database of one of the five shows a row of the host
pub opened_host : (db : Database) (row : HostRow) → (tables_opened db).host ≡ row ∷ [] → IsHost db ⊎ (IsOfVersion1 db ⊎ (IsOfVersion2 db ⊎ (IsOfVersion3 db ⊎ IsOfVersion4 db)))
unfolding tables_opened from_second from_third from_fourth
opened_host db row there = elim (cases_Bool (is_first_host db)) [
  | inl is ↦ inr (inl (record { first = first_of db is; version = earlier_told 1 (first_tables_in db) row (sym (ap (λ b. (cond b (earlier_shown 1 (first_tables_in db)) (from_second db)).host) is) ∙ there) }))
  | inr none ↦ elim (cases_Bool (is_second_host db)) [
    | inl is ↦ inr (inr (inl (record { second = second_of db is; version = earlier_told 2 (tables_in db) row (sym (ap (λ b. (cond b (earlier_shown 2 (tables_in db)) (from_third db)).host) is) ∙ past_one none) })))
    | inr neither ↦ elim (cases_Bool (is_third_host db)) [
      | inl is ↦ inr (inr (inr (inl (record { third = third_of db is; version = earlier_told 3 (tables_in db) row (sym (ap (λ b. (cond b (earlier_shown 3 (tables_in db)) (from_fourth db)).host) is) ∙ past_two none neither) }))))
      | inr nor ↦ elim (cases_Bool (is_fourth_host db)) [
        | inl is ↦ inr (inr (inr (inr (record { fourth = fourth_of db is; version = earlier_told 4 (tables_in db) row (sym (ap (λ b. (cond b (earlier_shown 4 (tables_in db)) (tables_shown db)).host) is) ∙ past_three none neither nor) }))))
        | inr other ↦ inl (shown_host db row (sym (ap (λ b. (cond b (earlier_shown 4 (tables_in db)) (tables_shown db)).host) other) ∙ past_three none neither nor))
      ]
    ]
  ]
]
  where
    past_one : is_first_host db ≡ false → (from_second db).host ≡ row ∷ []
    past_one none = sym (ap (λ b. (cond b (earlier_shown 1 (first_tables_in db)) (from_second db)).host) none) ∙ there

    past_two : is_first_host db ≡ false → is_second_host db ≡ false → (from_third db).host ≡ row ∷ []
    past_two none neither = sym (ap (λ b. (cond b (earlier_shown 2 (tables_in db)) (from_third db)).host) neither) ∙ past_one none

    past_three : is_first_host db ≡ false → is_second_host db ≡ false → is_third_host db ≡ false → (from_fourth db).host ≡ row ∷ []
    past_three none neither nor = sym (ap (λ b. (cond b (earlier_shown 3 (tables_in db)) (from_fourth db)).host) nor) ∙ past_two none neither
