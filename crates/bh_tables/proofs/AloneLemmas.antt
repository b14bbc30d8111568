-- One version or marker of a key has an id at most, and one part of an upload a number: the bytes of those that have it are those of
-- the one that is found. And one of a tenant has an entry number at most.
use Rattle.std.proofs.Common.{◌≡◌, inl, inr, ℕ, ℤ, ◌≤◌, length, subst, pos, Bool, true, false, ◌&&◌, List, [], ◌∷◌, map, filter, find, Option, Some, None, cond, arith, refl, sym, ap, ◌∙◌, sum_by, codes}
use Rattle.std.specs.Option.{option_map_or}
use Rattle.std.specs.Ordering.{int_eq}
use Rattle.std.proofs.lemmas.Bool.{and_parts, and_from, cases_Bool}
use Rattle.std.proofs.lemmas.List.{length-map}
use Rattle.std.proofs.lemmas.List.Sums.{sum_by-cons}
use Rattle.sqlite.specs.Effect.{Database, IsDatabase}
use Rattle.sqlite_value.specs.Keys.{plain, first_key}
use Rattle.sqlite_sql.specs.declared.ops.CompareOp.TheVariants.{Eq}
use Rattle.sqlite_schema.specs.declared.schema.Constraint.TheVariants.{Unique}
use Rattle.sqlite_schema.specs.Rules.{agree}
use Rattle.sqlite_tied.specs.Compute.{everything}
use Rattle.sqlite_keyed.proofs.KeyedLemmas.{same_int}
use Rattle.sqlite_keyed.proofs.ListLemmas.{filter-map}
use Rattle.sqlite_typed.specs.Tests.{bytes_eq}
use Rattle.sqlite_typed.proofs.TestLemmas.{same_bytes, at_texts, at_ints, last_term, then_term}
use Rattle.bh_rows.specs.Form.{put, typed}
use Rattle.bh_rows.proofs.ObeyedLemmas.{one_passes}
use Rattle.bh_tables.specs.Schema.{Octets, host_schema, versions_table, parts_table, at, auto}
use Rattle.bh_tables.specs.Typed.{Totals, VersionColumns, VersionRow, version_form, PartColumns, PartRow, part_form, IsHostBy, tables_in}
use Rattle.bh_tables.specs.Bodies.{bare, resolved, bare_part, resolved_part}
use Rattle.bh_tables.specs.Shown.{is_version, is_at, is_part}
use Rattle.bh_tables.proofs.PartTexts.{part_agrees}
use Rattle.bh_tables.proofs.VersionTexts.{version_agrees}

-- none, or one
abbrev pub listed : {X : Type 0} → Option X → List X
listed None = []
listed (Some x) = x ∷ []

-- the size of the row that passes a test, of rows of which one does at most
module _ {C R : Type 0} (its : C → R) (m : R → Bool) (size : R → ℕ) where
  abbrev option_of : Option C → Option R
  option_of None = None
  option_of (Some c) = Some (its c)

  abbrev bytes_found : List C → ℕ
  bytes_found cs = option_map_or size (find m (map its cs)) 0

  none_left : (cs : List C) → find (λ c. m (its c)) cs ≡ None → filter (λ c. m (its c)) cs ≡ []
  none_left [] none = refl
  none_left (c ∷ cs) none = elim (cases_Bool (m (its c))) [
    | inl on ↦ absurd (some_none (sym (ap (λ b. cond b (Some c) (find (λ d. m (its d)) cs)) on) ∙ none))
    | inr off ↦ ap (λ b. cond b (c ∷ filter (λ d. m (its d)) cs) (filter (λ d. m (its d)) cs)) off ∙ none_left cs (sym (ap (λ b. cond b (Some c) (find (λ d. m (its d)) cs)) off) ∙ none)
  ]
    where
      some_none : {X : Type 0} {x : X} → Some x ≡ None → ⊥
      some_none e = cc

  found_of : (cs : List C) → find m (map its cs) ≡ option_of (find (λ c. m (its c)) cs)
  found_of [] = refl
  found_of (c ∷ cs) = elim (m (its c)) as (λ b. cond b (Some (its c)) (find m (map its cs)) ≡ option_of (cond b (Some c) (find (λ d. m (its d)) cs))) [
    | true ↦ refl
    | false ↦ found_of cs
  ]

  pub listed_found : (cs : List C) → ((c : C) → find (λ d. m (its d)) cs ≡ Some c → filter (λ d. m (its d)) cs ≡ c ∷ []) → filter m (map its cs) ≡ listed (find m (map its cs))
  listed_found cs one = filter-map m its cs ∙ go (find (λ c. m (its c)) cs) refl ∙ ap listed (sym (found_of cs))
    where
      go : (o : Option C) → find (λ c. m (its c)) cs ≡ o → map its (filter (λ c. m (its c)) cs) ≡ listed (option_of o)
      go None is = ap (map its) (none_left cs is)
      go (Some c) is = ap (map its) (one c is)

  pub size_found : (cs : List C) → ((c : C) → find (λ d. m (its d)) cs ≡ Some c → filter (λ d. m (its d)) cs ≡ c ∷ []) → sum_by size (filter m (map its cs)) ≡ bytes_found cs
  size_found cs one = ap (sum_by size) (filter-map m its cs) ∙ go (find (λ c. m (its c)) cs) refl ∙ ap (λ o. option_map_or size o 0) (sym (found_of cs))
    where
      single : (r : R) → sum_by size (r ∷ []) ≡ size r
      single r = let a = sum_by-cons size r [] in omega (arith, a)

      go : (o : Option C) → find (λ c. m (its c)) cs ≡ o → sum_by size (map its (filter (λ c. m (its c)) cs)) ≡ option_map_or size (option_of o) 0
      go None is = ap (λ l. sum_by size (map its l)) (none_left cs is)
      go (Some c) is = ap (λ l. sum_by size (map its l)) (one c is) ∙ single (its c)

filter_twice : {X : Type 0} (p q : X → Bool) (xs : List X) → filter p (filter q xs) ≡ filter (λ x. q x && p x) xs
filter_twice p q [] = refl
filter_twice p q (x ∷ xs) = elim (q x) as (λ b. filter p (cond b (x ∷ filter q xs) (filter q xs)) ≡ cond (b && p x) (x ∷ filter (λ y. q y && p y) xs) (filter (λ y. q y && p y) xs)) [
  | true ↦ ap (λ l. cond (p x) (x ∷ l) l) (filter_twice p q xs)
  | false ↦ filter_twice p q xs
]

module _ (sums : Totals) (db : Database) (sound : IsDatabase (record { schema = host_schema; trees = db.trees })) (host : IsHostBy sums db) where
  version_same : (tenant bucket okey : Octets) (id : ℕ) (a b : ℤ) (x y : VersionColumns) → is_version tenant bucket okey id (bare x) ≡ true → is_version tenant bucket okey id (bare y) ≡ true
      → agree plain (1 ∷ 3 ∷ 4 ∷ 5 ∷ []) (put version_form (a, x)) (1 ∷ 3 ∷ 4 ∷ 5 ∷ []) (put version_form (b, y)) ≡ true
  version_same tenant bucket okey id a b x y h k =
      let one = and_parts _ _ k in
      let two = and_parts _ _ one.1 in
      let three = and_parts _ _ two.1 in
      version_agrees a b x y
      ∙ (λ i. bytes_eq x.tenant (same_bytes y.tenant tenant one.0 i) && (bytes_eq x.bucket (same_bytes y.bucket bucket two.0 i) && (bytes_eq x.okey (same_bytes y.okey okey three.0 i) && int_eq (pos x.id) (same_int (pos y.id) (pos id) three.1 i)))) ∙ h

  -- the bytes of the entries of a key with this id
  pub version_bytes : (tenant bucket okey : Octets) (id : ℕ) → sum_by (λ (v : VersionRow). v.size) (filter (is_version tenant bucket okey id) (tables_in db).versions) ≡ option_map_or (λ (v : VersionRow). v.size) (find (is_version tenant bucket okey id) (tables_in db).versions) 0
  unfolding everything
  version_bytes tenant bucket okey id = size_found (resolved (tables_in db).refs (tables_in db).blocks) (is_version tenant bucket okey id) (λ (v : VersionRow). v.size) (typed version_form (db.trees 7))
      (λ c is. one_passes version_form host_schema (at 7 versions_table) db.trees (sound.obeys.rules Unique) (inr (inr (inr (inr (inl refl))))) (auto (codes "sqlite_autoindex_versions_2") 9 7 (1 ∷ 3 ∷ 4 ∷ 5 ∷ [])) (inr (inr (inr (inr (inl refl))))) refl host.held.versions
      (λ c. is_version tenant bucket okey id (bare c)) (version_same tenant bucket okey id) c is)

  -- those entries are the one that is found
  pub version_listed : (tenant bucket okey : Octets) (id : ℕ) → filter (is_version tenant bucket okey id) (tables_in db).versions ≡ listed (find (is_version tenant bucket okey id) (tables_in db).versions)
  unfolding everything
  version_listed tenant bucket okey id = listed_found (resolved (tables_in db).refs (tables_in db).blocks) (is_version tenant bucket okey id) (λ (v : VersionRow). v.size) (typed version_form (db.trees 7))
      (λ c is. one_passes version_form host_schema (at 7 versions_table) db.trees (sound.obeys.rules Unique) (inr (inr (inr (inr (inl refl))))) (auto (codes "sqlite_autoindex_versions_2") 9 7 (1 ∷ 3 ∷ 4 ∷ 5 ∷ [])) (inr (inr (inr (inr (inl refl))))) refl host.held.versions
      (λ c. is_version tenant bucket okey id (bare c)) (version_same tenant bucket okey id) c is)

  entry_same : (tenant bucket okey : Octets) (n : ℕ) (a b : ℤ) (x y : VersionColumns) → (is_at tenant bucket okey (bare x) && int_eq (pos x.seq) (pos n)) ≡ true → (is_at tenant bucket okey (bare y) && int_eq (pos y.seq) (pos n)) ≡ true
      → agree plain (1 ∷ 2 ∷ []) (put version_form (a, x)) (1 ∷ 2 ∷ []) (put version_form (b, y)) ≡ true
  unfolding first_key
  entry_same tenant bucket okey n a b x y h k =
      let one = and_parts (is_at tenant bucket okey (bare x)) (int_eq (pos x.seq) (pos n)) h in
      let two = and_parts (is_at tenant bucket okey (bare y)) (int_eq (pos y.seq) (pos n)) k in
      then_term (at_texts false Eq x.tenant y.tenant) (last_term (at_ints false Eq (pos x.seq) (pos y.seq)))
      ∙ (λ i. bytes_eq x.tenant (same_bytes y.tenant tenant (and_parts _ _ two.0).0 i) && int_eq (pos x.seq) (same_int (pos y.seq) (pos n) two.1 i)) ∙ and_from _ _ (and_parts (bytes_eq x.tenant tenant) _ one.0).0 one.1

  -- how many entries of a key have this number
  pub entries_apart : (tenant bucket okey : Octets) (n : ℕ) → length (filter (λ (v : VersionRow). int_eq (pos v.seq) (pos n)) (filter (is_at tenant bucket okey) (tables_in db).versions)) ≤ 1
  unfolding everything
  entries_apart tenant bucket okey n = subst (λ m. m ≤ 1) (sym counted) (few (find m cs) refl)
    where
      cs : List VersionColumns
      cs = typed version_form (db.trees 7)

      m : VersionColumns → Bool
      m c = is_at tenant bucket okey (bare c) && int_eq (pos c.seq) (pos n)

      counted : length (filter (λ (v : VersionRow). int_eq (pos v.seq) (pos n)) (filter (is_at tenant bucket okey) (tables_in db).versions)) ≡ length (filter m cs)
      counted = ap length (filter_twice (λ (v : VersionRow). int_eq (pos v.seq) (pos n)) (is_at tenant bucket okey) (tables_in db).versions ∙ filter-map (λ (v : VersionRow). is_at tenant bucket okey v && int_eq (pos v.seq) (pos n)) (resolved (tables_in db).refs (tables_in db).blocks) cs)
          ∙ length-map (filter m cs) (resolved (tables_in db).refs (tables_in db).blocks)

      few : (o : Option VersionColumns) → find m cs ≡ o → length (filter m cs) ≤ 1
      few None is = subst (λ l. length l ≤ 1) (sym (none_left (λ (c : VersionColumns). c) m (λ c. c.size) cs is)) (omega (arith))
      few (Some c) is = subst (λ l. length l ≤ 1) (sym (one_passes version_form host_schema (at 7 versions_table) db.trees (sound.obeys.rules Unique) (inr (inr (inr (inr (inl refl))))) (auto (codes "sqlite_autoindex_versions_1") 8 7 (1 ∷ 2 ∷ [])) (inr (inr (inr (inl refl)))) refl host.held.versions
          m (entry_same tenant bucket okey n) c is)) (omega (arith))

  part_same : (tenant : Octets) (upload part : ℕ) (a b : ℤ) (x y : PartColumns) → is_part tenant upload part (bare_part x) ≡ true → is_part tenant upload part (bare_part y) ≡ true
      → agree plain (1 ∷ 2 ∷ 3 ∷ []) (put part_form (a, x)) (1 ∷ 2 ∷ 3 ∷ []) (put part_form (b, y)) ≡ true
  part_same tenant upload part a b x y h k =
      let one = and_parts _ _ k in
      let two = and_parts _ _ one.1 in
      part_agrees a b x y ∙ (λ i. bytes_eq x.tenant (same_bytes y.tenant tenant one.0 i) && (int_eq (pos x.upload) (same_int (pos y.upload) (pos upload) two.0 i) && int_eq (pos x.part) (same_int (pos y.part) (pos part) two.1 i))) ∙ h

  -- the bytes of the parts of an upload with this number
  pub part_bytes : (tenant : Octets) (upload part : ℕ) → sum_by (λ (p : PartRow). p.size) (filter (is_part tenant upload part) (tables_in db).parts) ≡ option_map_or (λ (p : PartRow). p.size) (find (is_part tenant upload part) (tables_in db).parts) 0
  unfolding everything
  part_bytes tenant upload part = size_found (resolved_part (tables_in db).refs (tables_in db).blocks) (is_part tenant upload part) (λ (p : PartRow). p.size) (typed part_form (db.trees 18))
      (λ c is. one_passes part_form host_schema (at 18 parts_table) db.trees (sound.obeys.rules Unique) (inr (inr (inr (inr (inr (inr (inr (inr (inl refl))))))))) (auto (codes "sqlite_autoindex_parts_1") 19 18 (1 ∷ 2 ∷ 3 ∷ [])) (inr (inr (inr (inr (inr (inr (inr (inr (inr (inr (inl refl))))))))))) refl host.held.parts
      (λ c. is_part tenant upload part (bare_part c)) (part_same tenant upload part) c is)
