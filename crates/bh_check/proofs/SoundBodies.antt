-- The bodies of a database that was checked: the bytes that their references name, and who has them.
use Rattle.std.proofs.Common.{arith, ◌≡◌, inl, inr, ℕ, zero, suc, ◌+◌, ◌<◌, ◌≤◌, Bool, true, false, ◌&&◌, ◌||◌, List, [], ◌∷◌, ◌++◌, length, length-append, map, filter, refl, sym, ap, ap₂, ◌∙◌, subst, sum_by}
use Rattle.std.specs.List.{AllByRecursion, list_any, flat_map}
use Rattle.std.specs.Option.{option_map_or}
use Rattle.std.specs.Cmp.Derive.{both_true}
use Rattle.std.proofs.lemmas.Bool.{cases_Bool, or_left, or_right}
use Rattle.std.proofs.lemmas.List.Folds.{list_any-append}
use Rattle.std.proofs.lemmas.List.Sums.{sum_by-cons}
use Rattle.sqlite.specs.Effect.{Database, IsDatabase}
use Rattle.sqlite.specs.Order.{Row}
use Rattle.sqlite.specs.Tree.{Trees}
use Rattle.sqlite_keyed.proofs.ListLemmas.{all_map, all_weaker, all-filter, filter-map}
use Rattle.sqlite_rules.specs.Lists.{Has}
use Rattle.sqlite_rules.proofs.ListLemmas.{some_has, some_from}
use Rattle.bh_rows.specs.Form.{typed}
use Rattle.bh_tables.specs.Schema.{Octets, host_schema}
use Rattle.bh_tables.specs.Bodies.{Name, same_name, ref_name, body_name, version_name, part_name, first, block_at, placed, whole, matching, resolved, resolved_part}
use Rattle.bh_tables.specs.Shown.{is_block}
use Rattle.bh_tables.specs.Typed.{Totals, totals_of, tables_in, BlockRow, RefRow, VersionRow, PartRow, block_of, block_form, ref_of, ref_form, version_of, version_form, part_of, part_form}
use Rattle.bh_tables.proofs.TotalLemmas.{name_Decides, name_swap}
use Rattle.bh_view.specs.Bodies.{HasBodies, bodies_of, bodies_in}
use Rattle.bh_view.specs.Grouped.{same_number}
use Rattle.bh_check.specs.Blocks.{AreNamed, named_octets, refs_of}
use Rattle.bh_stored.specs.Stored.{seen}
use Rattle.bh_stored.specs.declared.stored.Edition.{Edition}
use Rattle.bh_check.specs.Checked.{IsChecked}
use Rattle.bh_check.specs.Holds.{first_two, part_body, ref_block, number_at, block_length, block_bytes, body_bytes, body_refs, body_versions, body_parts, Holds}
use Rattle.bh_check.specs.declared.rows.Table.TheVariants as table
use Rattle.bh_check.proofs.Counted.{none_has, some_has_it, any_in, any_map, length_map, filter_of_none}
use Rattle.bh_check.proofs.HostIs.{held_is}
use Rattle.bh_check.proofs.Schemas.{over, kept}
use Rattle.bh_check.proofs.OneLemmas.{one_block}
use Rattle.bh_check.proofs.PlacedBodies.{placed_are, bodies_placed}
use Rattle.bh_check.proofs.TotalIs.{total_is}

-- the bytes of a row, if there is one at most
first_length : (xs : List BlockRow) → length xs ≤ 1 → sum_by (λ (b : BlockRow). length b.bytes) xs ≡ length (option_map_or (λ (b : BlockRow). b.bytes) (first xs) [])
first_length [] h = refl
first_length (x ∷ []) h = let is = sum_by-cons (λ (b : BlockRow). length b.bytes) x [] in omega (arith, is)
first_length (x ∷ y ∷ xs) h = absurd (omega (arith, h))

not_both : true ≡ false → ⊥
not_both e = cc

all_has : {X : Type 0} (P : X → Type 0) (xs : List X) → AllByRecursion P xs → (x : X) → Has xs x → P x
all_has P [] all x there = absurd there
all_has P (y ∷ xs) all x (inl same) = subst P (sym same) all.0
all_has P (y ∷ xs) all x (inr later) = all_has P xs all.1 x later

pieces_length : (f : RefRow → Octets) (xs : List RefRow) → AllByRecursion (λ (r : RefRow). r.size ≡ length (f r)) xs → length (flat_map f xs) ≡ sum_by (λ (r : RefRow). r.size) xs
pieces_length f [] h = refl
pieces_length f (x ∷ xs) h = let rest = pieces_length f xs h.1 in let more = sum_by-cons (λ (r : RefRow). r.size) x xs in let size = h.0 in let all = length-append (f x) (flat_map f xs) in all ∙ omega (arith, rest, more, size)

module _ (edition : Edition) (digest : Octets → Octets) (trees : Trees) (c : IsChecked edition digest (seen edition trees)) (sound : IsDatabase (record { schema = over edition; trees = trees })) where
  abbrev d : Trees
  d = seen edition trees

  abbrev db : Database
  db = record { schema = host_schema; trees = d }

  abbrev sums : Totals
  sums = kept edition (totals_of (tables_in db))

  abbrev refs : List RefRow
  refs = typed ref_form (d 12)

  abbrev blocks : List BlockRow
  blocks = typed block_form (d 10)

  -- ---- blocks

  named_once : (q : Name) → length (filter (is_block q) blocks) ≤ 1
  named_once q = one_block sums edition trees sound (held_is edition digest trees c) q.0 q.1

  pub are_named : AreNamed (d 10)
  are_named q = subst (λ n. n ≤ 1) (ap length (filter-map (is_block q) block_of (d 10)) ∙ length_map block_of (filter (λ r. same_name (first_two r) q) (d 10))) (named_once q)

  block_length_is : (q : Name) → block_bytes d q ≡ length (block_at blocks q)
  block_length_is q = sym (total_is block_of (is_block q) (λ (b : BlockRow). length b.bytes) first_two block_length q (λ r. refl) (λ r. refl) (d 10)) ∙ first_length (filter (is_block q) blocks) (named_once q)

  -- ---- references

  pub measured : AllByRecursion (λ (r : RefRow). r.size ≡ length (block_at blocks (ref_name r))) refs
  measured = all_map (λ (r : RefRow). r.size ≡ length (block_at blocks (ref_name r))) ref_of (d 12)
      (all_weaker (Holds d c.latest table.Refs) (λ r. number_at 6 r ≡ length (block_at blocks (ref_block r))) (λ r h. h.measured ∙ block_length_is (ref_block r)) (d 12) c.rows.refs)

  -- the bytes of a body are as many as its references have
  pub whole_length : (q : Name) → body_bytes d q ≡ length (whole refs blocks q)
  unfolding whole
  whole_length q =
      sym (ap (λ l. length (flat_map (λ (r : RefRow). block_at blocks (ref_name r)) l)) (placed_are (d 12) c.bodies.placed q)
      ∙ pieces_length (λ (r : RefRow). block_at blocks (ref_name r)) (matching same_name body_name q refs) (all-filter (λ (r : RefRow). r.size ≡ length (block_at blocks (ref_name r))) (λ (r : RefRow). same_name (body_name r) q) refs measured)
      ∙ total_is ref_of (λ (r : RefRow). same_name (body_name r) q) (λ (r : RefRow). r.size) first_two (number_at 6) q (λ r. refl) (λ r. refl) (d 12))

  -- one without references has none
  pub whole_none : (q : Name) → body_refs d q ≡ 0 → whole refs blocks q ≡ []
  unfolding whole
  whole_none q none =
      ap (flat_map (λ (r : RefRow). block_at blocks (ref_name r)))
      (placed_are (d 12) c.bodies.placed q ∙ filter-map (λ (r : RefRow). same_name (body_name r) q) ref_of (d 12) ∙ ap (map ref_of) (filter_of_none (λ r. same_name (first_two r) q) (d 12) (none_has first_two (d 12) q none)))

  -- they are those that the stored references name
  pub whole_stored : (q : Name) → named_octets (d 10) (refs_of (d 12) q) ≡ whole refs blocks q
  unfolding whole
  whole_stored q =
      sym (ap (flat_map (λ (r : RefRow). block_at blocks (ref_name r))) (placed_are (d 12) c.bodies.placed q ∙ filter-map (λ (r : RefRow). same_name (body_name r) q) ref_of (d 12))
      ∙ mapped (refs_of (d 12) q))
    where
      mapped : (rows : List Row) → flat_map (λ (r : RefRow). block_at blocks (ref_name r)) (map ref_of rows) ≡ named_octets (d 10) rows
      mapped [] = refl
      mapped (r ∷ rows) = ap (λ l. block_at blocks (ref_block r) ++ l) (mapped rows)

  -- ---- each reference is of a body

  abbrev is_of : Name → Row → Bool
  is_of q r = same_name (first_two r) q

  -- a body that a version which is no marker has, or a part
  abbrev has_version : Name → Row → Bool
  has_version q r = same_number (number_at 6 r) 0 && same_name q (first_two r)

  abbrev has_part : Name → Row → Bool
  has_part q r = same_name q (part_body r)

  any_bodies : (q : Name) → list_any (same_name q) (bodies_in (tables_in db)) ≡ (list_any (has_version q) (d 7) || list_any (has_part q) (d 18))
  any_bodies q =
      list_any-append (same_name q) (bodies_of (tables_in db).versions) (map part_name (tables_in db).parts)
      ∙ ap₂ ◌||◌
      (any_map version_name (same_name q) (filter (λ (v : VersionRow). same_number v.marker 0) (tables_in db).versions)
      ∙ any_in (λ (v : VersionRow). same_number v.marker 0) (λ (v : VersionRow). same_name q (version_name v)) (tables_in db).versions
      ∙ any_map (resolved refs blocks) (λ (v : VersionRow). same_number v.marker 0 && same_name q (version_name v)) (typed version_form (d 7))
      ∙ any_map version_of (λ c. same_number (resolved refs blocks c).marker 0 && same_name q (version_name (resolved refs blocks c))) (d 7))
      (any_map part_name (same_name q) (tables_in db).parts ∙ any_map (resolved_part refs blocks) (λ (p : PartRow). same_name q (part_name p)) (typed part_form (d 18)) ∙ any_map part_of (λ c. same_name q (part_name (resolved_part refs blocks c))) (d 18))

  -- a marker has no reference
  no_marker : (q : Name) → list_any (is_of q) (d 12) ≡ true → (r : Row) → Holds d c.latest table.Versions r → is_of q r ≡ true → number_at 6 r ≡ 0
  no_marker q some r h is = zero_is (number_at 6 r) h.marker (λ marker. not_both (sym some ∙ none_has first_two (d 12) q (subst (λ p. body_refs d p ≡ 0) ((name_Decides (first_two r) q).0 is) (h.bare marker).0)))
    where
      zero_is : (n : ℕ) → n ≤ 1 → (n ≡ 1 → ⊥) → n ≡ 0
      zero_is zero low not = refl
      zero_is (suc zero) low not = absurd (not refl)
      zero_is (suc (suc n)) low not = absurd (omega (arith, low))

  some_version : (q : Name) → list_any (is_of q) (d 12) ≡ true → 0 < body_versions d q → list_any (has_version q) (d 7) ≡ true
  some_version q some more =
      let found = some_has (is_of q) (d 7) (some_has_it first_two (d 7) q more) in
      let row = found.0 in
      let marker = no_marker q some row (all_has (Holds d c.latest table.Versions) (d 7) c.rows.versions row found.1) found.2 in
      some_from (has_version q) (d 7) row found.1 (both_true (ap (λ n. same_number n 0) marker) (name_swap q (first_two row) ∙ found.2))

  some_part : (q : Name) → 0 < body_parts d q → list_any (has_part q) (d 18) ≡ true
  some_part q more =
      let found = some_has (λ r. same_name (part_body r) q) (d 18) (some_has_it part_body (d 18) q more) in
      some_from (has_part q) (d 18) found.0 found.1 (name_swap q (part_body found.0) ∙ found.2)

  some_body : (q : Name) → list_any (is_of q) (d 12) ≡ true → (versions parts : ℕ) → versions ≡ body_versions d q → parts ≡ body_parts d q → 0 < versions + parts → list_any (same_name q) (bodies_in (tables_in db)) ≡ true
  some_body q some zero parts v p more = any_bodies q ∙ or_right (list_any (has_version q) (d 7)) (list_any (has_part q) (d 18)) (some_part q (subst (λ n. 0 < n) p (omega (arith, more))))
  some_body q some (suc versions) parts v p more = any_bodies q ∙ or_left (list_any (has_version q) (d 7)) (list_any (has_part q) (d 18)) (some_version q some (subst (λ n. 0 < n) v (omega arith)))

  refs_owned : (q : Name) → list_any (same_name q) (bodies_in (tables_in db)) ≡ false → matching same_name body_name q refs ≡ []
  refs_owned q none = filter-map (λ (r : RefRow). same_name (body_name r) q) ref_of (d 12) ∙ ap (map ref_of) (filter_of_none (is_of q) (d 12) (elim (cases_Bool (list_any (is_of q) (d 12))) [ inl some ↦ absurd (has_none some) | inr not ↦ not ]))
    where
      has_none : list_any (is_of q) (d 12) ≡ true → ⊥
      has_none some =
          let found = some_has (is_of q) (d 12) some in
          let row = found.0 in
          let held = all_has (Holds d c.latest table.Refs) (d 12) c.rows.refs row found.1 in
          let more = subst (λ p. 0 < body_versions d p + body_parts d p) ((name_Decides (first_two row) q).0 found.2) held.owned in
          not_both (sym (some_body q some (body_versions d q) (body_parts d q) refl refl more) ∙ none)

  pub have_bodies : HasBodies (tables_in db)
  have_bodies = record { placed = bodies_placed (d 12) c.bodies.placed; owned = refs_owned; measured = measured }
