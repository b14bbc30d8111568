-- Versions and parts as they are stored, and with the bytes of their bodies: the one list from the other.
use Rattle.std.proofs.Common.{◌≡◌, Bool, not, List, [], ◌∷◌, ◌++◌, ◌||◌, map, map-id, filter, refl, sym, ap, ap₂, ◌∙◌, Ordering}
use Rattle.std.specs.List.{list_any}
use Rattle.std.proofs.lemmas.List.{map-append}
use Rattle.sqlite.specs.Order.{Row}
use Rattle.sqlite.specs.Effect.{Database}
use Rattle.sqlite_keyed.specs.Lists.{delete_where, sort_by}
use Rattle.sqlite_keyed.proofs.ListLemmas.{map-map, filter-map}
use Rattle.sqlite_keyed.proofs.SortLemmas.{sort_by-map}
use Rattle.bh_rows.specs.Form.{typed}
use Rattle.bh_tables.specs.Rows.{version_form, VersionColumns, VersionRow, part_form, PartColumns, PartRow, BlockRow, RefRow}
use Rattle.bh_tables.specs.Bodies.{resolved, resolved_again, columns_of, resolved_part, resolved_part_again, part_columns_of}
use Rattle.bh_tables.specs.Typed.{Tables, tables_in, rebodied}

-- ---- what is stored does not depend on the bodies

module _ (refs : List RefRow) (blocks : List BlockRow) where
  pub stored_versions : (cs : List VersionColumns) → map columns_of (map (resolved refs blocks) cs) ≡ cs
  stored_versions cs = map-map columns_of (resolved refs blocks) cs ∙ map-id cs

  -- the bytes among these rows, whatever they are among others
  pub resolved_twice : (others : List RefRow) (other_blocks : List BlockRow) (cs : List VersionColumns) → map (resolved_again refs blocks) (map (resolved others other_blocks) cs) ≡ map (resolved refs blocks) cs
  resolved_twice others other_blocks cs = map-map (resolved_again refs blocks) (resolved others other_blocks) cs

  pub resolved_again_twice : (others : List RefRow) (other_blocks : List BlockRow) (vs : List VersionRow) → map (resolved_again refs blocks) (map (resolved_again others other_blocks) vs) ≡ map (resolved_again refs blocks) vs
  resolved_again_twice others other_blocks vs = map-map (resolved_again refs blocks) (resolved_again others other_blocks) vs

  pub any_resolved : (m : VersionRow → Bool) (cs : List VersionColumns) → list_any m (map (resolved refs blocks) cs) ≡ list_any (λ c. m (resolved refs blocks c)) cs
  any_resolved m [] = refl
  any_resolved m (c ∷ cs) = ap (λ b. m (resolved refs blocks c) || b) (any_resolved m cs)

  -- the same of parts
  pub stored_parts : (cs : List PartColumns) → map part_columns_of (map (resolved_part refs blocks) cs) ≡ cs
  stored_parts cs = map-map part_columns_of (resolved_part refs blocks) cs ∙ map-id cs

  pub resolved_parts_twice : (others : List RefRow) (other_blocks : List BlockRow) (cs : List PartColumns) → map (resolved_part_again refs blocks) (map (resolved_part others other_blocks) cs) ≡ map (resolved_part refs blocks) cs
  resolved_parts_twice others other_blocks cs = map-map (resolved_part_again refs blocks) (resolved_part others other_blocks) cs

  pub resolved_parts_again_twice : (others : List RefRow) (other_blocks : List BlockRow) (ps : List PartRow) → map (resolved_part_again refs blocks) (map (resolved_part_again others other_blocks) ps) ≡ map (resolved_part_again refs blocks) ps
  resolved_parts_again_twice others other_blocks ps = map-map (resolved_part_again refs blocks) (resolved_part_again others other_blocks) ps

  pub any_resolved_part : (m : PartRow → Bool) (cs : List PartColumns) → list_any m (map (resolved_part refs blocks) cs) ≡ list_any (λ c. m (resolved_part refs blocks c)) cs
  any_resolved_part m [] = refl
  any_resolved_part m (c ∷ cs) = ap (λ b. m (resolved_part refs blocks c) || b) (any_resolved_part m cs)

pub rebodied_twice : (t : Tables) (refs others : List RefRow) (blocks other_blocks : List BlockRow) → rebodied (rebodied t others other_blocks) refs blocks ≡ rebodied t refs blocks
rebodied_twice t refs others blocks other_blocks = ap₂ (λ v p. record t { versions = v; parts = p; refs = refs; blocks = blocks }) (resolved_again_twice refs blocks others other_blocks t.versions) (resolved_parts_again_twice refs blocks others other_blocks t.parts)

-- ---- what a text finds of them, by tests that look at no bytes

module _ (m : VersionColumns → Bool) (vs : List VersionRow) where
  pub any_stored : list_any m (map columns_of vs) ≡ list_any (λ v. m (columns_of v)) vs
  any_stored = go vs
    where
      go : (l : List VersionRow) → list_any m (map columns_of l) ≡ list_any (λ v. m (columns_of v)) l
      go [] = refl
      go (v ∷ l) = ap (λ b. m (columns_of v) || b) (go l)

  module _ (view : VersionColumns → Row) where
    pub seen : map view (filter m (map columns_of vs)) ≡ map (λ v. view (columns_of v)) (filter (λ v. m (columns_of v)) vs)
    seen = ap (map view) (filter-map m columns_of vs) ∙ map-map view columns_of _

    pub seen_sorted : (order : VersionColumns → VersionColumns → Ordering)
        → map view (sort_by order (filter m (map columns_of vs))) ≡ map (λ v. view (columns_of v)) (sort_by (λ a b. order (columns_of a) (columns_of b)) (filter (λ v. m (columns_of v)) vs))
    seen_sorted order = ap (λ l. map view (sort_by order l)) (filter-map m columns_of vs) ∙ ap (map view) (sort_by-map order columns_of (filter (λ v. m (columns_of v)) vs)) ∙ map-map view columns_of _

module _ (m : PartColumns → Bool) (ps : List PartRow) where
  pub any_stored_part : list_any m (map part_columns_of ps) ≡ list_any (λ p. m (part_columns_of p)) ps
  any_stored_part = go ps
    where
      go : (l : List PartRow) → list_any m (map part_columns_of l) ≡ list_any (λ p. m (part_columns_of p)) l
      go [] = refl
      go (p ∷ l) = ap (λ b. m (part_columns_of p) || b) (go l)

  module _ (view : PartColumns → Row) where
    pub seen_parts : map view (filter m (map part_columns_of ps)) ≡ map (λ p. view (part_columns_of p)) (filter (λ p. m (part_columns_of p)) ps)
    seen_parts = ap (map view) (filter-map m part_columns_of ps) ∙ map-map view part_columns_of _

    pub seen_parts_sorted : (order : PartColumns → PartColumns → Ordering)
        → map view (sort_by order (filter m (map part_columns_of ps))) ≡ map (λ p. view (part_columns_of p)) (sort_by (λ a b. order (part_columns_of a) (part_columns_of b)) (filter (λ p. m (part_columns_of p)) ps))
    seen_parts_sorted order = ap (λ l. map view (sort_by order l)) (filter-map m part_columns_of ps) ∙ ap (map view) (sort_by-map order part_columns_of (filter (λ p. m (part_columns_of p)) ps)) ∙ map-map view part_columns_of _

-- ---- those of a database

module _ (db : Database) where
  abbrev all : Tables
  all = tables_in db

  abbrev its : VersionColumns → VersionRow
  its = resolved all.refs all.blocks

  abbrev stored : List VersionColumns
  stored = typed version_form (db.trees 7)

  -- the bytes of each are those of its body
  pub own_versions : map its (map columns_of all.versions) ≡ all.versions
  own_versions = ap (map its) (stored_versions all.refs all.blocks _)

  pub own_bodies : rebodied all all.refs all.blocks ≡ all
  own_bodies = ap₂ (λ v p. record all { versions = v; parts = p }) (resolved_twice all.refs all.blocks all.refs all.blocks _) (resolved_parts_twice all.refs all.blocks all.refs all.blocks _)

  pub version_added : (c : VersionColumns) → record all { versions = map its (map columns_of all.versions ++ c ∷ []) } ≡ record all { versions = all.versions ++ its c ∷ [] }
  version_added c = ap (λ l. record all { versions = l }) (map-append its (map columns_of all.versions) (c ∷ []) ∙ ap (λ l. l ++ its c ∷ []) own_versions)

  pub versions_deleted : (m : VersionColumns → Bool) → record all { versions = map its (delete_where m (map columns_of all.versions)) } ≡ record all { versions = delete_where (λ v. m (columns_of v)) all.versions }
  versions_deleted m = ap (λ l. record all { versions = l })
      (ap (λ l. map its (delete_where m l)) (stored_versions all.refs all.blocks stored) ∙ sym (filter-map (λ (v : VersionRow). not (m (columns_of v))) its stored))

  -- ---- and of its parts

  abbrev its_part : PartColumns → PartRow
  its_part = resolved_part all.refs all.blocks

  abbrev stored_part : List PartColumns
  stored_part = typed part_form (db.trees 18)

  -- the bytes of each are those of its body
  pub own_parts : map its_part (map part_columns_of all.parts) ≡ all.parts
  own_parts = ap (map its_part) (stored_parts all.refs all.blocks _)

  pub part_added : (c : PartColumns) → record all { parts = map its_part (map part_columns_of all.parts ++ c ∷ []) } ≡ record all { parts = all.parts ++ its_part c ∷ [] }
  part_added c = ap (λ l. record all { parts = l }) (map-append its_part (map part_columns_of all.parts) (c ∷ []) ∙ ap (λ l. l ++ its_part c ∷ []) own_parts)

  pub parts_deleted : (m : PartColumns → Bool) → record all { parts = map its_part (delete_where m (map part_columns_of all.parts)) } ≡ record all { parts = delete_where (λ p. m (part_columns_of p)) all.parts }
  parts_deleted m = ap (λ l. record all { parts = l })
      (ap (λ l. map its_part (delete_where m l)) (stored_parts all.refs all.blocks stored_part) ∙ sym (filter-map (λ (p : PartRow). not (m (part_columns_of p))) its_part stored_part))
