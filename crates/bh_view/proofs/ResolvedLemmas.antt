-- The tables with other references and blocks, of which the versions and parts have their bytes.
use Rattle.std.proofs.Common.{◌≡◌, false, List, refl, sym, ◌∙◌}
use Rattle.std.specs.List.{AllByRecursion}
use Rattle.sqlite_keyed.proofs.ListLemmas.{all_weaker, all_both, all-map}
use Rattle.bh_model.specs.State.{Octets}
use Rattle.bh_rows.specs.Form.{typed}
use Rattle.bh_tables.specs.Bodies.{Name, same_name, whole, resolved, resolved_again, columns_of, version_name, resolved_part, resolved_part_again, part_columns_of, part_name}
use Rattle.bh_tables.specs.Typed.{VersionRow, PartRow, BlockRow, RefRow, Raw, Tables, tables_of, rebodied, version_form, part_form}
use Rattle.bh_view.specs.Bodies.{IsResolved, IsUnnamed, set_body}
use Rattle.bh_view.proofs.NameLemmas.{unnamed_each}
use Rattle.bh_view.proofs.JoinLemmas.{map_itself}
use Rattle.bh_view.proofs.SetLemmas.{set_other}

-- no version's and no part's bytes change
pub rebodied_same : (x : Tables) (refs : List RefRow) (blocks : List BlockRow) → IsResolved (record x { refs = refs; blocks = blocks }) → rebodied x refs blocks ≡ record x { refs = refs; blocks = blocks }
rebodied_same x refs blocks same =
    let versions = map_itself (resolved_again refs blocks) x.versions (all_weaker _ _ (λ v e i. record v { bytes = sym e i }) x.versions same.versions) in
    let parts = map_itself (resolved_part_again refs blocks) x.parts (all_weaker _ _ (λ p e i. record p { bytes = sym e i }) x.parts same.parts) in
    λ i. record x { versions = versions i; parts = parts i; refs = refs; blocks = blocks }

-- the row of a version, and of a part, that has the bytes of its body
pub row_resolved : (refs : List RefRow) (blocks : List BlockRow) (v : VersionRow) → whole refs blocks (version_name v) ≡ v.bytes → resolved refs blocks (columns_of v) ≡ v
row_resolved refs blocks v e = λ i. record v { bytes = e i }

pub part_resolved : (refs : List RefRow) (blocks : List BlockRow) (p : PartRow) → whole refs blocks (part_name p) ≡ p.bytes → resolved_part refs blocks (part_columns_of p) ≡ p
part_resolved refs blocks p e = λ i. record p { bytes = e i }

-- the tables of a database are so: `tables_in` gives them
pub tables_resolved : (rows : Raw) → IsResolved (tables_of rows)
tables_resolved rows = record {
  versions = all-map _ (resolved (tables_of rows).refs (tables_of rows).blocks) (λ c. refl) (typed version_form rows.versions);
  parts = all-map _ (resolved_part (tables_of rows).refs (tables_of rows).blocks) (λ c. refl) (typed part_form rows.parts);
}

-- and tables that are given others
pub rebodied_resolved : (x : Tables) (refs : List RefRow) (blocks : List BlockRow) → IsResolved (rebodied x refs blocks)
rebodied_resolved x refs blocks = record {
  versions = all-map _ (resolved_again refs blocks) (λ v. refl) x.versions;
  parts = all-map _ (resolved_part_again refs blocks) (λ p. refl) x.parts;
}

-- all bodies have the same bytes
pub still_resolved : (x : Tables) (refs : List RefRow) (blocks : List BlockRow) → whole refs blocks ≡ whole x.refs x.blocks → IsResolved x → IsResolved (record x { refs = refs; blocks = blocks })
still_resolved x refs blocks same resolved = record {
  versions = all_weaker _ _ (λ (v : VersionRow) its. its ∙ (λ i. sym same i (version_name v))) x.versions resolved.versions;
  parts = all_weaker _ _ (λ (p : PartRow) its. its ∙ (λ i. sym same i (part_name p))) x.parts resolved.parts;
}

-- ---- one body's bytes change, which no row has

rows_stay : {T : Type 0} (name : T → Name) (bytes : T → Octets) (at : Name) (given : Octets) (old new : Name → Octets) → new ≡ set_body at given old → (rows : List T)
    → AllByRecursion (λ x. same_name at (name x) ≡ false) rows → AllByRecursion (λ x. bytes x ≡ old (name x)) rows → AllByRecursion (λ x. bytes x ≡ new (name x)) rows
rows_stay name bytes at given old new set =
    all_both (λ x. same_name at (name x) ≡ false) (λ x. bytes x ≡ old (name x)) (λ x. bytes x ≡ new (name x))
    (λ x apart its. its ∙ sym ((λ i. set i (name x)) ∙ set_other at old given (name x) apart))

-- versions and parts keep their bytes
pub unnamed_stays : (x : Tables) (at : Name) → IsUnnamed at x → IsResolved x → (refs : List RefRow) (blocks : List BlockRow) (given : Octets) → whole refs blocks ≡ set_body at given (whole x.refs x.blocks)
    → IsResolved (record x { refs = refs; blocks = blocks })
unnamed_stays x at none resolved refs blocks given set = record {
  versions = rows_stay version_name (λ (v : VersionRow). v.bytes) at given _ _ set x.versions (unnamed_each version_name at x.versions none.versions) resolved.versions;
  parts = rows_stay part_name (λ (p : PartRow). p.bytes) at given _ _ set x.parts (unnamed_each part_name at x.parts none.parts) resolved.parts;
}
