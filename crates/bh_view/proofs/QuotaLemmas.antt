-- The bytes of what a new entry of a key replaces, or a new part, are the size of a row.
use Rattle.std.proofs.Common.{◌≡◌, ℕ, ◌≤◌, Bool, true, false, ◌&&◌, length, sum_by, List, [], ◌∷◌, map, filter, find, Option, Some, None, option_map, refl, sym, ap, ◌∙◌, subst, arith}
use Rattle.std.specs.List.{AllByRecursion}
use Rattle.sqlite_keyed.proofs.ListLemmas.{all-filter}
use Rattle.sqlite_typed.specs.Tests.{bytes_eq}
use Rattle.std.proofs.lemmas.List.Sums.{sum_by-cons}
use Rattle.std.specs.FinMap.{get}
use Rattle.std.specs.Option.{option_map_or}
use Rattle.bh_types.specs.declared.id.VersionId.TheVariants.{Null}
use Rattle.bh_types.specs.declared.wanted.Wanted.TheVariants.{Named}
use Rattle.bh_model.specs.Operations.{listed}
use Rattle.bh_model.specs.Quotas.{null_size}
use Rattle.bh_model.specs.State.{Octets, Upload, Bucket, State, entry_size, part_size}
use Rattle.bh_tables.specs.Typed.{VersionRow, PartRow, Tables}
use Rattle.bh_tables.specs.Shown.{is_version, is_part}
use Rattle.bh_view.specs.Grouped.{first, matching, same_number}
use Rattle.bh_view.specs.Sound.{IsPartRow, IsSound}
use Rattle.bh_view.specs.View.{entry_of, part_shown, rows_of, of_upload, view, latest_of}
use Rattle.bh_view.proofs.FactLemmas.{all_first}
use Rattle.bh_view.proofs.FilterLemmas.{filter_both}
use Rattle.bh_view.proofs.FindLemmas.{first_find, id_filtered}
use Rattle.bh_view.proofs.GroupedLemmas.{get-keyed}
use Rattle.bh_view.proofs.Keys.{numbers}
use Rattle.bh_view.proofs.ObjectLemmas.{version_size}
use Rattle.bh_view.proofs.UploadChanges.{there_before}
use Rattle.bh_view.proofs.UploadLemmas.{upload_row}
use Rattle.bh_view.proofs.UsedLemmas.{row_size}
use Rattle.bh_view.proofs.VersionChanges.{one_version}
use Rattle.bh_view.proofs.WantedLemmas.{named_row, wanted_good}

module _ (tables : Tables) (t : Octets) (sound : IsSound tables) (b k : Octets) (s : State) (is : view tables t ≡ Some s) (B : Bucket) (at : get s.buckets b ≡ Some B) where
  abbrev rows : List VersionRow
  rows = filter (is_version t b k 0) tables.versions

  short : length rows ≤ 1
  short = subst (λ l. length l ≤ 1) (one_version t b k 0 tables.versions) ((sound.tenants t).versions.one_id b k 0)

  its_size : (v : VersionRow) → find (is_version t b k 0) tables.versions ≡ Some v → version_size v ≡ v.size
  its_size v there = row_size (latest_of tables) v (wanted_good tables t sound b k (Named Null) v (named_row t b k 0 tables.versions ∙ there))

  -- of the entry `null`
  pub null_row_size : null_size (listed k B) ≡ option_map_or (λ (v : VersionRow). v.size) (find (is_version t b k 0) tables.versions) 0
  null_row_size = ap (sum_by entry_size) (id_filtered tables t s is b k B at sound 0) ∙ go rows short (sym (first_find (is_version t b k 0) tables.versions))
    where
      go : (l : List VersionRow) → length l ≤ 1 → find (is_version t b k 0) tables.versions ≡ first l
          → sum_by entry_size (map entry_of l) ≡ option_map_or (λ (v : VersionRow). v.size) (find (is_version t b k 0) tables.versions) 0
      go [] one there = sym (ap (λ o. option_map_or (λ (v : VersionRow). v.size) o 0) there)
      go (v ∷ []) one there =
          let sum = sum_by-cons entry_size (entry_of v) [] in
          let size = its_size v there in
          let sum_is : sum_by entry_size (entry_of v ∷ []) ≡ v.size = omega (arith, sum, size) in
          sum_is ∙ sym (ap (λ o. option_map_or (λ (x : VersionRow). x.size) o 0) there)
      go (v ∷ w ∷ l) one there = absurd (omega arith)

-- ---- of a part of an upload

module _ (tables : Tables) (t : Octets) (sound : IsSound tables) (b : Octets) (s : State) (is : view tables t ≡ Some s) (B : Bucket) (at : get s.buckets b ≡ Some B) (n k : ℕ) (U : Upload) (begun : get B.uploads n ≡ Some U) where
  abbrev mine : List PartRow
  mine = (rows_of t tables).parts

  abbrev part_rows : List PartRow
  part_rows = matching same_number (λ (p : PartRow). p.part) k (of_upload n mine)

  and_assoc : (a b c : Bool) → ((a && b) && c) ≡ (a && (b && c))
  and_assoc true b c = refl
  and_assoc false b c = refl

  by_one_test : part_rows ≡ filter (is_part t n k) tables.parts
  by_one_test =
      ap (filter (λ (q : PartRow). same_number q.part k)) (filter_both (λ (q : PartRow). bytes_eq q.tenant t) (λ q. same_number q.upload n) tables.parts)
      ∙ filter_both (λ (q : PartRow). bytes_eq q.tenant t && same_number q.upload n) (λ q. same_number q.part k) tables.parts
      ∙ (λ i. filter (λ (q : PartRow). and_assoc (bytes_eq q.tenant t) (same_number q.upload n) (same_number q.part k) i) tables.parts)

  part_is : first part_rows ≡ find (is_part t n k) tables.parts
  part_is = ap first by_one_test ∙ first_find (is_part t n k) tables.parts

  -- as the map of its parts has it
  part_got : get U.parts k ≡ option_map part_shown (find (is_part t n k) tables.parts)
  part_got =
      ap (λ (u : Upload). get u.parts k) (sym (upload_row (rows_of t tables) b B (there_before tables tables t s sound is b B at) n U begun).2)
      ∙ get-keyed numbers (λ (p : PartRow). p.part) (λ _ p. part_shown p) (of_upload n mine) k ∙ ap (option_map part_shown) part_is

  pub part_row_size : option_map_or part_size (get U.parts k) 0 ≡ option_map_or (λ (p : PartRow). p.size) (find (is_part t n k) tables.parts) 0
  part_row_size = ap (λ o. option_map_or part_size o 0) part_got ∙ go (find (is_part t n k) tables.parts) part_is
    where
      good : AllByRecursion (IsPartRow (latest_of tables)) part_rows
      good = all-filter _ (λ (q : PartRow). same_number q.part k) (of_upload n mine) (all-filter _ (λ (q : PartRow). same_number q.upload n) mine (sound.tenants t).parts.each)

      go : (o : Option PartRow) → first part_rows ≡ o → option_map_or part_size (option_map part_shown o) 0 ≡ option_map_or (λ (p : PartRow). p.size) o 0
      go None there = refl
      go (Some p) there = sym (all_first (IsPartRow (latest_of tables)) part_rows p there good).size
