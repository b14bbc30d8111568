-- The rows that were checked are typed rows.
use Rattle.std.proofs.Common.{◌≡◌, ℕ, pos, ◌+◌, sum_by, filter, true, ◌&&◌, List, [], ◌∷◌, ◌++◌, flat_map, refl, sym, ap, ap₂, ◌∙◌}
use Rattle.std.specs.List.{AllByRecursion}
use Rattle.std.specs.Ordering.{int_eq}
use Rattle.sqlite.specs.Effect.{Database}
use Rattle.sqlite.specs.Order.{column}
use Rattle.sqlite.specs.Tree.{Trees}
use Rattle.sqlite_keyed.proofs.ListLemmas.{all_from_test, all_both, all_map}
use Rattle.sqlite_typed.specs.Columns.{bytes_of, int_of}
use Rattle.sqlite_typed.specs.Tests.{bytes_eq}
use Rattle.bh_rows.specs.Form.{typed}
use Rattle.bh_tables.specs.Schema.{Octets, host_schema}
use Rattle.bh_tables.specs.Bodies.{resolved, resolved_part}
use Rattle.bh_tables.specs.Typed.{Totals, totals_of, tables_in, raw, unfilled_trees, AreHeld, TenantColumns, UploadColumns, VersionRow, PartRow, tenant_columns, upload_columns, tenant_form, stored_tenant_form, upload_form, stored_upload_form, block_form, ref_form, tally_form, garbage_form, version_of, part_of, bytes_used, bytes_kept}
use Rattle.bh_tables.proofs.StoredLemmas.{Uses, Keeps, held_shown}
use Rattle.bh_stored.specs.Cells.{is_fit}
use Rattle.bh_stored.specs.Fits.{AreFit, tenant_kinds, upload_kinds, use_kinds, tally_kinds, garbage_kinds}
use Rattle.bh_stored.specs.Stored.{seen}
use Rattle.bh_stored.specs.declared.stored.Edition.{Edition}
use Rattle.bh_stored.specs.declared.stored.Edition.TheVariants.{First, Second, Third, Fourth, Fifth}
use Rattle.bh_check.specs.Checked.{IsChecked}
use Rattle.bh_check.specs.Holds.{owner, first_two, number_at, version_bytes, part_bytes, upload_bytes, block_refs, Holds}
use Rattle.bh_check.specs.Blocks.{AreUses}
use Rattle.bh_check.specs.Garbage.{AreWeighed}
use Rattle.bh_check.specs.Tallies.{AreTallied}
use Rattle.bh_check.specs.declared.rows.Table.TheVariants as table
use Rattle.bh_stored.proofs.Fitted.{hosts_are, tenants_are, keys_are, buckets_are, versions_are, blocks_are, refs_are, uploads_are, parts_are, uses_are, locks_are, retains_are, tallies_are, garbage_are, packs_are, places_are, used_is, kept_is}
use Rattle.bh_check.proofs.CountsAre.{counts_are, refs_counted}
use Rattle.bh_check.proofs.Schemas.{kept}
use Rattle.bh_check.proofs.Weighed.{weighed_is}
use Rattle.bh_check.proofs.TallyCounts.{and_true, tallies_counted}
use Rattle.bh_check.proofs.TotalIs.{total_twice}

-- a database of these rows, under whatever schema they are
abbrev of_trees : Trees → Database
of_trees d = record { schema = host_schema; trees = d }

-- where there are tallies
tallies_kept : (edition : Edition) (trees : Trees) → AreTallied edition (seen edition trees) → AreFit tally_kinds (seen edition trees 30)
    → typed tally_form (seen edition trees 30) ≡ (kept edition (totals_of (tables_in (of_trees (seen edition trees))))).tallies
tallies_kept First trees tallied fit = refl
tallies_kept Second trees tallied fit = refl
tallies_kept Third trees tallied fit = tallies_counted (seen Third trees) (trees 30) (trees 1) (all_from_test (is_fit tally_kinds) (trees 30) fit.fit) tallied
tallies_kept Fourth trees tallied fit = tallies_counted (seen Fourth trees) (trees 30) (trees 1) (all_from_test (is_fit tally_kinds) (trees 30) fit.fit) tallied
tallies_kept Fifth trees tallied fit = tallies_counted (seen Fifth trees) (trees 30) (trees 1) (all_from_test (is_fit tally_kinds) (trees 30) fit.fit) tallied

-- where the bytes that nobody needs are counted
garbage_kept : (edition : Edition) (trees : Trees) → AreWeighed edition (seen edition trees) → AreFit garbage_kinds (seen edition trees 44) → AreUses (block_refs (seen edition trees)) (seen edition trees 23) (seen edition trees 10)
    → typed garbage_form (seen edition trees 44) ≡ (kept edition (totals_of (tables_in (of_trees (seen edition trees))))).garbage
garbage_kept First trees weighed fit uses = refl
garbage_kept Second trees weighed fit uses = refl
garbage_kept Third trees weighed fit uses = refl
garbage_kept Fourth trees weighed fit uses = refl
garbage_kept Fifth trees weighed fit uses = weighed_is (block_refs (seen Fifth trees)) (typed ref_form (trees 12)) (refs_counted (seen Fifth trees)) (trees 44) (trees 23) (trees 10) (all_from_test (is_fit garbage_kinds) (trees 44) fit.fit) uses weighed

-- no table has a row that nothing fills
none_filled : (d : Trees) (ts : List ℕ) → AllByRecursion (λ t. d t ≡ []) ts → flat_map d ts ≡ []
none_filled d [] h = refl
none_filled d (t ∷ ts) h = ap₂ ◌++◌ h.0 (none_filled d ts h.1)

module _ (edition : Edition) (digest : Octets → Octets) (trees : Trees) (c : IsChecked edition digest (seen edition trees)) where
  abbrev d : Trees
  d = seen edition trees

  abbrev db : Database
  db = of_trees d

  abbrev sums : Totals
  sums = kept edition (totals_of (tables_in db))

  -- the bytes that a tenant's rows have
  versions_sum : (t : Octets) → sum_by (λ (v : VersionRow). v.size) (filter (λ v. bytes_eq v.tenant t) (tables_in db).versions) ≡ version_bytes d (t, 0)
  versions_sum t = total_twice version_of (resolved (typed ref_form (d 12)) (typed block_form (d 10))) (λ v. bytes_eq v.tenant t) (λ (v : VersionRow). v.size) owner (number_at 8) (t, 0) (λ r. and_true (bytes_eq (bytes_of (column r 1)) t)) (λ r. refl) (d 7)

  parts_sum : (t : Octets) → sum_by (λ (p : PartRow). p.size) (filter (λ p. bytes_eq p.tenant t) (tables_in db).parts) ≡ part_bytes d (t, 0)
  parts_sum t = total_twice part_of (resolved_part (typed ref_form (d 12)) (typed block_form (d 10))) (λ p. bytes_eq p.tenant t) (λ (p : PartRow). p.size) owner (number_at 4) (t, 0) (λ r. and_true (bytes_eq (bytes_of (column r 1)) t)) (λ r. refl) (d 18)

  pub used_sum : (t : Octets) → bytes_used (tables_in db).versions (tables_in db).parts t ≡ version_bytes d (t, 0) + part_bytes d (t, 0)
  used_sum t = ap₂ ◌+◌ (versions_sum t) (parts_sum t)

  pub kept_sum : (t : Octets) (n : ℕ) → bytes_kept (tables_in db).parts t n ≡ upload_bytes d (t, n)
  kept_sum t n = total_twice part_of (resolved_part (typed ref_form (d 12)) (typed block_form (d 10))) (λ p. bytes_eq p.tenant t && int_eq (pos p.upload) (pos n)) (λ (p : PartRow). p.size) first_two (number_at 4) (t, n) (λ r. refl) (λ r. refl) (d 18)

  -- each row keeps what the others have
  uses : AllByRecursion (Uses sums) (typed stored_tenant_form (d 1))
  uses = all_map (Uses sums) stored_tenant_form.decode (d 1)
      (all_both (λ r. is_fit tenant_kinds r ≡ true) (Holds d c.latest table.Tenants) (λ r. Uses sums (stored_tenant_form.decode r))
      (λ r fit h. used_is r fit ∙ ap pos (h.used ∙ sym (used_sum (bytes_of (column r 1))))) (d 1) (all_from_test (is_fit tenant_kinds) (d 1) c.fits.tenants.fit) c.rows.tenants)

  keeps : AllByRecursion (Keeps sums) (typed stored_upload_form (d 16))
  keeps = all_map (Keeps sums) stored_upload_form.decode (d 16)
      (all_both (λ r. is_fit upload_kinds r ≡ true) (Holds d c.latest table.Uploads) (λ r. Keeps sums (stored_upload_form.decode r))
      (λ r fit h. kept_is r fit ∙ ap pos (h.kept ∙ sym (kept_sum (bytes_of (column r 1)) (number_at 2 r)))) (d 16) (all_from_test (is_fit upload_kinds) (d 16) c.fits.uploads.fit) c.rows.uploads)

  pub held_is : AreHeld sums (raw d)
  held_is = record {
    host = hosts_are (d 0) c.fits.host;
    tenants = held_shown (tenant_form sums) stored_tenant_form (λ (x : TenantColumns). x.row) (Uses sums) (λ r. refl) (λ x k. ap (λ n. tenant_columns n x.row) k) (λ r h. ap (λ x. int_of (column x 6)) h) (d 1) (tenants_are (d 1) c.fits.tenants) uses;
    keys = keys_are (d 3) c.fits.keys;
    buckets = buckets_are (d 5) c.fits.buckets;
    versions = versions_are (d 7) c.fits.versions;
    blocks = blocks_are (d 10) c.fits.blocks;
    refs = refs_are (d 12) c.fits.refs;
    uploads = held_shown (upload_form sums) stored_upload_form (λ (x : UploadColumns). x.row) (Keeps sums) (λ r. refl) (λ x k. ap (λ n. upload_columns n x.row) k) (λ r h. ap (λ x. int_of (column x 6)) h) (d 16) (uploads_are (d 16) c.fits.uploads) keeps;
    parts = parts_are (d 18) c.fits.parts;
    uses = uses_are (d 23) c.fits.uses;
    locks = locks_are (d 26) c.fits.locks;
    retains = retains_are (d 28) c.fits.retains;
    tallies = tallies_are (d 30) c.fits.tallies;
    tallied = tallies_kept edition trees c.tallies c.fits.tallies;
    garbage = garbage_are (d 44) c.fits.garbage;
    weighed = garbage_kept edition trees c.garbage c.fits.garbage c.counts;
    measured = refl;
    packs = packs_are (d 32) c.fits.packs;
    places = places_are (d 34) c.fits.places;
    unfilled = none_filled d unfilled_trees c.fits.unfilled;
    counts = counts_are (block_refs d) (typed ref_form (d 12)) (refs_counted d) (d 23) (d 10) (all_from_test (is_fit use_kinds) (d 23) c.fits.uses.fit) c.counts;
  }
