-- Rows of blocks that were filled: they are those of the filled trees, whose columns are right.
use Rattle.std.proofs.Common.{arith, ◌≡◌, inl, inr, ℕ, true, List, [], ◌∷◌, map, Option, Some, None, refl, sym, ap, ap₂, ◌∙◌, subst}
use Rattle.std.specs.List.{AllByRecursion, AllZip, list_all}
use Rattle.std.specs.Cmp.Derive.{both_true}
use Rattle.std.proofs.lemmas.Bool.{cases_eq}
use Rattle.sqlite.specs.declared.types.Value.TheVariants.{Int, Blob}
use Rattle.sqlite.specs.Edit.{id_in}
use Rattle.sqlite.specs.Order.{Row, column}
use Rattle.sqlite.specs.Tree.{Trees, rowid}
use Rattle.sqlite_keyed.proofs.ListLemmas.{all_map}
use Rattle.sqlite_rules.proofs.ListLemmas.{all_has}
use Rattle.sqlite_typed.specs.Columns.{bytes_of}
use Rattle.bh_rows.specs.Form.{AreRows, typed}
use Rattle.bh_shelf.specs.Contents.{Contents}
use Rattle.bh_tables.specs.Schema.{Octets}
use Rattle.bh_tables.specs.Bodies.{Name, block_name}
use Rattle.bh_tables.specs.Rows.{BlockRow, PlaceRow, block_of, block_form, pack_form, place_form, number}
use Rattle.bh_tables.specs.Packs.{place_at, is_place, places_in, packs_in}
use Rattle.bh_check.specs.Awaits.{HasReached}
use Rattle.bh_base.specs.Placed.{with_blob, put_bytes, put_in, filled_row, below, filled_trees}
use Rattle.bh_base.proofs.Filling.{IsHad, first_has}
use Rattle.bh_base.proofs.Placing.{below_is}
use Rattle.bh_base.proofs.Statements.{outside}
use Rattle.bh_base.proofs.Stored.{IsBlock, filled_whole}
use Rattle.bh_stored.specs.Cells.{is_fit}
use Rattle.bh_stored.specs.Fits.{AreAllFit, block_kinds}
use Rattle.bh_stored.specs.Stored.{AreStoredIn}
use Rattle.bh_stored.specs.declared.stored.Stored.{Stored}
use Rattle.bh_stored.proofs.Fitted.{blocks_are}
use Rattle.bh_check.specs.Blocks.{AreNamed}
use Rattle.bh_check.specs.Filled.{IsFilled, AreFilled, AreKnown}
use Rattle.bh_check.specs.Holds.{number_at}
use Rattle.bh_check.specs.Looked.{IsNamedAs, AreReadOf, IsShownAs, AreShown}
use Rattle.bh_check.specs.declared.filled.Known.{Known}
use Rattle.bh_check.proofs.ZipLemmas.{zip_so}

-- blocks' rows have their columns
fit_each : (rows : List Row) → AllByRecursion IsBlock rows → list_all (is_fit block_kinds) rows ≡ true
fit_each [] all = refl
fit_each (r ∷ rows) all = both_true (subst (λ l. is_fit block_kinds l ≡ true) (sym all.0) refl) (fit_each rows all.1)

module _ (packs : Contents) (d : Trees) (sizes : HasReached packs (packs_in d) (places_in d)) where
  abbrev here : Contents
  here = below (packs_in d) packs

  abbrev at : Row → Option PlaceRow
  at r = place_at (places_in d) (block_name (block_of r))

  abbrev IsOne : Option PlaceRow → Row → Row → Type 0
  IsOne place r f = (f ≡ put_in here place r) × IsHad here place (block_of r)

  row_filled : (q : Name) (place : Option PlaceRow) → place_at (places_in d) q ≡ place → (r f : Row) → IsBlock r → IsFilled (packs_in d) packs place r f → IsOne place r f
  row_filled q None found r f block is = (is, tt)
  row_filled q (Some p) found r f block is =
      let size = sizes p (first_has (is_place q) (places_in d) p found) is.0 is.2 in
      let bytes : Octets = size.0 in
      let there : here p.pack p.offset p.size ≡ Some bytes = below_is (packs_in d) packs p.pack p.offset p.size bytes is.2 size.1 size.2 in
      let whole : r ≡ Int (id_in (rowid r)) ∷ Blob (block_of r).digest ∷ number (block_of r).ord ∷ Blob [] ∷ [] = block ∙ ap (λ o. Int (id_in (rowid r)) ∷ Blob (block_of r).digest ∷ number (block_of r).ord ∷ Blob o ∷ []) is.1 in
      let put : put_in here (Some p) r ≡ Int (id_in (rowid r)) ∷ Blob (block_of r).digest ∷ number (block_of r).ord ∷ Blob bytes ∷ [] = ap (λ o. put_bytes o r) there ∙ ap (with_blob bytes) whole in
      let columns : column r 0 ∷ column r 1 ∷ column r 2 ∷ Blob bytes ∷ [] ≡ Int (id_in (rowid r)) ∷ Blob (block_of r).digest ∷ number (block_of r).ord ∷ Blob bytes ∷ [] =
      ap (λ (l : Row). column l 0 ∷ column l 1 ∷ column l 2 ∷ Blob bytes ∷ []) whole in
      (is.3 bytes size.1 size.2 ∙ columns ∙ sym put, record { own = is.1; bytes = bytes; there = there })

  rows_filled : (rows fs : List Row) → AllByRecursion IsBlock rows → AreFilled (packs_in d) packs (places_in d) rows fs → (fs ≡ map (filled_row here (places_in d)) rows) × AllByRecursion (λ r. IsHad here (at r) (block_of r)) rows
  rows_filled [] [] all is = (refl, tt)
  rows_filled [] (f ∷ fs) all is = absurd is
  rows_filled (r ∷ rows) [] all is = absurd is
  rows_filled (r ∷ rows) (f ∷ fs) all is =
      let one = row_filled (block_name (block_of r)) (at r) refl r f all.0 is.0 in
      let rest = rows_filled rows fs all.1 is.1 in
      (ap₂ ◌∷◌ one.0 rest.0, (one.1, rest.1))

  -- the name stays
  named_as : (q : Name) (place : Option PlaceRow) → place_at (places_in d) q ≡ place → (r f : Row) → IsFilled (packs_in d) packs place r f → IsNamedAs r f
  named_as q None found r f is = record { digest = sym (ap (λ (x : Row). bytes_of (column x 1)) is); ord = sym (ap (number_at 2) is) }
  named_as q (Some p) found r f is =
      let size = sizes p (first_has (is_place q) (places_in d) p found) is.0 is.2 in
      let same = is.3 size.0 size.1 size.2 in
      record { digest = sym (ap (λ (x : Row). bytes_of (column x 1)) same); ord = sym (ap (number_at 2) same) }

  -- whatever else is read of a block's place is the same
  rows_shown : (rows fs : List Row) → AllByRecursion IsBlock rows → AreFilled (packs_in d) packs (places_in d) rows fs → AllZip (IsShownAs (packs_in d) packs (places_in d)) rows fs
  rows_shown [] [] all is = tt
  rows_shown [] (f ∷ fs) all is = absurd is
  rows_shown (r ∷ rows) [] all is = absurd is
  rows_shown (r ∷ rows) (f ∷ fs) all is = (
    record {
      name = named_as (block_name (block_of r)) (at r) refl r f is.0;
      is = λ other filled. (row_filled (block_name (block_of r)) (at r) refl r other all.0 filled).0 ∙ sym (row_filled (block_name (block_of r)) (at r) refl r f all.0 is.0).0;
    },
    rows_shown rows fs all.1 is.1,
  )

  -- the rows that were read, and those that blocks have with the bytes of their places
  pub record IsFilledStore (s : Stored) (known : Known) (fs : List Row) : Type 0 where
    pub same : fs ≡ filled_trees packs d 10
    pub read : AreReadOf (filled_trees packs d) s
    pub shown : AreShown packs s known s.blocks.items (filled_trees packs d 10)
    pub fits : AreAllFit (filled_trees packs d)

  pub store_filled : (s : Stored) (known : Known) (fs : List Row) → AreStoredIn d s → AreAllFit d → AreNamed (d 34) → AreKnown s.places.items known
      → AreFilled (typed pack_form s.packs.items) packs (typed place_form s.places.items) s.blocks.items fs → IsFilledStore s known fs
  unfolding filled_trees
  store_filled s known fs stored fits named known_are filled =
      let are = blocks_are (d 10) fits.blocks in
      let its : AreFilled (packs_in d) packs (places_in d) (d 10) fs =
      subst (λ (l : List Row). AreFilled (packs_in d) packs (places_in d) l fs) stored.blocks_is
      (subst (λ (l : List Row). AreFilled (packs_in d) packs (typed place_form l) s.blocks.items fs) stored.places_is
      (subst (λ (l : List Row). AreFilled (typed pack_form l) packs (typed place_form s.places.items) s.blocks.items fs) stored.packs_is filled)) in
      let both = rows_filled (d 10) fs are.each its in
      let had : AllByRecursion (λ (b : BlockRow). IsHad here (place_at (places_in d) (block_name b)) b) (typed block_form (d 10)) = all_map (λ (b : BlockRow). IsHad here (place_at (places_in d) (block_name b)) b) block_of (d 10) both.1 in
      let whole : AreRows block_form (filled_trees packs d 10) = filled_whole packs d are (λ b has. all_has (λ (c : BlockRow). IsHad here (place_at (places_in d) (block_name c)) c) (typed block_form (d 10)) b had has) in
      let each : AllZip (IsShownAs (packs_in d) packs (places_in d)) (d 10) (filled_trees packs d 10) =
      subst (λ (l : List Row). AllZip (IsShownAs (packs_in d) packs (places_in d)) (d 10) l) both.0 (rows_shown (d 10) fs are.each its) in
      let here_each : AllZip (IsShownAs (packs_in d) packs (places_in d)) s.blocks.items (filled_trees packs d 10) =
      subst (λ (l : List Row). AllZip (IsShownAs (packs_in d) packs (places_in d)) l (filled_trees packs d 10)) (sym stored.blocks_is) each in
      let its_each : AllZip (IsShownAs (typed pack_form s.packs.items) packs (typed place_form s.places.items)) s.blocks.items (filled_trees packs d 10) =
      subst (λ (l : List Row). AllZip (IsShownAs (typed pack_form l) packs (typed place_form s.places.items)) s.blocks.items (filled_trees packs d 10)) (sym stored.packs_is)
      (subst (λ (l : List Row). AllZip (IsShownAs (packs_in d) packs (typed place_form l)) s.blocks.items (filled_trees packs d 10)) (sym stored.places_is) here_each) in
      record {
        same = both.0;
        read = record {
          host_is = stored.host_is;
          tenants_is = stored.tenants_is;
          keys_is = stored.keys_is;
          buckets_is = stored.buckets_is;
          versions_is = stored.versions_is;
          blocks_are = zip_so (IsShownAs (packs_in d) packs (places_in d)) IsNamedAs (λ r f is. is.name) s.blocks.items (filled_trees packs d 10) here_each;
          refs_is = stored.refs_is;
          uploads_is = stored.uploads_is;
          parts_is = stored.parts_is;
          uses_is = stored.uses_is;
          locks_is = stored.locks_is;
          retains_is = stored.retains_is;
          tallies_is = stored.tallies_is;
          garbage_is = stored.garbage_is;
        };
        shown = record { each = its_each; known_are = known_are; named = subst AreNamed (sym stored.places_is) named };
        fits = record {
          host = fits.host;
          tenants = fits.tenants;
          keys = fits.keys;
          buckets = fits.buckets;
          versions = fits.versions;
          blocks = record { fit = fit_each (filled_trees packs d 10) whole.each; rises = whole.rises };
          refs = fits.refs;
          uploads = fits.uploads;
          parts = fits.parts;
          uses = fits.uses;
          locks = fits.locks;
          retains = fits.retains;
          tallies = fits.tallies;
          garbage = fits.garbage;
          packs = fits.packs;
          places = fits.places;
          unfilled = fits.unfilled;
        };
      }

-- without places the rows are as they are
pub unplaced : (packs : Contents) (d : Trees) → d 34 ≡ [] → filled_trees packs d ≡ d
unfolding filled_trees
unplaced packs d none = λ i t. each t i
  where
    same : (rows : List Row) → map (filled_row (below (packs_in d) packs) []) rows ≡ rows
    same [] = refl
    same (r ∷ rows) = ap (λ l. r ∷ l) (same rows)

    all : map (filled_row (below (packs_in d) packs) (places_in d)) (d 10) ≡ d 10
    all = ap (λ (l : List Row). map (filled_row (below (packs_in d) packs) (typed place_form l)) (d 10)) none ∙ same (d 10)

    each : (t : ℕ) → filled_trees packs d t ≡ d t
    each t = elim (cases_eq t 10) [
      | inl is ↦ subst (λ n. filled_trees packs d n ≡ d n) (sym is) all
      | inr other ↦ outside packs d t other
    ]

pub none_named : (rows : List Row) → rows ≡ [] → AreNamed rows
none_named rows none = subst AreNamed (sym none) (λ q. omega arith)

pub none_reached : (packs : Contents) (d : Trees) → d 34 ≡ [] → HasReached packs (packs_in d) (places_in d)
none_reached packs d none = subst (λ (l : List Row). HasReached packs (packs_in d) (typed place_form l)) (sym none) (λ p has. absurd has)
