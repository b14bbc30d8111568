-- The rows that a listing of versions reads.
use Rattle.std.proofs.Common.{◌≡◌, ℕ, ◌<◌, ◌≤◌, Bool, true, ◌&&◌, List, [], ◌∷◌, ◌++◌, length, map, filter, take, Option, Some, None, Result, Ok, Err, IfOk, refl, sym, ap, subst, ◌∙◌, arith}
use Rattle.std.specs.List.{AllByRecursion}
use Rattle.sqlite_keyed.specs.Lists.{sort_by}
use Rattle.sqlite_keyed.proofs.ListLemmas.{all-filter}
use Rattle.sqlite_typed.specs.Tests.{bytes_eq}
use Rattle.bh_model.specs.State.{Octets}
use Rattle.bh_model.specs.Pages.{Listed, VersionItem, begins}
use Rattle.bh_tables.specs.Typed.{VersionRow, Tables}
use Rattle.bh_view.proofs.SortLemmas.{all-sort_by}
use Rattle.bh_pages.specs.Gathered.{Gathered, past_name}
use Rattle.bh_pages.specs.Seen.{token_of}
use Rattle.bh_pages.specs.Versions.{Numbered, row_key, IsUnder, IsStrict, is_from, nothing_after, versions_to_come, seen, seen_line, seen_place, AreRows, IsUnderway, rows_at, AreNext}
use Rattle.bh_pages.specs.declared.gathering.PageAsked.{PageAsked}
use Rattle.bh_pages.specs.declared.places.Place as program
use Rattle.bh_pages.specs.declared.places.PlaceReading.{PlaceReading}
use Rattle.bh_pages.specs.declared.versions.VersionLine.{VersionLine}
use Rattle.bh_pages.specs.declared.versions.ShownVersion.{ShownVersion}
use Rattle.bh_pages.proofs.VersionRows.{strict_filter, filter_passes, filter_all}
use Rattle.bh_listing.specs.Rows.{version_order, AreSmallKeys}
use Rattle.bh_listing.specs.Texts.{rows_placed}
use Rattle.bh_listing.specs.Versions.{rows as shows}
use Rattle.bh_listing.specs.Versions.{shown_numbered, row_numbered, place_rows, own_rows, listed_from}
use Rattle.bh_listing.proofs.VersionViewed.{chunk_from, chunk_older}

pub all_both : {X : Type 0} (P Q : X → Type 0) (l : List X) → AllByRecursion P l → AllByRecursion Q l → AllByRecursion (λ x. P x × Q x) l
all_both P Q [] p q = tt
all_both P Q (x ∷ l) p q = ((p.0, q.0), all_both P Q l p.1 q.1)

module _ (asked : PageAsked) (tenant bucket : Octets) (versions : List VersionRow) where
  abbrev is_own : VersionRow → Bool
  is_own v = bytes_eq v.tenant tenant && bytes_eq v.bucket bucket

  abbrev rows : List Numbered
  rows = own_rows tenant bucket versions

  -- the rows of the bucket under the prefix
  abbrev pub under_rows : List Numbered
  under_rows = filter (λ r. begins asked.prefix.now (row_key r)) rows

  -- of which none is read
  pub begin_reading : (place : program.Place) (key : Option Octets) → IsUnder asked.prefix.now place.key.items place.after → (reading : PlaceReading ShownVersion) → seen reading.gathering ≡ nothing_after key → reading.place ≡ place
      → IsUnderway asked under_rows (listed_from asked (record { place = seen_place place; key = key }) rows) reading
  begin_reading place key low reading is at = record {
    low = subst (λ (p : program.Place). IsUnder asked.prefix.now p.key.items p.after) (sym at) low;
    part = record {
      room = subst (λ (g : Gathered VersionItem). length g.entries ≤ asked.max) (sym is) (omega arith);
      whole = λ i. (is i).entries ++ versions_to_come asked.prefix.now asked.delimiter.now (token_of asked) (is i) (filter (is_from (seen_place (at i))) under_rows);
    };
  }

  module _ (small : AreSmallKeys versions) where
    small_rows : AllByRecursion (λ r. AllByRecursion (λ b. b < 255) (row_key r)) rows
    small_rows = numbered (sort_by version_order (filter is_own versions))
        (all-sort_by version_order (λ v. AllByRecursion (λ b. b < 255) v.okey) _ (all-filter (λ v. AllByRecursion (λ b. b < 255) v.okey) is_own versions small))
      where
        numbered : (l : List VersionRow) → AllByRecursion (λ v. AllByRecursion (λ b. b < 255) v.okey) l → AllByRecursion (λ r. AllByRecursion (λ b. b < 255) (row_key r)) (map row_numbered l)
        numbered [] all = tt
        numbered (v ∷ l) all = (all.0, numbered l all.1)

    pub are_rows : IsStrict rows → AreRows asked.prefix.now under_rows
    are_rows up = record {
      in_order = strict_filter (λ r. begins asked.prefix.now (row_key r)) rows up;
      under = all_both (λ r. begins asked.prefix.now (row_key r) ≡ true) (λ r. AllByRecursion (λ b. b < 255) (row_key r)) under_rows
          (filter_passes (λ r. begins asked.prefix.now (row_key r)) rows) (filter_all (λ r. AllByRecursion (λ b. b < 255) (row_key r)) (λ r. begins asked.prefix.now (row_key r)) rows small_rows);
    }

    chunk_is : (n : ℕ) (key : Octets) (older : Option ℕ) → IsUnder asked.prefix.now key older → map row_numbered (place_rows tenant bucket key older (past_name asked.prefix.now) n versions) ≡ take n (rows_at key older under_rows)
    chunk_is n key None low = chunk_from tenant bucket asked.prefix.now versions small key low n
    chunk_is n key (Some seq) low = chunk_older tenant bucket asked.prefix.now versions small key seq low n

    pub are_next : (listing : List (Listed VersionItem)) (reading : PlaceReading ShownVersion) → IsUnderway asked under_rows listing reading → (lines : List VersionLine)
        → map seen_line lines ≡ map row_numbered (place_rows tenant bucket reading.place.key.items reading.place.after (past_name asked.prefix.now) reading.count versions) → AreNext under_rows reading lines
    are_next listing reading was lines are = are ∙ chunk_is reading.count reading.place.key.items reading.place.after was.low

-- what the texts show at a place
pub placed : (tenant bucket key : Octets) (after : Option ℕ) (upto : Octets) (n : ℕ) (t : Tables) → rows_placed shows tenant bucket key after upto n t ≡ map shown_numbered (place_rows tenant bucket key after upto n t.versions)
placed tenant bucket key None upto n t = refl
placed tenant bucket key (Some seq) upto n t = refl

-- the lines that were read, as the rows that they are
pub lines_are : (asked : PageAsked) (tenant bucket : Octets) (current versions : List VersionRow) (key : Octets) (older : Option ℕ) (upto upto_slice : Octets) (lines line_slice : List VersionLine) (n : ℕ)
    → upto_slice ≡ upto → upto ≡ past_name asked.prefix.now → line_slice ≡ lines → current ≡ versions
    → map seen_line lines ≡ map row_numbered (place_rows tenant bucket key older upto_slice n current)
    → map seen_line line_slice ≡ map row_numbered (place_rows tenant bucket key older (past_name asked.prefix.now) n versions)
lines_are asked tenant bucket current versions key older upto upto_slice lines line_slice n u p l v shown =
    ap (map seen_line) l ∙ shown ∙ (λ i. map row_numbered (place_rows tenant bucket key older ((u ∙ p) i) n (v i)))

pub if_ok_then : {X E : Type 0} (P Q : X → Type 0) → ((x : X) → P x → Q x) → (r : Result X E) → IfOk r P → IfOk r Q
if_ok_then P Q f (Ok x) h = f x h
if_ok_then P Q f (Err e) h = tt
