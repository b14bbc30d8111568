-- The rows that a listing of uploads reads.
use Rattle.std.proofs.Common.{◌≡◌, ℕ, ◌<◌, ◌≤◌, true, List, ◌++◌, length, map, filter, take, Option, Some, None, refl, sym, ap, subst, ◌∙◌, arith, nat_cmp}
use Rattle.std.proofs.lemmas.Cmp.{nat_cmp_total}
use Rattle.std.specs.List.{AllByRecursion}
use Rattle.bh_model.specs.State.{Octets}
use Rattle.bh_model.specs.Pages.{Listed, UploadItem, begins}
use Rattle.bh_tables.specs.Typed.{UploadRow, Tables}
use Rattle.bh_pages.specs.Gathered.{Gathered, past_name}
use Rattle.bh_pages.specs.Places.{IsUnder}
use Rattle.bh_pages.specs.Versions.{seen_place}
use Rattle.bh_pages.specs.Uploads.{upload_key, upload_number, is_from, IsStrict, uploads_to_come, seen_line, seen, nothing, rows_at, AreRows, IsUnderway, AreNext}
use Rattle.bh_pages.specs.declared.gathering.PageAsked.{PageAsked}
use Rattle.bh_pages.specs.declared.places.Place as program
use Rattle.bh_pages.specs.declared.places.PlaceReading.{PlaceReading}
use Rattle.bh_pages.specs.declared.uploads.UploadLine.{UploadLine}
use Rattle.bh_pages.proofs.Placing.{strict_filter}
use Rattle.bh_pages.proofs.Filters.{filter_passes, filter_all}
use Rattle.bh_listing.proofs.VersionLooping.{all_both}
use Rattle.bh_upload_listing.specs.Places.{listed_from}
use Rattle.bh_listing.specs.Texts.{rows_placed}
use Rattle.bh_listing.specs.Uploads.{rows as shows}
use Rattle.bh_listing.specs.Uploads.{shown_listed, row_item, place_rows, own_items}
use Rattle.bh_upload_listing.proofs.Viewed.{AreSmallKeys, chunk_from, chunk_later}

module _ (asked : PageAsked) (tenant bucket : Octets) (uploads : List UploadRow) where
  abbrev items : List UploadItem
  items = own_items tenant bucket uploads

  -- the uploads of the bucket under the prefix
  abbrev pub under_items : List UploadItem
  under_items = filter (λ u. begins asked.prefix.now u.key) items

  -- of which none is read
  pub begin_reading : (place : program.Place) → IsUnder asked.prefix.now place.key.items place.after → (reading : PlaceReading UploadLine) → seen reading.gathering ≡ nothing → reading.place ≡ place
      → IsUnderway asked under_items (listed_from asked (seen_place place) items) reading
  begin_reading place low reading is at = record {
    low = subst (λ (p : program.Place). IsUnder asked.prefix.now p.key.items p.after) (sym at) low;
    part = record {
      room = subst (λ (g : Gathered UploadItem). length g.entries ≤ asked.max) (sym is) (omega arith);
      whole = λ i. (is i).entries ++ uploads_to_come asked (is i) (filter (is_from (seen_place (at i))) under_items);
    };
  }

  pub are_rows : AllByRecursion (λ (u : UploadItem). AllByRecursion (λ b. b < 255) u.key) items → IsStrict items → AreRows asked.prefix.now under_items
  are_rows small up = record {
    in_order = strict_filter nat_cmp nat_cmp_total upload_key upload_number (λ u. begins asked.prefix.now u.key) items up;
    under = all_both (λ (u : UploadItem). begins asked.prefix.now u.key ≡ true) (λ (u : UploadItem). AllByRecursion (λ b. b < 255) u.key) under_items
        (filter_passes (λ (u : UploadItem). begins asked.prefix.now u.key) items) (filter_all (λ (u : UploadItem). AllByRecursion (λ b. b < 255) u.key) (λ u. begins asked.prefix.now u.key) items small);
  }

  module _ (small : AreSmallKeys tenant bucket uploads) where
    chunk_is : (n : ℕ) (key : Octets) (after : Option ℕ) → IsUnder asked.prefix.now key after → map row_item (place_rows tenant bucket key after (past_name asked.prefix.now) n uploads) ≡ take n (rows_at key after under_items)
    chunk_is n key None low = chunk_from tenant bucket uploads asked.prefix.now small key low n
    chunk_is n key (Some m) low = chunk_later tenant bucket uploads asked.prefix.now small key m low n

    pub are_next : (listing : List (Listed UploadItem)) (reading : PlaceReading UploadLine) → IsUnderway asked under_items listing reading → (lines : List UploadLine)
        → map seen_line lines ≡ map row_item (place_rows tenant bucket reading.place.key.items reading.place.after (past_name asked.prefix.now) reading.count uploads) → AreNext under_items reading lines
    are_next listing reading was lines are = are ∙ chunk_is reading.count reading.place.key.items reading.place.after was.low

-- what the texts show at a place
pub placed : (tenant bucket key : Octets) (after : Option ℕ) (upto : Octets) (n : ℕ) (t : Tables) → rows_placed shows tenant bucket key after upto n t ≡ map shown_listed (place_rows tenant bucket key after upto n t.uploads)
placed tenant bucket key None upto n t = refl
placed tenant bucket key (Some m) upto n t = refl

-- the lines that were read, as the rows that they are
pub lines_are : (asked : PageAsked) (tenant bucket : Octets) (current uploads : List UploadRow) (key : Octets) (after : Option ℕ) (upto upto_slice : Octets) (lines line_slice : List UploadLine) (n : ℕ)
    → upto_slice ≡ upto → upto ≡ past_name asked.prefix.now → line_slice ≡ lines → current ≡ uploads
    → map seen_line lines ≡ map row_item (place_rows tenant bucket key after upto_slice n current)
    → map seen_line line_slice ≡ map row_item (place_rows tenant bucket key after (past_name asked.prefix.now) n uploads)
lines_are asked tenant bucket current uploads key after upto upto_slice lines line_slice n u p l v shown =
    ap (map seen_line) l ∙ shown ∙ (λ i. map row_item (place_rows tenant bucket key after ((u ∙ p) i) n (v i)))
