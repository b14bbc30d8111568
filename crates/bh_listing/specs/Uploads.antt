-- The rows of a bucket's uploads in the order of a listing, and their values.
use Rattle.std.specs.Prelude.{ℕ, pos, Bool, ◌&&◌, int_lt, ◌<◌, List, [], ◌∷◌, map, filter, take, Option, Some, None}
use Rattle.std.specs.List.{AllByRecursion}
use Rattle.sqlite.specs.declared.types.Value.TheVariants.{Blob}
use Rattle.sqlite.specs.Order.{Row}
use Rattle.sqlite_keyed.specs.Lists.{sort_by}
use Rattle.sqlite_typed.specs.Tests.{bytes_eq, bytes_le, bytes_lt}
use Rattle.bh_model.specs.Pages.{UploadItem}
use Rattle.bh_pages.specs.Uploads.{seen_line}
use Rattle.bh_pages.specs.declared.uploads.UploadLine.{UploadLine}
use Rattle.bh_listing.specs.Texts.{Columns, Shows}
use Rattle.bh_tables.specs.Schema.{Octets}
use Rattle.bh_tables.specs.Shown.{is_upload_in, by_key}
use Rattle.bh_tables.specs.Typed.{UploadRow, number}

-- of this bucket, with a key from one text on and before another
abbrev pub is_listed : Octets → Octets → Octets → Octets → UploadRow → Bool
is_listed tenant bucket from upto u =
    bytes_eq u.tenant tenant && (bytes_eq u.bucket bucket && (bytes_le from u.okey && bytes_lt u.okey upto))

-- of this key of a bucket, with a greater number
abbrev pub is_later_of : Octets → Octets → Octets → ℕ → UploadRow → Bool
is_later_of tenant bucket okey n u =
    bytes_eq u.tenant tenant && (bytes_eq u.bucket bucket && (bytes_eq u.okey okey && int_lt (pos n) (pos u.upload)))

abbrev pub shown_listed : UploadRow → Row
shown_listed u = Blob u.okey ∷ number u.upload ∷ number u.begun ∷ []

-- the first of them
abbrev pub listed_rows : Octets → Octets → Octets → Octets → ℕ → List UploadRow → List UploadRow
listed_rows tenant bucket from upto count uploads = take count (sort_by by_key (filter (is_listed tenant bucket from upto) uploads))

abbrev pub later_rows : Octets → Octets → Octets → ℕ → ℕ → List UploadRow → List UploadRow
later_rows tenant bucket okey n count uploads = take count (sort_by by_key (filter (is_later_of tenant bucket okey n) uploads))

-- the first rows at a place: of a key those after a number, or those from a key on and before a text
abbrev pub place_rows : Octets → Octets → Octets → Option ℕ → Octets → ℕ → List UploadRow → List UploadRow
place_rows tenant bucket key None upto count uploads = listed_rows tenant bucket key upto count uploads
place_rows tenant bucket key (Some n) upto count uploads = later_rows tenant bucket key n count uploads

-- a row in a listing of uploads
abbrev pub row_item : UploadRow → UploadItem
row_item u = record { key = u.okey; id = record { number = u.upload }; begun = u.begun }

abbrev pub columns : Columns UploadLine UploadRow UploadItem
columns = record { shown = shown_listed; see = seen_line; told = row_item }

abbrev pub rows : Shows
rows = record {
  keyed = λ tenant bucket from upto count t. map shown_listed (listed_rows tenant bucket from upto count t.uploads);
  later = λ tenant bucket key n count t. map shown_listed (later_rows tenant bucket key n count t.uploads);
}

-- the uploads of a bucket, in the order of a listing
abbrev pub own_items : Octets → Octets → List UploadRow → List UploadItem
own_items tenant bucket uploads = map row_item (sort_by by_key (filter (is_upload_in tenant bucket) uploads))

-- no key has a byte of 255, as no text of UTF-8 has
abbrev pub AreSmallKeys : List UploadRow → Type 0
AreSmallKeys uploads = AllByRecursion (λ u. AllByRecursion (λ b. b < 255) u.okey) uploads
