-- The parts that are read for a page are those of the upload that the machine lists.
use Rattle.std.proofs.Common.{◌≡◌, ℕ, suc, ◌+◌, arith, nat_lt, int_lt, pos, ◌&&◌, List, [], ◌∷◌, length, map, filter, Option, Some, Ok, refl, sym, ap, ◌∙◌, Ordering, nat_cmp}
use Rattle.std.specs.List.{AllByRecursion}
use Rattle.std.specs.Cmp.{IsTotalOrder, on_total}
use Rattle.std.specs.FinMap.{entries, get}
use Rattle.std.proofs.lemmas.Cmp.{nat_cmp_total}
use Rattle.std.proofs.lemmas.Simd.{map-map}
use Rattle.sqlite_keyed.specs.Lists.{sort_by}
use Rattle.sqlite_keyed.proofs.ListLemmas.{all-filter, filter-map}
use Rattle.sqlite_typed.specs.Tests.{bytes_eq}
use Rattle.bh_types.specs.Checksums.{checksum_text}
use Rattle.bh_types.specs.Outcomes.{◌>>=◌}
use Rattle.bh_types.specs.declared.bucket_state.BucketState.{BucketState}
use Rattle.bh_types.specs.declared.id.UploadId.{UploadId}
use Rattle.bh_model.specs.State.{Octets, State, Upload, Part}
use Rattle.bh_model.specs.Pages as model
use Rattle.bh_model.specs.Pages.{PartItem, PartsListed, paged, parts_after, parts_page, parts_told}
use Rattle.bh_model.specs.Listings.{parts_listed, list_parts}
use Rattle.bh_model.specs.Operations.{Parts}
use Rattle.bh_tables.specs.Shown.{by_part}
use Rattle.bh_tables.specs.Typed.{PartRow, Tables}
use Rattle.bh_storage.specs.Calls.{GivesStep}
use Rattle.bh_view.specs.Grouped.{same_number, HasUnique}
use Rattle.bh_view.specs.Sound.{IsSound}
use Rattle.bh_view.specs.View.{view, latest_of, rows_of, of_upload, parts_of, part_shown, buckets_of}
use Rattle.bh_view.proofs.Keys.{numbers}
use Rattle.bh_view.proofs.ListingLemmas as listing
use Rattle.bh_view.proofs.SharedLemmas.{shared_none}
use Rattle.bh_view.proofs.SortLemmas.{all-sort_by, sort_by-filter}
use Rattle.bh_view.proofs.UploadLemmas.{upload_row}
use Rattle.bh_view.proofs.ViewLemmas.{own_row}
use Rattle.bh_pages.proofs.Filters.{all_map, filter_twice}
use Rattle.bh_listing.proofs.Answering.{paged_taken}
use Rattle.bh_listing.proofs.RowLemmas.{take_map}
use Rattle.bh_uploads.specs.Found.{upload_in}
use Rattle.bh_uploads.proofs.Uploads.{HasUpload, has_upload}
use Rattle.bh_upload_listing.specs.Parts.{seen_part}
use Rattle.bh_upload_listing.specs.Rows.{is_part_after, parts_from, part_item}
use Rattle.bh_upload_listing.specs.declared.parts.PartLine.{PartLine}
use Rattle.bh_upload_listing.proofs.Viewed.{lt_same, number_order}

-- a row has the size and the checksum of its bytes
abbrev IsTrue : PartRow → Type 0
IsTrue p = (p.size ≡ length p.bytes) × (p.checksum ≡ checksum_text p.bytes)

abbrev pair : PartRow → ℕ × Part
pair p = (p.part, part_shown p)

item_is : (p : PartRow) → IsTrue p → model.part_item (pair p) ≡ part_item p
item_is p is = λ i. record { number = p.part; moment = p.stamp; size = sym is.0 i; checksum = sym is.1 i }

items_are : (l : List PartRow) → AllByRecursion IsTrue l → map (λ p. model.part_item (pair p)) l ≡ map part_item l
items_are [] all = refl
items_are (p ∷ l) all = λ i. item_is p all.0 i ∷ items_are l all.1 i

abbrev by_number : PartRow → PartRow → Ordering
by_number a b = nat_cmp a.part b.part

orders_are : by_part ≡ by_number
orders_are = λ i a b. number_order a.part b.part i

number_total : IsTotalOrder by_number
number_total = on_total (λ (p : PartRow). p.part) nat_cmp_total

-- the parts of an upload's map are those of the table's rows
pub parts_are : (marker : ℕ) (own : List PartRow) → HasUnique same_number (λ (p : PartRow). p.part) own → AllByRecursion IsTrue own
    → parts_after marker (entries (parts_of own)) ≡ map part_item (sort_by by_part (filter (λ p. nat_lt marker p.part) own))
parts_are marker own one true_rows =
    ap (parts_after marker) (listing.entries-keyed numbers (λ (p : PartRow). p.part) (λ _ p. part_shown p) own one)
    ∙ ap (map model.part_item) (filter-map (λ (p : ℕ × Part). nat_lt marker p.0) pair (sort_by by_number own))
    ∙ map-map model.part_item pair (filter (λ p. nat_lt marker p.part) (sort_by by_number own))
    ∙ ap (map (λ p. model.part_item (pair p))) (sym (sort_by-filter by_number number_total (λ p. nat_lt marker p.part) own))
    ∙ items_are (sort_by by_number (filter (λ p. nat_lt marker p.part) own)) (all-sort_by by_number IsTrue _ (all-filter IsTrue (λ p. nat_lt marker p.part) own true_rows))
    ∙ ap (λ (o : PartRow → PartRow → Ordering). map part_item (sort_by o (filter (λ p. nat_lt marker p.part) own))) (sym orders_are)

module _ (tables : Tables) (t : Octets) (sound : IsSound tables) where
  -- the rows that are read are those of the upload
  rows_are : (n marker : ℕ) → filter (is_part_after t n marker) tables.parts ≡ filter (λ p. nat_lt marker p.part) (of_upload n (rows_of t tables).parts)
  rows_are n marker =
      filter_twice (λ (p : PartRow). bytes_eq p.tenant t) (λ p. same_number p.upload n && int_lt (pos marker) (pos p.part)) tables.parts
      ∙ filter_twice (λ (p : PartRow). same_number p.upload n) (λ p. int_lt (pos marker) (pos p.part)) (rows_of t tables).parts
      ∙ (λ i. filter (λ (p : PartRow). lt_same marker p.part i) (of_upload n (rows_of t tables).parts))

  true_parts : (n : ℕ) → AllByRecursion IsTrue (of_upload n (rows_of t tables).parts)
  true_parts n = all-filter IsTrue (λ (p : PartRow). same_number p.upload n) (rows_of t tables).parts (all_map (λ p good. (good.size, good.checksum)) (rows_of t tables).parts (sound.tenants t).parts.each)

  module _ (name key : Octets) (upload : Option UploadId) (mode : BucketState) (n : ℕ) (found : upload_in name key upload (view tables t) ≡ Ok (mode, n)) where
    its : HasUpload name key upload (view tables t) mode n
    its = has_upload name key mode n upload (view tables t) found

    -- the parts of the upload that was found
    parts_there : its.upload.parts ≡ parts_of (of_upload n (rows_of t tables).parts)
    parts_there =
        let here : get (buckets_of (rows_of t tables)) name ≡ Some its.bucket = ap (λ (x : State). get x.buckets name) (own_row tables t its.state its.added).2 ∙ its.there in
        sym (ap (λ (u : Upload). u.parts) (upload_row (rows_of t tables) name its.bucket here n its.upload its.begun).2)

    abbrev all : ℕ → List PartItem
    all marker = map part_item (sort_by by_part (filter (is_part_after t n marker) tables.parts))

    after_are : (marker : ℕ) → parts_after marker (entries its.upload.parts) ≡ all marker
    after_are marker =
        ap (λ m. parts_after marker (entries m)) parts_there ∙ parts_are marker (of_upload n (rows_of t tables).parts) ((sound.tenants t).parts.one n) (true_parts n)
        ∙ ap (λ l. map part_item (sort_by by_part l)) (sym (rows_are n marker))

    told : (max marker : ℕ) → parts_listed name key upload max marker (view tables t) ≡ Ok (parts_told name key (record { number = n }) max (parts_page max marker (entries its.upload.parts)))
    told max marker = rw its.found refl

    -- what was read of the rows is told as the machine tells it
    pub list_is : (max marker count : ℕ) → count ≡ suc max → (lines slice : List PartLine) → slice ≡ lines → (tenant : Octets) (current : Tables) → tenant ≡ t → current ≡ tables
        → map seen_part lines ≡ map part_item (parts_from tenant n marker count current.parts)
        → (page : PartsListed) → page ≡ parts_told name key (record { number = n }) max (paged max (map seen_part slice)) → parts_listed name key upload max marker (view tables t) ≡ Ok page
    list_is max marker count is_count lines slice is_slice tenant current is_t is_now read page page_is =
        told max marker
        ∙ ap (λ p. Ok (parts_told name key (record { number = n }) max p))
        (ap (paged max) (after_are marker) ∙ sym (paged_taken max (all marker))
        ∙ ap (paged max) (take_map part_item (suc max) (sort_by by_part (filter (is_part_after t n marker) tables.parts)) ∙ sym (read ∙ (λ i. map part_item (parts_from (is_t i) n marker (is_count i) ((is_now i).parts))))))
        ∙ ap (λ p. Ok p) (sym (page_is ∙ ap (λ l. parts_told name key (record { number = n }) max (paged max (map seen_part l))) is_slice))

pub one_more : (m n : ℕ) → m ≡ n → m + 1 ≡ suc n
one_more m n h = omega (arith, h)

-- the machine's step, where no row changed
pub list_step : (old new : Tables) (t name key : Octets) (upload : Option UploadId) (max marker : ℕ) (page : PartsListed) → parts_listed name key upload max marker (view old t) ≡ Ok page → new ≡ old
    → GivesStep t (list_parts name key upload max marker) (Parts page) old new
list_step old new t name key upload max marker page is same = record {
  gives = ap (λ r. r >>= (λ (p : PartsListed). Ok (Parts p, view old t))) is ∙ ap (λ (x : Tables). Ok (Parts page, view x t)) (sym same);
  others = λ u apart. ap (λ (x : Tables). view x u) same;
  latest = ap latest_of same;
  shared = shared_none old new same;
}
