-- The rows of an upload's parts tell the parts of the state, and what chosen rows make is what the machine joins.
use Rattle.std.proofs.Common.{◌≡◌, ℕ, ◌+◌, false, ◌||◌, List, [], ◌∷◌, ◌++◌, map, filter, flat_map, length, slice_get, Option, Some, None, option_map, refl, sym, ap, ap₂, ◌∙◌, subst, nat_cmp, zero, suc, sum_by}
use Rattle.std.specs.Prelude.{option_and_then}
use Rattle.std.specs.Bool.{one_answer}
use Rattle.std.specs.Cmp.{unsigned_Decides}
use Rattle.std.specs.List.{AllByRecursion, list_any, filter_map, cons_option}
use Rattle.std.specs.String.{string_bytes}
use Rattle.std.specs.FinMap.{FinMap, get}
use Rattle.std.proofs.lemmas.List.Elements.{All-from_recursion}
use Rattle.std.proofs.lemmas.List.Sums.{sum_by-cons}
use Rattle.std.proofs.lemmas.List.Concat.{length-flat_map}
use Rattle.sha2.specs.Sha256.{sha256}
use Rattle.sqlite_keyed.proofs.ListLemmas.{all_weaker, all_both, all-filter, filter_none, none_from_any, all-slice_get, map-map}
use Rattle.sqlite_typed.specs.Tests.{bytes_eq}
use Rattle.bh_types.specs.Checksums.{checksum_text, joined_text}
use Rattle.bh_core.specs.declared.parts.PartRow as core
use Rattle.bh_core.specs.Completions.{is_numbered, TellParts, IsRowOf, part_at, joined_at}
use Rattle.bh_model.specs.State.{Octets, Content.Body, Part}
use Rattle.bh_model.specs.Parts.{joined}
use Rattle.bh_tables.specs.Bodies.{whole, part_name}
use Rattle.bh_tables.specs.Typed.{PartRow, Tables}
use Rattle.bh_tables.specs.Shown.{is_part_of, by_part}
use Rattle.bh_view.specs.Bodies.{IsResolved}
use Rattle.bh_view.specs.Grouped.{first, matching, same_number}
use Rattle.bh_view.specs.Sound.{IsPartRow, IsSound}
use Rattle.bh_view.specs.View.{rows_of, of_upload, parts_of, part_shown, latest_of}
use Rattle.bh_view.proofs.FactLemmas.{each_first}
use Rattle.bh_view.proofs.FilterLemmas.{filter_both}
use Rattle.bh_view.proofs.GroupedLemmas.{get-keyed}
use Rattle.bh_view.proofs.Keys.{numbers}
use Rattle.bh_view.proofs.NameLemmas.{all-unsorted}
use Rattle.bh_view.proofs.SortLemmas.{all-sort_by}
use Rattle.bh_uploads.specs.Found.{joined_bytes, joined_content}
use Rattle.bh_uploads.specs.declared.joining.Joined.{Joined}
use Rattle.bh_uploads.specs.Joining.{taken, sums_at, IsJoined}
use Rattle.bh_uploads.specs.Rows.{SeenRow, seen_row, row_seen, listed_parts}
use Rattle.bh_uploads.proofs.Closing.{its_tenant}

-- ---- lists that run together

-- what a row tells of a part
pub record Tells (row : core.PartRow) (p : PartRow) : Type 0 where
  pub number : row.number ≡ p.part
  pub size : row.size ≡ p.size
  pub checksum : string_bytes row.sum ≡ p.checksum

abbrev Together : List core.PartRow → List PartRow → Type 0
Together [] [] = Unit {0}
Together [] (p ∷ ps) = ⊥
Together (row ∷ rows) [] = ⊥
Together (row ∷ rows) (p ∷ ps) = Tells row p × Together rows ps

abbrev head_of : SeenRow → List SeenRow → SeenRow
head_of other [] = other
head_of other (x ∷ xs) = x

abbrev tail_of : List SeenRow → List SeenRow
tail_of [] = []
tail_of (x ∷ xs) = xs

together : (rows : List core.PartRow) (ps : List PartRow) → map row_seen rows ≡ map seen_row ps → Together rows ps
together [] [] e = tt
together [] (p ∷ ps) e = absurd (cc)
together (row ∷ rows) [] e = absurd (cc)
together (row ∷ rows) (p ∷ ps) e =
    let same : row_seen row ≡ seen_row p = ap (head_of (row_seen row)) e in
    (record { number = ap (λ (x : SeenRow). x.number) same; size = ap (λ (x : SeenRow). x.size) same; checksum = ap (λ (x : SeenRow). x.checksum) same }, together rows ps (ap tail_of e))

slice_map : {A B : Type 0} (f : A → B) (xs : List A) (i : ℕ) → slice_get (map f xs) i ≡ option_map f (slice_get xs i)
slice_map f [] i = refl
slice_map f (x ∷ xs) zero = refl
slice_map f (x ∷ xs) (suc i) = slice_map f xs i

module _ {A B : Type 0} (f : A → B) (xs : List A) where
  taken_shown : (places : List ℕ) → filter_map (λ at. option_map f (slice_get xs at)) places ≡ map f (taken xs places)
  taken_shown [] = refl
  taken_shown (at ∷ places) = ap (λ l. cons_option (option_map f (slice_get xs at)) l) (taken_shown places) ∙ go (slice_get xs at)
    where
      go : (o : Option A) → cons_option (option_map f o) (map f (taken xs places)) ≡ map f (cons_option o (taken xs places))
      go None = refl
      go (Some x) = refl

  taken_map : (places : List ℕ) → taken (map f xs) places ≡ map f (taken xs places)
  taken_map places = (λ i. filter_map (λ at. slice_map f xs at i) places) ∙ taken_shown places

all_taken : {A : Type 0} (P : A → Type 0) (xs : List A) → AllByRecursion P xs → (places : List ℕ) → AllByRecursion P (taken xs places)
all_taken P xs all [] = tt
all_taken P xs all (at ∷ places) = go (slice_get xs at) refl (all_taken P xs all places)
  where
    go : (o : Option _) → slice_get xs at ≡ o → AllByRecursion P (taken xs places) → AllByRecursion P (cons_option o (taken xs places))
    go None none rest = rest
    go (Some x) there rest = (all-slice_get P xs at x there all, rest)

sum_mapped : {A : Type 0} (f : A → ℕ) (xs : List A) → sum_by f xs ≡ sum_by (λ n. n) (map f xs)
sum_mapped f [] = refl
sum_mapped f (x ∷ xs) = sum_by-cons f x xs ∙ ap (λ n. f x + n) (sum_mapped f xs) ∙ sym (sum_by-cons (λ n. n) (f x) (map f xs))

-- ---- the facts of the listed parts

-- a part has the bytes of its body, of which its size and its checksum are
pub record IsOfBody (t : Octets) (tables : Tables) (p : PartRow) : Type 0 where
  pub bytes : p.bytes ≡ whole tables.refs tables.blocks (t, p.body)
  pub size : p.size ≡ length p.bytes
  pub checksum : p.checksum ≡ checksum_text p.bytes

module _ (tables : Tables) (t : Octets) (n : ℕ) (sound : IsSound tables) where
  abbrev its : List PartRow
  its = filter (is_part_of t n) tables.parts

  its_is : of_upload n (rows_of t tables).parts ≡ its
  its_is = filter_both (λ (p : PartRow). bytes_eq p.tenant t) (λ p. same_number p.upload n) tables.parts

  abbrev listed : List PartRow
  listed = listed_parts t n tables

  abbrev parts : FinMap nat_cmp Part
  parts = parts_of (of_upload n (rows_of t tables).parts)

  get_part : (q : ℕ) → get parts q ≡ option_map part_shown (first (matching same_number (λ (p : PartRow). p.part) q its))
  get_part q = get-keyed numbers (λ (p : PartRow). p.part) (λ _ p. part_shown p) (of_upload n (rows_of t tables).parts) q ∙ ap (λ l. option_map part_shown (first (matching same_number (λ (p : PartRow). p.part) q l))) its_is

  -- each is the part of its number
  each_told : AllByRecursion (λ (p : PartRow). get parts p.part ≡ Some (part_shown p)) listed
  each_told = all-sort_by by_part _ its (all_weaker _ _ (λ (p : PartRow) there. get_part p.part ∙ ap (option_map part_shown) there) its
      (subst (λ (l : List PartRow). AllByRecursion (λ (r : PartRow). first (matching same_number (λ (p : PartRow). p.part) r.part l) ≡ Some r) l) its_is (each_first numbers (λ (p : PartRow). p.part) (of_upload n (rows_of t tables).parts) ((sound.tenants t).parts.one n))))

  each_good : AllByRecursion (IsPartRow (latest_of tables)) its
  each_good = subst (AllByRecursion (IsPartRow (latest_of tables))) its_is (all-filter _ _ _ (sound.tenants t).parts.each)

  each_of_body : IsResolved tables → AllByRecursion (IsOfBody t tables) listed
  each_of_body resolved = all-sort_by by_part _ its (all_both _ _ _ (λ (p : PartRow) (good : IsPartRow (latest_of tables) p) (own : (p.tenant ≡ t) × (p.bytes ≡ whole tables.refs tables.blocks (part_name p))).
      record { bytes = own.1 ∙ ap (λ z. whole tables.refs tables.blocks (z, p.body)) own.0; size = good.size; checksum = good.checksum }) its each_good
      (all_both _ _ _ (λ (p : PartRow) tenant bytes. (tenant, bytes)) its (its_tenant tables t n sound) (all-filter _ (is_part_of t n) tables.parts resolved.parts)))

  -- no part has a number that no row has
  none_other : (q : ℕ) → list_any (λ (p : PartRow). same_number p.part q) listed ≡ false → get parts q ≡ None
  none_other q none = get_part q ∙ ap (λ l. option_map part_shown (first l)) (filter_none _ its (all-unsorted by_part (λ (p : PartRow). same_number p.part q ≡ false) its (none_from_any _ listed none)))

  -- ---- the rows that were read

  module _ (rows : List core.PartRow) (read : map row_seen rows ≡ map seen_row listed) (resolved : IsResolved tables) where
    abbrev IsTold : core.PartRow → Type 0
    IsTold row = (p : Part) × (get parts row.number ≡ Some p) × IsRowOf p row

    told : (rs : List core.PartRow) (ps : List PartRow) → Together rs ps → AllByRecursion (λ (p : PartRow). get parts p.part ≡ Some (part_shown p)) ps → AllByRecursion (IsOfBody t tables) ps → AllByRecursion IsTold rs
    told [] [] together each bodies = tt
    told [] (p ∷ ps) together each bodies = absurd together
    told (r ∷ rs) [] together each bodies = absurd together
    told (r ∷ rs) (p ∷ ps) together each bodies = (
      (part_shown p, ap (get parts) together.0.number ∙ each.0, (together.0.size ∙ bodies.0.size, together.0.checksum ∙ bodies.0.checksum)),
      told rs ps together.1 each.1 bodies.1,
    )

    same_any : (q : ℕ) (rs : List core.PartRow) (ps : List PartRow) → Together rs ps → list_any (is_numbered q) rs ≡ list_any (λ (p : PartRow). same_number p.part q) ps
    same_any q [] [] together = refl
    same_any q [] (p ∷ ps) together = absurd together
    same_any q (r ∷ rs) [] together = absurd together
    same_any q (r ∷ rs) (p ∷ ps) together = ap₂ ◌||◌ (ap (λ m. is_numbered q (record r { number = m })) together.0.number ∙ one_answer _ _ (unsigned_Decides p.part q) (numbers.decides p.part q)) (same_any q rs ps together.1)

    pub tells_parts : TellParts rows parts
    tells_parts = record {
      tells = All-from_recursion IsTold rows (told rows listed (together rows listed read) each_told (each_of_body resolved));
      no_other = λ q none. none_other q (sym (same_any q rows listed (together rows listed read)) ∙ none);
    }

    tells_at : (places : List ℕ) → filter_map (part_at rows parts) places ≡ map part_shown (taken listed places)
    tells_at places = (λ i. filter_map (λ at. here rows listed (together rows listed read) each_told at i) places) ∙ taken_shown part_shown listed places
      where
        here : (rs : List core.PartRow) (ps : List PartRow) → Together rs ps → AllByRecursion (λ (p : PartRow). get parts p.part ≡ Some (part_shown p)) ps → (i : ℕ) → option_and_then (λ (row : core.PartRow). get parts row.number) (slice_get rs i) ≡ option_map part_shown (slice_get ps i)
        here [] [] both each i = refl
        here [] (p ∷ ps) both each i = absurd both
        here (r ∷ rs) [] both each i = absurd both
        here (r ∷ rs) (p ∷ ps) both each zero = ap (get parts) both.0.number ∙ each.0
        here (r ∷ rs) (p ∷ ps) both each (suc i) = here rs ps both.1 each.1 i

    module _ (bodies : List ℕ) (are : bodies ≡ map (λ (p : PartRow). p.body) listed) (places : List ℕ) (j : Joined) (is : IsJoined rows bodies places j) where
      abbrev chosen : List PartRow
      chosen = taken listed places

      chosen_good : AllByRecursion (IsOfBody t tables) chosen
      chosen_good = all_taken (IsOfBody t tables) listed (each_of_body resolved) places

      its_bodies : j.bodies.items ≡ map (λ (p : PartRow). p.body) chosen
      its_bodies = is.bodies_are ∙ ap (λ l. taken l places) are ∙ taken_map (λ (p : PartRow). p.body) listed places

      bytes_of : (ps : List PartRow) → AllByRecursion (IsOfBody t tables) ps → flat_map (λ (p : Part). p.bytes) (map part_shown ps) ≡ joined_bytes t tables (map (λ (p : PartRow). p.body) ps)
      bytes_of [] all = refl
      bytes_of (p ∷ ps) all = ap₂ ◌++◌ all.0.bytes (bytes_of ps all.1)

      joined_is : flat_map (λ (p : Part). p.bytes) (map part_shown chosen) ≡ joined_bytes t tables j.bodies.items
      joined_is = bytes_of chosen chosen_good ∙ ap (joined_bytes t tables) (sym its_bodies)

      -- ---- its checksum

      abbrev bytes : List Octets
      bytes = map (λ (p : PartRow). p.bytes) chosen

      sums_of : (ps : List PartRow) → AllByRecursion (IsOfBody t tables) ps → map (λ (p : PartRow). p.checksum) ps ≡ map checksum_text (map (λ (p : PartRow). p.bytes) ps)
      sums_of [] all = refl
      sums_of (p ∷ ps) all = ap₂ (λ x l. x ∷ l) all.0.checksum (sums_of ps all.1)

      sums_are : sums_at rows places ≡ map checksum_text bytes
      sums_are =
          sym (taken_map (λ (row : core.PartRow). string_bytes row.sum) rows places)
          ∙ ap (λ l. taken l places) (sym (map-map (λ (x : SeenRow). x.checksum) row_seen rows) ∙ ap (map (λ (x : SeenRow). x.checksum)) read ∙ map-map (λ (x : SeenRow). x.checksum) seen_row listed)
          ∙ taken_map (λ (p : PartRow). p.checksum) listed places ∙ sums_of chosen chosen_good

      checksum_is : joined_text (map (λ (p : Part). sha256 p.bytes) (map part_shown chosen)) ≡ string_bytes j.checksum
      checksum_is = ap joined_text (map-map (λ (p : Part). sha256 p.bytes) part_shown chosen ∙ sym (map-map sha256 (λ (p : PartRow). p.bytes) chosen)) ∙ sym (is.checksum_is bytes sums_are)

      -- the machine's object
      pub content_is : joined_at rows parts places ≡ joined_content t tables j
      content_is = ap joined (tells_at places) ∙ ap₂ Body joined_is checksum_is

      -- ---- its size

      sizes_of : (ps : List PartRow) → AllByRecursion (IsOfBody t tables) ps → map (λ (p : PartRow). p.size) ps ≡ map (λ (body : ℕ). length (whole tables.refs tables.blocks (t, body))) (map (λ (p : PartRow). p.body) ps)
      sizes_of [] all = refl
      sizes_of (p ∷ ps) all = ap₂ (λ x l. x ∷ l) (all.0.size ∙ ap length all.0.bytes) (sizes_of ps all.1)

      pub size_is : j.size ≡ length (joined_bytes t tables j.bodies.items)
      size_is =
          is.size_is ∙ sum_mapped (λ (row : core.PartRow). row.size) (taken rows places)
          ∙ ap (sum_by (λ n. n)) (sym (taken_map (λ (row : core.PartRow). row.size) rows places)
          ∙ ap (λ l. taken l places) (sym (map-map (λ (x : SeenRow). x.size) row_seen rows) ∙ ap (map (λ (x : SeenRow). x.size)) read ∙ map-map (λ (x : SeenRow). x.size) seen_row listed)
          ∙ taken_map (λ (p : PartRow). p.size) listed places ∙ sizes_of chosen chosen_good ∙ ap (map (λ (body : ℕ). length (whole tables.refs tables.blocks (t, body)))) (sym its_bodies))
          ∙ sym (sum_mapped (λ (body : ℕ). length (whole tables.refs tables.blocks (t, body))) j.bodies.items)
          ∙ sym (length-flat_map (λ (body : ℕ). whole tables.refs tables.blocks (t, body)) j.bodies.items)
