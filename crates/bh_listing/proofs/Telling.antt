-- What a page shows of what was gathered for it, and what it tells of that.
use Rattle.std.proofs.Common.{◌≡◌, ◌≢◌, ℕ, zero, suc, ◌-◌, ◌<◌, ◌≤◌, nat_lt, true, false, Bool, cond, List, [], ◌∷◌, length, map, take, slice_index_or, Option, Some, None, option_map, refl, sym, ap, ◌∙◌, arith}
use Rattle.std.proofs.lemmas.Bool.Decides.{nat_tests}
use Rattle.std.proofs.lemmas.List.{length-map}
use Rattle.std.specs.String.{string_bytes}
use Rattle.std.specs.declared.alloc.Global.{Global}
use Rattle.std.specs.declared.string.String.{String}
use Rattle.bh_types.specs.declared.id.UploadId.{UploadId}
use Rattle.bh_types.specs.declared.id.VersionId.{VersionId}
use Rattle.bh_model.specs.State.{Octets}
use Rattle.bh_model.specs.Pages.{Listed, PageAsked, Paged, last_of, paged, name_of, ObjectItem, objects_told, VersionItem, version_next, versions_told, UploadItem, upload_next, uploads_told}
use Rattle.bh_docs.specs.Pages.{object_view, page_view, version_view, next_view, versions_view, upload_view, upload_next_view, uploads_view}
use Rattle.bh_docs.specs.declared.objects.ObjectEntry.{ObjectEntry}
use Rattle.bh_docs.specs.declared.page.Next.{Next}
use Rattle.bh_docs.specs.declared.page.Page.{Page}
use Rattle.bh_docs.specs.declared.uploads.UploadEntry.{UploadEntry}
use Rattle.bh_docs.specs.declared.versions.VersionEntry.{VersionEntry}
use Rattle.bh_listing.specs.Telling.{IsTold}

pub not_zero : (n : ℕ) → n ≢ 0 → 1 ≤ n
not_zero n h = grind (arith, h)

pub is_less : (a b : ℕ) → a < b → nat_lt a b ≡ true
is_less a b h = grind (arith, nat_tests, h)

last_taken : {X : Type 0} (l : List X) (n : ℕ) (x : X) → n < length l → x ≡ slice_index_or l n x → last_of (take (suc n) l) ≡ Some x
last_taken [] n x lt is = absurd (none n lt)
  where
    none : (n : ℕ) → n < 0 → ⊥
    none n h = omega (arith, h)
last_taken (y ∷ l) zero x lt is = ap Some (sym is)
last_taken (y ∷ []) (suc n) x lt is = absurd (none n lt)
  where
    none : (n : ℕ) → suc n < 1 → ⊥
    none n h = omega (arith, h)
last_taken (y ∷ z ∷ l) (suc n) x lt is = last_taken (z ∷ l) n x (down n (length l) lt) is
  where
    down : (n m : ℕ) → suc n < suc (suc m) → n < suc m
    down n m h = omega (arith, h)

-- a page that is truncated goes on after the last that it shows
pub next_shown : {X : Type 0} (l : List X) (max : ℕ) (x : X) → 1 ≤ max → max < length l → x ≡ slice_index_or l (max - 1) x → Some x ≡ (paged max l).next
next_shown l zero x some lt is = absurd (none some)
  where
    none : 1 ≤ 0 → ⊥
    none h = omega (arith, h)
next_shown l (suc n) x some lt is =
    sym (ap (λ b. cond b (last_of (take (suc n) l)) None) (is_less (suc n) (length l) lt) ∙ last_taken l n x (down n (length l) lt) (is ∙ ap (λ k. slice_index_or l k x) (less n)))
  where
    down : (n m : ℕ) → suc n < m → n < m
    down n m h = omega (arith, h)

    less : (n : ℕ) → suc n - 1 ≡ n
    less n = omega arith

last_mapped : {X E : Type 0} (see : X → E) (l : List X) (n : ℕ) → last_of (take n (map see l)) ≡ option_map see (last_of (take n l))
last_mapped see l zero = refl
last_mapped see [] (suc n) = refl
last_mapped see (y ∷ l) (suc zero) = refl
last_mapped see (y ∷ []) (suc (suc n)) = refl
last_mapped see (y ∷ z ∷ l) (suc (suc n)) = last_mapped see (z ∷ l) (suc n)

-- what is seen of what is gathered goes on as that does
pub next_seen : {X E : Type 0} (see : X → E) (max : ℕ) (l : List X) → (paged max (map see l)).next ≡ option_map see (paged max l).next
next_seen see max l = ap (λ n. cond (nat_lt max n) (last_of (take max (map see l))) None) (length-map l see) ∙ go (nat_lt max (length l))
  where
    go : (b : Bool) → cond b (last_of (take max (map see l))) None ≡ option_map see (cond b (last_of (take max l)) None)
    go true = last_mapped see l max
    go false = refl

pub next_told : {X E P : Type 0} (see : X → E) (next_of : E → P) (max : ℕ) (l : List X) (last : Option X) → last ≡ (paged max l).next → option_map next_of (paged max (map see l)).next ≡ option_map (λ x. next_of (see x)) last
next_told see next_of max l last is = ap (option_map next_of) (next_seen see max l ∙ ap (option_map see) (sym is)) ∙ go last
  where
    go : (o : Option _) → option_map next_of (option_map see o) ≡ option_map (λ x. next_of (see x)) o
    go None = refl
    go (Some x) = refl

-- ---- what is told is the page of a listing

pub objects_are : (name : Octets) (asked : PageAsked) (page : Paged (Listed ObjectItem)) (told : Page ObjectEntry (String Global))
    → IsTold object_view string_bytes (name_of (λ (o : ObjectItem). o.key)) name asked page told → page_view told ≡ objects_told name asked page
objects_are name asked page told it = λ i. record { bucket = it.bucket i; prefix = it.prefix i; max = it.max i; prefixes = it.prefixes i; objects = it.entries i; next = it.next i }

pub versions_are : (name : Octets) (asked : PageAsked) (page : Paged (Listed VersionItem)) (told : Page VersionEntry (Next VersionId))
    → IsTold version_view next_view version_next name asked page told → versions_view told ≡ versions_told name asked page
versions_are name asked page told it = λ i. record { bucket = it.bucket i; prefix = it.prefix i; max = it.max i; prefixes = it.prefixes i; versions = it.entries i; next = it.next i }

pub uploads_are : (name : Octets) (asked : PageAsked) (page : Paged (Listed UploadItem)) (told : Page UploadEntry (Next UploadId))
    → IsTold upload_view upload_next_view upload_next name asked page told → uploads_view told ≡ uploads_told name asked page
uploads_are name asked page told it = λ i. record { bucket = it.bucket i; prefix = it.prefix i; max = it.max i; prefixes = it.prefixes i; uploads = it.entries i; next = it.next i }
