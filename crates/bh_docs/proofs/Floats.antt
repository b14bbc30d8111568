-- Documents hold no floats.
use Rattle.std.proofs.Common.{◌≡◌, false, ℕ, List, [], ◌∷◌, map, Option, Some, None, option_map, option_and_then, refl}
use Rattle.std.specs.Prelude.{codes}
use Rattle.serde_json.specs.Data.{Data, Members, string}
use Rattle.serde_json.specs.View.{items_of}
use Rattle.serde_json.specs.Written.{has_float, items_have_float, members_have_float}
use Rattle.bh_types.specs.Ids.{upload_text, version_text}
use Rattle.bh_docs.specs.Documents.{member_if, natural}
use Rattle.bh_docs.specs.Pages.{common_data, item_data, version_data, version_members, upload_data, part_data, objects_data, versions_data, uploads_data, parts_data}
use Rattle.bh_types.specs.Tokens.{token_text}
use Rattle.bh_model.specs.Pages.{ObjectsListed, StoredItem, VersionItem, VersionsListed, UploadsListed, PartsListed}

-- a list has no float if no entry has one
pub items_have_float-map : {A : Type 0} (shown : A → Data) → ((a : A) → has_float (shown a) ≡ false)
    → (entries : List A) → items_have_float (items_of (map shown entries)) ≡ false
items_have_float-map shown plain [] = refl
items_have_float-map shown plain (a ∷ rest) = rw (plain a, items_have_float-map shown plain rest) refl

-- a member that may be missing has no float if its data has none
members_have_float-member_if : {A : Type 0} (shown : A → Data) → ((a : A) → has_float (shown a) ≡ false)
    → (name : List ℕ) (found : Option A) (rest : Members)
    → members_have_float (member_if name (option_map shown found) rest) ≡ members_have_float rest
members_have_float-member_if shown plain name None rest = refl
members_have_float-member_if shown plain name (Some a) rest = rw (plain a) refl

members_have_float-version_members : (v : VersionItem) (o : Option StoredItem) → members_have_float (version_members v o) ≡ false
members_have_float-version_members v None = refl
members_have_float-version_members v (Some o) = refl

pub has_float-objects_data : (p : ObjectsListed) → has_float (objects_data p) ≡ false
has_float-objects_data p =
    rw (
      items_have_float-map common_data (λ a. refl) p.prefixes,
      items_have_float-map item_data (λ a. refl) p.objects,
      members_have_float-member_if (λ name. string (token_text name)) (λ a. refl) (codes "NextContinuationToken") p.next,
    ) refl

pub has_float-parts_data : (p : PartsListed) → has_float (parts_data p) ≡ false
has_float-parts_data p =
    rw (
      members_have_float-member_if natural (λ a. refl) (codes "NextPartNumberMarker") p.next,
      items_have_float-map part_data (λ a. refl) p.parts,
    ) refl

pub has_float-uploads_data : (p : UploadsListed) → has_float (uploads_data p) ≡ false
has_float-uploads_data p =
    rw (
      items_have_float-map common_data (λ a. refl) p.prefixes,
      members_have_float-member_if (λ n. string n.name) (λ a. refl) (codes "NextKeyMarker") p.next,
      members_have_float-member_if (λ id. string (upload_text id)) (λ a. refl) (codes "NextUploadIdMarker") (option_and_then (λ n. n.id) p.next),
      items_have_float-map upload_data (λ a. refl) p.uploads,
    ) refl

pub has_float-versions_data : (p : VersionsListed) → has_float (versions_data p) ≡ false
has_float-versions_data p =
    rw (
      items_have_float-map common_data (λ a. refl) p.prefixes,
      members_have_float-member_if (λ n. string n.name) (λ a. refl) (codes "NextKeyMarker") p.next,
      members_have_float-member_if (λ id. string (version_text id)) (λ a. refl) (codes "NextVersionIdMarker") (option_and_then (λ n. n.id) p.next),
      items_have_float-map version_data (λ v. members_have_float-version_members v v.object) p.versions,
    ) refl
