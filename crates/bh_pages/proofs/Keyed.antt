-- The rows of a bucket's keys show the objects of a listing: the newest entry of each key decides.
use Rattle.std.proofs.Common.{◌≡◌, false, cond, List, [], ◌∷◌, ◌++◌, map, Option, Some, refl, ap, ◌∙◌}
use Rattle.std.specs.List.{AllByRecursion}
use Rattle.std.specs.Ordering.{is_eq}
use Rattle.std.proofs.lemmas.Cmp.{tied_itself, nat_list_cmp_total}
use Rattle.bh_model.specs.State.{Octets, Content.Marker, Content.Body, Entry}
use Rattle.bh_model.specs.Pages.{is_name, ObjectItem, object_of, objects_in}
use Rattle.bh_pages.specs.Gathered.{in_front, items_after}
use Rattle.bh_pages.specs.Seen.{Shown, item_in}

abbrev pub shown_entry : Octets → Entry → Shown
shown_entry key e = (key, object_of key e.moment e.content)

-- the entries of each key, key by key
abbrev pub rows_of : List (Octets × List Entry) → List Shown
rows_of [] = []
rows_of (k ∷ keys) = map (shown_entry k.0) k.1 ++ rows_of keys

abbrev pub AreOthers : Option Octets → List (Octets × List Entry) → Type 0
AreOthers key keys = AllByRecursion (λ (k : Octets × List Entry). is_name k.0 key ≡ false) keys

-- no key twice
abbrev pub AreApart : List (Octets × List Entry) → Type 0
AreApart [] = Unit {0}
AreApart (k ∷ keys) = AreOthers (Some k.0) keys × AreApart keys

abbrev items : Option Octets → List Shown → List ObjectItem
items = items_after (λ (r : Shown). r.0) item_in

-- older entries of a key show nothing
older : (k : Octets) (es : List Entry) (rest : List Shown) → items (Some k) (map (shown_entry k) es ++ rest) ≡ items (Some k) rest
older k [] rest = refl
older k (e ∷ es) rest = ap (λ t. cond (is_eq t) (items (Some k) (map (shown_entry k) es ++ rest)) (in_front (item_in (shown_entry k e)) (items (Some k) (map (shown_entry k) es ++ rest)))) (tied_itself nat_list_cmp_total k) ∙ older k es rest

newest : (k : Octets) (e : Entry) (es : List Entry) (keys : List (Octets × List Entry)) → in_front (item_in (shown_entry k e)) (objects_in keys) ≡ objects_in ((k, e ∷ es) ∷ keys)
newest k e es keys = elim e.content as (λ c. in_front (item_in (k, object_of k e.moment c)) (objects_in keys) ≡ in_front (object_of k e.moment c) (objects_in keys)) [ Marker ↦ refl | Body bytes checksum ↦ refl ] ∙ front (object_of k e.moment e.content)
  where
    front : (o : Option ObjectItem) → in_front o (objects_in keys) ≡ in_front o (objects_in keys)
    front o = refl

pub objects_shown : (key : Option Octets) (keys : List (Octets × List Entry)) → AreOthers key keys → AreApart keys → items key (rows_of keys) ≡ objects_in keys
objects_shown key [] others apart = refl
objects_shown key ((k, []) ∷ keys) others apart = objects_shown key keys others.1 apart.1
objects_shown key ((k, e ∷ es) ∷ keys) others apart =
    ap (λ t. cond t (items key (map (shown_entry k) es ++ rows_of keys)) (in_front (item_in (shown_entry k e)) (items (Some k) (map (shown_entry k) es ++ rows_of keys)))) others.0
    ∙ ap (in_front (item_in (shown_entry k e))) (older k es (rows_of keys) ∙ objects_shown (Some k) keys apart.0 apart.1)
    ∙ newest k e es keys
