-- What is to come of a bucket's rows is what the definition lists.
use Rattle.std.proofs.Common.{◌≡◌, Bool, true, false, cond, List, [], ◌∷◌, ◌++◌, map, Option, Some, None, refl, sym, ap, ◌∙◌}
use Rattle.std.specs.List.{filter}
use Rattle.std.proofs.lemmas.List.Elements.{filter-append}
use Rattle.bh_model.specs.State.{Octets, Content, Content.Marker, Content.Body, Entry}
use Rattle.bh_model.specs.Pages.{begins, merged, entry_of, entries_after, after_name, ObjectItem, object_of, objects_in}
use Rattle.bh_pages.specs.Gathered.{nothing_gathered, to_come, in_front}
use Rattle.bh_pages.specs.Seen.{Shown, item_in}
use Rattle.bh_pages.proofs.Keyed.{shown_entry, rows_of, AreOthers, AreApart, objects_shown}

module _ (prefix : Octets) where
  abbrev has : Octets × List Entry → Bool
  has k = begins prefix k.0

  abbrev row_has : Shown → Bool
  row_has r = begins prefix r.0

  one_key : (b : Bool) (k : Octets) (es : List Entry) → begins prefix k ≡ b → filter row_has (map (shown_entry k) es) ≡ cond b (map (shown_entry k) es) []
  one_key true k [] is = refl
  one_key false k [] is = refl
  one_key true k (e ∷ es) is = ap (λ t. cond t (shown_entry k e ∷ filter row_has (map (shown_entry k) es)) (filter row_has (map (shown_entry k) es))) is ∙ ap (λ l. shown_entry k e ∷ l) (one_key true k es is)
  one_key false k (e ∷ es) is = ap (λ t. cond t (shown_entry k e ∷ filter row_has (map (shown_entry k) es)) (filter row_has (map (shown_entry k) es))) is ∙ one_key false k es is

  pub rows_under : (keys : List (Octets × List Entry)) → filter row_has (rows_of keys) ≡ rows_of (filter has keys)
  rows_under [] = refl
  rows_under (k ∷ keys) = filter-append row_has (map (shown_entry k.0) k.1) (rows_of keys) ∙ go (begins prefix k.0) refl (rows_under keys)
    where
      go : (b : Bool) → begins prefix k.0 ≡ b → filter row_has (rows_of keys) ≡ rows_of (filter has keys) → filter row_has (map (shown_entry k.0) k.1) ++ filter row_has (rows_of keys) ≡ rows_of (cond b (k ∷ filter has keys) (filter has keys))
      go true is more = ap (λ l. l ++ filter row_has (rows_of keys)) (one_key true k.0 k.1 is) ∙ ap (λ l. map (shown_entry k.0) k.1 ++ l) more
      go false is more = ap (λ l. l ++ filter row_has (rows_of keys)) (one_key false k.0 k.1 is) ∙ more

  abbrev object_has : ObjectItem → Bool
  object_has o = begins prefix o.key

  one_object : (k : Octets) (e : Entry) (rest other : List ObjectItem) → filter object_has rest ≡ other → (b : Bool) → begins prefix k ≡ b
      → filter object_has (in_front (object_of k e.moment e.content) rest) ≡ cond b (in_front (object_of k e.moment e.content) other) other
  one_object k e rest other more b is = go e.content
    where
      marker : (b : Bool) → filter object_has rest ≡ cond b other other
      marker true = more
      marker false = more

      body : (o : ObjectItem) → (b : Bool) → begins prefix o.key ≡ b → cond (begins prefix o.key) (o ∷ filter object_has rest) (filter object_has rest) ≡ cond b (o ∷ other) other
      body o true is = ap (λ t. cond t (o ∷ filter object_has rest) (filter object_has rest)) is ∙ ap (λ l. o ∷ l) more
      body o false is = ap (λ t. cond t (o ∷ filter object_has rest) (filter object_has rest)) is ∙ more

      go : (c : Content) → filter object_has (in_front (object_of k e.moment c) rest) ≡ cond b (in_front (object_of k e.moment c) other) other
      go Marker = marker b
      go (Body bytes checksum) = body _ b is

  pub objects_under : (keys : List (Octets × List Entry)) → filter object_has (objects_in keys) ≡ objects_in (filter has keys)
  objects_under [] = refl
  objects_under ((k, []) ∷ keys) = objects_under keys ∙ elim (begins prefix k) as (λ b. objects_in (filter has keys) ≡ objects_in (cond b ((k, []) ∷ filter has keys) (filter has keys))) [ true ↦ refl | false ↦ refl ]
  objects_under ((k, e ∷ es) ∷ keys) = front (objects_in keys) ∙ one_object k e (objects_in keys) (objects_in (filter has keys)) (objects_under keys) (begins prefix k) refl ∙ back (begins prefix k)
    where
      front : (l : List ObjectItem) → filter object_has (objects_in ((k, e ∷ es) ∷ keys)) ≡ filter object_has (in_front (object_of k e.moment e.content) (objects_in keys))
      front l = elim e.content as (λ c. filter object_has (in_front (object_of k e.moment c) (objects_in keys)) ≡ filter object_has (in_front (object_of k e.moment c) (objects_in keys))) [ Marker ↦ refl | Body bytes checksum ↦ refl ]

      back : (b : Bool) → cond b (in_front (object_of k e.moment e.content) (objects_in (filter has keys))) (objects_in (filter has keys)) ≡ objects_in (cond b ((k, e ∷ es) ∷ filter has keys) (filter has keys))
      back true = sym (elim e.content as (λ c. in_front (object_of k e.moment c) (objects_in (filter has keys)) ≡ in_front (object_of k e.moment c) (objects_in (filter has keys))) [ Marker ↦ refl | Body bytes checksum ↦ refl ])
      back false = refl

  apart_under : (keys : List (Octets × List Entry)) → AreApart keys → AreApart (filter has keys)
  apart_under [] apart = tt
  apart_under (k ∷ keys) apart = elim (has k) as (λ b. AreApart (cond b (k ∷ filter has keys) (filter has keys))) [ true ↦ (others (Some k.0) keys apart.0, apart_under keys apart.1) | false ↦ apart_under keys apart.1 ]
    where
      others : (key : Option Octets) (l : List (Octets × List Entry)) → AreOthers key l → AreOthers key (filter has l)
      others key [] all = tt
      others key (j ∷ l) all = elim (has j) as (λ b. AreOthers key (cond b (j ∷ filter has l) (filter has l))) [ true ↦ (all.0, others key l all.1) | false ↦ others key l all.1 ]

  no_key : (keys : List (Octets × List Entry)) → AreOthers None keys
  no_key [] = tt
  no_key (k ∷ keys) = (refl, no_key keys)

  -- of the rows of all keys, those under the prefix
  pub listed_as_defined : (delimiter : Octets) (token : Option Octets) (keys : List (Octets × List Entry)) → AreApart keys
      → to_come (λ (r : Shown). r.0) item_in prefix delimiter (λ (o : ObjectItem). o.key) (after_name (λ (o : ObjectItem). o.key) token) nothing_gathered (filter row_has (rows_of keys))
      ≡ entries_after prefix delimiter (λ (o : ObjectItem). o.key) (after_name (λ (o : ObjectItem). o.key) token) (objects_in keys)
  listed_as_defined delimiter token keys apart =
      ap (to_come (λ (r : Shown). r.0) item_in prefix delimiter (λ (o : ObjectItem). o.key) (after_name (λ (o : ObjectItem). o.key) token) nothing_gathered) (rows_under keys)
      ∙ ap (λ l. merged None (filter (after_name (λ (o : ObjectItem). o.key) token) (map (entry_of prefix delimiter (λ (o : ObjectItem). o.key)) l))) (objects_shown None (filter has keys) (no_key (filter has keys)) (apart_under keys apart) ∙ sym (objects_under keys))
