-- Pages of objects that are chained by their tokens show each entry once and in order.
use Rattle.std.proofs.Common.{◌≡◌, ℕ, ◌≤◌, Bool, true, List, [], ◌∷◌, map, filter, take, Option, None, refl, ap}
use Rattle.std.specs.List.{AllByRecursion}
use Rattle.std.specs.FinMap.{entries, entries_sorted}
use Rattle.bh_model.specs.State.{Octets, octets_cmp, Content, Content.Marker, Content.Body, Entry}
use Rattle.bh_model.specs.Pages.{Listed, is_before, paged, merged, entry_of, name_of, entries_after, after_name, ObjectItem, objects_in}
use Rattle.bh_pages.specs.Laws.{total, chained, object_key, object_marked, PagesChain}
use Rattle.bh_pages.proofs.Filters.{keep_all}
use Rattle.bh_pages.proofs.Pairs.{Pairs, Rises, sorted_pairs}
use Rattle.bh_pages.proofs.Resuming.{chain_entries}
use Rattle.bh_pages.proofs.Coming.{under, leads, led_resumes, past_name, upto_before, before_back, before_self}

-- the keys ascend, and so do those of their objects
objects_above : (k : Octets) (keys : List (Octets × List Entry)) → AllByRecursion (λ (e : Octets × List Entry). is_before k e.0 ≡ true) keys → AllByRecursion (λ (o : ObjectItem). is_before k o.key ≡ true) (objects_in keys)
objects_above k [] all = tt
objects_above k ((key, es) ∷ keys) all = go es (objects_above k keys all.1)
  where
    go : (es : List Entry) → AllByRecursion (λ (o : ObjectItem). is_before k o.key ≡ true) (objects_in keys) → AllByRecursion (λ (o : ObjectItem). is_before k o.key ≡ true) (objects_in ((key, es) ∷ keys))
    go [] rest = rest
    go (e ∷ es) rest = one e.content rest
      where
        one : (c : Content) → AllByRecursion (λ (o : ObjectItem). is_before k o.key ≡ true) (objects_in keys) → AllByRecursion (λ (o : ObjectItem). is_before k o.key ≡ true) (objects_in ((key, record e { content = c } ∷ es) ∷ keys))
        one Marker rest = rest
        one (Body bytes checksum) rest = (all.0, rest)

abbrev Before : ObjectItem → ObjectItem → Type 0
Before o p = is_before o.key p.key ≡ true

objects_ascend : (keys : List (Octets × List Entry)) → Pairs (Rises octets_cmp) keys → Pairs Before (objects_in keys)
objects_ascend [] up = tt
objects_ascend ((key, es) ∷ keys) up = go es (objects_ascend keys up.1)
  where
    go : (es : List Entry) → Pairs Before (objects_in keys) → Pairs Before (objects_in ((key, es) ∷ keys))
    go [] rest = rest
    go (e ∷ es) rest = one e.content rest
      where
        one : (c : Content) → Pairs Before (objects_in keys) → Pairs Before (objects_in ((key, record e { content = c } ∷ es) ∷ keys))
        one Marker rest = rest
        one (Body bytes checksum) rest = (objects_above key keys up.0, rest)

module _ (prefix delimiter : Octets) (items : List ObjectItem) (up : Pairs Before items) where
  abbrev listing : Option Octets → List (Listed ObjectItem)
  listing token = entries_after prefix delimiter object_key (after_name object_key token) items

  abbrev past : Listed ObjectItem → Listed ObjectItem → Bool
  past e = past_name prefix delimiter object_key (name_of object_key e)

  chained_listing : (sizes : List ℕ) → AllByRecursion (λ m. 1 ≤ m) sizes → chained object_marked (λ m token. paged m (listing token)) sizes None ≡ take (total sizes) (listing None)
  chained_listing =
      let laws = led_resumes prefix delimiter object_key Before past (λ n e. refl) (λ o n. refl) (λ o. before_self o.key) (λ o p h. h) (λ o p h. before_back o.key p.key h) in
      chain_entries (entry_of prefix delimiter object_key) (λ e l. filter (past e) (map (entry_of prefix delimiter object_key) l)) object_marked listing (under prefix delimiter object_key items)
      (laws (under prefix delimiter object_key items) (leads prefix delimiter object_key Before (λ o p h. upto_before o.key p.key h) items up))
      None (ap (merged None) (keep_all (map (entry_of prefix delimiter object_key) (under prefix delimiter object_key items)))) (λ e. refl)

pub pages_chain : PagesChain
pages_chain prefix delimiter objects = chained_listing prefix delimiter (objects_in (entries objects)) (objects_ascend (entries objects) (sorted_pairs octets_cmp (entries objects) (entries_sorted objects)))
