-- Spec values of a listing of objects.
use Rattle.std.specs.Prelude.{ℕ, zero, suc, List, map, Option, Some, None, option_map, string_bytes}
use Rattle.bh_model.specs.State.{Octets}
use Rattle.bh_model.specs.Pages.{Listed, Listed.Single, Listed.Common, after_name, ObjectItem}
use Rattle.bh_pages.specs.Gathered.{Gathered, with_item, with_row, with_rows, to_come, place_after}
use Rattle.bh_pages.specs.declared.gathering.Line.{Line}
use Rattle.bh_pages.specs.declared.gathering.ObjectLine.{ObjectLine}
use Rattle.bh_pages.specs.declared.gathering.Listed as program
use Rattle.bh_pages.specs.declared.gathering.Gathering.{Gathering}
use Rattle.bh_pages.specs.declared.gathering.PageAsked.{PageAsked}

-- a row: its key, and the object, if it is not a delete marker
abbrev pub Shown : Type 0
Shown = Octets × Option ObjectItem

-- the object of the row
abbrev pub item_in : Shown → Option ObjectItem
item_in r = option_map (λ (o : ObjectItem). record o { key = r.0 }) r.1

abbrev pub item_of : ℕ → ObjectItem → Option ObjectItem
item_of zero o = Some o
item_of (suc n) o = None

abbrev pub object_in : Line → ObjectItem
object_in l = record { key = l.key.items; moment = l.stamp; size = l.size; checksum = string_bytes l.checksum }

abbrev pub seen_line : Line → Shown
seen_line l = (l.key.items, item_of l.marker (object_in l))

abbrev pub seen_object : ObjectLine → ObjectItem
seen_object o = record { key = o.key.items; moment = o.stamp; size = o.size; checksum = string_bytes o.checksum }

module _ {X T : Type 0} (see : X → T) where
  abbrev pub entry_by : program.Listed X → Listed T
  entry_by (program.TheVariants.Single x) = Single (see x)
  entry_by (program.TheVariants.Common name) = Common name.items

  abbrev pub gathered_by : Gathering X → Gathered T
  gathered_by g = record {
    key = option_map (λ k. k.items) g.key;
    name = option_map (λ n. n.items) g.name;
    entries = map entry_by g.entries.items;
  }

abbrev pub seen_entry : program.Listed ObjectLine → Listed ObjectItem
seen_entry = entry_by seen_object

abbrev pub seen : Gathering ObjectLine → Gathered ObjectItem
seen = gathered_by seen_object

-- the lists of a listing of objects
abbrev pub token_of : PageAsked → Option Octets
token_of asked = option_map (λ b. b.now) asked.after

abbrev pub item_added : PageAsked → Gathered ObjectItem → Option ObjectItem → Gathered ObjectItem
item_added asked = with_item (λ (r : Shown). r.0) item_in asked.prefix.now asked.delimiter.now (λ o. o.key)
    (after_name (λ (o : ObjectItem). o.key) (token_of asked))

abbrev pub row_added : PageAsked → Gathered ObjectItem → Shown → Gathered ObjectItem
row_added asked = with_row (λ (r : Shown). r.0) item_in asked.prefix.now asked.delimiter.now (λ o. o.key)
    (after_name (λ (o : ObjectItem). o.key) (token_of asked))

abbrev pub rows_added : PageAsked → Gathered ObjectItem → List Shown → Gathered ObjectItem
rows_added asked = with_rows (λ (r : Shown). r.0) item_in asked.prefix.now asked.delimiter.now (λ o. o.key)
    (after_name (λ (o : ObjectItem). o.key) (token_of asked)) asked.max

abbrev pub still_to_come : PageAsked → Gathered ObjectItem → List Shown → List (Listed ObjectItem)
still_to_come asked = to_come (λ (r : Shown). r.0) item_in asked.prefix.now asked.delimiter.now (λ o. o.key)
    (after_name (λ (o : ObjectItem). o.key) (token_of asked))

abbrev pub read_on : PageAsked → Gathered ObjectItem → Octets → Octets
read_on asked = place_after (λ (r : Shown). r.0) item_in asked.prefix.now asked.delimiter.now (λ o. o.key)
    (after_name (λ (o : ObjectItem). o.key) (token_of asked))
