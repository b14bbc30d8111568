-- Rows of versions in their order: what Placing says of rows whose numbers fall.
use Rattle.std.proofs.Common.{◌≡◌, ℕ, pos, int_lt, Bool, true, false, List, ◌++◌, ◌&&◌, Some, ◌∙◌, arith, int_cmp}
use Rattle.std.specs.List.{filter}
use Rattle.std.specs.Cmp.{IsTotalOrder}
use Rattle.std.specs.Ordering.{is_lt}
use Rattle.std.proofs.lemmas.Cmp.{int_cmp_total, on_total, back_total}
use Rattle.std.proofs.lemmas.Int.{ints}
use Rattle.bh_model.specs.State.{Octets}
use Rattle.bh_model.specs.Pages.{is_upto, same, last_of}
use Rattle.bh_pages.specs.Gathered.{past_key}
use Rattle.bh_pages.specs.Places as places
use Rattle.bh_pages.specs.Versions.{Numbered, row_key, falling, entry_number, IsStrict, Spot, Place, is_from, is_older, at_key, after_entry}
use Rattle.bh_pages.proofs.Placing as placing
pub use Rattle.bh_pages.proofs.Filters.{all_map, filter_none, filter_whole, filter_all, filter_passes, filter_narrow, filter_same, filter_swap, filter_twice, all_front, last_all}
pub use Rattle.bh_pages.proofs.Before.{less_not_same, before_upto, past_is_after}

pub falling_total : IsTotalOrder falling
falling_total = on_total (λ n. pos n) (back_total int_cmp_total)

abbrev pub precedes : Spot → Spot → Bool
precedes = places.precedes falling

pub not_back : (a b : Spot) → precedes a b ≡ true → precedes b a ≡ false
not_back = placing.not_back falling falling_total row_key entry_number

pub precedes_key : (a b : Spot) → precedes a b ≡ true → is_upto a.0 b.0 ≡ true
precedes_key = placing.precedes_key falling falling_total row_key entry_number

pub strict_filter : (p : Numbered → Bool) (rows : List Numbered) → IsStrict rows → IsStrict (filter p rows)
strict_filter = placing.strict_filter falling falling_total row_key entry_number

-- what follows the last row of a chunk
pub rest_is : (place : Place) (rows c rest : List Numbered) (r : Numbered) → IsStrict rows → c ++ rest ≡ filter (is_from place) rows → last_of c ≡ Some r
    → rest ≡ filter (is_from (after_entry (row_key r) r.0)) rows
rest_is = placing.rest_is falling falling_total row_key entry_number

-- the older rows of a key, and those of greater keys
lt_is : (m n : ℕ) → is_lt (int_cmp (pos m) (pos n)) ≡ int_lt (pos m) (pos n)
lt_is m n = grind (arith, ints)

pub older_split : (key : Octets) (seq : ℕ) (rows : List Numbered) → IsStrict rows
    → filter (is_from (after_entry key seq)) rows ≡ filter (is_older key seq) rows ++ filter (is_from (at_key (past_key key))) rows
older_split key seq rows up =
    placing.behind_split falling falling_total row_key entry_number key seq rows up
    ∙ (λ i. filter (λ (r : Numbered). same (row_key r) key && lt_is r.0 seq i) rows ++ filter (is_from (at_key (past_key key))) rows)
