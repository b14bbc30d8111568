-- The rows that a listing reads, and the connection that it reads them from.
use Rattle.std.proofs.Common.{◌≡◌, ℕ, ◌<◌, ◌≤◌, nat_lt, true, false, List, map, refl, sym, ap, subst, ◌∙◌, arith}
use Rattle.std.proofs.lemmas.Bool.Decides.{nat_tests}
use Rattle.bh_model.specs.State.{Octets}
use Rattle.bh_tables.specs.Typed.{VersionRow}
use Rattle.bh_pages.specs.Gathered.{past_name}
use Rattle.bh_pages.specs.Seen.{Shown, seen_line}
use Rattle.sqlite.specs.State.{State}
use Rattle.bh_base.specs.Layer.{standing, IsIntact, IsOpen, IsStateClean, IsInside, StateWithin}
use Rattle.bh_schema.specs.Working.{IsWorking}
use Rattle.bh_schema.proofs.Storing.{within_then}
use Rattle.bh_objects.proofs.Working.{no_call}
use Rattle.bh_pages.specs.Reading.{AreRows, IsUnderway, AreNext}
use Rattle.bh_pages.specs.declared.reading.Reading.{Reading}
use Rattle.bh_pages.specs.declared.gathering.PageAsked.{PageAsked}
use Rattle.bh_pages.specs.declared.gathering.Line.{Line}
use Rattle.bh_listing.specs.Rows.{listed_rows, row_shown, bucket_rows, AreSmallKeys}
use Rattle.bh_listing.proofs.ListLemmas.{rows_in_order, rows_fine, chunk_is}

module _ (asked : PageAsked) (tenant bucket : Octets) (versions : List VersionRow) where
  abbrev pub shown_rows : List Shown
  shown_rows = map row_shown (bucket_rows tenant bucket asked.prefix.now versions)

  pub are_rows : AreSmallKeys versions → AreRows asked.prefix.now shown_rows
  are_rows small = record { in_order = rows_in_order tenant bucket asked.prefix.now versions; under = rows_fine tenant bucket asked.prefix.now versions small }

  pub are_next : (reading : Reading) → IsUnderway asked shown_rows reading → (lines : List Line)
      → map seen_line lines ≡ map row_shown (listed_rows tenant bucket reading.from.items (past_name asked.prefix.now) reading.count versions) → AreNext shown_rows reading lines
  are_next reading was lines are = are ∙ chunk_is tenant bucket asked.prefix.now versions reading.from.items was.low reading.count

pub past_nat : (m n : ℕ) → nat_lt m n ≡ true → m < n
past_nat m n h = grind (arith, nat_tests, h)

pub upto_nat : (m n : ℕ) → nat_lt m n ≡ false → n ≤ m
upto_nat m n h = grind (arith, nat_tests, h)

-- the lines that were read, as the rows that they are
pub lines_are : (asked : PageAsked) (tenant bucket : Octets) (current versions : List VersionRow) (from from_slice upto upto_slice : Octets) (lines line_slice : List Line) (n : ℕ)
    → from_slice ≡ from → upto_slice ≡ upto → upto ≡ past_name asked.prefix.now → line_slice ≡ lines → current ≡ versions
    → map seen_line lines ≡ map row_shown (listed_rows tenant bucket from_slice upto_slice n current)
    → map seen_line line_slice ≡ map row_shown (listed_rows tenant bucket from (past_name asked.prefix.now) n versions)
lines_are asked tenant bucket current versions from from_slice upto upto_slice lines line_slice n f u p l v shown =
    ap (map seen_line) l ∙ shown ∙ (λ i. map row_shown (listed_rows tenant bucket (f i) ((u ∙ p) i) n (v i)))

-- ---- the connection, turn after turn

pub record SoFar (old new : State) : Type 0 where
  pub within : StateWithin old new
  pub opens : IsIntact new → IsOpen old → IsOpen new
  pub same : IsIntact new → standing new ≡ standing old

pub none_so_far : (s : State) → (IsStateClean s → IsWorking s) → SoFar s s
none_so_far s works = record { within = no_call s (λ clean. (works clean).inside); opens = λ intact up. up; same = λ intact. refl }

pub within_so_far : (old middle new : State) → SoFar old middle → StateWithin middle new → StateWithin old new
within_so_far old middle new far within = within_then old middle new far.opens far.within within

pub more_so_far : (old middle new : State) → SoFar old middle → StateWithin middle new → (IsIntact new → IsOpen middle → IsOpen new) → (IsIntact new → standing new ≡ standing middle) → SoFar old new
more_so_far old middle new far within opens same = record {
  within = within_so_far old middle new far within;
  opens = λ intact up. opens intact (far.opens (within.follows.intact intact) up);
  same = λ intact. same intact ∙ far.same (within.follows.intact intact);
}

pub still_inside : (old new : State) → (IsStateClean old → IsWorking old) → SoFar old new → IsStateClean new → IsInside (standing new)
still_inside old new works far clean = subst IsInside (sym (far.same clean.intact)) (works (far.within.follows.clean clean)).inside
