-- The rows that were read.
use Rattle.std.specs.Prelude.{◌≡◌, ◌==◌, Bool, true, false, ◌&&◌, ◌||◌, not, [], nat_lt, if◌then◌else◌}
use Rattle.sqlite.specs.Tree.{Trees}
use Rattle.bh_stored.specs.declared.stored.Edition.{Edition}
use Rattle.bh_stored.specs.declared.stored.Edition.TheVariants.{First, Second, Third, Fourth, Fifth}
use Rattle.bh_stored.specs.declared.stored.Stored.{Stored}

-- whether a host of an edition has the tables of locks and of dates, that of tallies, those that the
-- fourth added, and that of the fifth
abbrev pub has_locks : Edition → Bool
has_locks First = false
has_locks Second = true
has_locks Third = true
has_locks Fourth = true
has_locks Fifth = true

abbrev pub has_tallies : Edition → Bool
has_tallies First = false
has_tallies Second = false
has_tallies Third = true
has_tallies Fourth = true
has_tallies Fifth = true

abbrev pub has_fourth : Edition → Bool
has_fourth First = false
has_fourth Second = false
has_fourth Third = false
has_fourth Fourth = true
has_fourth Fifth = true

abbrev pub has_fifth : Edition → Bool
has_fifth First = false
has_fifth Second = false
has_fifth Third = false
has_fifth Fourth = false
has_fifth Fifth = true

-- the rows of a database; a table that a host of its edition does not have is empty
abbrev pub seen : Edition → Trees → Trees
seen edition d t = if ((t == 26 || t == 28) && not (has_locks edition)) || ((t == 30 && not (has_tallies edition))
    || ((nat_lt 31 t && not (has_fourth edition)) || (nat_lt 43 t && not (has_fifth edition)))) then [] else d t

-- they are those of a database
pub record AreStoredIn (d : Trees) (s : Stored) : Type 0 where
  pub host_is : s.host.items ≡ d 0
  pub tenants_is : s.tenants.items ≡ d 1
  pub keys_is : s.keys.items ≡ d 3
  pub buckets_is : s.buckets.items ≡ d 5
  pub versions_is : s.versions.items ≡ d 7
  pub blocks_is : s.blocks.items ≡ d 10
  pub refs_is : s.refs.items ≡ d 12
  pub uploads_is : s.uploads.items ≡ d 16
  pub parts_is : s.parts.items ≡ d 18
  pub uses_is : s.uses.items ≡ d 23
  pub locks_is : s.locks.items ≡ d 26
  pub retains_is : s.retains.items ≡ d 28
  pub tallies_is : s.tallies.items ≡ d 30
  pub garbage_is : s.garbage.items ≡ d 44
  pub packs_is : s.packs.items ≡ d 32
  pub places_is : s.places.items ≡ d 34
