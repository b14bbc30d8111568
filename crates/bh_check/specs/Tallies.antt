-- The tallies of tenants: each one's numbers of versions, markers and objects.
use Rattle.std.specs.Prelude.{◌≡◌, ℕ, pos, int_lt, Bool, ◌&&◌, not, if◌then◌else◌, List, [], ◌∷◌, ◌++◌}
use Rattle.std.specs.List.{AllZip, list_any, flat_map}
use Rattle.std.specs.Ordering.{int_eq}
use Rattle.sqlite.specs.Order.{Row, column}
use Rattle.sqlite.specs.Tree.{Trees}
use Rattle.sqlite_typed.specs.Columns.{bytes_of}
use Rattle.bh_tables.specs.Schema.{Octets}
use Rattle.bh_tables.specs.Bodies.{Name, same_name}
use Rattle.bh_stored.specs.declared.stored.Edition.{Edition}
use Rattle.bh_stored.specs.declared.stored.Edition.TheVariants.{First, Second, Third, Fourth, Fifth}
use Rattle.bh_check.specs.Holds.{owner, number_at}
use Rattle.bh_check.specs.Sums.{total, Keeps}
use Rattle.bh_check.specs.declared.sums.Sums.{Sums}
use Rattle.bh_check.specs.declared.tallies.EntryTotals.{EntryTotals}

-- bytes in a self-delimiting form: 1 before each of them, 0 at the end
abbrev pub framed : Octets → Octets
framed text = flat_map (λ b. 1 ∷ b ∷ []) text ++ 0 ∷ []

-- the tenant, the bucket and the key of an entry
abbrev pub entry_key : Row → Name
entry_key r = ((framed (bytes_of (column r 1)) ++ framed (bytes_of (column r 3))) ++ bytes_of (column r 4), 0)

-- an entry of this key with a greater number
abbrev pub is_past : Name → ℕ → Row → Bool
is_past q n r = same_name (entry_key r) q && int_lt (pos n) (pos (number_at 2 r))

-- 1 if an entry's column `marker` is this, else 0
abbrev pub marked_one : ℕ → Row → ℕ
marked_one marker r = if int_eq (pos (number_at 6 r)) (pos marker) then 1 else 0

-- 1 if an entry is a version and the newest of its key, else 0
abbrev pub current_one : List Row → Row → ℕ
current_one rows r = if int_eq (pos (number_at 6 r)) (pos 0) && not (list_any (is_past (entry_key r) (number_at 2 r)) rows) then 1 else 0

-- the greatest number of each key's entries is recorded, and 0 for a key without one
abbrev pub IsNewest : List Row → Sums → Type 0
IsNewest rows s = (of : Name → ℕ) × Keeps of s × ((q : Name) (n : ℕ) → list_any (is_past q n) rows ≡ int_lt (pos n) (pos (of q)))

module _ (rows : List Row) where
  -- a tenant's numbers of versions, markers and objects
  abbrev pub versions_of : Name → ℕ
  versions_of = total owner (marked_one 0) rows

  abbrev pub markers_of : Name → ℕ
  markers_of = total owner (marked_one 1) rows

  abbrev pub objects_of : Name → ℕ
  objects_of = total owner (current_one rows) rows

pub record AreEntryTotals (rows : List Row) (t : EntryTotals) : Type 0 where
  pub versions_is : Keeps (versions_of rows) t.versions
  pub markers_is : Keeps (markers_of rows) t.markers
  pub objects_is : Keeps (objects_of rows) t.objects

-- a row names a tenant, and has these counts
pub record IsTallyBy (versions markers objects : ℕ) (tally tenant : Row) : Type 0 where
  pub tenant_is : bytes_of (column tally 1) ≡ bytes_of (column tenant 1)
  pub versions_is : number_at 2 tally ≡ versions
  pub markers_is : number_at 3 tally ≡ markers
  pub objects_is : number_at 4 tally ≡ objects

-- the numbers for the tenant's entries among these
abbrev pub IsTallyOf : List Row → Row → Row → Type 0
IsTallyOf rows tally tenant =
    IsTallyBy (versions_of rows (owner tenant)) (markers_of rows (owner tenant)) (objects_of rows (owner tenant)) tally tenant

-- one for each tenant, in the order of the tenants
abbrev pub AreTalliesOf : List Row → List Row → List Row → Type 0
AreTalliesOf rows tallies tenants = AllZip (IsTallyOf rows) tallies tenants

-- if a host's edition has tallies
abbrev pub AreTallied : Edition → Trees → Type 0
AreTallied First d = Unit {0}
AreTallied Second d = Unit {0}
AreTallied Third d = AreTalliesOf (d 7) (d 30) (d 1)
AreTallied Fourth d = AreTalliesOf (d 7) (d 30) (d 1)
AreTallied Fifth d = AreTalliesOf (d 7) (d 30) (d 1)
