-- Rows whose columns are of the kinds that a host's tables have.
use Rattle.std.specs.Prelude.{◌≡◌, true, List, [], ◌∷◌}
use Rattle.std.specs.List.{AllByRecursion, list_all}
use Rattle.sqlite.specs.Order.{Row}
use Rattle.sqlite.specs.Tree.{Trees, IsTable}
use Rattle.bh_tables.specs.Typed.{unfilled_trees}
use Rattle.bh_stored.specs.Cells.{is_fit}
use Rattle.bh_stored.specs.declared.cells.Kind.{Kind}
use Rattle.bh_stored.specs.declared.cells.Kind.TheVariants as kind

-- ---- the columns of each table

abbrev pub host_kinds : List Kind
host_kinds = kind.Key ∷ kind.Number ∷ kind.Number ∷ kind.Number ∷ kind.Number ∷ kind.Number ∷ []

abbrev pub tenant_kinds : List Kind
tenant_kinds = kind.Text ∷ kind.Number ∷ kind.Number ∷ kind.Number ∷ kind.Number ∷ kind.Number ∷ []

abbrev pub key_kinds : List Kind
key_kinds = kind.Text ∷ kind.Text ∷ kind.Text ∷ []

abbrev pub bucket_kinds : List Kind
bucket_kinds = kind.Text ∷ kind.Text ∷ kind.Number ∷ kind.Number ∷ kind.MaybeNumber ∷ []

abbrev pub version_kinds : List Kind
version_kinds = kind.Text ∷ kind.Number ∷ kind.Text ∷ kind.Blob ∷ kind.Number ∷ kind.Number ∷ kind.Number ∷ kind.Number ∷ kind.Text ∷ []

abbrev pub block_kinds : List Kind
block_kinds = kind.Blob ∷ kind.Number ∷ kind.Blob ∷ []

abbrev pub ref_kinds : List Kind
ref_kinds = kind.Text ∷ kind.Number ∷ kind.Number ∷ kind.Blob ∷ kind.Number ∷ kind.Number ∷ []

abbrev pub upload_kinds : List Kind
upload_kinds = kind.Text ∷ kind.Number ∷ kind.Text ∷ kind.Blob ∷ kind.Number ∷ kind.Number ∷ []

abbrev pub part_kinds : List Kind
part_kinds = kind.Text ∷ kind.Number ∷ kind.Number ∷ kind.Number ∷ kind.Text ∷ kind.Number ∷ kind.Number ∷ []

abbrev pub use_kinds : List Kind
use_kinds = kind.Blob ∷ kind.Number ∷ kind.Number ∷ []

abbrev pub lock_kinds : List Kind
lock_kinds = kind.Text ∷ kind.Text ∷ []

abbrev pub retain_kinds : List Kind
retain_kinds = kind.Text ∷ kind.Number ∷ kind.Number ∷ []

abbrev pub tally_kinds : List Kind
tally_kinds = kind.Text ∷ kind.Number ∷ kind.Number ∷ kind.Number ∷ []

abbrev pub garbage_kinds : List Kind
garbage_kinds = kind.Key ∷ kind.Number ∷ []

abbrev pub pack_kinds : List Kind
pack_kinds = kind.Number ∷ kind.Number ∷ kind.Number ∷ []

abbrev pub place_kinds : List Kind
place_kinds = kind.Blob ∷ kind.Number ∷ kind.Number ∷ kind.Number ∷ kind.Number ∷ kind.Whole ∷ []

-- rows of these kinds, whose numbers ascend
pub record AreFit (kinds : List Kind) (rows : List Row) : Type 0 where
  pub fit : list_all (is_fit kinds) rows ≡ true
  pub rises : IsTable rows

-- the tables that nothing fills have no row
abbrev pub AreUnfilled : Trees → Type 0
AreUnfilled d = AllByRecursion (λ t. d t ≡ []) unfilled_trees

pub record AreAllFit (d : Trees) : Type 0 where
  pub host : AreFit host_kinds (d 0)
  pub tenants : AreFit tenant_kinds (d 1)
  pub keys : AreFit key_kinds (d 3)
  pub buckets : AreFit bucket_kinds (d 5)
  pub versions : AreFit version_kinds (d 7)
  pub blocks : AreFit block_kinds (d 10)
  pub refs : AreFit ref_kinds (d 12)
  pub uploads : AreFit upload_kinds (d 16)
  pub parts : AreFit part_kinds (d 18)
  pub uses : AreFit use_kinds (d 23)
  pub locks : AreFit lock_kinds (d 26)
  pub retains : AreFit retain_kinds (d 28)
  pub tallies : AreFit tally_kinds (d 30)
  pub garbage : AreFit garbage_kinds (d 44)
  pub packs : AreFit pack_kinds (d 32)
  pub places : AreFit place_kinds (d 34)
  pub unfilled : AreUnfilled d
