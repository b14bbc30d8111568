-- A block's name, as its columns.
use Rattle.bh_tables.specs.Shown.{Name}
use Rattle.bh_cache.specs.declared.blocks.BlockName.{BlockName}

abbrev pub name_of : BlockName → Name
name_of n = (n.digest, n.ord)
