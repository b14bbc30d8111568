-- The definitions' ranges that correspond to the program's.
use Rattle.bh_types.specs.Ranges.{Asked, Asked.Between, Asked.From, Asked.Last}
use Rattle.bh_core.specs.declared.ranges.Asked as program

abbrev pub asked_of : program.Asked → Asked
asked_of (program.TheVariants.Between first last) = Between first last
asked_of (program.TheVariants.From first) = From first
asked_of (program.TheVariants.Last count) = Last count
