use Rattle.std.proofs.Common.{◌≤◌, length}
use Rattle.std.specs.Io.KnownBytes.{Consumes}
use Rattle.bh_script.proofs.input.read_all.Given as goal

-- so far each piece had a byte, and they are no more than a script may have
abbrev pub invariant-loop-pieces : goal.invariant-loop-pieces
invariant-loop-pieces g l = record {
  consumed : Consumes (g.R.Read.remaining l.fn.reader) (g.R.Read.remaining l.reader) l.bytes.items;
  count : l.pieces ≤ length l.bytes.items;
  most : length l.bytes.items ≤ 67108864;
}
