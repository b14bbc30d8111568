use Rattle.std.proofs.Common.{◌≡◌, length, false, None}
use Rattle.std.specs.Io.KnownBytes.{Consumes}
use Rattle.bh_http.specs.Transfers.{Gives}
use Rattle.bh_link.specs.Lines.{before_feed}
use Rattle.bh_link.proofs.line.take_line.Given as goal

-- so far no line feed came
abbrev pub invariant-loop-count : goal.invariant-loop-count
invariant-loop-count g l = record {
  going : l.reader.failed ≡ false;
  count : length l.line.items ≡ l.count;
  consumed : Consumes (g.R.Source.remaining l.fn.reader.inner) (g.R.Source.remaining l.reader.inner) l.line.items;
  given : Gives (g.R.Source.transfers l.fn.reader.inner) (g.R.Source.transfers l.reader.inner) l.line.items false;
  none : before_feed l.line.items ≡ None;
}
