use Rattle.std.proofs.Common.{◌≡◌, length, false}
use Rattle.std.specs.List.{list_any}
use Rattle.std.specs.Io.KnownBytes.{Consumes}
use Rattle.bh_http.specs.Reading.{HasNoHead}
use Rattle.bh_http.specs.Arriving.{is_text}
use Rattle.bh_http.specs.Transfers.{Gives}
use Rattle.bh_link.proofs.request.take_head.Given as goal

-- so far no head stands at the front
abbrev pub invariant-loop-count : goal.invariant-loop-count
invariant-loop-count g l = record {
  going : l.reader.failed ≡ false;
  count : length l.bytes.items ≡ l.count;
  consumed : Consumes (g.R.Source.remaining l.fn.reader.inner) (g.R.Source.remaining l.reader.inner) l.bytes.items;
  given : Gives (g.R.Source.transfers l.fn.reader.inner) (g.R.Source.transfers l.reader.inner) l.bytes.items false;
  none : HasNoHead l.bytes.items;
  started : l.started ≡ list_any is_text l.bytes.items;
}
