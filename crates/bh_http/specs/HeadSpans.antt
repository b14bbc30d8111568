-- The head that spans cover.
use Rattle.std.specs.Prelude.{List, ℕ, map, take}
use Rattle.httparse.specs.Spans.{span_bytes, header_bytes}
use Rattle.httparse.specs.declared.spans.HeaderSpan.{HeaderSpan}
use Rattle.httparse.specs.declared.spans.RequestSpans.{RequestSpans}
use Rattle.bh_http.specs.Views.{Parts, Announced, pairs_of}
use Rattle.bh_http.specs.declared.head.HeadParts.{HeadParts}
use Rattle.bh_http.specs.declared.head.FoundHead.{FoundHead}

-- the parts of a head whose places in the bytes are known
abbrev pub parts_at : List ℕ → List HeaderSpan → RequestSpans → Parts
parts_at bytes headers spans = record {
  method = span_bytes bytes spans.method;
  target = span_bytes bytes spans.path;
  minor = spans.version;
  fields = map (header_bytes bytes) (take spans.headers headers);
}

-- a head as contracts see it
abbrev pub head_view : HeadParts → Parts
head_view head = record {
  method = head.method.now;
  target = head.target.now;
  minor = head.minor;
  fields = pairs_of head.fields.items;
}

-- a head that was found in the bytes, and the size of the body that it announces
abbrev pub announced_at : List ℕ → List HeaderSpan → FoundHead → Announced
announced_at bytes headers found = record {
  method = (parts_at bytes headers found.spans).method;
  target = (parts_at bytes headers found.spans).target;
  fields = (parts_at bytes headers found.spans).fields;
  size = found.body_size;
}
