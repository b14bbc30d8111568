use Rattle.std.proofs.Common.{◌≡◌, take, map}
use Rattle.arrayvec.specs.ArrayVec.{array_vec_len}
use Rattle.httparse.specs.Spans.{header_bytes}
use Rattle.bh_http.specs.Views.{pairs_of}
use Rattle.bh_http.proofs.head.fields_at.Given as goal

abbrev pub invariant-loop-header : goal.invariant-loop-header
invariant-loop-header l = record {
  count : array_vec_len l.fields ≡ l.header-index;
  read : pairs_of l.fields.items ≡ map (header_bytes l.bytes) (take l.header-index l.headers);
}
