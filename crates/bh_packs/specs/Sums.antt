-- The sum of some bytes.
use Rattle.std.specs.Prelude.{ℕ, List}
use Rattle.sqlite_disk.specs.Digest.{digest}

-- SipHash-1-3 with the standard library's fixed keys, of eight bytes of 0 and then the bytes, but 1 in place of 0
abbrev pub sum_of : List ℕ → ℕ
sum_of bytes = digest 0 bytes
