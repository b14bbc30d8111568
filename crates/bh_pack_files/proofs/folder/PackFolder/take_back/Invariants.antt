use Rattle.std.proofs.Common.{◌≡◌, ◌==◌, ℕ, false, vec_len}
use Rattle.std.specs.List.{list_any}
use Rattle.bh_pack_files.specs.Names.{made_of, Spares}
use Rattle.bh_pack_files.proofs.folder.PackFolder.take_back.Given as goal

-- so far no file was made, and none was touched but those that were added
abbrev pub invariant-loop-pack : goal.invariant-loop-pack
invariant-loop-pack g l =
    ((n : ℕ) → made_of n l.self.entries.log ≡ made_of n l.fn.self.entries.log)
    × ((n : ℕ) → list_any (λ pack. pack == n) l.fn.self.added.items ≡ false
    → Spares l.fn.self.entries.log l.self.entries.log n × (list_any (λ pack. pack == n) l.self.added.items ≡ false))

abbrev pub decreases-loop-pack : goal.decreases-loop-pack
decreases-loop-pack g l = vec_len l.self.added
