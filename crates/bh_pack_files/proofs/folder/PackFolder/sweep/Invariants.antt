use Rattle.std.proofs.Common.{◌≡◌, ◌==◌, ℕ, IsTrue}
use Rattle.std.specs.List.{list_any}
use Rattle.bh_pack_files.specs.Names.{made_of, Spares}
use Rattle.bh_pack_files.proofs.folder.PackFolder.sweep.Given as goal

-- so far no pack that a row names was touched, and no file was made
abbrev pub invariant-loop-name : goal.invariant-loop-name
invariant-loop-name g l =
    (goal.iterator-loop-name g).can_next l.name-iterator × (goal.iterator-loop-name g).is_finite l.name-iterator
    × ((n : ℕ) → IsTrue (list_any (λ pack. pack == n) l.named) → Spares l.fn.self.entries.log l.self.entries.log n)
    × ((n : ℕ) → made_of n l.self.entries.log ≡ made_of n l.fn.self.entries.log)
