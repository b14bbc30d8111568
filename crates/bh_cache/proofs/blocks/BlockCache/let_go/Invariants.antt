use Rattle.std.proofs.Common.{◌≡◌, Contains}
use Rattle.bh_tables.specs.Schema.{Octets}
use Rattle.bh_tables.specs.Shown.{Name}
use Rattle.bh_cache.proofs.blocks.BlockCache.let_go.Given as goal

abbrev pub invariant-loop : goal.invariant-loop
invariant-loop l = (l.self.tuning ≡ l.initial.self.tuning) × ((e : Name × Octets) → Contains l.self.entries e → Contains l.initial.self.entries e)
