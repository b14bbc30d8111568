use Rattle.std.proofs.Common.{inl, inr}
use Rattle.bh_cache.proofs.blocks.BlockCache.keep.Goals as goal

pub returns-in-Some-clause-entries : goal.returns-in-Some-clause-entries
returns-in-Some-clause-entries c = rw (← c.make_room.ensures, ← c.in-Some.ensures) (λ e there. elim (c.put.ensures.entries e there) [
  | inl was ↦ inl (c.let_go.ensures.entries e was)
  | inr it ↦ inr it
])
