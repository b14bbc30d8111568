use Rattle.std.proofs.Common.{◌∙◌}
use Rattle.bh_cache.specs.Names.{name_of}
use Rattle.bh_cache.proofs.BlockNames.{exact}
use Rattle.bh_cache.proofs.Counting.{used}
use Rattle.bh_cache.proofs.Keeping.{promoted_in}
use Rattle.bh_cache.proofs.blocks.BlockCache.touch.Goals.{in-Some, in_default}
use Rattle.bh_cache.proofs.blocks.BlockCache.touch.Goals as goal

pub invariant_of-self : goal.invariant_of-self
invariant_of-self c = elim c.match-self.branch [
  | in-Some w ↦ let held = rw w.in-Some.is at c.self.invariant in
      rw (w.self-inside-is, w.promote.ensures.entries) (held.0, used name_of (λ v. v.items) _ w.in-Some.kept.entries ∙ held.1, held.2)
  | in_default w ↦ rw w.self-inside-is c.self.invariant
]

pub returns-clause-entries : goal.returns-clause-entries
returns-clause-entries c = elim c.match-self.branch [
  | in-Some w ↦ rw (w.self-inside-is, w.promote.ensures.entries, ← c.self.view_is, w.in-Some.is) (promoted_in name_of (λ v. v.items) exact w.in-Some.kept c.args.name.now)
  | in_default w ↦ rw (w.self-inside-is, ← c.self.view_is) (λ e h. h)
]
