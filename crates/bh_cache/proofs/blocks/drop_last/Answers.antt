use Rattle.std.proofs.Common.{◌-◌, length}
use Rattle.bh_cache.specs.Names.{name_of}
use Rattle.bh_cache.proofs.Counting.{last_out}
use Rattle.bh_cache.proofs.Keeping.{taken_in}
use Rattle.bh_cache.proofs.blocks.drop_last.Goals as goal

pub returns-in-Some-clause-bytes : goal.returns-in-Some-clause-bytes
returns-in-Some-clause-bytes c = rw (c.pop_lru.ensures.entries, c.len.ensures, c.in-Some.bytes.ok.0) (last_out name_of (λ v. v.items) c.args.kept.now.entries _ c.in-Some.ensures.value)

pub returns-in-Some-clause-entries : goal.returns-in-Some-clause-entries
returns-in-Some-clause-entries c = rw c.pop_lru.ensures.entries (taken_in name_of (λ v. v.items) c.args.kept.now.entries (length c.args.kept.now.entries - 1))

pub returns-in-None-clause-bytes : goal.returns-in-None-clause-bytes
returns-in-None-clause-bytes c = rw c.pop_lru.ensures.entries (last_out name_of (λ v. v.items) c.args.kept.now.entries _ c.in-None.ensures.value)

pub returns-in-None-clause-entries : goal.returns-in-None-clause-entries
returns-in-None-clause-entries c = rw c.pop_lru.ensures.entries (taken_in name_of (λ v. v.items) c.args.kept.now.entries (length c.args.kept.now.entries - 1))
