use Rattle.bh_cache.specs.Names.{name_of}
use Rattle.bh_cache.proofs.BlockNames.{exact, apart, equivalence}
use Rattle.bh_cache.proofs.Counting.{taken_out}
use Rattle.bh_cache.proofs.Keeping.{removed_in}
use Rattle.bh_cache.proofs.blocks.drop_named.Goals as goal

pub returns-in-Some-clause-bytes : goal.returns-in-Some-clause-bytes
returns-in-Some-clause-bytes c = rw (c.pop.ensures.entries, c.len.ensures, c.in-Some.bytes.ok.0) (taken_out name_of (λ v. v.items) _ c.args.kept.now.entries _ c.in-Some.ensures.value)

pub returns-in-Some-clause-entries : goal.returns-in-Some-clause-entries
returns-in-Some-clause-entries c = rw c.pop.ensures.entries (removed_in name_of (λ v. v.items) exact c.args.kept.now c.args.name.now equivalence (λ x h. apart x c.args.name.now h) c.len-count.ensures.valid.0)

pub returns-in-None-clause-bytes : goal.returns-in-None-clause-bytes
returns-in-None-clause-bytes c = rw c.pop.ensures.entries (taken_out name_of (λ v. v.items) _ c.args.kept.now.entries _ c.in-None.ensures.value)

pub returns-in-None-clause-entries : goal.returns-in-None-clause-entries
returns-in-None-clause-entries c = rw c.pop.ensures.entries (removed_in name_of (λ v. v.items) exact c.args.kept.now c.args.name.now equivalence (λ x h. apart x c.args.name.now h) c.len-count.ensures.valid.0)
