use Rattle.std.proofs.Common.{Some}
use Rattle.bh_packs.proofs.PackLemmas.{none_keeps, more_keep}
use Rattle.bh_packs.proofs.packs.Packs.begin.Goals as goal

pub returns-clause-keeps : goal.returns-clause-keeps
returns-clause-keeps g c = λ n. rw c.in_ok-add.ensures.added (more_keep g.D.Disk c.args.self.now.slots.items (Some c.new.result) (none_keeps g.D.Disk c.new.result) n)
