use Rattle.std.proofs.Common.{arith}
use Rattle.bh_packs.proofs.PackLemmas.{set_keeps}
use Rattle.bh_packs.proofs.packs.Packs.put_at.Goals as goal

pub returns-clause-keeps : goal.returns-clause-keeps
returns-clause-keeps g c =
    set_keeps g.D.Disk c.args.self.now.slots.items c.args.number c.index_mut.result.now c.put_in.new.slot
    (omega (arith, c.if-number-len.false, c.len.ensures, c.args.self.now.slots.ok.0)) c.index_mut.ensures.value c.put_in.ensures.keeps
