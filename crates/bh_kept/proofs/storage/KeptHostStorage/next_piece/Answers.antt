use Rattle.std.proofs.Common.{refl}
use Rattle.bh_kept.proofs.Keeping.{within_kept, opens_kept}
use Rattle.bh_kept.proofs.storage.KeptHostStorage.next_piece.Goals as goal

pub returns-in-Some-clause-within : goal.returns-in-Some-clause-within
returns-in-Some-clause-within g c = within_kept c.args.self.now _ c.in-Some.storage c.next_piece.new.self c.in-Some.is refl c.next_piece.ensures.within

pub returns-in-Some-clause-opens : goal.returns-in-Some-clause-opens
returns-in-Some-clause-opens g c = opens_kept c.args.self.now c.in-Some.storage c.next_piece.new.self c.in-Some.is c.next_piece.result _ c.next_piece.ensures.opens
