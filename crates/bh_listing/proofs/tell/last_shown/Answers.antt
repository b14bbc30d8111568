use Rattle.bh_listing.proofs.Telling.{next_shown, not_zero}
use Rattle.bh_listing.proofs.tell.last_shown.Goals as goal

pub returns : goal.returns
returns g c = next_shown c.args.gathered.now c.args.max c.index-gathered-max.result (not_zero c.args.max c.if-max-eq0.false) c.if-gathered-max.false c.index-gathered-max.is
