use Rattle.bh_types.proofs.Days.{date_text-day_at}
use Rattle.bh_types.proofs.moment.day_after.Goals as goal

pub returns : goal.returns
returns c = date_text-day_at c.args.days c.date_after.result c.requires c.date_after.ensures
