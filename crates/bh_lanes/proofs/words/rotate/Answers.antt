use Rattle.bh_lanes.proofs.Lanes.{shifts_rotate}
use Rattle.bh_lanes.proofs.words.rotate.Goals as goal

pub returns : goal.returns
returns c j h = shifts_rotate c.args.x c.args.k j c.requires.0 c.requires.1 c.fits-x.0 h
