use Rattle.std.proofs.Common.{◌∙◌}
use Rattle.bh_view.specs.Blocks.{whole}
use Rattle.bh_blocks.proofs.PlanSteps.{all_coming}
use Rattle.bh_blocks.proofs.reading.plan_body.Goals as goal

pub returns-clause-coming : goal.returns-clause-coming
returns-clause-coming c tables long =
    all_coming c.window_of.result tables.refs tables.blocks (c.args.tenant.now, c.args.body) ∙ c.window_of.ensures.part (whole tables.refs tables.blocks (c.args.tenant.now, c.args.body)) long
