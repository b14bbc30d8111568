use Rattle.std.proofs.Common.{map, ap, ◌∙◌}
use Rattle.bh_tables.specs.Typed.{Tables}
use Rattle.bh_tenant_rows.specs.Shown.{shown_name}
use Rattle.bh_moved.proofs.Settling.{begun_inside, begun_tables}
use Rattle.bh_moved.proofs.sole.begin_and_read.Goals as goal

pub name_rows-requires : goal.name_rows-requires
name_rows-requires g c = record { inside = begun_inside _ _ c.in_ok-begin.ensures.begins c.requires.ready c.in_ok-begin.ensures.within }

pub returns-clause-rows : goal.returns-clause-rows
returns-clause-rows g c clean =
    let it = c.in_ok-rows.ensures in
    it.rows clean ∙ ap (λ (x : Tables). map shown_name x.tenants) (begun_tables _ _ c.in_ok-begin.ensures.begins (it.reads.within.follows.clean clean))
