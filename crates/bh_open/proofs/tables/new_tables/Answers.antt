use Rattle.std.proofs.Common.{ap, ◌∙◌}
use Rattle.bh_base.specs.Connections.{state, without_packs}
use Rattle.sqlite.specs.Steps.{over_memory}
use Rattle.bh_rows.specs.Means.{is_trouble}
use Rattle.bh_schema.proofs.Finds.{handed_on}
use Rattle.bh_create.proofs.Memory.{is_intact, is_clean}
use Rattle.bh_open.proofs.Steps.{made_schema, unlimited, outside}
use Rattle.bh_open.proofs.tables.new_tables.Goals as goal

pub returns-in_err-make-clause-trouble : goal.returns-in_err-make-clause-trouble
returns-in_err-make-clause-trouble c = handed_on _ _ _ c.from_residual-in_err-make.ensures (λ e same.
    let fresh = c.in_ok-database.ensures.fresh in
    ap is_trouble same ∙ c.in_err-make.ensures.trouble (is_intact c.make.new.connection) (unlimited c.in_ok-database.database fresh) (λ _. outside c.in_ok-database.database fresh))

pub returns-clause-schema : goal.returns-clause-schema
returns-clause-schema c = made_schema _ _ (state over_memory without_packs c.make.new.connection) (c.in_ok-make.ensures.made (is_clean c.make.new.connection))
