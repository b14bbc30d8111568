use Rattle.std.proofs.Common.{ap, ◌∙◌}
use Rattle.bh_base.specs.Connections.{state, without_packs}
use Rattle.sqlite.specs.Steps.{over_memory}
use Rattle.bh_rows.specs.Means.{is_trouble}
use Rattle.bh_schema.proofs.Finds.{handed_on}
use Rattle.bh_create.proofs.Memory.{is_intact, is_clean}
use Rattle.bh_open.proofs.Steps.{outside, first_making, third_schema_made}
use Rattle.bh_open.proofs.tables.third_tables.Goals as goal

pub returns-in_err-begin-clause-trouble : goal.returns-in_err-begin-clause-trouble
returns-in_err-begin-clause-trouble c = handed_on _ _ _ c.from_residual-in_err-begin.ensures (λ e same.
    ap is_trouble same ∙ c.in_err-begin.ensures.trouble (is_intact c.begin.new.self) (λ _. outside c.in_ok-database.database c.in_ok-database.ensures.fresh))

pub create_third_tables-requires : goal.create_third_tables-requires
create_third_tables-requires c clean = first_making c.in_ok-database.database c.begin.new.self c.in_ok-database.ensures.empty.2 (c.in_ok-begin.ensures.begins (is_intact c.begin.new.self))

pub returns-in_err-create_third_tables-clause-trouble : goal.returns-in_err-create_third_tables-clause-trouble
returns-in_err-create_third_tables-clause-trouble c = handed_on _ _ _ c.from_residual-in_err-create_third_tables.ensures (λ e same.
    ap is_trouble same ∙ c.in_err-create_third_tables.ensures.trouble (is_intact c.create_third_tables.new.connection))

pub returns-clause-schema : goal.returns-clause-schema
returns-clause-schema c = third_schema_made (state over_memory without_packs c.create_third_tables.new.connection) (c.in_ok-create_third_tables.ensures.makes.made (is_clean c.create_third_tables.new.connection))
