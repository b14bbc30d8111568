use Rattle.std.proofs.Common.{rules, sym, ap₂, ◌∙◌}
use Rattle.bh_base.specs.Connections.{state}
use Rattle.bh_schema.specs.Working.{tables_at}
use Rattle.bh_objects.specs.Dates.{with_date}
use Rattle.bh_objects.proofs.dates.write_date.Goals as goal

pub returns-in_ok-set_until-in-Some-Some : goal.returns-in_ok-set_until-in-Some-Some
returns-in_ok-set_until-in-Some-Some g c = record {
  changes = record {
    within = search rules;
    opens = search rules;
    holds = λ clean.
        let holds = c.in_ok-set_until-in-Some-Some.ensures.holds clean in
        let is = rw c.seconds-in-Some-Some.ensures.value at holds.is in
        record {
          within = holds.within;
          is = is ∙ ap₂ (λ present next. with_date c.args.tenant.now c.args.seq present next (tables_at (state g.S.Store g.P.Shelf c.args.connection.now))) (sym c.in-Some-Some.is-0) (sym c.in-Some-Some.is-1);
        };
  };
}
