use Rattle.std.proofs.Common.{inl, inr, ap, sym, ◌∙◌}
use Rattle.sqlite_store.specs.declared.store.FileStore.{FileStore}
use Rattle.bh_base.specs.declared.connection.Connection.{Connection}
use Rattle.bh_commands.specs.Clocks.{leaps}
use Rattle.bh_commands.proofs.hosts.work_in_time.Goals as goal

pub work_on-requires-clause-rest : goal.work_on-requires-clause-rest
work_on-requires-clause-rest g c = c.requires.rest

pub returns-then-leaps : goal.returns-then-leaps
returns-then-leaps g c =
    let told = c.in_ok-held_back.ensures in
    inl (record {
      reading = c.in_ok-reading.reading;
      reads = record {
        given = c.in_ok-reading.ensures;
        leap = λ clean. ap (λ n. leaps c.args.clock.leap n c.in_ok-reading.reading) (sym (c.requires.read clean)) ∙ sym c.leaps.ensures ∙ c.if-leaps.true;
      };
      left = told.0 ∙ ap (λ (j : Connection (FileStore _ _) _). j.database) c.into_connection.ensures;
      line = told.1;
    })

pub returns : goal.returns
returns g c =
    inr (record {
      reading = c.in_ok-reading.reading;
      reads = record {
        given = c.in_ok-reading.ensures;
        leap = λ clean. ap (λ n. leaps c.args.clock.leap n c.in_ok-reading.reading) (sym (c.requires.read clean)) ∙ sym c.leaps.ensures ∙ c.if-leaps.false;
      };
      worked = c.in_ok-work_on.ensures;
    })
