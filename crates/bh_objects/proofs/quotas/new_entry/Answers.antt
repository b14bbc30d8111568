use Rattle.std.proofs.Common.{rules, sym, ap, ◌∙◌, Ok}
use Rattle.std.proofs.lemmas.Result.{err_from_is_err_and}
use Rattle.bh_base.specs.Connections.{state}
use Rattle.bh_types.specs.Counts.{Counts}
use Rattle.bh_types.specs.Outcomes.{◌>>=◌}
use Rattle.bh_tables.specs.Typed.{Tables}
use Rattle.bh_view.specs.View.{view}
use Rattle.bh_schema.specs.Working.{tables_at}
use Rattle.bh_objects.specs.Found.{account_in, bytes_in, replaced_bytes, room_under, entry_numbers_in}
use Rattle.bh_objects.specs.declared.quotas.NewEntry.{NewEntry}
use Rattle.bh_objects.proofs.Working.{same_tables, asked_working, works_then, works_on, any_unless}
use Rattle.bh_objects.proofs.Room.{numbers_from, entry_decides, room_lets, room_failed}
use Rattle.bh_objects.proofs.quotas.new_entry.Goals as goal

pub tenant_account-requires : goal.tenant_account-requires
tenant_account-requires g c clean =
    let first = state g.S.Store g.P.Shelf c.args.connection.now in
    let second = state g.S.Store g.P.Shelf c.find_replaced.new.connection in
    works_on first second (asked_working first second c.requires.working c.in_ok-replaced.ensures.reads.within c.in_ok-replaced.ensures.reads.same clean)

pub returns-in_err-require_room-clause-works : goal.returns-in_err-require_room-clause-works
returns-in_err-require_room-clause-works g c = record {
  within = search rules;
  opens = search rules;
  working = any_unless c.from_residual-in_err-require_room.result _ (λ clean.
      let first = state g.S.Store g.P.Shelf c.args.connection.now in
      let second = state g.S.Store g.P.Shelf c.find_replaced.new.connection in
      let third = state g.S.Store g.P.Shelf c.tenant_account.new.connection in
      works_then first second third
      (asked_working first second c.requires.working c.in_ok-replaced.ensures.reads.within c.in_ok-replaced.ensures.reads.same (c.in_ok-account.ensures.works.within.follows.clean clean))
      (c.in_ok-account.ensures.works.working clean));
}

pub returns-in_err-require_room-clause-decides : goal.returns-in_err-require_room-clause-decides
returns-in_err-require_room-clause-decides g c clean =
    let first = state g.S.Store g.P.Shelf c.args.connection.now in
    let second = state g.S.Store g.P.Shelf c.find_replaced.new.connection in
    let old = tables_at first in
    let t = c.args.tenant.now in
    let quota = c.in_ok-account.account.quota in
    let used = c.in_ok-account.account.used in
    let counters = c.in_ok-account.account.counters in
    let bytes = c.replaced_bytes-bytes.result in
    let clean_second = c.in_ok-account.ensures.works.within.follows.clean clean in
    let clean_first = c.in_ok-replaced.ensures.reads.within.follows.clean clean_second in
    let one = same_tables first second (c.in_ok-replaced.ensures.reads.same clean_second.intact) in
    let two = c.in_ok-account.ensures.decides clean in
    let its = c.in_ok-account.ensures.used clean ∙ ap (bytes_in t) one in
    let whole =
    entry_decides old t c.args.bucket.now c.args.key.now (c.requires.working clean_first).sound c.args.mode (c.requires.there clean_first) bytes c.args.added
    (c.replaced_bytes-bytes.ensures ∙ ap replaced_bytes (c.in_ok-replaced.ensures.found clean_second)) (quota, counters) (ap (λ (x : Tables). account_in (view x t)) (sym one) ∙ two.0)
    ∙ ap (λ n. ◌>>=◌ {B = Counts × Counts} (room_under quota n bytes c.args.added) (λ _. numbers_from c.args.mode counters)) (sym its) in
    let p = err_from_is_err_and c.from_residual-in_err-require_room.result c.from_residual-in_err-require_room.ensures.1 in
    rw (p.1, p.2) (room_failed (λ (entry : NewEntry). (entry.numbers.before, entry.numbers.after)) (λ (x : Tables). entry_numbers_in c.args.mode c.args.bucket.now c.args.key.now c.args.added (view x t))
    (room_under quota used bytes c.args.added) (λ _. numbers_from c.args.mode counters) old (tables_at (state g.S.Store g.P.Shelf c.tenant_account.new.connection)) c.in_err-require_room.field-0.0 (two.1 ∙ one) whole c.in_err-require_room.ensures)

pub returns-in_err-after-clause-works : goal.returns-in_err-after-clause-works
returns-in_err-after-clause-works g c = record {
  within = search rules;
  opens = search rules;
  working = any_unless c.from_residual-in_err-after.result _ (λ clean.
      let first = state g.S.Store g.P.Shelf c.args.connection.now in
      let second = state g.S.Store g.P.Shelf c.find_replaced.new.connection in
      let third = state g.S.Store g.P.Shelf c.tenant_account.new.connection in
      works_then first second third
      (asked_working first second c.requires.working c.in_ok-replaced.ensures.reads.within c.in_ok-replaced.ensures.reads.same (c.in_ok-account.ensures.works.within.follows.clean clean))
      (c.in_ok-account.ensures.works.working clean));
}

pub returns-in_err-after-clause-decides : goal.returns-in_err-after-clause-decides
returns-in_err-after-clause-decides g c clean =
    let first = state g.S.Store g.P.Shelf c.args.connection.now in
    let second = state g.S.Store g.P.Shelf c.find_replaced.new.connection in
    let old = tables_at first in
    let t = c.args.tenant.now in
    let quota = c.in_ok-account.account.quota in
    let used = c.in_ok-account.account.used in
    let counters = c.in_ok-account.account.counters in
    let bytes = c.replaced_bytes-bytes.result in
    let clean_second = c.in_ok-account.ensures.works.within.follows.clean clean in
    let clean_first = c.in_ok-replaced.ensures.reads.within.follows.clean clean_second in
    let one = same_tables first second (c.in_ok-replaced.ensures.reads.same clean_second.intact) in
    let two = c.in_ok-account.ensures.decides clean in
    let its = c.in_ok-account.ensures.used clean ∙ ap (bytes_in t) one in
    let whole =
    entry_decides old t c.args.bucket.now c.args.key.now (c.requires.working clean_first).sound c.args.mode (c.requires.there clean_first) bytes c.args.added
    (c.replaced_bytes-bytes.ensures ∙ ap replaced_bytes (c.in_ok-replaced.ensures.found clean_second)) (quota, counters) (ap (λ (x : Tables). account_in (view x t)) (sym one) ∙ two.0)
    ∙ ap (λ n. ◌>>=◌ {B = Counts × Counts} (room_under quota n bytes c.args.added) (λ _. numbers_from c.args.mode counters)) (sym its) in
    let p = err_from_is_err_and c.from_residual-in_err-after.result c.from_residual-in_err-after.ensures.1 in
    rw (p.1, p.2) (
      whole ∙ room_lets (room_under quota used bytes c.args.added) (λ _. numbers_from c.args.mode counters) c.in_ok-require_room.ensures
          ∙ ap (λ r. ◌>>=◌ {B = Counts × Counts} r (λ after. Ok (counters, after))) (sym c.after_entry.ensures ∙ c.in_err-after.was),
      two.1 ∙ one,
    )

pub returns-clause-works : goal.returns-clause-works
returns-clause-works g c = record {
  within = search rules;
  opens = search rules;
  working = λ clean.
      let first = state g.S.Store g.P.Shelf c.args.connection.now in
      let second = state g.S.Store g.P.Shelf c.find_replaced.new.connection in
      let third = state g.S.Store g.P.Shelf c.tenant_account.new.connection in
      works_then first second third
      (asked_working first second c.requires.working c.in_ok-replaced.ensures.reads.within c.in_ok-replaced.ensures.reads.same (c.in_ok-account.ensures.works.within.follows.clean clean))
      (c.in_ok-account.ensures.works.working clean);
}

pub returns-clause-decides : goal.returns-clause-decides
returns-clause-decides g c clean =
    let first = state g.S.Store g.P.Shelf c.args.connection.now in
    let second = state g.S.Store g.P.Shelf c.find_replaced.new.connection in
    let old = tables_at first in
    let t = c.args.tenant.now in
    let quota = c.in_ok-account.account.quota in
    let used = c.in_ok-account.account.used in
    let counters = c.in_ok-account.account.counters in
    let bytes = c.replaced_bytes-bytes.result in
    let clean_second = c.in_ok-account.ensures.works.within.follows.clean clean in
    let clean_first = c.in_ok-replaced.ensures.reads.within.follows.clean clean_second in
    let one = same_tables first second (c.in_ok-replaced.ensures.reads.same clean_second.intact) in
    let two = c.in_ok-account.ensures.decides clean in
    let its = c.in_ok-account.ensures.used clean ∙ ap (bytes_in t) one in
    let whole =
    entry_decides old t c.args.bucket.now c.args.key.now (c.requires.working clean_first).sound c.args.mode (c.requires.there clean_first) bytes c.args.added
    (c.replaced_bytes-bytes.ensures ∙ ap replaced_bytes (c.in_ok-replaced.ensures.found clean_second)) (quota, counters) (ap (λ (x : Tables). account_in (view x t)) (sym one) ∙ two.0)
    ∙ ap (λ n. ◌>>=◌ {B = Counts × Counts} (room_under quota n bytes c.args.added) (λ _. numbers_from c.args.mode counters)) (sym its) in (
      whole ∙ room_lets (room_under quota used bytes c.args.added) (λ _. numbers_from c.args.mode counters) c.in_ok-require_room.ensures
          ∙ ap (λ r. ◌>>=◌ {B = Counts × Counts} r (λ after. Ok (counters, after))) (sym c.after_entry.ensures ∙ c.in_ok-after.was),
      two.1 ∙ one,
    )
