use Rattle.std.proofs.Common.{rules, ℕ, sym, ap, ◌∙◌}
use Rattle.std.proofs.lemmas.Result.{err_from_is_err_and}
use Rattle.bh_base.specs.Connections.{state}
use Rattle.bh_types.specs.Outcomes.{◌>>=◌}
use Rattle.bh_tables.specs.Typed.{Tables}
use Rattle.bh_view.specs.View.{view}
use Rattle.bh_schema.specs.Working.{tables_at}
use Rattle.bh_objects.specs.Found.{account_in, bytes_in, room_under}
use Rattle.bh_objects.specs.declared.reads.Account.{Account}
use Rattle.bh_objects.proofs.Working.{same_tables, asked_working, works_on, works_then, any_unless, unless_then}
use Rattle.bh_objects.proofs.Room.{room_lets, room_failed}
use Rattle.bh_uploads.specs.Found.{given, part_bytes_in, part_entry_in}
use Rattle.bh_uploads.specs.declared.quotas.PartEntry.{PartEntry}
use Rattle.bh_uploads.proofs.PartQuota.{entry_decides}
use Rattle.bh_uploads.proofs.Unfound.{account_unfound}
use Rattle.bh_uploads.proofs.quotas.part_entry.Goals as goal

pub tenant_account-requires : goal.tenant_account-requires
tenant_account-requires g c clean =
    let first = state g.S.Store g.P.Shelf c.args.connection.now in
    let second = state g.S.Store g.P.Shelf c.replaced_part.new.connection in
    works_on first second (asked_working first second c.requires.working c.in_ok-replaced.ensures.reads.within c.in_ok-replaced.ensures.reads.same clean)

pub returns-in_err-account-clause-works : goal.returns-in_err-account-clause-works
returns-in_err-account-clause-works g c = record {
  within = search rules;
  opens = search rules;
  working =
      let first = state g.S.Store g.P.Shelf c.args.connection.now in
      let second = state g.S.Store g.P.Shelf c.replaced_part.new.connection in
      let p = err_from_is_err_and c.from_residual-in_err-account.result c.from_residual-in_err-account.ensures.1 in
      rw (p.1, p.2) (unless_then _ _ c.in_err-account.field-0.0
      (λ still clean. works_then first second (state g.S.Store g.P.Shelf c.tenant_account.new.connection)
      (asked_working first second c.requires.working c.in_ok-replaced.ensures.reads.within c.in_ok-replaced.ensures.reads.same (c.in_err-account.ensures.works.within.follows.clean clean)) (still clean)) c.in_err-account.ensures.works.working);
}

pub returns-in_err-require_room-clause-works : goal.returns-in_err-require_room-clause-works
returns-in_err-require_room-clause-works g c = record {
  within = search rules;
  opens = search rules;
  working = any_unless c.from_residual-in_err-require_room.result _ (λ clean.
      let first = state g.S.Store g.P.Shelf c.args.connection.now in
      let second = state g.S.Store g.P.Shelf c.replaced_part.new.connection in
      let third = state g.S.Store g.P.Shelf c.tenant_account.new.connection in
      works_then first second third
      (asked_working first second c.requires.working c.in_ok-replaced.ensures.reads.within c.in_ok-replaced.ensures.reads.same (c.in_ok-account.ensures.works.within.follows.clean clean))
      (c.in_ok-account.ensures.works.working clean));
}

pub returns-in_err-require_room-clause-decides : goal.returns-in_err-require_room-clause-decides
returns-in_err-require_room-clause-decides g c clean =
    let first = state g.S.Store g.P.Shelf c.args.connection.now in
    let second = state g.S.Store g.P.Shelf c.replaced_part.new.connection in
    let old = tables_at first in
    let t = c.args.tenant.now in
    let quota = c.in_ok-account.account.quota in
    let used = c.in_ok-account.account.used in
    let counters = c.in_ok-account.account.counters in
    let bytes = c.in_ok-replaced.replaced.bytes in
    let clean_second = c.in_ok-account.ensures.works.within.follows.clean clean in
    let clean_first = c.in_ok-replaced.ensures.reads.within.follows.clean clean_second in
    let one = same_tables first second (c.in_ok-replaced.ensures.reads.same clean_second.intact) in
    let two = c.in_ok-account.ensures.decides clean in
    let its = c.in_ok-account.ensures.used clean ∙ ap (bytes_in t) one in
    let whole =
    entry_decides old t (c.requires.working clean_first).sound (part_bytes_in t c.args.upload c.args.number old) bytes c.args.added (c.in_ok-replaced.ensures.bytes clean_second) (quota, counters) (ap (λ (x : Tables). account_in (view x t)) (sym one) ∙ two.0)
    ∙ ap (λ n. ◌>>=◌ {B = ℕ} (room_under quota n bytes c.args.added) (λ _. given counters.entry)) (sym its) in
    let p = err_from_is_err_and c.from_residual-in_err-require_room.result c.from_residual-in_err-require_room.ensures.1 in
    rw (p.1, p.2) (room_failed (λ (taken : PartEntry). taken.entry) (λ (x : Tables). part_entry_in (part_bytes_in t c.args.upload c.args.number old) c.args.added (view x t))
    (room_under quota used bytes c.args.added) (λ _. given counters.entry) old (tables_at (state g.S.Store g.P.Shelf c.tenant_account.new.connection)) c.in_err-require_room.field-0.0 (two.1 ∙ one) whole c.in_err-require_room.ensures)

pub returns-in_err-entry-clause-works : goal.returns-in_err-entry-clause-works
returns-in_err-entry-clause-works g c = record {
  within = search rules;
  opens = search rules;
  working = any_unless c.from_residual-in_err-entry.result _ (λ clean.
      let first = state g.S.Store g.P.Shelf c.args.connection.now in
      let second = state g.S.Store g.P.Shelf c.replaced_part.new.connection in
      let third = state g.S.Store g.P.Shelf c.tenant_account.new.connection in
      works_then first second third
      (asked_working first second c.requires.working c.in_ok-replaced.ensures.reads.within c.in_ok-replaced.ensures.reads.same (c.in_ok-account.ensures.works.within.follows.clean clean))
      (c.in_ok-account.ensures.works.working clean));
}

pub returns-in_err-entry-clause-decides : goal.returns-in_err-entry-clause-decides
returns-in_err-entry-clause-decides g c clean =
    let first = state g.S.Store g.P.Shelf c.args.connection.now in
    let second = state g.S.Store g.P.Shelf c.replaced_part.new.connection in
    let old = tables_at first in
    let t = c.args.tenant.now in
    let quota = c.in_ok-account.account.quota in
    let used = c.in_ok-account.account.used in
    let counters = c.in_ok-account.account.counters in
    let bytes = c.in_ok-replaced.replaced.bytes in
    let clean_second = c.in_ok-account.ensures.works.within.follows.clean clean in
    let clean_first = c.in_ok-replaced.ensures.reads.within.follows.clean clean_second in
    let one = same_tables first second (c.in_ok-replaced.ensures.reads.same clean_second.intact) in
    let two = c.in_ok-account.ensures.decides clean in
    let its = c.in_ok-account.ensures.used clean ∙ ap (bytes_in t) one in
    let whole =
    entry_decides old t (c.requires.working clean_first).sound (part_bytes_in t c.args.upload c.args.number old) bytes c.args.added (c.in_ok-replaced.ensures.bytes clean_second) (quota, counters) (ap (λ (x : Tables). account_in (view x t)) (sym one) ∙ two.0)
    ∙ ap (λ n. ◌>>=◌ {B = ℕ} (room_under quota n bytes c.args.added) (λ _. given counters.entry)) (sym its) in
    let p = err_from_is_err_and c.from_residual-in_err-entry.result c.from_residual-in_err-entry.ensures.1 in
    rw (p.1, p.2) (
      whole ∙ room_lets (room_under quota used bytes c.args.added) (λ _. given counters.entry) c.in_ok-require_room.ensures ∙ ap (λ (a : Account). given a.counters.entry) (sym c.account.view_is) ∙ sym c.given.ensures.value ∙ c.in_err-entry.was,
      two.1 ∙ one,
    )

pub returns-clause-works : goal.returns-clause-works
returns-clause-works g c = record {
  within = search rules;
  opens = search rules;
  working = λ clean.
      let first = state g.S.Store g.P.Shelf c.args.connection.now in
      let second = state g.S.Store g.P.Shelf c.replaced_part.new.connection in
      let third = state g.S.Store g.P.Shelf c.tenant_account.new.connection in
      works_then first second third
      (asked_working first second c.requires.working c.in_ok-replaced.ensures.reads.within c.in_ok-replaced.ensures.reads.same (c.in_ok-account.ensures.works.within.follows.clean clean))
      (c.in_ok-account.ensures.works.working clean);
}

pub returns-clause-decides : goal.returns-clause-decides
returns-clause-decides g c clean =
    let first = state g.S.Store g.P.Shelf c.args.connection.now in
    let second = state g.S.Store g.P.Shelf c.replaced_part.new.connection in
    let old = tables_at first in
    let t = c.args.tenant.now in
    let quota = c.in_ok-account.account.quota in
    let used = c.in_ok-account.account.used in
    let counters = c.in_ok-account.account.counters in
    let bytes = c.in_ok-replaced.replaced.bytes in
    let clean_second = c.in_ok-account.ensures.works.within.follows.clean clean in
    let clean_first = c.in_ok-replaced.ensures.reads.within.follows.clean clean_second in
    let one = same_tables first second (c.in_ok-replaced.ensures.reads.same clean_second.intact) in
    let two = c.in_ok-account.ensures.decides clean in
    let its = c.in_ok-account.ensures.used clean ∙ ap (bytes_in t) one in
    let whole =
    entry_decides old t (c.requires.working clean_first).sound (part_bytes_in t c.args.upload c.args.number old) bytes c.args.added (c.in_ok-replaced.ensures.bytes clean_second) (quota, counters) (ap (λ (x : Tables). account_in (view x t)) (sym one) ∙ two.0)
    ∙ ap (λ n. ◌>>=◌ {B = ℕ} (room_under quota n bytes c.args.added) (λ _. given counters.entry)) (sym its) in (
      whole ∙ room_lets (room_under quota used bytes c.args.added) (λ _. given counters.entry) c.in_ok-require_room.ensures ∙ ap (λ (a : Account). given a.counters.entry) (sym c.account.view_is) ∙ sym c.given.ensures.value ∙ c.in_ok-entry.was,
      two.1 ∙ one,
    )

pub returns-clause-bytes : goal.returns-clause-bytes
returns-clause-bytes g c clean = sym (c.in_ok-replaced.ensures.bytes (c.in_ok-account.ensures.works.within.follows.clean clean))

pub returns-in_err-account-clause-decides : goal.returns-in_err-account-clause-decides
returns-in_err-account-clause-decides g c clean =
    let p = err_from_is_err_and c.from_residual-in_err-account.result c.from_residual-in_err-account.ensures.1 in
    let first = state g.S.Store g.P.Shelf c.args.connection.now in
    let second = state g.S.Store g.P.Shelf c.replaced_part.new.connection in
    let t = c.args.tenant.now in
    let one = same_tables first second (c.in_ok-replaced.ensures.reads.same (c.in_err-account.ensures.works.within.follows.clean clean).intact) in
    rw (p.1, p.2) (account_unfound (λ (a : Account). (a.quota, a.counters)) (λ (taken : PartEntry). taken.entry) t (part_bytes_in t c.args.upload c.args.number (tables_at first)) c.args.added
    (tables_at first) (tables_at second) (tables_at (state g.S.Store g.P.Shelf c.tenant_account.new.connection)) one c.in_err-account.field-0.0 (c.in_err-account.ensures.decides clean))
