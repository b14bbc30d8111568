use Rattle.std.proofs.Common.{rules, ◌≡◌, ◌≤◌, Some, Ok, sym, ◌∙◌}
use Rattle.std.proofs.lemmas.Result.{err_from_is_err_and}
use Rattle.bh_storage.specs.declared.error.Trouble.{Trouble}
use Rattle.bh_storage.specs.Calls.{Stamps}
use Rattle.bh_memo.proofs.Calls.{stamps_again, shown}
use Rattle.bh_schema.specs.Storage as storage
use Rattle.bh_dispatch.proofs.Remembering.{within, on_ok, at_rest, host_works, was, stamped_so}
use Rattle.bh_dispatch.proofs.sql_host.SqlHostStorage.stamp.Goals as goal

pub returns-then-reading-seconds-clause-goes_on : goal.returns-then-reading-seconds-clause-goes_on
returns-then-reading-seconds-clause-goes_on g c = at_rest g.S.Store g.P.Shelf g.D.Digester.digest_of _ (λ A a. a) c.args.self.now c.requires.working

pub returns-then-reading-seconds-clause-stamps : goal.returns-then-reading-seconds-clause-stamps
returns-then-reading-seconds-clause-stamps g c clean =
    let known : c.args.self.now.memo.latest ≡ Some c.in-Some.latest = sym c.latest.ensures ∙ c.in-Some.is in
    let low : c.args.reading ≤ c.in-Some.latest = search rules in
    stamps_again c.args.self.now.memo (storage.seen g.S.Store g.P.Shelf c.args.self.now.host) c.args.reading c.in-Some.latest (c.requires.working clean) known low c.requires.in_range

pub stamp_reading-requires-clause-in_range : goal.stamp_reading-requires-clause-in_range
stamp_reading-requires-clause-in_range g c = c.requires.in_range

pub stamp_reading-requires-clause-working : goal.stamp_reading-requires-clause-working
stamp_reading-requires-clause-working g c = host_works g.S.Store g.P.Shelf g.D.Digester.digest_of c.args.self.now c.requires.working

pub returns-in_err-stamp-clause-goes_on : goal.returns-in_err-stamp-clause-goes_on
returns-in_err-stamp-clause-goes_on g c =
    let p = err_from_is_err_and c.from_residual.result c.from_residual.ensures.1 in
    rw (p.1, p.2) (record { within = within g.S.Store g.P.Shelf c.args.self.now (record c.args.self.now { host = c.stamp_reading.new.self }) c.in_err-stamp.ensures.within; opens = tt; working = tt })

pub returns-in_err-stamp-clause-stamps : goal.returns-in_err-stamp-clause-stamps
returns-in_err-stamp-clause-stamps g c = let p = err_from_is_err_and c.from_residual.result c.from_residual.ensures.1 in rw p.1 tt

pub returns-clause-goes_on : goal.returns-clause-goes_on
returns-clause-goes_on g c =
    let old = c.args.self.now in
    let h = c.in_ok-stamp.ensures in
    on_ok g.S.Store g.P.Shelf g.D.Digester.digest_of old (record old { host = c.stamp_reading.new.self; memo = c.set_latest.new.self }) {E = Trouble} (Ok c.in_ok-stamp.stamp) (record { within = h.within; opens = h.opens; working = h.working })
    (stamped_so g.S.Store g.P.Shelf g.D.Digester.digest_of old c.requires.working c.set_latest.new.self c.stamp_reading.new.self h.within c.args.reading c.in_ok-stamp.stamp c.set_latest.ensures h.stamps)

pub returns-clause-stamps : goal.returns-clause-stamps
returns-clause-stamps g c clean =
    let old = c.args.self.now in
    let h = c.in_ok-stamp.ensures in
    let w = h.within in
    shown old.memo c.set_latest.new.self (storage.seen g.S.Store g.P.Shelf old.host) (storage.seen g.S.Store g.P.Shelf c.stamp_reading.new.self) (storage.IsClean g.S.Store g.P.Shelf c.stamp_reading.new.self)
    (was g.S.Store g.P.Shelf g.D.Digester.digest_of old c.requires.working c.set_latest.new.self c.stamp_reading.new.self w)
    (Stamps c.args.reading c.in_ok-stamp.stamp) clean
    (stamped_so g.S.Store g.P.Shelf g.D.Digester.digest_of old c.requires.working c.set_latest.new.self c.stamp_reading.new.self w c.args.reading c.in_ok-stamp.stamp c.set_latest.ensures h.stamps clean) (h.stamps clean)
