use Rattle.std.proofs.Common.{ap, map}
use Rattle.sqlite.specs.Held.{state}
use Rattle.bh_tables.specs.Shown.{shown_used}
use Rattle.bh_tables.specs.Typed.{totals_of, tables}
use Rattle.bh_tables.proofs.Places.{tenants}
use Rattle.bh_tables.proofs.Statements.{all_pass}
use Rattle.bh_tables.proofs.UsedTexts.{all_used_shown}
use Rattle.bh_base.specs.Layer.{standing}
use Rattle.bh_base.proofs.Calls.{selected, asked}
use Rattle.bh_base.specs.Connections.{backing}
use Rattle.bh_base.specs.Shown.{shown}
use Rattle.bh_base.proofs.Apart.{tenants_apart}
use Rattle.bh_sweep.proofs.rows.used_rows.Goals as goal

pub returns : goal.returns
unfolding standing
returns g c =
    let h = c.query_all.ensures in
    let old = state g.S.Store c.args.connection.now.database in
    let a = backing g.P.Shelf c.args.connection.now.packs in
    let all = selected tenants (λ _. tenants_apart) a old (state g.S.Store c.query_all.new.self) c.requires.inside (λ v. v.items) c.query_all.result (all_used_shown (totals_of (tables (shown a old)))) h.ok h.err h.survives in
    let q = asked _ _ (λ t. ap (map (shown_used (totals_of (tables (shown a old))))) (all_pass t.tenants)) all in
    record { within = q.within; opens = q.opens; same = q.same; rows = q.rows; trouble = q.trouble }
