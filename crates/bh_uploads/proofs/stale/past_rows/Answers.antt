use Rattle.std.proofs.Common.{refl, ◌≡◌, ℕ, List, map, Result, Ok, Err, IfOk, ap, ◌∙◌}
use Rattle.sqlite.specs.Held.{state}
use Rattle.sqlite.specs.Order.{Row}
use Rattle.sqlite.specs.declared.error.Error.{Error}
use Rattle.bh_tables.specs.Due.{shown_owner, past_uploads}
use Rattle.bh_tables.specs.Typed.{Tables}
use Rattle.bh_tables.proofs.DueText.{asked_uploads, past_shown}
use Rattle.bh_view.specs.Sound.{IsSound}
use Rattle.bh_view.proofs.DueLemmas.{asked_are_past}
use Rattle.bh_base.specs.Layer.{IsStateClean}
use Rattle.bh_schema.specs.Working.{tables_at}
use Rattle.bh_base.proofs.Calls.{question, ready}
use Rattle.bh_base.specs.Connections.{backing}
use Rattle.bh_base.specs.Placed.{filled_trees}
use Rattle.bh_base.specs.Shown.{shown}
use Rattle.bh_base.proofs.Beneath.{told}
use Rattle.bh_uploads.proofs.stale.past_rows.Goals as goal

-- in sound tables they are those that SQL finds
as_past : {X : Type 0} (rows_in : X → List Row) (clean : Type 0) (tables : Tables) (moment limit : ℕ) (result : Result X Error)
    → IfOk result (λ x. clean → rows_in x ≡ map shown_owner (asked_uploads limit moment tables.buckets tables.uploads))
    → IfOk result (λ x. clean → IsSound tables → rows_in x ≡ map shown_owner (past_uploads limit moment tables.buckets tables.uploads))
as_past rows_in clean tables moment limit (Ok x) h = λ is sound. h is ∙ ap (map shown_owner) (asked_are_past tables sound moment limit)
as_past rows_in clean tables moment limit (Err e) h = tt

pub returns : goal.returns
unfolding filled_trees
returns g c =
    let h = rw (c.number.ensures, c.number-2.ensures) at c.query_all.ensures in
    let old = state g.S.Store c.args.connection.now.database in
    let a = backing g.P.Shelf c.args.connection.now.packs in
    let new = state g.S.Store c.query_all.new.self in
    let q = question (shown a old) (shown a new) (λ v. v.items) (λ t. map shown_owner (asked_uploads c.args.limit c.args.moment t.buckets t.uploads)) c.query_all.result c.requires.inside (told a old new (ready (shown a old) c.requires.inside) (λ v. v.items) (λ t. map shown_owner (asked_uploads c.args.limit c.args.moment t.buckets t.uploads)) c.query_all.result h.survives (λ _. refl) (λ bare.
    past_shown old new bare c.args.moment c.args.limit (λ v. v.items) c.query_all.result h.ok h.err h.survives)) in
    record {
      reads = record { within = q.within; opens = q.opens; same = q.same };
      rows = as_past (λ v. v.items) (IsStateClean (shown a new)) (tables_at (shown a old)) c.args.moment c.args.limit c.query_all.result q.rows;
      trouble = q.trouble;
    }
