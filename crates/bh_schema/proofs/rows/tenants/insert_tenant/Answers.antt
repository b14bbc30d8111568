use Rattle.std.proofs.Common.{◌≡◌, true, false, ◌||◌, Bool, List, [], ◌∷◌, ◌++◌, refl, ap, sym, ◌∙◌}
use Rattle.std.specs.List.{list_any}
use Rattle.std.proofs.lemmas.Result.{on_ok_weaker, IfErr-weaker}
use Rattle.bh_base.specs.Connections.{state}
use Rattle.sqlite_typed.proofs.TestLemmas.{bytes_eq_refl}
use Rattle.bh_tables.specs.Typed.{Tables, TallyRow, TenantRow, tally, tallied, totals_of, tables_in}
use Rattle.bh_tables.specs.Shown.{is_tenant}
use Rattle.bh_tables.specs.Typed.{is_tally}
use Rattle.bh_tables.proofs.OwnedLemmas.{tenant_untallied}
use Rattle.bh_tables.proofs.TallyLemmas.{totals_tenant_added, tallies_listed}
use Rattle.bh_base.specs.Layer.{standing}
use Rattle.bh_schema.specs.Written.{with_tenant}
use Rattle.bh_schema.proofs.Storing.{within_then}
use Rattle.bh_schema.proofs.VersionSteps.{live_shown, sound_at, then_entered, ended_so}
use Rattle.bh_schema.proofs.rows.tenants.insert_tenant.Goals as goal

last_any : {X : Type 0} (p : X → Bool) (xs : List X) (x : X) → p x ≡ true → list_any p (xs ++ x ∷ []) ≡ true
last_any p [] x is = ap (λ b. b || false) is
last_any p (y ∷ xs) x is = ap (λ b. p y || b) (last_any p xs x is) ∙ always (p y)
  where
    always : (b : Bool) → (b || true) ≡ true
    always true = refl
    always false = refl

pub returns-clause-holds : goal.returns-clause-holds
returns-clause-holds g c = on_ok_weaker c.insert_tally.result (λ rewrites clean.
    let name = c.args.name.now in
    let a = state g.S.Store g.P.Shelf c.args.connection.now in
    let b = state g.S.Store g.P.Shelf c.insert_tenant_row.new.connection in
    let e = state g.S.Store g.P.Shelf c.insert_tally.new.connection in
    let t = tables_in (standing a).now in
    let row : TenantRow = record { tenant = name; quota = c.args.quota; next_version = 1; next_upload = 1; next_entry = 1 } in
    let one = c.in_ok-insert_tenant_row.ensures in
    let two = c.insert_tally.ensures.writes in
    let middle = two.within.follows.clean clean in
    ended_so a e (tallied (λ ts. ts ++ tally name 0 0 0 ∷ [])) (with_tenant name c.args.quota) (λ so. one.writes.within.follows.clean (two.within.follows.clean so))
    (then_entered a b e (λ s. s) (tallied (λ ts. ts ++ tally name 0 0 0 ∷ [])) (with_tenant name c.args.quota) (λ t. t) two.within.follows.clean one.enters rewrites)
    (λ was. let inside = c.requires.inside was in
    sym (totals_tenant_added t row ∙ ap (λ (x : TallyRow). tallied (λ l. l ++ x ∷ []) (totals_of t)) (tenant_untallied (totals_of t) (standing a).now (sound_at a (live_shown g.S.Store g.P.Shelf c.args.connection.now c.schema-schema.ensures.live) was inside) inside.host row (one.free middle).free))) clean) c.insert_tally.ensures.rewrites

pub returns-clause-writes : goal.returns-clause-writes
returns-clause-writes g c =
    let a = state g.S.Store g.P.Shelf c.args.connection.now in
    let b = state g.S.Store g.P.Shelf c.insert_tenant_row.new.connection in
    let e = state g.S.Store g.P.Shelf c.insert_tally.new.connection in
    let one = c.in_ok-insert_tenant_row.ensures.writes in
    let two = c.insert_tally.ensures.writes in
    record {
      within = within_then a b e one.opens one.within two.within;
      opens = on_ok_weaker c.insert_tally.result (λ stays intact up. stays intact (one.opens (two.within.follows.intact intact) up)) two.opens;
      inside = on_ok_weaker c.insert_tally.result (λ holds clean. (holds clean).within) (returns-clause-holds g c);
    }

pub returns-clause-trouble : goal.returns-clause-trouble
returns-clause-trouble g c = IfErr-weaker c.insert_tally.result _ _ (λ e told intact unlimited is.
    let name = c.args.name.now in
    let t = tables_in (standing (state g.S.Store g.P.Shelf c.args.connection.now)).now in
    let one = c.in_ok-insert_tenant_row.ensures in
    told intact (one.writes.within.follows.limit ∙ unlimited) (λ middle.
    let entered = one.enters middle in (
      λ sums by. ap (list_any (is_tally name)) (sym by.host.held.tallied ∙ entered.within.host.held.tallied) ∙ tallies_listed name t.versions t.tenants ∙ is.free,
      ap (λ (x : Tables). list_any (is_tenant name) x.tenants) entered.is ∙ last_any (is_tenant name) t.tenants _ (bytes_eq_refl name),
    ))) c.insert_tally.ensures.trouble
