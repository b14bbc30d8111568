use Rattle.std.proofs.Common.{rules, ap, List, ◌≡◌, ◌^◌, nat_le, true, false, None, Some, [], ◌∷◌, ◌++◌, is_some, IsTrue, ◌∙◌, refl}
use Rattle.std.proofs.lemmas.Result.{IfOk-at_ok}
use Rattle.bh_base.specs.Connections.{state}
use Rattle.bh_types.specs.Names.{is_tenant_name}
use Rattle.bh_model.proofs.BoundLemmas.{used_stays_bounded}
use Rattle.bh_model.specs.Operations.{Done, add_tenant}
use Rattle.std.proofs.lemmas.Bool.{leb-true}
use Rattle.bh_model.specs.State.{new_tenant}
use Rattle.bh_view.specs.Becomes.{Becomes}
use Rattle.bh_view.specs.View.{view}
use Rattle.bh_tables.specs.Typed.{VersionRow, PartRow, RefRow, BlockRow, Tables, tables_in}
use Rattle.bh_base.specs.Layer.{standing, Holds}
use Rattle.bh_schema.specs.Storage.{seen_in}
use Rattle.bh_schema.specs.Rows.{tenant_numbers}
use Rattle.bh_schema.proofs.Storing.{under, plain, plain_after, asked_plain, bodied_still, on_ok, both, parts, inside_of, keeps, AreBoth, asked_before, asked_works, asked_inside, asked_same, wrote_within, wrote_opens, wrote_before, wrote_first}
use Rattle.bh_schema.proofs.TenantSteps.{none_of, tenant_seen, adds_tenant, tenant_exists, gives_of, bound_of, works_of, tenant_becomes, holds_after}
use Rattle.bh_schema.proofs.host.Host.tenant_add.Goals as goal

pub find_tenant-requires : goal.find_tenant-requires
find_tenant-requires g c = record { inside = λ clean. inside_of _ (state g.S.Store g.P.Shelf c.args.self.now.connection) (under _ _ (c.requires (parts clean))) }

pub returns-in_err-or_trouble : goal.returns-in_err-or_trouble
returns-in_err-or_trouble g c = record {
  within = keeps g.S.Store g.P.Shelf c.args.self.now _ refl c.find_tenant.ensures.reads.within;
  opens = search rules;
  working = search rules;
  carries = search rules;
  settings = (refl, c.find_tenant.ensures.reads.within.follows.limit);
}

pub returns-then-is_some : goal.returns-then-is_some
returns-then-is_some g c =
    let t = c.args.tenant.now in
    let old = state g.S.Store g.P.Shelf c.args.self.now.connection in
    let new = state g.S.Store g.P.Shelf c.find_tenant.new.connection in
    let w = c.find_tenant.ensures.reads.within in
    let same = on_ok _ c.in_ok-or_trouble.ensures.ok c.find_tenant.ensures.reads.same in
    let name : IsTrue (is_tenant_name t) = search rules in
    let few : nat_le c.args.quota (2 ^ 60) ≡ true = search rules in
    let there : is_some c.in_ok-or_trouble.field-0 ≡ true = search rules in
    record {
      within = keeps g.S.Store g.P.Shelf c.args.self.now _ refl w;
      opens = λ up intact. (on_ok _ c.in_ok-or_trouble.ensures.ok c.find_tenant.ensures.reads.opens intact).1;
      working = asked_works _ _ old new c.requires w same;
      settings = (refl, w.follows.limit);
      carries = λ clean.
          let read = IfOk-at_ok _ c.in_ok-or_trouble.ensures.ok c.find_tenant.ensures.found (both clean) in
          let working = under _ _ (c.requires (asked_before _ _ old new c.requires w same clean)) in
          (rw (asked_plain _ _ old new c.requires w same clean) (tenant_exists t c.args.quota _ name few (tenant_seen _ old t tenant_numbers c.in_ok-or_trouble.field-0 working read ∙ there)), asked_same _ _ old new c.requires w same clean);
    }

pub insert_tenant-requires-clause-inside : goal.insert_tenant-requires-clause-inside
insert_tenant-requires-clause-inside g c =
    asked_inside _ _ (state g.S.Store g.P.Shelf c.args.self.now.connection) (state g.S.Store g.P.Shelf c.find_tenant.new.connection) c.requires c.find_tenant.ensures.reads.within (on_ok _ c.in_ok-or_trouble.ensures.ok c.find_tenant.ensures.reads.same)

pub returns-in_err-or_trouble-2 : goal.returns-in_err-or_trouble-2
returns-in_err-or_trouble-2 g c =
    let old = state g.S.Store g.P.Shelf c.args.self.now.connection in
    let mid = state g.S.Store g.P.Shelf c.find_tenant.new.connection in
    let new = state g.S.Store g.P.Shelf c.insert_tenant.new.connection in
    let asked = c.find_tenant.ensures.reads.within in
    let wrote = c.insert_tenant.ensures.writes.within in
    record {
      within = keeps g.S.Store g.P.Shelf c.args.self.now _ refl (wrote_within old mid new asked (on_ok _ c.in_ok-or_trouble.ensures.ok c.find_tenant.ensures.reads.opens) wrote);
      opens = search rules;
      working = search rules;
      carries = search rules;
      settings = (refl, wrote.follows.limit ∙ asked.follows.limit);
    }

pub returns : goal.returns
returns g c =
    let t = c.args.tenant.now in
    let old = state g.S.Store g.P.Shelf c.args.self.now.connection in
    let mid = state g.S.Store g.P.Shelf c.find_tenant.new.connection in
    let new = state g.S.Store g.P.Shelf c.insert_tenant.new.connection in
    let l = c.args.self.now.limits in
    let asked = c.find_tenant.ensures.reads.within in
    let opens = on_ok _ c.in_ok-or_trouble.ensures.ok c.find_tenant.ensures.reads.opens in
    let wrote = c.insert_tenant.ensures.writes.within in
    let name : IsTrue (is_tenant_name t) = search rules in
    let few : nat_le c.args.quota (2 ^ 60) ≡ true = search rules in
    let away : is_some c.in_ok-or_trouble.field-0 ≡ false = search rules in
    let before = wrote_before old mid new asked opens wrote in
    let was = λ (clean : AreBoth new). c.requires (wrote_first old mid new asked opens wrote clean) in
    let works = λ (clean : AreBoth new). under _ _ (was clean) in
    let holds = λ (clean : AreBoth new). on_ok _ c.in_ok-or_trouble-2.ensures.ok c.insert_tenant.ensures.holds (both clean) in
    let none : AreBoth new → view (seen_in l old).now t ≡ None = λ clean.
    none_of _ (tenant_seen _ old t tenant_numbers c.in_ok-or_trouble.field-0 (works clean) (IfOk-at_ok _ c.in_ok-or_trouble.ensures.ok c.find_tenant.ensures.found (both (before clean))) ∙ away) in
    let change : Tables → Tables = λ x. record x { tenants = x.tenants ++ record { tenant = t; quota = c.args.quota; next_version = 1; next_upload = 1; next_entry = 1 } ∷ [] } in
    let held : AreBoth new → Holds (change (tables_in (standing old).now)) (standing new) = λ clean. holds_after old mid new change (on_ok _ c.in_ok-or_trouble.ensures.ok c.find_tenant.ensures.reads.same (before clean).0) (holds clean) in
    let becomes : AreBoth new → Becomes t (Some (new_tenant c.args.quota)) (seen_in l old).now (seen_in l new).now = λ clean.
    tenant_becomes _ old new t c.args.quota (works clean) (none clean) name (leb-true _ _ few) (held clean) in
    let after = λ (clean : AreBoth new). plain_after _ _ (was clean) (seen_in c.args.self.now.limits new) (ap (λ (x : List VersionRow × List PartRow × List RefRow × List BlockRow). x.3) (bodied_still _ old new change (λ x. refl) (works clean) (held clean))) in
    record {
      within = keeps g.S.Store g.P.Shelf c.args.self.now _ refl (wrote_within old mid new asked opens wrote);
      opens = wrote_opens old mid new asked opens wrote (on_ok _ c.in_ok-or_trouble-2.ensures.ok c.insert_tenant.ensures.writes.opens);
      working = λ clean. rw (after clean) (works_of _ t _ old new change (λ x. refl) (works clean) (held clean) (becomes clean)
          (bound_of _ t (add_tenant t c.args.quota) Done _ old (used_stays_bounded.add_tenant_bounded t c.args.quota) (adds_tenant t c.args.quota _ name few (none clean)) (works clean)));
      settings = (refl, wrote.follows.limit ∙ asked.follows.limit);
      carries = λ clean. rw (plain _ _ (was clean), after clean) (gives_of t (add_tenant t c.args.quota) Done _ (seen_in l old).now (seen_in l new).now (adds_tenant t c.args.quota _ name few (none clean)) (becomes clean)
          (bodied_still _ old new change (λ x. refl) (works clean) (held clean)));
    }
