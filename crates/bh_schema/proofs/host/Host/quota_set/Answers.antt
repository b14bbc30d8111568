use Rattle.std.proofs.Common.{rules, ap, List, ◌≡◌, ◌^◌, nat_le, true, false, Some, is_some, IsTrue, ◌∙◌, refl}
use Rattle.std.proofs.lemmas.Result.{IfOk-at_ok}
use Rattle.bh_base.specs.Connections.{state}
use Rattle.bh_types.specs.Names.{is_tenant_name}
use Rattle.bh_model.proofs.BoundLemmas.{used_stays_bounded}
use Rattle.bh_model.specs.Operations.{Done, set_quota}
use Rattle.std.proofs.lemmas.Bool.{leb-true}
use Rattle.bh_model.specs.State.{State as Machine}
use Rattle.bh_view.specs.Becomes.{Becomes}
use Rattle.bh_view.specs.View.{view}
use Rattle.sqlite_keyed.specs.Lists.{update_where}
use Rattle.bh_tables.specs.Typed.{VersionRow, PartRow, RefRow, BlockRow, Tables, tables_in}
use Rattle.bh_tables.specs.Shown.{is_tenant}
use Rattle.bh_base.specs.Layer.{standing, Holds}
use Rattle.bh_schema.specs.Storage.{seen_in}
use Rattle.bh_schema.specs.Rows.{tenant_numbers}
use Rattle.bh_schema.proofs.Storing.{under, plain, plain_after, asked_plain, bodied_still, on_ok, both, parts, inside_of, keeps, AreBoth, asked_before, asked_works, asked_inside, asked_same, wrote_within, wrote_opens, wrote_before, wrote_first}
use Rattle.bh_schema.proofs.TenantSteps.{none_of, some_of, tenant_seen, sets_quota, quota_of_nobody, gives_of, bound_of, works_of, quota_becomes, holds_after}
use Rattle.bh_schema.proofs.host.Host.quota_set.Goals as goal

pub find_tenant-requires : goal.find_tenant-requires
find_tenant-requires g c = record { inside = λ clean. inside_of _ (state g.S.Store g.P.Shelf c.args.self.now.connection) (under _ _ (c.requires (parts clean))) }

pub returns-in_err-found : goal.returns-in_err-found
returns-in_err-found g c = record {
  within = keeps g.S.Store g.P.Shelf c.args.self.now _ refl c.find_tenant.ensures.reads.within;
  opens = search rules;
  working = search rules;
  carries = search rules;
  settings = (refl, c.find_tenant.ensures.reads.within.follows.limit);
}

pub returns-then-is_none : goal.returns-then-is_none
returns-then-is_none g c =
    let t = c.args.tenant.now in
    let old = state g.S.Store g.P.Shelf c.args.self.now.connection in
    let new = state g.S.Store g.P.Shelf c.find_tenant.new.connection in
    let w = c.find_tenant.ensures.reads.within in
    let same = on_ok _ c.in_ok-found.ensures.ok c.find_tenant.ensures.reads.same in
    let name : IsTrue (is_tenant_name t) = search rules in
    let few : nat_le c.args.quota (2 ^ 60) ≡ true = search rules in
    let away : is_some c.in_ok-found.found ≡ false = search rules in
    record {
      within = keeps g.S.Store g.P.Shelf c.args.self.now _ refl w;
      opens = λ up intact. (on_ok _ c.in_ok-found.ensures.ok c.find_tenant.ensures.reads.opens intact).1;
      working = asked_works _ _ old new c.requires w same;
      settings = (refl, w.follows.limit);
      carries = λ clean.
          let read = IfOk-at_ok _ c.in_ok-found.ensures.ok c.find_tenant.ensures.found (both clean) in
          let working = under _ _ (c.requires (asked_before _ _ old new c.requires w same clean)) in
          (rw (asked_plain _ _ old new c.requires w same clean) (quota_of_nobody t c.args.quota _ name few (none_of _ (tenant_seen _ old t tenant_numbers c.in_ok-found.found working read ∙ away))), asked_same _ _ old new c.requires w same clean);
    }

pub set_number-requires-clause-inside : goal.set_number-requires-clause-inside
set_number-requires-clause-inside g c =
    asked_inside _ _ (state g.S.Store g.P.Shelf c.args.self.now.connection) (state g.S.Store g.P.Shelf c.find_tenant.new.connection) c.requires c.find_tenant.ensures.reads.within (on_ok _ c.in_ok-found.ensures.ok c.find_tenant.ensures.reads.same)

pub returns-in_err-or_trouble : goal.returns-in_err-or_trouble
returns-in_err-or_trouble g c =
    let old = state g.S.Store g.P.Shelf c.args.self.now.connection in
    let mid = state g.S.Store g.P.Shelf c.find_tenant.new.connection in
    let new = state g.S.Store g.P.Shelf c.set_number.new.connection in
    let asked = c.find_tenant.ensures.reads.within in
    let wrote = c.set_number.ensures.writes.within in
    record {
      within = keeps g.S.Store g.P.Shelf c.args.self.now _ refl (wrote_within old mid new asked (on_ok _ c.in_ok-found.ensures.ok c.find_tenant.ensures.reads.opens) wrote);
      opens = search rules;
      working = search rules;
      carries = search rules;
      settings = (refl, wrote.follows.limit ∙ asked.follows.limit);
    }

pub returns : goal.returns
returns g c =
    let t = c.args.tenant.now in
    let n = c.args.quota in
    let old = state g.S.Store g.P.Shelf c.args.self.now.connection in
    let mid = state g.S.Store g.P.Shelf c.find_tenant.new.connection in
    let new = state g.S.Store g.P.Shelf c.set_number.new.connection in
    let l = c.args.self.now.limits in
    let asked = c.find_tenant.ensures.reads.within in
    let opens = on_ok _ c.in_ok-found.ensures.ok c.find_tenant.ensures.reads.opens in
    let wrote = c.set_number.ensures.writes.within in
    let name : IsTrue (is_tenant_name t) = search rules in
    let few : nat_le n (2 ^ 60) ≡ true = search rules in
    let there : is_some c.in_ok-found.found ≡ true = search rules in
    let before = wrote_before old mid new asked opens wrote in
    let was = λ (clean : AreBoth new). c.requires (wrote_first old mid new asked opens wrote clean) in
    let works = λ (clean : AreBoth new). under _ _ (was clean) in
    let holds = λ (clean : AreBoth new). on_ok _ c.in_ok-or_trouble.ensures.ok c.set_number.ensures.holds (both clean) in
    let known : AreBoth new → (s : Machine) × (view (seen_in l old).now t ≡ Some s) = λ clean.
    some_of _ (tenant_seen _ old t tenant_numbers c.in_ok-found.found (works clean) (IfOk-at_ok _ c.in_ok-found.ensures.ok c.find_tenant.ensures.found (both (before clean))) ∙ there) in
    let change : Tables → Tables = λ x. record x { tenants = update_where (is_tenant t) (λ r. record r { quota = n }) x.tenants } in
    let held : AreBoth new → Holds (change (tables_in (standing old).now)) (standing new) = λ clean. holds_after old mid new change (on_ok _ c.in_ok-found.ensures.ok c.find_tenant.ensures.reads.same (before clean).0) (holds clean) in
    let becomes : (clean : AreBoth new) → Becomes t (Some (record (known clean).0 { quota = n })) (seen_in l old).now (seen_in l new).now = λ clean.
    quota_becomes _ old new t n (known clean).0 (works clean) (known clean).1 (leb-true _ _ few) (held clean) in
    let after = λ (clean : AreBoth new). plain_after _ _ (was clean) (seen_in c.args.self.now.limits new) (ap (λ (x : List VersionRow × List PartRow × List RefRow × List BlockRow). x.3) (bodied_still _ old new change (λ x. refl) (works clean) (held clean))) in
    record {
      within = keeps g.S.Store g.P.Shelf c.args.self.now _ refl (wrote_within old mid new asked opens wrote);
      opens = wrote_opens old mid new asked opens wrote (on_ok _ c.in_ok-or_trouble.ensures.ok c.set_number.ensures.writes.opens);
      working = λ clean. rw (after clean) (works_of _ t _ old new change (λ x. refl) (works clean) (held clean) (becomes clean)
          (bound_of _ t (set_quota t n) Done _ old (used_stays_bounded.set_quota_bounded t n) (sets_quota t n _ (known clean).0 name few (known clean).1) (works clean)));
      settings = (refl, wrote.follows.limit ∙ asked.follows.limit);
      carries = λ clean. rw (plain _ _ (was clean), after clean) (gives_of t (set_quota t n) Done _ (seen_in l old).now (seen_in l new).now (sets_quota t n _ (known clean).0 name few (known clean).1) (becomes clean)
          (bodied_still _ old new change (λ x. refl) (works clean) (held clean)));
    }
