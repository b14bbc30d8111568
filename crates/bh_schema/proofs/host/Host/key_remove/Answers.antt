use Rattle.std.proofs.Common.{rules, ap, List, ◌≡◌, ◌&&◌, true, Some, is_some, sym, ◌∙◌, refl}
use Rattle.std.specs.FinMap.{get, remove}
use Rattle.std.proofs.lemmas.Result.{IfOk-at_ok}
use Rattle.bh_base.specs.Connections.{state}
use Rattle.sqlite_keyed.specs.Lists.{delete_where}
use Rattle.bh_types.specs.Names.{is_tenant_name, is_key_name}
use Rattle.bh_model.specs.State.{State as Machine}
use Rattle.bh_model.proofs.BoundLemmas.{used_stays_bounded}
use Rattle.bh_model.specs.Operations.{Done, remove_key}
use Rattle.bh_tables.specs.Shown.{is_key}
use Rattle.bh_view.specs.View.{view}
use Rattle.bh_view.specs.Becomes.{Becomes}
use Rattle.bh_tables.specs.Typed.{VersionRow, PartRow, RefRow, BlockRow, Tables, tables_in}
use Rattle.bh_base.specs.Layer.{standing, Holds}
use Rattle.bh_schema.specs.Storage.{seen_in}
use Rattle.bh_schema.proofs.Storing.{under, plain, plain_after, asked_plain, bodied_still, on_ok, both, parts, inside_of, keeps, AreBoth, asked_before, asked_works, asked_inside, asked_same, wrote_within, wrote_opens, wrote_before, wrote_first}
use Rattle.bh_schema.proofs.TenantSteps.{gives_of, bound_of, works_of, holds_after}
use Rattle.bh_schema.proofs.KeySteps.{known_seen, no_tenant, no_key, a_key, removes_key, removes_from_nobody, removes_none, key_goes}
use Rattle.bh_schema.proofs.host.Host.key_remove.Goals as goal

pub find_key-requires : goal.find_key-requires
find_key-requires g c = record { inside = λ clean. inside_of _ (state g.S.Store g.P.Shelf c.args.self.now.connection) (under _ _ (c.requires (parts clean))) }

pub returns-in_err-or_trouble : goal.returns-in_err-or_trouble
returns-in_err-or_trouble g c = record {
  within = keeps g.S.Store g.P.Shelf c.args.self.now _ refl c.find_key.ensures.reads.within;
  opens = search rules;
  working = search rules;
  carries = search rules;
  settings = (refl, c.find_key.ensures.reads.within.follows.limit);
}

pub returns-in-NoTenant : goal.returns-in-NoTenant
returns-in-NoTenant g c =
    let t = c.args.tenant.now in
    let n = c.args.name.now in
    let old = state g.S.Store g.P.Shelf c.args.self.now.connection in
    let new = state g.S.Store g.P.Shelf c.find_key.new.connection in
    let w = c.find_key.ensures.reads.within in
    let same = on_ok _ c.in_ok-or_trouble.ensures.ok c.find_key.ensures.reads.same in
    let words : (is_tenant_name t && is_key_name n) ≡ true = search rules in
    record {
      opens = λ up intact. (on_ok _ c.in_ok-or_trouble.ensures.ok c.find_key.ensures.reads.opens intact).1;
      working = asked_works _ _ old new c.requires w same;
      within = keeps g.S.Store g.P.Shelf c.args.self.now _ refl w;
      settings = (refl, w.follows.limit);
      carries = λ clean.
          let it = no_tenant n _ (sym c.in-NoTenant.is ∙ known_seen _ old t n _ (under _ _ (c.requires (asked_before _ _ old new c.requires w same clean))) (IfOk-at_ok _ c.in_ok-or_trouble.ensures.ok c.find_key.ensures.known (both clean))) in
          (rw (asked_plain _ _ old new c.requires w same clean) (removes_from_nobody t n _ words it), asked_same _ _ old new c.requires w same clean);
    }

pub returns-in-NoKey : goal.returns-in-NoKey
returns-in-NoKey g c =
    let t = c.args.tenant.now in
    let n = c.args.name.now in
    let old = state g.S.Store g.P.Shelf c.args.self.now.connection in
    let new = state g.S.Store g.P.Shelf c.find_key.new.connection in
    let w = c.find_key.ensures.reads.within in
    let same = on_ok _ c.in_ok-or_trouble.ensures.ok c.find_key.ensures.reads.same in
    let words : (is_tenant_name t && is_key_name n) ≡ true = search rules in
    record {
      opens = λ up intact. (on_ok _ c.in_ok-or_trouble.ensures.ok c.find_key.ensures.reads.opens intact).1;
      working = asked_works _ _ old new c.requires w same;
      within = keeps g.S.Store g.P.Shelf c.args.self.now _ refl w;
      settings = (refl, w.follows.limit);
      carries = λ clean.
          let it = no_key n _ (sym c.in-NoKey.is ∙ known_seen _ old t n _ (under _ _ (c.requires (asked_before _ _ old new c.requires w same clean))) (IfOk-at_ok _ c.in_ok-or_trouble.ensures.ok c.find_key.ensures.known (both clean))) in
          (rw (asked_plain _ _ old new c.requires w same clean) (removes_none t n _ words it.0 it.1 it.2), asked_same _ _ old new c.requires w same clean);
    }

pub delete_named-requires : goal.delete_named-requires
delete_named-requires g c =
    record { inside = asked_inside _ _ (state g.S.Store g.P.Shelf c.args.self.now.connection) (state g.S.Store g.P.Shelf c.find_key.new.connection) c.requires c.find_key.ensures.reads.within (on_ok _ c.in_ok-or_trouble.ensures.ok c.find_key.ensures.reads.same) }

pub returns-in_err-or_trouble-2 : goal.returns-in_err-or_trouble-2
returns-in_err-or_trouble-2 g c =
    let old = state g.S.Store g.P.Shelf c.args.self.now.connection in
    let mid = state g.S.Store g.P.Shelf c.find_key.new.connection in
    let new = state g.S.Store g.P.Shelf c.delete_named.new.connection in
    let asked = c.find_key.ensures.reads.within in
    let wrote = c.delete_named.ensures.writes.within in
    record {
      within = keeps g.S.Store g.P.Shelf c.args.self.now _ refl (wrote_within old mid new asked (on_ok _ c.in_ok-or_trouble.ensures.ok c.find_key.ensures.reads.opens) wrote);
      opens = search rules;
      working = search rules;
      carries = search rules;
      settings = (refl, wrote.follows.limit ∙ asked.follows.limit);
    }

pub returns : goal.returns
returns g c =
    let t = c.args.tenant.now in
    let n = c.args.name.now in
    let old = state g.S.Store g.P.Shelf c.args.self.now.connection in
    let mid = state g.S.Store g.P.Shelf c.find_key.new.connection in
    let new = state g.S.Store g.P.Shelf c.delete_named.new.connection in
    let w = c.find_key.ensures.reads.within in
    let words : (is_tenant_name t && is_key_name n) ≡ true = search rules in
    let same = on_ok _ c.in_ok-or_trouble.ensures.ok c.find_key.ensures.reads.same in
    let holds = on_ok _ c.in_ok-or_trouble-2.ensures.ok c.delete_named.ensures.holds in
    let opens = on_ok _ c.in_ok-or_trouble.ensures.ok c.find_key.ensures.reads.opens in
    let before = wrote_before old mid new w opens c.delete_named.ensures.writes.within in
    let was = λ (clean : AreBoth new). c.requires (wrote_first old mid new w opens c.delete_named.ensures.writes.within clean) in
    let works = λ (clean : AreBoth new). under _ _ (was clean) in
    let known : AreBoth new → (s : Machine) × (view (seen_in c.args.self.now.limits old).now t ≡ Some s) × (is_some (get s.keys n) ≡ true) = λ clean.
    a_key n _ (sym c.in-Key.is ∙ known_seen _ old t n _ (works clean) (IfOk-at_ok _ c.in_ok-or_trouble.ensures.ok c.find_key.ensures.known (both (before clean)))) in
    let change : Tables → Tables = λ x. record x { keys = delete_where (is_key t n) x.keys } in
    let held : AreBoth new → Holds (change (tables_in (standing old).now)) (standing new) = λ clean. holds_after old mid new change (same (before clean).0) (holds (both clean)) in
    let becomes : (clean : AreBoth new) → Becomes t (Some (record (known clean).0 { keys = remove (known clean).0.keys n })) (seen_in c.args.self.now.limits old).now (seen_in c.args.self.now.limits new).now = λ clean.
    let it = known clean in
    key_goes _ old new t n it.0 (works clean) it.1 (held clean) in
    let after = λ (clean : AreBoth new). plain_after _ _ (was clean) (seen_in c.args.self.now.limits new) (ap (λ (x : List VersionRow × List PartRow × List RefRow × List BlockRow). x.3) (bodied_still _ old new change (λ x. refl) (works clean) (held clean))) in
    record {
      opens = wrote_opens old mid new w opens c.delete_named.ensures.writes.within (on_ok _ c.in_ok-or_trouble-2.ensures.ok c.delete_named.ensures.writes.opens);
      working = λ clean. rw (after clean) (works_of _ t _ old new change (λ x. refl) (works clean) (held clean) (becomes clean)
          (bound_of _ t (remove_key t n) Done _ old (used_stays_bounded.remove_key_bounded t n) (removes_key t n _ words (known clean).0 (known clean).1 (known clean).2) (works clean)));
      within = keeps g.S.Store g.P.Shelf c.args.self.now _ refl
          (wrote_within old mid new w (on_ok _ c.in_ok-or_trouble.ensures.ok c.find_key.ensures.reads.opens) c.delete_named.ensures.writes.within);
      settings = (refl, c.delete_named.ensures.writes.within.follows.limit ∙ w.follows.limit);
      carries = λ clean. let it = known clean in rw (plain _ _ (was clean), after clean) (gives_of t (remove_key t n) Done _ (seen_in c.args.self.now.limits old).now (seen_in c.args.self.now.limits new).now (removes_key t n _ words it.0 it.1 it.2) (becomes clean)
          (bodied_still _ old new change (λ x. refl) (works clean) (held clean)));
    }
