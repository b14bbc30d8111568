use Rattle.std.proofs.Common.{rules, ◌≡◌, true, false, Some, None, option_map, bytes_eq, ap, ◌∙◌, refl}
use Rattle.std.specs.String.{string_bytes}
use Rattle.std.proofs.lemmas.Result.{IfOk-at_ok}
use Rattle.bh_base.specs.Connections.{state}
use Rattle.bh_model.specs.Credentials.{secret_of}
use Rattle.bh_view.specs.View.{view}
use Rattle.bh_schema.specs.Storage.{seen_in}
use Rattle.bh_schema.proofs.Storing.{under, asked_plain, on_ok, both, parts, inside_of, keeps, AreBoth, asked_before, asked_works, asked_same}
use Rattle.bh_schema.proofs.CredentialSteps.{secret_seen, unknown_key, right_secret, wrong_secret}
use Rattle.bh_schema.proofs.host.Host.authenticate.Goals as goal

pub find_secret-requires : goal.find_secret-requires
find_secret-requires g c = record { inside = λ clean. inside_of _ (state g.S.Store g.P.Shelf c.args.self.now.connection) (under _ _ (c.requires (parts clean))) }

pub returns-in_err-found-clause-within : goal.returns-in_err-found-clause-within
returns-in_err-found-clause-within g c = keeps g.S.Store g.P.Shelf c.args.self.now _ refl c.find_secret.ensures.reads.within

pub returns-in_default-found : goal.returns-in_default-found
returns-in_default-found g c =
    let old = state g.S.Store g.P.Shelf c.args.self.now.connection in
    let new = state g.S.Store g.P.Shelf c.find_secret.new.connection in
    let l = c.args.self.now.limits in
    let w = c.find_secret.ensures.reads.within in
    let same = on_ok _ c.in_ok-found.ensures.ok c.find_secret.ensures.reads.same in
    let named : c.args.key.now.name ≡ Some c.in-Some.name = search rules in
    let seen : AreBoth new → secret_of c.in-Some.name (view (seen_in l old).now c.args.key.now.tenant) ≡ option_map string_bytes c.in_ok-found.found = λ clean.
    rw (c.as_str.ensures.value, c.as_str-2.ensures.value) at (secret_seen _ old c.as_str.result.now c.as_str-2.result.now (option_map string_bytes c.in_ok-found.found) (under _ _ (c.requires (asked_before _ _ old new c.requires w same clean))) (IfOk-at_ok _ c.in_ok-found.ensures.ok c.find_secret.ensures.found (both clean))) in
    let none : c.in_ok-found.found ≡ None = search rules in
    record {
      within = keeps g.S.Store g.P.Shelf c.args.self.now _ refl w;
      opens = λ up intact. (on_ok _ c.in_ok-found.ensures.ok c.find_secret.ensures.reads.opens intact).1;
      working = asked_works _ _ old new c.requires w same;
      settings = (refl, w.follows.limit);
      decides = λ clean. (rw (asked_plain _ _ old new c.requires w same clean) (unknown_key c.args.key.now c.args.secret.now c.in-Some.name _ named (seen clean ∙ ap (option_map string_bytes) none)), asked_same _ _ old new c.requires w same clean);
    }

pub returns-then-eq : goal.returns-then-eq
returns-then-eq g c =
    let old = state g.S.Store g.P.Shelf c.args.self.now.connection in
    let new = state g.S.Store g.P.Shelf c.find_secret.new.connection in
    let l = c.args.self.now.limits in
    let w = c.find_secret.ensures.reads.within in
    let same = on_ok _ c.in_ok-found.ensures.ok c.find_secret.ensures.reads.same in
    let named : c.args.key.now.name ≡ Some c.in-Some.name = search rules in
    let seen : AreBoth new → secret_of c.in-Some.name (view (seen_in l old).now c.args.key.now.tenant) ≡ option_map string_bytes c.in_ok-found.found = λ clean.
    rw (c.as_str.ensures.value, c.as_str-2.ensures.value) at (secret_seen _ old c.as_str.result.now c.as_str-2.result.now (option_map string_bytes c.in_ok-found.found) (under _ _ (c.requires (asked_before _ _ old new c.requires w same clean))) (IfOk-at_ok _ c.in_ok-found.ensures.ok c.find_secret.ensures.found (both clean))) in
    let found : c.in_ok-found.found ≡ Some c.in-Some-found.known = search rules in
    let equal : bytes_eq c.args.secret.now (string_bytes c.in-Some-found.known) ≡ true = search rules in
    record {
      within = keeps g.S.Store g.P.Shelf c.args.self.now _ refl w;
      opens = λ up intact. (on_ok _ c.in_ok-found.ensures.ok c.find_secret.ensures.reads.opens intact).1;
      working = asked_works _ _ old new c.requires w same;
      settings = (refl, w.follows.limit);
      decides = λ clean. (rw (asked_plain _ _ old new c.requires w same clean) (right_secret c.args.key.now c.args.secret.now c.in-Some.name _ named (string_bytes c.in-Some-found.known) (seen clean ∙ ap (option_map string_bytes) found) equal), asked_same _ _ old new c.requires w same clean);
    }

pub returns : goal.returns
returns g c =
    let old = state g.S.Store g.P.Shelf c.args.self.now.connection in
    let new = state g.S.Store g.P.Shelf c.find_secret.new.connection in
    let l = c.args.self.now.limits in
    let w = c.find_secret.ensures.reads.within in
    let same = on_ok _ c.in_ok-found.ensures.ok c.find_secret.ensures.reads.same in
    let named : c.args.key.now.name ≡ Some c.in-Some.name = search rules in
    let seen : AreBoth new → secret_of c.in-Some.name (view (seen_in l old).now c.args.key.now.tenant) ≡ option_map string_bytes c.in_ok-found.found = λ clean.
    rw (c.as_str.ensures.value, c.as_str-2.ensures.value) at (secret_seen _ old c.as_str.result.now c.as_str-2.result.now (option_map string_bytes c.in_ok-found.found) (under _ _ (c.requires (asked_before _ _ old new c.requires w same clean))) (IfOk-at_ok _ c.in_ok-found.ensures.ok c.find_secret.ensures.found (both clean))) in
    let found : c.in_ok-found.found ≡ Some c.in-Some-found.known = search rules in
    let other : bytes_eq c.args.secret.now (string_bytes c.in-Some-found.known) ≡ false = search rules in
    record {
      within = keeps g.S.Store g.P.Shelf c.args.self.now _ refl w;
      opens = λ up intact. (on_ok _ c.in_ok-found.ensures.ok c.find_secret.ensures.reads.opens intact).1;
      working = asked_works _ _ old new c.requires w same;
      settings = (refl, w.follows.limit);
      decides = λ clean. (rw (asked_plain _ _ old new c.requires w same clean) (wrong_secret c.args.key.now c.args.secret.now c.in-Some.name _ named (string_bytes c.in-Some-found.known) (seen clean ∙ ap (option_map string_bytes) found) other), asked_same _ _ old new c.requires w same clean);
    }
