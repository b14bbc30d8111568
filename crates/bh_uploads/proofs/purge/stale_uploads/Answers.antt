use Rattle.std.proofs.Common.{◌≡◌, ◌==◌, arith, ℕ, zero, suc, Bool, false, true≢false, not, length, map, flat_map, refl, sym, ap, ◌∙◌, subst}
use Rattle.bh_base.specs.Connections.{state}
use Rattle.bh_tables.specs.Typed.{Tables}
use Rattle.bh_base.specs.Layer.{IsInside}
use Rattle.bh_schema.specs.Rows.{rule_in, listed_rules}
use Rattle.bh_schema.specs.Views.{rule_seen}
use Rattle.bh_schema.specs.Working.{tables_at}
use Rattle.bh_schema.proofs.Storing.{on_ok}
use Rattle.std.proofs.lemmas.Grind.{common_steps}
use Rattle.std.proofs.lemmas.List.{nil_from_length, length-map}
use Rattle.std.proofs.lemmas.Result.{IfOk-at_ok}
use Rattle.bh_objects.proofs.Working.{same_tables}
use Rattle.bh_uploads.specs.Purging.{stale_by}
use Rattle.bh_uploads.proofs.Taking.{flat_named}
use Rattle.bh_uploads.proofs.purge.stale_uploads.Goals as goal

pub stale_of_rules-requires : goal.stale_of_rules-requires
stale_of_rules-requires g c = record {
  inside = λ clean. subst IsInside (sym (on_ok _ c.in_ok-rules.ensures.ok c.list_of.ensures.reads.same clean.intact)) (c.requires.inside (c.list_of.ensures.reads.within.follows.clean clean));
}

pub returns-clause-numbers : goal.returns-clause-numbers
returns-clause-numbers g c clean =
    let old = state g.S.Store g.P.Shelf c.args.connection.now in
    let mid = state g.S.Store g.P.Shelf c.list_of.new.connection in
    let t = c.args.tenant.now in
    let clean_mid = c.in_ok-numbers.ensures.reads.within.follows.clean clean in
    let same = same_tables old mid (on_ok _ c.in_ok-rules.ensures.ok c.list_of.ensures.reads.same clean_mid.intact) in
    (rw c.deref.ensures.value at (c.in_ok-numbers.ensures.numbers clean))
    ∙ sym (flat_named (stale_by t c.args.at (tables_at mid).uploads) rule_seen c.in_ok-rules.rules.items)
    ∙ ap (λ (x : Tables). flat_map (stale_by t c.args.at x.uploads) (map rule_seen c.in_ok-rules.rules.items)) same
    ∙ ap (flat_map (stale_by t c.args.at (tables_at old).uploads)) ((rw c.as_str.ensures.value at (IfOk-at_ok _ c.in_ok-rules.ensures.ok c.list_of.ensures.listed clean_mid)) (listed_rules t (tables_at old)) refl)

none_left : (empty : Bool) (n m : ℕ) → empty ≡ (n == 0) → n ≡ m → not empty ≡ false → m ≡ 0
none_left empty zero m is long none = sym long
none_left empty (suc n) m is long none = absurd (true≢false (sym (ap not (is ∙ never n)) ∙ none))
  where
    never : (n : ℕ) → (suc n == 0) ≡ false
    never n = grind (arith, common_steps)

pub returns-clause-ruled : goal.returns-clause-ruled
returns-clause-ruled g c clean is =
    let rows = listed_rules c.args.tenant.now (tables_at (state g.S.Store g.P.Shelf c.args.connection.now)) in
    let rules = c.in_ok-rules.rules in
    let clean_mid = c.in_ok-numbers.ensures.reads.within.follows.clean clean in
    let seen = (rw c.as_str.ensures.value at (IfOk-at_ok _ c.in_ok-rules.ensures.ok c.list_of.ensures.listed clean_mid)) rows refl in
    let long : rules.len ≡ length rules.items = omega (arith, rules.ok.0) in
    let none = none_left c.is_empty-ruled.result rules.len (length rules.items) c.is_empty-ruled.ensures long is in
    nil_from_length rows (sym (length-map rows rule_in) ∙ ap length (sym seen) ∙ length-map rules.items rule_seen ∙ none)
