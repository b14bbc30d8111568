use Rattle.std.proofs.Common.{◌≡◌, Bool, true, false, true≢false, not, sym, ap, ◌∙◌, subst, refl}
use Rattle.std.specs.List.{list_any}
use Rattle.bh_base.specs.Connections.{state}
use Rattle.bh_tables.specs.Shown.{Name, block_name, is_use}
use Rattle.bh_tables.specs.Typed.{Tables}
use Rattle.bh_cache.specs.Kept.{Agrees}
use Rattle.bh_cache.proofs.Agreeing.{agrees_left}
use Rattle.bh_schema.specs.Working.{tables_at}
use Rattle.bh_blocks.specs.Named.{stored_name}
use Rattle.bh_blocks.proofs.removal.remove_named.Goals as goal

off : (b : Bool) → not b ≡ true → b ≡ false
off true is = absurd (true≢false (sym is))
off false is = refl

pub returns-clause-kept : goal.returns-clause-kept
returns-clause-kept g c b row clean agrees =
    let q : Name = (c.deref.result.now, c.in_ok-name.name.ord) in
    let named : q ≡ stored_name c.in_ok-name.name = ap (λ d. (d, c.in_ok-name.name.ord)) c.deref.ensures.value in
    subst (λ (t : Tables). Agrees c.forget.new.cache t.blocks) (sym (c.in_ok-remove_block.ensures.removed clean).is)
    (agrees_left c.args.cache.now c.forget.new.cache (tables_at (state g.S.Store g.P.Shelf c.args.connection.now)).blocks q
    (λ e there. let it = c.forget.ensures e there in (it.0, λ same. it.1 (same ∙ named))) agrees)

pub remove_block-requires-clause-unused : goal.remove_block-requires-clause-unused
remove_block-requires-clause-unused g c clean =
    let shown = c.requires.unused clean in
    let b = shown.0 in
    let q : Name = (c.deref.result.now, c.in_ok-name.name.ord) in
    let named : q ≡ block_name b = ap (λ d. (d, c.in_ok-name.name.ord)) c.deref.ensures.value ∙ c.in_ok-name.ensures.read b shown.1.0 in
    ap (λ n. list_any (is_use n) (tables_at (state g.S.Store g.P.Shelf c.args.connection.now)).refs) named ∙ off _ shown.1.1
