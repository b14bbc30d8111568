use Rattle.std.proofs.Common.{◌≡◌, inl, inr, [], ◌∷◌, map, filter, sym, ap, ◌∙◌, subst}
use Rattle.std.proofs.lemmas.Result.{IfOk-weaker}
use Rattle.std.specs.Option.{option_map_or}
use Rattle.bh_base.specs.Connections.{state}
use Rattle.bh_tables.specs.Bodies.{first}
use Rattle.bh_tables.specs.Typed.{BlockRow, tables_in}
use Rattle.bh_tables.specs.Shown.{Name, is_block}
use Rattle.bh_cache.specs.Kept.{Agrees}
use Rattle.bh_cache.proofs.Agreeing.{agrees_more, agrees_fewer}
use Rattle.bh_base.specs.Layer.{Standing}
use Rattle.bh_base.proofs.Placed.{only_one}
use Rattle.bh_schema.specs.Working.{tables_at}
use Rattle.bh_blocks.specs.Named.{named_by}
use Rattle.bh_blocks.specs.Windows.{seen_in}
use Rattle.bh_blocks.proofs.Cached.{on_any}
use Rattle.bh_blocks.proofs.reading.read_part.Goals as goal

pub returns-clause-agrees : goal.returns-clause-agrees
returns-clause-agrees g c = on_any c.cut_to.result _ (λ clean.
    let old = tables_at (state g.S.Store g.P.Shelf c.args.connection.now) in
    let read = c.in_ok-whole.ensures in
    let whole = c.in_ok-whole.whole.items in
    let q : Name = named_by c.args.block.now in
    let one = only_one (λ (b : BlockRow). b.bytes) (filter (is_block q) old.blocks) whole
    (subst (λ d. map (λ (b : BlockRow). b.bytes) (filter (is_block (d, c.args.block.now.ord)) old.blocks) ≡ whole ∷ []) c.deref.ensures.value (read.bytes clean)) in
    subst (λ (x : Standing). Agrees c.keep_bytes.new.cache (tables_in x.now).blocks) (sym (read.reads.same clean.intact))
    (agrees_more c.kept_part.new.cache c.keep_bytes.new.cache old.blocks q whole
    (λ e has. elim (c.keep_bytes.ensures e has) [ inl was ↦ inl was | inr is ↦ inr (is ∙ ap (λ b. (q, b)) c.deref-2.ensures.value) ])
    (one.0, ap first one.1, one.2) (agrees_fewer c.args.cache.now c.kept_part.new.cache old.blocks c.in_ok-bytes.ensures.entries (c.requires.agrees (read.reads.within.follows.clean clean)))))

pub returns-clause-bytes : goal.returns-clause-bytes
returns-clause-bytes g c = IfOk-weaker c.cut_to.result _ _ (λ bytes same clean.
    let old = tables_at (state g.S.Store g.P.Shelf c.args.connection.now) in
    let whole = c.in_ok-whole.whole.items in
    let q : Name = named_by c.args.block.now in
    let one = only_one (λ (b : BlockRow). b.bytes) (filter (is_block q) old.blocks) whole
    (subst (λ d. map (λ (b : BlockRow). b.bytes) (filter (is_block (d, c.args.block.now.ord)) old.blocks) ≡ whole ∷ []) c.deref.ensures.value (c.in_ok-whole.ensures.bytes clean)) in
    same ∙ ap (seen_in c.args.window) (sym (ap (λ o. option_map_or (λ (b : BlockRow). b.bytes) o []) (ap first one.1) ∙ one.2))) c.cut_to.ensures.bytes

pub returns-in-Some-clause-agrees : goal.returns-in-Some-clause-agrees
returns-in-Some-clause-agrees g c clean =
    agrees_fewer c.args.cache.now c.kept_part.new.cache (tables_at (state g.S.Store g.P.Shelf c.args.connection.now)).blocks c.in_ok-bytes.ensures.entries (c.requires.agrees clean)
