use Rattle.std.proofs.Common.{◌≡◌, Contains, sym, ap, ◌∙◌, subst}
use Rattle.bh_tables.specs.Shown.{Name}
use Rattle.bh_cache.specs.Names.{name_of}
use Rattle.bh_cache.proofs.Agreeing.{kept_block}
use Rattle.bh_blocks.specs.Named.{named_by}
use Rattle.bh_blocks.specs.Windows.{seen_in}
use Rattle.bh_blocks.proofs.reading.kept_part.Goals as goal

pub returns-clause-bytes : goal.returns-clause-bytes
returns-clause-bytes c blocks agrees =
    let q : Name = named_by c.args.block.now in
    let bytes = c.in-Some-kept.kept.now in
    let named : name_of c.in-Some.name ≡ q = c.in-Some.ensures ∙ ap (λ d. (d, c.args.block.now.ord)) c.deref.ensures.value in
    let there = subst (λ (n : Name). Contains c.args.cache.now.entries (n, bytes)) named c.in-Some-kept.ensures in
    c.in_ok-bytes-in-Some-kept.ensures.same ∙ c.part_of.ensures ∙ ap (seen_in c.args.window) (sym (kept_block c.args.cache.now blocks q bytes agrees there))
