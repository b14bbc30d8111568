use Rattle.std.proofs.Common.{◌≡◌, inl, inr, ap, ◌∙◌}
use Rattle.bh_cache.specs.Names.{name_of}
use Rattle.bh_blocks.specs.Named.{named_by}
use Rattle.bh_blocks.proofs.reading.keep_bytes.Goals as goal

pub returns-in-Some : goal.returns-in-Some
returns-in-Some c e there =
    let named : name_of c.in-Some.name ≡ named_by c.args.block.now = c.in-Some.ensures ∙ ap (λ d. (d, c.args.block.now.ord)) c.deref.ensures.value in
    elim (c.keep.ensures.entries e there) [
      | inl was ↦ inl was
      | inr put ↦ inr (put ∙ ap (λ n. (n, c.args.bytes.now)) named)
    ]
