use Rattle.std.proofs.Common.{◌≡◌, sym, ap, ◌∙◌}
use Rattle.bh_cache.specs.Names.{name_of}
use Rattle.bh_blocks.specs.Named.{stored_name}
use Rattle.bh_blocks.proofs.removal.forget.Goals as goal

pub returns-in-Some : goal.returns-in-Some
returns-in-Some c e there =
    let named : name_of c.in-Some.name ≡ stored_name c.args.name.now = c.in-Some.ensures ∙ ap (λ d. (d, c.args.name.now.ord)) c.deref.ensures.value in
    let it = c.forget.ensures.entries e there in
    (it.0, λ same. it.1 (same ∙ sym named))
