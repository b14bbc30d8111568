use Rattle.std.proofs.Common.{◌++◌, take, length, refl, ap, ◌∙◌}
use Rattle.bh_blocks.proofs.Grouping.{front_of}
use Rattle.bh_blocks.proofs.groups.with_idle.Goals as goal

pub returns-clause-front : goal.returns-clause-front
returns-clause-front c =
    let bytes = c.args.bytes.now in
    ap (take (length bytes)) c.in_ok-resize.ensures.items
    ∙ front_of (length bytes) c.args.total _ _ bytes refl c.requires.long (c.in_ok-extend_from_slice.ensures.items ∙ ap (λ l. l ++ bytes) c.in_ok-room.ensures.items)
