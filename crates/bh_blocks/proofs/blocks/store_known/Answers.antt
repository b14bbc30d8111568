use Rattle.std.proofs.Common.{refl, sym, subst}
use Rattle.std.proofs.lemmas.Result.{on_ok_weaker}
use Rattle.bh_base.specs.Connections.{state}
use Rattle.bh_tables.specs.Typed.{Tables}
use Rattle.bh_cache.specs.Kept.{AreCopies}
use Rattle.bh_schema.specs.Working.{tables_at}
use Rattle.bh_blocks.proofs.Cached.{copies_with}
use Rattle.bh_blocks.proofs.blocks.store_known.Goals as goal

pub returns-clause-copies : goal.returns-clause-copies
returns-clause-copies g c = on_ok_weaker c.store_named.result (λ stored clean.
    subst (λ (t : Tables). AreCopies c.args.cache.now t.blocks) (sym (stored clean).is)
    (copies_with c.args.cache.now c.args.digest.now c.args.bytes.now (tables_at (state g.S.Store g.P.Shelf c.args.connection.now)).blocks (c.requires.copies (c.store_named.ensures.within.follows.clean clean))))
    (c.store_named.ensures.stored (λ _. c.args.digest.now) refl)
