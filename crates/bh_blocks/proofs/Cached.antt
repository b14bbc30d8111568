-- Blocks that are kept in memory, while a block is stored and bodies are read.
use Rattle.std.proofs.Common.{◌≡◌, [], ◌∷◌, ◌++◌, List, Option, Some, None, Result, Ok, Err, OnOk, sym, subst}
use Rattle.std.specs.Option.{option_map_or}
use Rattle.sqlite.specs.State.{State}
use Rattle.bh_tables.specs.Schema.{Octets}
use Rattle.bh_tables.specs.Typed.{BlockRow, tables_in}
use Rattle.bh_view.specs.Blocks.{copy_in, free_ord, blocks_with}
use Rattle.bh_cache.specs.Kept.{KeptBlocks, AreCopies}
use Rattle.bh_base.specs.Layer.{Standing, standing, IsStateClean, IsIntact, StateWithin}
use Rattle.bh_schema.specs.Working.{tables_at}
use Rattle.bh_cache.proofs.Agreeing.{copies_grown}

-- a block that comes stands behind all others
pub copies_with : (kept : KeptBlocks) (digest c : Octets) (blocks : List BlockRow) → AreCopies kept blocks → AreCopies kept (blocks_with digest c blocks)
copies_with kept digest c blocks h = go (copy_in digest c blocks)
  where
    go : (o : Option BlockRow) → AreCopies kept (option_map_or (λ _. blocks) o (blocks ++ record { digest = digest; ord = free_ord digest blocks; bytes = c } ∷ []))
    go None = copies_grown kept blocks (record { digest = digest; ord = free_ord digest blocks; bytes = c } ∷ []) h
    go (Some b) = h

-- after a question
pub still_kept : (P : List BlockRow → Type 0) (old new : State) → StateWithin old new → (IsIntact new → standing new ≡ standing old) → (IsStateClean old → P (tables_at old).blocks) → IsStateClean new → P (tables_at new).blocks
still_kept P old new within same h clean = subst (λ (x : Standing). P (tables_in x.now).blocks) (sym (same clean.intact)) (h (within.follows.clean clean))

-- whatever came of a call
pub on_any : {X E : Type 0} (result : Result X E) (P : Type 0) → P → OnOk result P
on_any (Ok x) P h = h
on_any (Err e) P h = tt
