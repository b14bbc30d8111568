-- A transaction stays open, and versions and parts have the bytes of their bodies.
use Rattle.std.proofs.Common.{◌≡◌, ℕ, ◌≤◌, sym, subst}
use Rattle.sqlite.specs.State.{State}
use Rattle.bh_tables.specs.Typed.{rebodied, raw}
use Rattle.bh_tables.specs.Schema.{Octets}
use Rattle.bh_tables.specs.Shown.{Name}
use Rattle.bh_view.specs.Blocks.{AreDigests}
use Rattle.bh_view.specs.Bodies.{IsResolved, AddsBody, pieces, body_stored}
use Rattle.bh_view.proofs.BodyChanges.{body_stores}
use Rattle.bh_view.proofs.ResolvedLemmas.{tables_resolved}
use Rattle.bh_tables.proofs.ResolvedLemmas.{own_bodies}
use Rattle.bh_base.specs.Layer.{standing, IsIntact, IsStateClean, IsInside, IsReadable, StateWithin}
use Rattle.bh_schema.specs.Working.{tables_at}
use Rattle.bh_blocks.specs.Added.{IsNewBody}

-- after a question the transaction is open still
pub still_inside : (old new : State) → StateWithin old new → (IsIntact new → standing new ≡ standing old) → (IsStateClean old → IsInside (standing old)) → IsStateClean new → IsInside (standing new)
still_inside old new within same inside clean = subst IsInside (sym (same clean.intact)) (inside (within.follows.clean clean))

-- after a question the database can be read still
pub still_readable : (old new : State) → StateWithin old new → (IsIntact new → standing new ≡ standing old) → (IsStateClean old → IsReadable (standing old)) → IsStateClean new → IsReadable (standing new)
still_readable old new within same reads clean = subst IsReadable (sym (same clean.intact)) (reads (within.follows.clean clean))

-- versions and parts have the bytes of their bodies
pub resolved_at : (s : State) → IsResolved (tables_at s)
resolved_at s = tables_resolved (raw (standing s).now.trees)

-- so nothing becomes of tables whose references and blocks stay
pub own_at : (s : State) → rebodied (tables_at s) (tables_at s).refs (tables_at s).blocks ≡ tables_at s
own_at s = own_bodies (standing s).now

-- a body that is stored is added to those that are there
pub stored_adds : (digest : Octets → Octets) (at : Name) (size : ℕ) (bytes : Octets) (old new : State) → 1 ≤ size → AreDigests digest (tables_at old).blocks → IsNewBody at (tables_at old)
    → tables_at new ≡ body_stored digest at 0 (pieces size bytes) (tables_at old) → AddsBody digest at bytes (tables_at old) (tables_at new)
stored_adds digest at size bytes old new low digests fresh is =
    subst (AddsBody digest at bytes (tables_at old)) (sym is) (body_stores (tables_at old) at (resolved_at old) fresh.stored fresh.bodies fresh.unnamed digest size bytes low digests)
