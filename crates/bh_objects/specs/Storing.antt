-- The preconditions and the effect of a call that stores the bytes of a body.
use Rattle.std.specs.Prelude.{◌≡◌, ◌≤◌, ◌<◌, ◌^◌, ℕ, [], length, None, Result, IfOk, IfErr, OnOk}
use Rattle.sha2.specs.Hashers.{Holds256}
use Rattle.sha2.specs.Sha256.{sha256}
use Rattle.sha2.specs.declared.Sha256.{Sha256}
use Rattle.sqlite_trees.specs.declared.store.Store.{Ghosts}
use Rattle.bh_shelf.specs.declared.shelf.Shelf.{Ghosts as Shelves}
use Rattle.bh_base.specs.declared.connection.Connection.{Connection}
use Rattle.bh_http.specs.Bodies.{Coming, Gives, IsWhole, MayBreak}
use Rattle.bh_model.specs.State.{Octets}
use Rattle.bh_storage.specs.declared.error.Trouble.{Trouble}
use Rattle.bh_tables.specs.Shown.{Name}
use Rattle.bh_view.specs.Blocks.{AreDigests}
use Rattle.bh_view.specs.Bodies.{pieces, body_stored}
use Rattle.bh_view.specs.View.{latest_of}
use Rattle.bh_cache.specs.Kept.{KeptBlocks, AreCopies}
use Rattle.bh_base.specs.Connections.{IsClean, tables, InTransaction, StaysWithin, StaysOpen, Becomes}
use Rattle.bh_schema.specs.Working.{Works}
use Rattle.bh_blocks.specs.Drafts.{Goes, drafted}
use Rattle.bh_blocks.specs.declared.drafts.Draft.{Draft}

-- the body has no rows yet
pub record IsBegun (draft : Draft) : Type 0 where
  pub size : 1 ≤ draft.size
  pub body : draft.body < 2 ^ 63
  pub place : draft.place ≡ 0
  pub waiting : draft.waiting.items ≡ []

module _ {S P : Type 0} (g : Ghosts S) (k : Shelves P) where
  -- the received bytes of a body may be stored, in blocks of a size
  pub record MayStore (kept : KeptBlocks) (size : ℕ) (c : Connection S P) (body : Coming) : Type 0 where
    pub inside : InTransaction g k c
    pub copies : IsClean g k c → AreCopies kept (tables g k c).blocks
    pub positive : 1 ≤ size
    pub going : body.broken ≡ None

  -- the whole received body is stored under this name, and its SHA-256 digest returned, unless it
  -- broke off or the store failed
  pub record Stores (digest : Octets → Octets) (size : ℕ) (name : Name) (before after : Coming) (old new : Connection S P)
      (result : Result Octets Trouble) : Type 0 where
    pub within : StaysWithin g k old new
    pub opens : OnOk result (StaysOpen g k old new)
    pub stored : IfOk result (λ sum. (given : Octets) × Gives before after given × IsWhole after × (sum ≡ sha256 given)
        × Becomes g k old new (body_stored digest name 0 (pieces size given)))
    pub stopped : IfErr result (λ _. (given : Octets) × Gives before after given × MayBreak after)

  -- some of a body was received: it is hashed, and stored or waiting in the draft
  pub record IsTaken (digest : Octets → Octets) (kept : KeptBlocks) (begun draft : Draft) (before after : Coming) (old new : Connection S P)
      (hasher : Sha256) : Type 0 where
    pub within : StaysWithin g k old new
    pub opens : StaysOpen g k old new
    pub inside : InTransaction g k new
    pub copies : IsClean g k new → AreCopies kept (tables g k new).blocks
    pub of : drafted draft ≡ drafted begun
    pub body : draft.body < 2 ^ 63
    pub size : draft.size ≡ begun.size
    pub place : draft.place < 2 ^ 63
    pub fewer : length draft.waiting.items < draft.size
    pub going : after.broken ≡ None
    pub came : (given : Octets) × Gives before after given × Holds256 hasher given
        × (IsClean g k new → Goes digest draft (tables g k new) given (tables g k old))

  -- the same of a call's result, unless the body broke off, or memory or the store failed
  pub record Takes (digest : Octets → Octets) (kept : KeptBlocks) (begun draft : Draft) (before after : Coming) (old new : Connection S P)
      (result : Result Sha256 Trouble) : Type 0 where
    pub within : StaysWithin g k old new
    pub taken : IfOk result (IsTaken digest kept begun draft before after old new)
    pub stopped : IfErr result (λ _. (given : Octets) × Gives before after given × MayBreak after)

  -- a put at a moment may begin
  pub record MayPut (digest : Octets → Octets) (kept : KeptBlocks) (size at : ℕ) (c : Connection S P) (body : Coming) : Type 0 where
    pub working : Works g k c
    pub copies : IsClean g k c → AreCopies kept (tables g k c).blocks
    pub digests : IsClean g k c → AreDigests digest (tables g k c).blocks
    pub positive : 1 ≤ size
    pub early : IsClean g k c → at ≤ latest_of (tables g k c)
    pub going : body.broken ≡ None
