use Rattle.std.proofs.Common.{◌≡◌, ◌∙◌, List, ℕ, refl, sym, ap, subst}
use Rattle.sqlite.specs.State.{State}
use Rattle.bh_types.specs.Limits.{HostLimits, HostTuning}
use Rattle.bh_types.specs.declared.block_digest.BlockDigest.{BlockDigest}
use Rattle.bh_storage.specs.Calls.{Seen, IsAtRest}
use Rattle.bh_view.specs.Bodies.{IsSoundHost}
use Rattle.bh_create.specs.Creation.{IsNewHost}
use Rattle.bh_cache.specs.Kept.{KeptBlocks, no_blocks}
use Rattle.bh_base.specs.Layer.{IsStateClean}
use Rattle.bh_schema.specs.Storage.{seen_in, beside}
use Rattle.bh_schema.proofs.Storing.{AreBoth, both, beside_agreed}

-- A new host keeps no block in memory, so its tables are what its connection shows.
pub beside_new : (tuning : HostTuning) (kept : KeptBlocks) (s : Seen) → kept ≡ no_blocks tuning → beside kept s ≡ s
beside_new tuning kept s is = ap (λ k. beside k s) is ∙ beside_agreed (no_blocks tuning) s refl

-- A host that was made is at rest, whatever name its limits go by.
pub at_rest : {digest : List ℕ → List ℕ} {named : BlockDigest} (l m : HostLimits) (tuning : HostTuning) (kept : KeptBlocks) (s : State) → l ≡ m → kept ≡ no_blocks tuning → (IsStateClean s → IsNewHost m named s) → AreBoth s
    → IsAtRest (IsSoundHost digest) (beside kept (seen_in l s))
at_rest {digest} l m tuning kept s same none made clean =
    subst (IsAtRest (IsSoundHost digest)) (sym (beside_new tuning kept (seen_in l s) none)) (subst (λ x. IsAtRest (IsSoundHost digest) (seen_in x s)) (sym same) ((made (both clean)).rest digest))
