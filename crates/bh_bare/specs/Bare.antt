-- A database beside which there are no packs.
use Rattle.std.specs.Prelude.{◌≡◌, true}
use Rattle.bh_shelf.specs.Contents.{nothing}
use Rattle.bh_base.specs.Layer.{Standing}
use Rattle.bh_base.specs.Placed.{filled}
use Rattle.bh_base.specs.Shown.{Backing}

-- no packs
abbrev pub no_packs : Backing
no_packs = record { seen = nothing; stood = nothing; kept = nothing; is_clean = true }

-- no block has its bytes in a pack, so that without packs the current and the committed database are as they are
pub record IsBare (x : Standing) : Type 0 where
  pub now : filled nothing x.now ≡ x.now
  pub kept : filled nothing x.kept ≡ x.kept
