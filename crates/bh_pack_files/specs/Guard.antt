-- Which folder may be that of packs.
use Rattle.std.specs.Prelude.{◌≡◌, ◌≢◌, ◌⊎◌, bit_and}
use Rattle.bh_pack_files.specs.declared.guard.Found.{Found}
use Rattle.bh_pack_files.specs.declared.guard.Flaw.{Flaw}
use Rattle.bh_pack_files.specs.declared.guard.Flaw.TheVariants as flaw
use Rattle.bh_pack_files.specs.declared.guard.Kind.TheVariants as kind
use Rattle.bh_pack_files.specs.declared.guard.Owners.{Owners}

-- the process's user owns it, or the owner of the host's file
abbrev pub IsOwn : Found → Owners → Type 0
IsOwn found owners = (found.owner ≡ owners.process) ⊎ (found.owner ≡ owners.host)

-- neither its group nor others may write to it
abbrev pub IsPrivate : Found → Type 0
IsPrivate found = bit_and found.mode 0o022 ≡ 0

-- a folder and no link, that one of these users owns, and nobody else may write to
pub record IsSafeFolder (found : Found) (owners : Owners) : Type 0 where
  pub folder : found.kind ≡ kind.Folder
  pub own : IsOwn found owners
  pub private : IsPrivate found

-- the reason that is told is one
abbrev pub IsFlawOf : Flaw → Found → Owners → Type 0
IsFlawOf flaw.Link found owners = found.kind ≡ kind.Link
IsFlawOf flaw.NoFolder found owners = found.kind ≡ kind.Other
IsFlawOf flaw.Foreign found owners = (found.kind ≡ kind.Folder) × (found.owner ≢ owners.process) × (found.owner ≢ owners.host)
IsFlawOf flaw.Shared found owners = (found.kind ≡ kind.Folder) × (bit_and found.mode 0o022 ≢ 0)
