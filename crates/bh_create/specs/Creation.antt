-- The effect on a connection of creating a host in an empty database.
use Rattle.std.specs.Prelude.{◌≡◌, true, None, Result, OnOk}
use Rattle.sqlite.specs.Schema.{Schema}
use Rattle.sqlite.specs.State.{State}
use Rattle.bh_types.specs.BlockDigests.{digest_number}
use Rattle.bh_types.specs.Limits.{HostLimits}
use Rattle.bh_types.specs.declared.block_digest.BlockDigest.{BlockDigest}
use Rattle.bh_model.specs.State.{Octets}
use Rattle.bh_rows.specs.Means.{IsBlank}
use Rattle.bh_tables.specs.Schema.{no_schema}
use Rattle.bh_tables.specs.Typed.{Tables}
use Rattle.bh_view.specs.Bodies.{IsSoundHost}
use Rattle.bh_view.specs.Laws.{new_host}
use Rattle.bh_view.specs.View.{view, latest_of}
use Rattle.bh_storage.specs.Calls.{IsAtRest}
use Rattle.bh_base.specs.Layer.{standing, IsStateClean, KeepsDisk}
use Rattle.bh_schema.specs.Storage.{seen_in, left_in}

-- the database has no table, index or view
abbrev pub IsEmpty : State → Type 0
IsEmpty s = s.now.schema ≡ no_schema

-- a host with these limits and this function's number was committed. It has no tenant, and has read
-- no clock
pub record IsNewHost (limits : HostLimits) (named : BlockDigest) (s : State) : Type 0 where
  -- whatever function names blocks
  pub rest : (digest : Octets → Octets) → IsAtRest (IsSoundHost digest) (seen_in limits s)
  pub tables : (seen_in limits s).now ≡ new_host limits.min_part limits.max_body (digest_number named)
  pub latest : latest_of (seen_in limits s).now ≡ 0
  pub vacant : (tenant : Octets) → view (seen_in limits s).now tenant ≡ None
  -- a crash leaves it
  pub left : (x : Tables) → left_in s x → x ≡ new_host limits.min_part limits.max_body (digest_number named)

-- ---- the calls that create it

-- in a transaction, the database has this schema and no rows
pub record IsMaking (schema : Schema) (s : State) : Type 0 where
  pub inside : (standing s).inside ≡ true
  pub blank : IsBlank schema s

-- nothing is committed
pub record Keeps (old new : State) : Type 0 where
  pub follows : KeepsDisk old new
  pub kept : IsStateClean new → (standing new).kept ≡ (standing old).kept

-- nothing is committed, and on success the database has this schema and no rows
pub record Makes {X E : Type 0} (schema : Schema) (old new : State) (result : Result X E) : Type 0 where
  pub keeps : Keeps old new
  pub made : OnOk result (IsStateClean new → IsMaking schema new)
