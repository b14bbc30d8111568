-- What is done with a storage between two events: it is copied, or what nobody needs is counted.
use Rattle.std.specs.Prelude.{◌≡◌, ◌⊎◌, ℕ, List, codes}
use Rattle.bh_tables.specs.Bodies.{unneeded}
use Rattle.bh_tables.specs.Typed.{Tables}
use Rattle.bh_storage.specs.Calls.{Seen}
use Rattle.bh_connection.specs.Connections.{IsTakenBack}

-- the replies if a copy was made and synced, and if not
abbrev pub backup_text : List ℕ
backup_text = codes "backup"

abbrev pub fault_text : List ℕ
fault_text = codes "fault"

-- the tables don't change, and what a crash may leave was possible before. With the reply `backup`
-- there is a copy with those tables
pub record IsBackedUp {H C : Type 0} (IsIntact IsOpen : H → Type 0) (seen : H → Seen) (left : H → Tables → Type 0)
    (shows : C → Tables → Type 0) (reply : List ℕ) (old new : H) : Type 0 where
  pub stays : IsTakenBack IsIntact IsOpen seen left old new
  pub replied : (reply ≡ backup_text) ⊎ (reply ≡ fault_text)
  pub copied : reply ≡ backup_text → IsIntact new → (copy : C) × shows copy (seen old).now

-- the bytes of the blocks that no reference names
abbrev pub unneeded_of : Tables → ℕ
unneeded_of t = unneeded t.refs t.blocks
