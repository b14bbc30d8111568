-- The effect of a call on a storage at rest.
use Rattle.std.specs.Prelude.{◌≡◌}
use Rattle.bh_storage.specs.Calls.{Seen, Clean, LeavesSound, IsAtRest}
use Rattle.bh_tables.specs.Typed.{Tables}

-- it is at rest again: if it is intact or open now, it was so before, and no call changes the
-- limits. What a crash may leave from then on was possible before, or is sound
pub record StaysAtRest {H : Type 0} (IsIntact IsOpen : H → Type 0) (IsSound : Tables → Type 0) (seen : H → Seen)
    (left : H → Tables → Type 0) (old new : H) : Type 0 where
  pub intact : IsIntact new → IsIntact old
  pub opened : IsIntact new → IsOpen new → IsOpen old
  pub ready : Clean IsIntact IsOpen new → IsAtRest IsSound (seen new)
  pub limits : (seen new).limits ≡ (seen old).limits
  pub leaves : IsIntact new → LeavesSound IsSound left old new
