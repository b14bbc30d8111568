-- What calls on a connection leave, one after another.
use Rattle.std.proofs.Common.{◌≡◌}
use Rattle.sqlite.specs.State.{State}
use Rattle.bh_base.specs.Layer.{standing, IsIntact, IsStateClean, StateWithin}
use Rattle.bh_schema.specs.Working.{StillWorking}
use Rattle.bh_objects.proofs.Working.{asked_working, works_then}

-- a question after another call
pub asked_then : (one two three : State) → (IsStateClean two → StillWorking one two) → StateWithin two three → (IsIntact three → standing three ≡ standing two) → IsStateClean three → StillWorking one three
asked_then one two three first within same clean =
    works_then one two three (first (within.follows.clean clean)) (asked_working two three (λ was. (first was (λ bytes. bytes)).is) within same clean)
