use Rattle.std.proofs.Common.{ℕ, List, ◌<◌, ◌*◌}
use Rattle.sha2.specs.Sha256.{IsRoundsAt}
use Rattle.bh_lanes.specs.Lanes.{state_of, window_of, AreWordsOf}
use Rattle.bh_lanes.proofs.rounds.compress.Given as goal

abbrev pub invariant-schedule : goal.invariant-schedule
invariant-schedule l = (j : ℕ) (b : List ℕ) → j < 8 → AreWordsOf b j l.words
    → IsRoundsAt b (state_of j l.state) (window_of j l.w) (state_of j l.v) (16 * l.turn)
