use Rattle.std.proofs.Common.{◌≡◌, ◌+◌, ◌%◌, List, ℕ, slice_index, refl, arith}
use Rattle.std.proofs.lemmas.List.{map-set}
use Rattle.bh_lanes.proofs.Lanes.{word_of}
use Rattle.bh_lanes.proofs.rounds.next_word.Goals as goal

pub returns-clause-value : goal.returns-clause-value
returns-clause-value c j h =
    let w = c.args.w.now in
    let place = c.args.place in
    let at : place % 16 ≡ place = omega arith in
    rw (
      c.add-word.ensures j h,
      c.add-second.ensures j h,
      c.add-first.ensures j h,
      c.small_sigma1-late.ensures j h,
      c.small_sigma0-early.ensures j h,
      at,
      word_of j w ((place + 14) % 16) (omega arith),
      word_of j w ((place + 9) % 16) (omega arith),
      word_of j w ((place + 1) % 16) (omega arith),
      word_of j w place (omega arith),
    ) refl

pub returns-clause-window : goal.returns-clause-window
returns-clause-window c j h = map-set (λ (x : List ℕ). slice_index x j) c.args.w.now c.args.place c.add-word.result
