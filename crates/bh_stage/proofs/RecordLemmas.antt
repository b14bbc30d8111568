-- A record with one call more.
use Rattle.std.proofs.Common.{rules, ◌≡◌, ◌++◌, take, ℕ, List, [], ◌∷◌, refl}
use Rattle.std.specs.Prelude.{◌==◌}
use Rattle.std.proofs.lemmas.Grind.{common_steps}
use Rattle.bh_stage.specs.Records.{Calls, bytes_of, is_ended}

pub bytes_of_append : (calls : Calls) (n : ℕ) (room : List ℕ) → bytes_of (calls ++ (n, room) ∷ []) ≡ bytes_of calls ++ take n room
bytes_of_append [] n room = search (rules, common_steps)
bytes_of_append (call ∷ calls) n room = let more = bytes_of_append calls n room in search (rules, common_steps)

pub is_ended_append : (calls : Calls) (n : ℕ) (room : List ℕ) → is_ended (calls ++ (n, room) ∷ []) ≡ (n == 0)
is_ended_append [] n room = refl
is_ended_append (call ∷ []) n room = refl
is_ended_append (call ∷ next ∷ calls) n room = is_ended_append (next ∷ calls) n room
