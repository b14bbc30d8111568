-- Those that were passed have heads, or are gone.
use Rattle.std.proofs.Common.{◌≡◌, ◌-◌, length, take, drop}
use Rattle.std.specs.List.{find}
use Rattle.bh_stage.specs.Places.{HaveBegun, lacks_head}
use Rattle.bh_stage.proofs.places.Places.first_new.Given as goal

abbrev pub invariant-passing : goal.invariant-passing
invariant-passing g l = record {
  came : l.self.came ≡ l.fn.self.came;
  first : find (lacks_head l.connections) (drop l.self.begun l.self.came.items) ≡ find (lacks_head l.connections) (drop l.fn.self.begun l.fn.self.came.items);
  begun : HaveBegun l.connections (take l.fn.self.begun l.fn.self.came.items) → HaveBegun l.connections (take l.self.begun l.self.came.items);
}

abbrev pub decreases-passing : goal.decreases-passing
decreases-passing g l = length l.self.came.items - l.self.begun
