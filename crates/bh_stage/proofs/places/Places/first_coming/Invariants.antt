-- Of those that left nothing is awaited.
use Rattle.std.proofs.Common.{◌≡◌, length, take}
use Rattle.std.specs.List.{find}
use Rattle.bh_stage.specs.Places.{HaveBegun, coming, is_coming}
use Rattle.bh_stage.proofs.places.Places.first_coming.Given as goal

abbrev pub invariant-leaving : goal.invariant-leaving
invariant-leaving g l = record {
  first : find (is_coming l.connections) l.self.came.items ≡ find (is_coming l.connections) l.fn.self.came.items;
  stay : coming l.connections l.self.came.items ≡ coming l.connections l.fn.self.came.items;
  begun : HaveBegun l.connections (take l.fn.self.begun l.fn.self.came.items) → HaveBegun l.connections (take l.self.begun l.self.came.items);
}

abbrev pub decreases-leaving : goal.decreases-leaving
decreases-leaving g l = length l.self.came.items
