use Rattle.std.proofs.Common.{◌≡◌, ◌≢◌, List, [], ◌∷◌, length, None, refl}
use Rattle.serde_json.specs.View.{items_view}
use Rattle.serde_json.specs.declared.value.Value.{Value}
use Rattle.bh_docs.specs.Shapes.{only_item}
use Rattle.bh_docs.proofs.shape.only_item.Goals as goal

other_count : (items : List Value) → length items ≢ 1 → None ≡ only_item (items_view items)
other_count [] h = refl
other_count (a ∷ []) h = absurd (h refl)
other_count (a ∷ b ∷ rest) h = refl

pub returns-else-items-eq1 : goal.returns-else-items-eq1
returns-else-items-eq1 c = other_count c.args.items.now c.if-items-eq1.false
