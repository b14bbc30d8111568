use Rattle.std.proofs.Common.{◌≡◌, ◌≤◌, ◌∙◌, Some, ap, sym, subst}
use Rattle.std.proofs.lemmas.Result.{IfOk-weaker}
use Rattle.std.proofs.lemmas.Str.{IsUtf8-string_bytes}
use Rattle.std.specs.String.{string_bytes}
use Rattle.serde_json.specs.Data.{Data, depth}
use Rattle.serde_json.specs.Read.{max_depth}
use Rattle.serde_json.specs.View.{view}
use Rattle.bh_event.specs.Orders.{instruction_of}
use Rattle.bh_telling.specs.Objects.{object_of_order}
use Rattle.bh_telling.proofs.ReadBack.{told_back, flat_order}
use Rattle.bh_telling.proofs.texts.order_text.Goals as goal

pub returns : goal.returns
returns c =
    let order = c.args.order.now in
    let is : view c.in_ok-object.object ≡ object_of_order (instruction_of order) = c.in_ok-object.ensures.object in
    let flat : depth (view c.in_ok-object.object) ≤ max_depth = subst (λ (d : Data). depth d ≤ max_depth) (sym is) (flat_order order) in
    IfOk-weaker c.to_string.result _ _ (λ text reads.
    told_back order (string_bytes text) c.in_ok-object.ensures.limited (IsUtf8-string_bytes text) (reads flat ∙ ap Some is))
    c.to_string.ensures.reads_back
