use Rattle.std.proofs.Common.{◌≡◌, Bool, true, false, cond, List, ℕ, Some, None, option_map, option_and_then, option_copied, sym, ap, ◌∙◌, subst, ◌<◌}
use Rattle.std.specs.List.{AllByRecursion}
use Rattle.matchit.specs.Seek.{first}
use Rattle.bh_operation.specs.Targets.{kind_at, text_of}
use Rattle.bh_operation.proofs.Routed.{kind_of_route, routed_is, bytes_small}
use Rattle.bh_operation.proofs.routes.Routes.kind_of.Goals as goal

text_is : (b : Bool) (bytes text : List ℕ) → cond b (Some bytes) None ≡ Some text → bytes ≡ text
text_is true bytes text e = cc
text_is false bytes text e = absurd cc

pub returns-in-Ok : goal.returns-in-Ok
returns-in-Ok c =
    let is : text_of c.args.path.now ≡ Some c.in_ok-text.text.now = sym c.text_of.ensures ∙ ap option_copied c.in_ok-text.was in
    let small = subst (AllByRecursion (λ x. x < 256)) (text_is _ c.args.path.now c.in_ok-text.text.now is) (bytes_small c.args.path.now (λ i. (c.type_inv.path i).fits)) in
    sym (ap (option_map kind_of_route) (ap (λ rs. first rs c.in_ok-text.text.now) (sym c.self.invariant) ∙ c.in-Ok.ensures.found)) ∙ routed_is c.in_ok-text.text.now small ∙ sym (ap (option_and_then kind_at) is)

pub returns-in-Err : goal.returns-in-Err
returns-in-Err c =
    let is : text_of c.args.path.now ≡ Some c.in_ok-text.text.now = sym c.text_of.ensures ∙ ap option_copied c.in_ok-text.was in
    let small = subst (AllByRecursion (λ x. x < 256)) (text_is _ c.args.path.now c.in_ok-text.text.now is) (bytes_small c.args.path.now (λ i. (c.type_inv.path i).fits)) in
    sym (ap (option_map kind_of_route) (ap (λ rs. first rs c.in_ok-text.text.now) (sym c.self.invariant) ∙ c.in-Err.ensures.missing)) ∙ routed_is c.in_ok-text.text.now small ∙ sym (ap (option_and_then kind_at) is)
