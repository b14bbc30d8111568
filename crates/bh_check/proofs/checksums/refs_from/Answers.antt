use Rattle.std.proofs.Common.{◌≡◌, true, take, length, ap, sym, ◌∙◌, subst}
use Rattle.std.specs.List.{list_all}
use Rattle.bh_tables.specs.Bodies.{same_name}
use Rattle.bh_check.specs.Holds.{first_two}
use Rattle.bh_check.proofs.NamedLemmas.{refs_whole}
use Rattle.bh_check.proofs.checksums.refs_from.Goals as goal

pub returns-then-are_of : goal.returns-then-are_of
returns-then-are_of c count =
    let before = c.in_ok-rest.ensures.cases in
    let those = c.in_ok-found.ensures.cases in
    let at = c.saturating_sub.result in
    let found = those.1 ∙ ap (take c.args.count) before.2 in
    let all = sym c.are_of.ensures ∙ c.if-are_of.true in
    found ∙ refs_whole c.args.refs.now at c.args.count (c.args.tenant.now, c.args.body)
    (subst (λ l. list_all (λ r. same_name (first_two r) (c.args.tenant.now, c.args.body)) l ≡ true) found all)
    (ap length (sym found) ∙ those.3 ∙ count)
