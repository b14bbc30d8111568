use Rattle.bh_memo.proofs.Lists.{same_texts, equal_texts}
use Rattle.bh_memo.proofs.facts.same_tenant.Goals as goal

pub returns : goal.returns
returns c =
    let test = same_texts c.eq.result _ _ c.args.a.now c.args.b.now c.eq.ensures c.as_str.ensures.value c.as_str-2.ensures.value in
    record { test = test; same = equal_texts c.eq.result c.args.a.now c.args.b.now test }
