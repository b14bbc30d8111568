use Rattle.bh_memo.proofs.Lists.{same_texts, equal_texts}
use Rattle.bh_memo.proofs.facts.same_name.Goals as goal

pub returns : goal.returns
returns c = equal_texts c.eq.result c.args.a.now c.args.b.now (same_texts c.eq.result _ _ c.args.a.now c.args.b.now c.eq.ensures c.as_str.ensures.value c.as_str-2.ensures.value)
