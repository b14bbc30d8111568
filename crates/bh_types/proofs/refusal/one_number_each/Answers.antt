use Rattle.std.proofs.Common.{ap, sym, ◌∙◌}
use Rattle.bh_types.proofs.RefusalLemmas.{refusal_at, refusal_at-number_of}
use Rattle.bh_types.proofs.refusal.one_number_each.Goals as goal

pub returns : goal.returns
returns c = λ a b same. cc (sym (refusal_at-number_of a) ∙ ap refusal_at same ∙ refusal_at-number_of b)
