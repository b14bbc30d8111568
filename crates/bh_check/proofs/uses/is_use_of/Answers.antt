use Rattle.std.proofs.Common.{◌∙◌}
use Rattle.bh_check.proofs.uses.is_use_of.Goals as goal

pub returns : goal.returns
returns c fits of keeps =
    let it = c.counts.ensures fits in
    record {
      digest = it.digest;
      ord = it.ord;
      count = it.count ∙ c.in_ok-count.ensures of keeps ∙ (λ i. of (c.bytes_in-digest.ensures i, c.number_in-ord.ensures i));
    }
