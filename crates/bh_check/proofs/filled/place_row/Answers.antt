use Rattle.std.proofs.Common.{sym, ◌∙◌}
use Rattle.bh_check.specs.Holds.{first_two, one}
use Rattle.bh_check.specs.Sums.{total}
use Rattle.bh_check.proofs.PackRows.{place_none}
use Rattle.bh_check.proofs.filled.place_row.Goals as goal

pub returns-then-count-eq0 : goal.returns-then-count-eq0
returns-then-count-eq0 c known named =
    let of = total first_two one c.args.places.now in
    let q = first_two c.args.block.now in
    place_none c.args.places.now q ((λ i. of (sym c.bytes_in-digest.ensures i, sym c.number_in-ord.ensures i)) ∙ sym (c.in_ok-count.ensures of known) ∙ c.if-count-eq0.true)
