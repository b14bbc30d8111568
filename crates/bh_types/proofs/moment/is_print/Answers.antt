use Rattle.std.proofs.Common.{sym, ap, ◌∙◌}
use Rattle.std.proofs.lemmas.Slice.Eq.{bytes_eq-Decides}
use Rattle.bh_types.proofs.Reading.{printed_by}
use Rattle.bh_types.proofs.moment.is_print.Goals as goal

pub returns : goal.returns
returns c = λ m room is.
    let same = printed_by c.new.result c.to_plain.result m c.timestamp_text-printed.result.bytes c.new.ensures c.timestamp_text-printed.ensures room (ap (λ t. t.nanosecond) c.to_plain.ensures ∙ is) in
    let printed = c.as_str.ensures.value ∙ same in
    let equal = bytes_eq-Decides c.as_str.result.now c.args.text.now in
    let e = c.eq.ensures in
    (λ yes. sym printed ∙ equal.0 (sym e ∙ yes), λ has. e ∙ equal.1 (printed ∙ has))
