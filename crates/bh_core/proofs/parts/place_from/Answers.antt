use Rattle.std.proofs.Common.{◌+◌, ◌-◌, length, drop, option_map, sym, ap, ◌∙◌, arith}
use Rattle.std.specs.Option.{option_or}
use Rattle.std.proofs.lemmas.List.{length-drop, take_all}
use Rattle.bh_core.specs.Completions.{place_of}
use Rattle.bh_core.proofs.Ordered.{found_anyway}
use Rattle.bh_core.proofs.parts.place_from.Goals as goal

pub returns-in-Some-clause-place : goal.returns-in-Some-clause-place
returns-in-Some-clause-place c =
    let rows = c.args.parts.now in
    let number = c.args.number in
    let from = c.args.from in
    let size = length-drop from rows in
    ap (λ o. option_or (option_map (λ i. from + i) o) (place_of rows number)) (sym c.in-Some.is ∙ c.place_of.ensures.place)
    ∙ ap (λ l. option_or (option_map (λ i. from + i) (place_of l number)) (place_of rows number)) (take_all (length rows - from) (drop from rows) (omega (arith, size)))
    ∙ found_anyway number rows from c.requires.start
