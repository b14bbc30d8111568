use Rattle.std.proofs.Common.{◌≡◌, ◌==◌, IsTrue, map, ◌∙◌, ap}
use Rattle.std.specs.List.{list_any}
use Rattle.bh_pack_files.specs.Names.{made_of, removed_of}
use Rattle.bh_pack_shelf.specs.Rows.{pack_of}
use Rattle.bh_pack_shelf.proofs.RowLemmas.{any_row}
use Rattle.bh_pack_shelf.proofs.opening.open_files.Goals as goal

pub returns-clause-spared : goal.returns-clause-spared
returns-clause-spared g c = λ n named.
    let rows = c.args.listed.now in
    let all : c.as_slice.result.now ≡ map pack_of rows = c.as_slice.ensures.value ∙ c.in_ok-named.ensures.numbers in
    let is : IsTrue (list_any (λ pack. pack == n) c.as_slice.result.now) = ap (list_any (λ pack. pack == n)) all ∙ any_row rows n ∙ named in
    let kept = c.sweep.ensures.spared n is in
    let none = c.in_ok-folder.ensures n in
    (kept.made ∙ none.0, kept.removed ∙ none.1)

pub returns-clause-looks : goal.returns-clause-looks
returns-clause-looks g c = λ look n.
    let same = c.sweep.ensures.looks look in
    let none = c.in_ok-folder.ensures n in
    (ap (made_of n) same ∙ none.0, ap (removed_of n) same ∙ none.1)
