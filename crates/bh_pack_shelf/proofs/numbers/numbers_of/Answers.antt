use Rattle.std.proofs.Common.{◌≡◌, ◌<◌, ◌==◌, ◌++◌, ℕ, List, [], ◌∷◌, false, length, map, take, sym, ◌∙◌, ap, arith}
use Rattle.std.proofs.lemmas.List.{map_more}
use Rattle.std.specs.List.{list_any}
use Rattle.bh_pack_shelf.specs.Rows.{pack_of, no_row, row_at}
use Rattle.bh_pack_shelf.proofs.RowLemmas.{others, once_more}
use Rattle.bh_pack_shelf.proofs.numbers.numbers_of.Goals as goal

pub loop-index-preserved : goal.loop-index-preserved
loop-index-preserved c =
    let rows = c.args.listed.now in
    let n = c.loop-index.index in
    let pack = (row_at rows n).pack in
    let low : n < length rows = omega (arith, c.loop-index-test.true) in
    let before = c.loop-index.invariant in
    let none : list_any (λ x. x == pack) (map pack_of (take n rows)) ≡ false =
    ap (list_any (λ x. x == pack)) (sym before.0 ∙ sym c.as_slice.ensures.value) ∙ sym c.is_in.ensures ∙ c.if-is_in.false in (
      c.in_ok-add.ensures ∙ ap (λ (l : List ℕ). l ++ pack ∷ []) before.0 ∙ sym (map_more pack_of rows n no_row low),
      once_more rows n before.1 (λ i lower. others rows n pack none i lower (omega (arith, lower, low))),
    )
