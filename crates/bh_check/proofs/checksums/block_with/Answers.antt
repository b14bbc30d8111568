use Rattle.std.proofs.Common.{◌≡◌, true, sym, subst, ◌∙◌}
use Rattle.bh_tables.specs.Bodies.{Name, same_name}
use Rattle.bh_check.specs.Holds.{first_two}
use Rattle.bh_check.specs.Looked.{IsShownAs, HasBlock}
use Rattle.bh_check.proofs.NamedLemmas.{block_found}
use Rattle.bh_check.proofs.ZipLemmas.{zip_got}
use Rattle.bh_check.proofs.checksums.block_with.Goals as goal

pub returns-then-is_of : goal.returns-then-is_of
returns-then-is_of c rows packs places shown each named =
    let found = c.in_ok-row.ensures.lookup in
    let at = c.saturating_sub.result in
    let q : Name = (c.args.digest.now, c.args.ord) in
    let got = zip_got (IsShownAs rows packs places) c.args.blocks.now shown at c.in_ok-row.row.now each found.3.0 found.1 in
    let name = got.3.name in
    let on : same_name (first_two got.0) q ≡ true = subst (λ n. same_name n q ≡ true) (λ i. (name.digest i, name.ord i)) (sym c.is_of.ensures ∙ c.if-is_of.true) in
    let it : HasBlock rows packs places shown q c.in_ok-row.row.now = record { its = got.0; is = got.3; bytes = block_found shown at got.0 q got.1 got.2 on named } in
    it
