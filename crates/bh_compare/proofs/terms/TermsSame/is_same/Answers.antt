use Rattle.std.proofs.Common.{sym, ◌∙◌}
use Rattle.bh_compare.proofs.terms.TermsSame.is_same.Goals as goal

pub returns : goal.returns
returns c =
    let h = rw (c.as_slice.ensures, c.as_slice-2.ensures, c.as_slice-3.ensures, c.as_slice-4.ensures) at c.same_terms.ensures in
    (λ same. sym c.self.view_is ∙ h.0 same ∙ c.other.view_is, λ same. h.1 (c.self.view_is ∙ same ∙ sym c.other.view_is))
