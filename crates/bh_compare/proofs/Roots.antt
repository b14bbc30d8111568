-- Two lists of places whose expressions are the same have the same expression at each index.
use Rattle.std.proofs.Common.{◌≡◌, ◌<◌, ◌∙◌, ℕ, List, length, sym, ap, get_or}
use Rattle.std.proofs.lemmas.List.{get_or-map}
use Rattle.sqlite_sql.specs.Term.{Term}
use Rattle.sqlite_schema.specs.declared.code.Op.{Op}
use Rattle.sqlite_schema.specs.Code.{term_in, terms_in}

pub same_at : (left right : List Op) (xs ys : List ℕ) (i : ℕ) → i < length xs → i < length ys → terms_in left xs ≡ terms_in right ys → term_in left (get_or xs i 0) ≡ term_in right (get_or ys i 0)
same_at left right xs ys i lx ly same =
    let d = term_in left 0 in
    sym (get_or-map (term_in left) xs i 0 d lx) ∙ ap (λ (l : List Term). get_or l i d) same ∙ get_or-map (term_in right) ys i 0 d ly
