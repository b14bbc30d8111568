use Rattle.std.proofs.Common.{◌≡◌, ◌∙◌, ◌++◌, ◌∷◌, List, ℕ, Option, length, subst, sym, ap, take_all, arith, unwrap_or, []}
use Rattle.std.proofs.lemmas.Option.{IfSome_then}
use Rattle.sqlite_disk.specs.Disk.{Holds}
use Rattle.sqlite_disk.specs.Events.{replay, settled}
use Rattle.sqlite_disk.proofs.EventLemmas.{Holds-overlaid}
use Rattle.bh_shelf.specs.Contents.{Contents}
use base.Fml.{Lft}
use contract.BorrowLft.{◌⊑◌, ⊑_meet, ⊑_static}
use Rattle.bh_pack_files.specs.Note.{brought}
use Rattle.bh_pack_shelf.proofs.copying.linked.Goals as goal

both : {k x y : Lft} → k ⊑ x → k ⊑ y → k ⊑ x ++ y
both {k = k} {x = x} {y = y} = ⊑_meet k x y

-- what the shelf borrows lives as long as its files and its folder do
pub link_pack-requires : goal.link_pack-requires
link_pack-requires g c κs within =
    let k = κs.1.1.1.1.1.0 in
    let e : k ⊑ [] = ⊑_static k in
    let d : k ⊑ g.row.D.lives ++ [] = both within.1.0 e in
    let f : k ⊑ g.row.F.lives ++ [] = both within.1.1 e in
    let two : k ⊑ (g.row.D.lives ++ []) ++ (g.row.D.lives ++ []) = both d d in
    let one : k ⊑ (g.row.D.lives ++ []) ++ [] = both d e in
    (within.0, both (both within.1.0 f) (both (both d (both (both (both (both (both two e) (both (both two e) e)) e) e) (both (both d (both one e)) e))) f))

-- a file has the bytes that were brought to it
held : (start value bytes : List ℕ) → value ≡ bytes → Holds (replay start (brought value (settled 0 ∷ []))).seen 0 bytes
held start value bytes same =
    subst (λ (it : List ℕ). Holds (replay start (brought it (settled 0 ∷ []))).seen 0 bytes) (sym same)
    (rw (take_all (length bytes) bytes (omega arith)) (Holds-overlaid start 0 bytes))

pub returns-clause-linked : goal.returns-clause-linked
returns-clause-linked g c =
    IfSome_then c.in_ok-link_pack.field-0 c.in_ok-link_pack.ensures.shared
    (λ file told clean bytes has.
    let kept = ap (λ (it : Contents). it c.args.pack 0 c.args.mark) (c.in_ok-peek.ensures.kept clean) ∙ has in
    rw told.1 (held (g.H.Held.held file.pack) _ bytes (ap (λ (it : Option (List ℕ)). unwrap_or it []) kept)))
