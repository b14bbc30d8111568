-- A block that gets another place: what is shown of it, and what the places are.
use Rattle.std.proofs.Common.{◌≡◌, inl, inr, ℕ, suc, ◌+◌, arith, Bool, true, false, true≢false, cond, List, [], ◌∷◌, Option, Some, None, refl, sym, ap, ap₂, subst, ◌∙◌}
use Rattle.sqlite.specs.Effect.{Database}
use Rattle.sqlite_keyed.specs.Lists.{update_where}
use Rattle.sqlite_rules.specs.Lists.{Has}
use Rattle.sqlite_rules.proofs.ProbeLemmas.{has_mapped}
use Rattle.bh_shelf.specs.Contents.{Contents}
use Rattle.bh_tables.specs.Bodies.{block_name}
use Rattle.bh_tables.specs.Packs.{place_at}
use Rattle.bh_tables.specs.Rows.{BlockRow, PlaceRow, PackRow}
use Rattle.bh_tables.specs.Schema.{Octets}
use Rattle.bh_tables.specs.Shown.{Name, is_block}
use Rattle.bh_tables.specs.Typed.{Tables, tables_in, rebodied}
use Rattle.bh_tables.proofs.ResolvedLemmas.{rebodied_twice, own_bodies}
use Rattle.bh_tables.proofs.TotalLemmas.{name_Decides}
use Rattle.bh_base.specs.Placed.{below, with_bytes, with_place, filled_block}
use Rattle.bh_base.proofs.Filling.{IsHad, name_kept}
use Rattle.bh_base.proofs.Placing.{below_has}
use Rattle.bh_base.proofs.Refilling.{Fills}
use Rattle.bh_compaction.specs.Moves.{MovesPlace, Moves}

-- ---- the bytes of a block

had_place : (c : Contents) (o : Option PlaceRow) (b : BlockRow) (p : PlaceRow) → o ≡ Some p → IsHad c o b → c p.pack p.offset p.size ≡ Some (with_place c o b).bytes
had_place c None b p is had = absurd (cc)
had_place c (Some q) b p is had =
    let same : q ≡ p = cc in
    subst (λ (r : PlaceRow). c r.pack r.offset r.size ≡ Some (with_place c (Some q) b).bytes) same (had.there ∙ ap (λ (y : BlockRow). Some y.bytes) (sym (ap (λ o. with_bytes o b) had.there)))

-- what packs have at a block's place are the bytes that are shown of it
pub shown_there : {n : Contents} {ks : List PackRow} {ps : List PlaceRow} {bs shown : List BlockRow} → Fills n ks ps bs shown → (q : Name) (p : PlaceRow) → place_at ps q ≡ Some p
    → (b : BlockRow) → Has shown b → is_block q b ≡ true → n p.pack p.offset p.size ≡ Some b.bytes
shown_there {n} {ks} {ps} {bs} f q p at b has its =
    let c = below ks n in
    let it = has_mapped (filled_block c ps) bs b (subst (λ l. Has l b) (sym f.is) has) in
    let x : BlockRow = it.0 in
    let named : block_name x ≡ q = sym (name_kept c (place_at ps (block_name x)) x) ∙ ap block_name (sym it.2) ∙ (name_Decides (block_name b) q).0 its in
    let there = had_place c (place_at ps (block_name x)) x p (ap (place_at ps) named ∙ at) (f.had x it.1) in
    (below_has ks n p.pack p.offset p.size (filled_block c ps x).bytes there).0 ∙ ap (λ (y : BlockRow). Some y.bytes) (sym it.2)

-- ---- it loses them, and has them again

-- it has none then
pub emptied : (q : Name) (bs : List BlockRow) (b : BlockRow) → Has (update_where (is_block q) (λ x. record x { bytes = [] }) bs) b → is_block q b ≡ true → b.bytes ≡ []
emptied q [] b has its = absurd has
emptied q (x ∷ xs) b (inr has) its = emptied q xs b has its
emptied q (x ∷ xs) b (inl is) its = go (is_block q x) refl is
  where
    go : (t : Bool) → is_block q x ≡ t → b ≡ cond t (record x { bytes = [] }) x → b.bytes ≡ []
    go true on same = ap (λ (y : BlockRow). y.bytes) same
    go false off same = absurd (true≢false (sym its ∙ ap (is_block q) same ∙ off))

set_again : (q : Name) (bytes : Octets) (bs : List BlockRow) → ((b : BlockRow) → Has bs b → is_block q b ≡ true → b.bytes ≡ bytes)
    → update_where (is_block q) (λ b. record b { bytes = bytes }) (update_where (is_block q) (λ b. record b { bytes = [] }) bs) ≡ bs
set_again q bytes [] had = refl
set_again q bytes (b ∷ bs) had = ap₂ ◌∷◌ (go (is_block q b) refl) (set_again q bytes bs (λ x has. had x (inr has)))
  where
    set : BlockRow → BlockRow
    set x = cond (is_block q x) (record x { bytes = bytes }) x

    go : (t : Bool) → is_block q b ≡ t → set (cond (is_block q b) (record b { bytes = [] }) b) ≡ b
    go true on = ap (λ t. set (cond t (record b { bytes = [] }) b)) on ∙ ap (λ t. cond t (record b { bytes = bytes }) (record b { bytes = [] })) on ∙ ap (λ l. record b { bytes = l }) (sym (had b (inl refl) on))
    go false off = ap (λ t. set (cond t (record b { bytes = [] }) b)) off ∙ ap (λ t. cond t (record b { bytes = bytes }) b) off

-- all tables are as they were
pub moved_law : (db : Database) (q : Name) (bytes : Octets) → ((b : BlockRow) → Has (tables_in db).blocks b → is_block q b ≡ true → b.bytes ≡ bytes)
    → rebodied (rebodied (tables_in db) (tables_in db).refs (update_where (is_block q) (λ b. record b { bytes = [] }) (tables_in db).blocks)) (tables_in db).refs
    (update_where (is_block q) (λ b. record b { bytes = bytes }) (update_where (is_block q) (λ b. record b { bytes = [] }) (tables_in db).blocks))
    ≡ tables_in db
moved_law db q bytes had =
    let t : Tables = tables_in db in
    rebodied_twice t t.refs t.refs _ _ ∙ ap (rebodied t t.refs) (set_again q bytes t.blocks had) ∙ own_bodies db

-- ---- one place more

plus : (n : ℕ) → n + 1 ≡ suc n
plus n = omega arith

pub moves_more : (pack n : ℕ) (old mid new : List PlaceRow) → Moves pack n old mid → MovesPlace pack mid new → Moves pack (n + 1) old new
unfolding Moves
moves_more pack n old mid new so more = subst (λ m. Moves pack m old new) (sym (plus n)) (mid, so, more)

pub moves_none : (pack : ℕ) (old : List PlaceRow) → Moves pack 0 old old
unfolding Moves
moves_none pack old = refl
