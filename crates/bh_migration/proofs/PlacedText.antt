-- The text that reads a row of places: where it shows none, there is none, whatever rows there are.
use Rattle.std.proofs.Common.{arith, ◌≡◌, ℕ, codes, true, take, subst, List, [], ◌∷◌, map, flat_map, length, pos, Ok, Err, Result, IfOk, IfErr, refl, sym, ap, ◌∙◌}
use Rattle.std.specs.List.Sorted.{IsPermutation}
use Rattle.std.proofs.lemmas.List.Sorted.{length_permutation}
use Rattle.sqlite.specs.Listing.{understood}
use Rattle.sqlite.specs.Order.{Row}
use Rattle.sqlite.specs.Tree.{Trees}
use Rattle.sqlite.specs.declared.types.Value.TheVariants.{Null, Int}
use Rattle.sqlite.specs.Term.{Term, lit, col}
use Rattle.sqlite.specs.Query.{Query, IsAnswer, Output, output, inner, end, matches}
use Rattle.sqlite.specs.Program.{overlay}
use Rattle.sqlite.specs.State.{State, HasCleanDisk, Survives, CommitsShowing, Shown, FailsToQuery}
use Rattle.sqlite.specs.declared.error.Error.{Error}
use Rattle.sqlite.proofs.Callers.{reads_as}
use Rattle.sqlite_tied.specs.Compute.{everything}
use Rattle.sqlite_typing.specs.Types.{accepts_program}
use Rattle.bh_rows.specs.Means.{Means, Asks}
use Rattle.bh_rows.specs.Scan.{scan, by_rowid}
use Rattle.bh_rows.proofs.ScanLemmas.{selects, scan_asks}
use Rattle.bh_rows.proofs.CallLemmas.{clean_before, shown_open}
use Rattle.bh_tables.specs.Schema.{host_schema}
use Rattle.bh_base.specs.Layer.{standing, IsStateClean, IsIntact, IsOpen}

abbrev pub placed_text : List ℕ
placed_text = codes "SELECT pack FROM placed ORDER BY rowid LIMIT 1"

abbrev one_row : Term
one_row = lit (Int (pos 1))

abbrev shows : List Term
shows = col 1 3 ∷ []

abbrev asked : Query
asked = scan 34 [] shows by_rowid one_row

placed_means : Means host_schema placed_text (selects 34 [] shows by_rowid one_row (codes "pack" ∷ [])) 0
unfolding understood everything
placed_means = record { is = refl; plain = (refl, refl); unlisted = refl; whole = refl; given = refl }

accepted : accepts_program host_schema [] asked [] ≡ true
unfolding everything
accepted = refl

-- ---- what it answers

none_of : {X Y : Type 0} (f : X → Y) (xs : List X) → map f xs ≡ [] → xs ≡ []
none_of f [] is = refl
none_of f (x ∷ xs) is = absurd (cc)

none_first : {X Y : Type 0} (f : X → Y) (xs : List X) → [] ≡ take 1 (map f xs) → xs ≡ []
none_first f [] is = refl
none_first f (x ∷ xs) is = absurd (cc)

none_left : {X : Type 0} (xs ys : List X) → IsPermutation xs ys → ys ≡ [] → xs ≡ []
none_left [] ys same none = refl
none_left (x ∷ xs) ys same none = absurd (let long = length_permutation (x ∷ xs) ys same in let few = ap length none in omega (arith, long, few))

-- each row of the table is a match
none_matched : (db : Trees) → matches db [] (inner 34 end) ([] ∷ []) ≡ [] → db 34 ≡ []
none_matched db none = go (db 34) none
  where
    go : (rows : List Row) → flat_map (λ (r : Row). ([] ∷ r ∷ []) ∷ []) rows ≡ [] → rows ≡ []
    go [] is = refl
    go (r ∷ rows) is = absurd (cc)

none_answered : (db : Trees) → IsAnswer asked db [] [] → db 34 ≡ []
none_answered db answer =
    let ordered = none_first (λ (o : Output). o.1) answer.ordered answer.shown in
    let kept = none_left answer.kept answer.ordered answer.same ordered in
    let staged = none_of (output asked) answer.staged (sym answer.distinct ∙ kept) in
    none_matched db (sym answer.grouped ∙ staged)

module _ {X : Type 0} (old new : State) (schema : IsStateClean old → (standing old).now.schema ≡ host_schema) (rows_in : X → List Row) (result : Result X Error)
    (ok : HasCleanDisk new → IfOk result (λ x. Shown placed_text [] old new (rows_in x))) (survives : Survives old new (CommitsShowing placed_text [] old)) where
  pub placed_asks : (HasCleanDisk new → IfErr result (FailsToQuery placed_text [] old new)) → Asks old new result
  unfolding standing IsIntact IsOpen
  placed_asks err =
      scan_asks placed_text host_schema 34 [] shows by_rowid one_row (codes "pack" ∷ []) 0 placed_means [] old new (λ clean up. schema (record { intact = clean; is_open = up })) refl accepted rows_in result ok err survives

  pub placed_none : IfOk result (λ x. IsStateClean new → rows_in x ≡ [] → (standing old).now.trees 34 ≡ [])
  unfolding standing IsIntact IsOpen
  placed_none = go result ok
    where
      go : (r : Result X Error) → (HasCleanDisk new → IfOk r (λ x. Shown placed_text [] old new (rows_in x))) → IfOk r (λ x. IsStateClean new → rows_in x ≡ [] → old.now.trees 34 ≡ [])
      go (Err e) h = tt
      go (Ok x) h = λ clean none.
          let shown = h clean.intact in
          let was = schema (record { intact = clean_before old new _ survives clean.intact; is_open = shown_open placed_text [] old new _ shown }) in
          let read = reads_as placed_text [] old new host_schema was _ placed_means.is placed_means.plain placed_means.unlisted (rows_in x) shown in
          none_answered (overlay old.now.trees []) (subst (IsAnswer asked (overlay old.now.trees []) []) none (read.answer Null))
