-- The files of packs in the order of their rows: one more, and one less.
use Rattle.std.proofs.Common.{◌≡◌, ℕ, ◌+◌, List, [], ◌∷◌, ◌++◌, length, get_or, inl, inr, refl, sym, ◌∙◌, ap, subst, arith}
use Rattle.std.proofs.lemmas.Bool.{cases_lt}
use Rattle.std.proofs.lemmas.List.{get_or_append_left, get_or_push, length_push}
use Rattle.bh_pack_files.specs.Files.{IsFresh}
use Rattle.bh_pack_files.specs.declared.file.Held.{Ghosts}
use Rattle.bh_pack_files.specs.declared.file.PackFile.{PackFile}
use Rattle.bh_pack_shelf.specs.Opened.{AreFilesTo}
use Rattle.bh_pack_shelf.specs.Rows.{row_at}
use Rattle.bh_shelf.specs.declared.closed.Listed.{Listed}

module _ {S : Type 0} {g : Ghosts S} where
  pub no_files : (rows : List Listed) → AreFilesTo {S = S} {g = g} 0 [] rows
  no_files rows = record { count = refl; each = λ i d low. absurd (omega (arith, low)) }

  pub files_more : (n : ℕ) (files : List (PackFile S g)) (rows : List Listed) (file : PackFile S g) → AreFilesTo n files rows
      → IsFresh file (row_at rows n).pack → AreFilesTo (n + 1) (files ++ file ∷ []) rows
  files_more n files rows file before fresh = record {
    count = omega (arith, length_push files file, before.count);
    each = λ i d low. elim (cases_lt i n) [
      | inl earlier ↦
          let P : PackFile S g → Type 0 = λ f. IsFresh f (row_at rows i).pack in
          subst P (sym (get_or_append_left files (file ∷ []) d i (omega (arith, earlier, before.count)))) (before.each i d earlier)
      | inr here ↦
          let same : n ≡ i = omega (arith, here, low) in
          let P : PackFile S g → Type 0 = λ f. IsFresh f (row_at rows i).pack in
          let Q : ℕ → Type 0 = λ k. IsFresh file (row_at rows k).pack in
          subst P (sym (get_or_push files file d i (omega (arith, before.count, same)))) (subst Q same fresh)
    ];
  }

  module _ (n : ℕ) (files all : List (PackFile S g)) (rows : List Listed) (file : PackFile S g) (before : AreFilesTo n all rows)
      (is : all ≡ files ++ file ∷ []) where
    pub files_less : AreFilesTo (length files) files rows
    files_less = record {
      count = refl;
      each = λ i d low.
          let P : PackFile S g → Type 0 = λ f. IsFresh f (row_at rows i).pack in
          subst P (ap (λ (l : List (PackFile S g)). get_or l i d) is ∙ get_or_append_left files (file ∷ []) d i low)
          (before.each i d (omega (arith, low, before.count, ap length is, length_push files file)));
    }

    pub file_last : IsFresh file (row_at rows (length files)).pack
    file_last =
        let last = length files in
        let P : PackFile S g → Type 0 = λ f. IsFresh f (row_at rows last).pack in
        subst P (ap (λ (l : List (PackFile S g)). get_or l last file) is ∙ get_or_push files file file last refl)
        (before.each last file (omega (arith, before.count, ap length is, length_push files file)))
