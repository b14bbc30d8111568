-- What becomes of marks when the ends of one pack change.
use Rattle.std.proofs.Common.{◌≡◌, ◌≢◌, ℕ, ◌+◌, ◌<◌, ◌≤◌, length, inl, inr, sym, subst, ◌∙◌, ap, arith}
use Rattle.std.proofs.lemmas.Bool.{cases_eq, cases_lt}
use Rattle.std.proofs.lemmas.List.{get_or_past}
use Rattle.bh_shelf.specs.declared.marks.Ends.{Ends}
use Rattle.bh_shelf.specs.declared.marks.Marks.{Marks}
use Rattle.bh_shelf.specs.Marks.{no_ends, ends_of}

-- what holds of one number and of each other holds of all
pub one_and_others : (P : ℕ → Type 0) (one : ℕ) → P one → ((n : ℕ) → n ≢ one → P n) → (n : ℕ) → P n
one_and_others P one here others n = elim (cases_eq n one) [ inl same ↦ subst P (sym same) here | inr other ↦ others n other ]

-- a pack past the last mark has none
pub ends_past : (marks : Marks) (n : ℕ) → length marks.ends.items ≤ n → ends_of marks n ≡ no_ends
ends_past marks n past = get_or_past marks.ends.items n no_ends past

-- the ends of each pack below a number changed so
pub record ChangedBelow (by : Ends → Ends) (number : ℕ) (old new : Marks) : Type 0 where
  pub below : (n : ℕ) → n < number → ends_of new n ≡ by (ends_of old n)
  pub rest : (n : ℕ) → number ≤ n → ends_of new n ≡ ends_of old n

-- one more of them
pub changed_more : (by : Ends → Ends) (number : ℕ) (a b c : Marks) → ChangedBelow by number a b → ends_of c number ≡ by (ends_of b number)
    → ((n : ℕ) → n ≢ number → ends_of c n ≡ ends_of b n) → ChangedBelow by (number + 1) a c
changed_more by number a b c before here others = record {
  below = λ n low. elim (cases_eq n number) [
    | inl same ↦
        let P : ℕ → Type 0 = λ m. ends_of c m ≡ by (ends_of a m) in
        subst P (sym same) (here ∙ ap by (before.rest number (omega arith)))
    | inr other ↦ others n other ∙ before.below n (omega (arith, low, other))
  ];
  rest = λ n high. let other : n ≢ number = λ same. omega (arith, high, same) in others n other ∙ before.rest n (omega (arith, high));
}

-- all of them
pub changed_all : (by : Ends → Ends) (number : ℕ) (a b : Marks) → by no_ends ≡ no_ends → length a.ends.items ≤ number → ChangedBelow by number a b
    → (n : ℕ) → ends_of b n ≡ by (ends_of a n)
changed_all by number a b none whole changed n = elim (cases_lt n number) [
  | inl low ↦ changed.below n low
  | inr high ↦
      let past = ends_past a n (omega (arith, whole, high)) in
      changed.rest n high ∙ past ∙ sym (ap by past ∙ none)
]
