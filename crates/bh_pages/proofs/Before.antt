-- Texts of which one is before another.
use Rattle.std.proofs.Common.{◌≡◌, true, false, true≢false, refl, sym, ap, ◌∙◌, Ordering, Less, Equal, Greater}
use Rattle.std.specs.Ordering.{is_lt, is_le, is_eq, is_gt, ordering_then, ordering_reverse}
use Rattle.std.proofs.lemmas.Cmp.{nat_list_cmp_total, upto}
use Rattle.bh_model.specs.State.{Octets, octets_cmp}
use Rattle.bh_model.specs.Pages.{is_upto, is_before, same}
use Rattle.bh_pages.specs.Gathered.{past_key}
use Rattle.bh_pages.proofs.Bytes.{from_past_key, past_key_above}

pub less_not_more : (o : Ordering) → is_lt o ≡ true → is_gt o ≡ false
less_not_more Less h = refl
less_not_more Equal h = refl
less_not_more Greater h = absurd (true≢false (sym h))

pub less_not_equal : (o : Ordering) → is_lt o ≡ true → is_eq o ≡ false
less_not_equal Less h = refl
less_not_equal Equal h = absurd (true≢false (sym h))
less_not_equal Greater h = refl

pub turned_more : (o : Ordering) → is_lt o ≡ true → is_gt (ordering_reverse o) ≡ true
turned_more Less h = refl
turned_more Equal h = absurd (true≢false (sym h))
turned_more Greater h = absurd (true≢false (sym h))

pub key_first : (a b : Ordering) → is_lt (ordering_then a b) ≡ true → is_le a ≡ true
key_first Less b h = refl
key_first Equal b h = refl
key_first Greater b h = absurd (true≢false (sym h))

turned_eq : (o : Ordering) → is_lt o ≡ true → is_eq (ordering_reverse o) ≡ false
turned_eq Less h = refl
turned_eq Equal h = absurd (true≢false (sym h))
turned_eq Greater h = absurd (true≢false (sym h))

pub less_not_same : (a b : Octets) → is_before a b ≡ true → same b a ≡ false
less_not_same a b h = ap is_eq (nat_list_cmp_total.antisymm b a) ∙ turned_eq (octets_cmp a b) h

-- what is before the next text on is before it
pub before_upto : (a b c : Octets) → is_before a b ≡ true → is_upto b c ≡ true → is_before a c ≡ true
before_upto a b c h k = go (octets_cmp a c) refl
  where
    not_more : (o : Ordering) → is_le o ≡ true → is_gt o ≡ false
    not_more Less h = refl
    not_more Equal h = refl
    not_more Greater h = absurd (true≢false (sym h))

    back : is_gt (octets_cmp c a) ≡ false → ⊥
    back e = true≢false (sym (ap is_gt (nat_list_cmp_total.antisymm b a) ∙ turned_more (octets_cmp a b) h) ∙ upto nat_list_cmp_total b c a (not_more _ k) e)

    go : (o : Ordering) → octets_cmp a c ≡ o → is_before a c ≡ true
    go Less e = ap is_lt e
    go Equal e = absurd (back (ap is_gt (nat_list_cmp_total.antisymm c a ∙ ap ordering_reverse e)))
    go Greater e = absurd (back (ap is_gt (nat_list_cmp_total.antisymm c a ∙ ap ordering_reverse e)))

-- past a key stands what is greater
pub past_is_after : (k y : Octets) → is_upto (past_key k) y ≡ is_before k y
past_is_after k y = go (octets_cmp k y) refl
  where
    go : (o : Ordering) → octets_cmp k y ≡ o → is_upto (past_key k) y ≡ is_before k y
    go Less e = from_past_key k y (ap is_le e) (ap is_eq e) ∙ sym (ap is_lt e)
    go Equal e = past_key_above k y (ap is_le (nat_list_cmp_total.antisymm y k ∙ ap ordering_reverse e)) ∙ sym (ap is_lt e)
    go Greater e = past_key_above k y (ap is_le (nat_list_cmp_total.antisymm y k ∙ ap ordering_reverse e)) ∙ sym (ap is_lt e)
