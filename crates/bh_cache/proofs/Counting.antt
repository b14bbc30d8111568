-- How many bytes are kept, once a block is put, used or let go.
use Rattle.std.proofs.Common.{◌≡◌, ◌≤◌, ◌<◌, ℕ, zero, suc, ◌+◌, ◌-◌, Bool, true, false, true≢false, List, [], ◌∷◌, map, cond, length, take, slice_get, is_some, Option, Some, None, refl, sym, ap, ◌∙◌, arith}
use Rattle.std.specs.Option.{option_map_or}
use Rattle.std.specs.Map.{lookup, lookup_entry, remove_entry}
use Rattle.lru.specs.LruCache.{LruCache, promoted, put_entries, last_entry}
use Rattle.bh_tables.specs.Schema.{Octets}
use Rattle.bh_tables.specs.Shown.{Name}
use Rattle.bh_cache.specs.Kept.{bytes_in}

none_long : {X : Type 0} (xs : List X) → length xs ≡ 0 → xs ≡ []
none_long [] e = refl
none_long (x ∷ xs) e = absurd (omega (arith, e))

pub take_all : {X : Type 0} (n : ℕ) (xs : List X) → length xs ≤ n → take n xs ≡ xs
take_all zero xs few = sym (none_long xs (omega (arith, few)))
take_all (suc n) [] few = refl
take_all (suc n) (x ∷ xs) few = ap (λ l. x ∷ l) (take_all n xs (omega (arith, few)))

module _ {K V : Type 0} (name : K → Name) (bytes : V → Octets) where
  abbrev shows : K × V → Name × Octets
  shows e = (name e.0, bytes e.1)

  abbrev pub total : List (K × V) → ℕ
  total es = bytes_in (map shows es)

  abbrev size_of : Option V → ℕ
  size_of o = option_map_or (λ v. length (bytes v)) o 0

  abbrev size_in : Option (K × V) → ℕ
  size_in o = option_map_or (λ e. length (bytes e.1)) o 0

  module _ (test : K → Bool) where
    without : (es : List (K × V)) → total es ≡ size_of (lookup test es) + total (remove_entry test es)
    without [] = refl
    without (e ∷ es) = elim (test e.0) as (λ b. total (e ∷ es) ≡ size_of (cond b (Some e.1) (lookup test es)) + total (cond b es (e ∷ remove_entry test es))) [
      | true ↦ refl
      | false ↦ let later = without es in omega (arith, later)
    ]

    -- a block that was found is taken out
    pub taken_out : (es : List (K × V)) (o : Option V) → o ≡ lookup test es → total es ≡ size_of o + total (remove_entry test es)
    taken_out es o is = without es ∙ ap (λ p. size_of p + total (remove_entry test es)) (sym is)

    without_entry : (es : List (K × V)) → total es ≡ size_in (lookup_entry test es) + total (remove_entry test es)
    without_entry [] = refl
    without_entry (e ∷ es) = elim (test e.0) as (λ b. total (e ∷ es) ≡ size_in (cond b (Some e) (lookup_entry test es)) + total (cond b es (e ∷ remove_entry test es))) [
      | true ↦ refl
      | false ↦ let later = without_entry es in omega (arith, later)
    ]

    at_front : (es : List (K × V)) (o : Option (K × V)) → total es ≡ size_in o + total (remove_entry test es) → total (option_map_or (λ e. e ∷ remove_entry test es) o es) ≡ total es
    at_front es None e = refl
    at_front es (Some f) e = sym e

    pub used : (es : List (K × V)) → total (promoted test es) ≡ total es
    used es = at_front es (lookup_entry test es) (without_entry es)

    entry_absent : (es : List (K × V)) → is_some (lookup test es) ≡ false → lookup_entry test es ≡ None
    entry_absent [] e = refl
    entry_absent (f ∷ es) e = (elim (test f.0) as (λ b. is_some (cond b (Some f.1) (lookup test es)) ≡ false → cond b (Some f) (lookup_entry test es) ≡ None) [
      | true ↦ λ no. absurd (true≢false no)
      | false ↦ entry_absent es
    ]) e

  up_to : (es : List (K × V)) (n : ℕ) → length es ≡ suc n → total es ≡ size_in (slice_get es n) + total (take n es)
  up_to [] n e = absurd (omega (arith, e))
  up_to (f ∷ es) zero e = ap (λ l. total (f ∷ l)) (none_long es (omega (arith, e)))
  up_to (f ∷ es) (suc n) e = let later = up_to es n (omega (arith, e)) in omega (arith, later)

  without_last : (es : List (K × V)) → total es ≡ size_in (last_entry es) + total (take (length es - 1) es)
  without_last [] = refl
  without_last (f ∷ es) = up_to (f ∷ es) (length (f ∷ es) - 1) (omega arith)

  -- the last is taken out
  pub last_out : (es : List (K × V)) (o : Option (K × V)) → o ≡ last_entry es → total es ≡ size_in o + total (take (length es - 1) es)
  last_out es o is = without_last es ∙ ap (λ p. size_in p + total (take (length es - 1) es)) (sym is)

  -- one more is put
  pub put_total : (eq : K → K → Bool) (c : LruCache K V) (k : K) (v : V) → is_some (lookup (eq k) c.entries) ≡ false → length c.entries < c.cap → total (put_entries eq c k v) ≡ length (bytes v) + total c.entries
  put_total eq c k v absent few =
      let new : K × V = (k, v) in
      ap (λ o. total (option_map_or (λ e. (e.0, v) ∷ remove_entry (eq k) c.entries) o (new ∷ take (c.cap - 1) c.entries))) (entry_absent (eq k) c.entries absent)
      ∙ ap (λ l. total (new ∷ l)) (take_all (c.cap - 1) c.entries (omega (arith, few)))
