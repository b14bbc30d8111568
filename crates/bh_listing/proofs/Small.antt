-- What sound tables say of the rows of a listing: keys of UTF-8 have no byte of 255, sizes are lengths, and no key stands
-- twice in a bucket's map.
use Rattle.std.proofs.Common.{◌≡◌, ℕ, ◌+◌, ◌<◌, Bool, true, false, true≢false, cond, ◌&&◌, nat_lt, nat_le, List, [], ◌∷◌, ◌++◌, ◌/◌, ◌%◌, Some, refl, sym, subst, arith, T, Ordering, Less, Equal, Greater}
use Rattle.std.proofs.lemmas.Bool.Decides.{nat_tests}
use Rattle.std.specs.List.{AllByRecursion}
use Rattle.std.specs.Char.{encode_utf8, IsScalar}
use Rattle.std.specs.Str.{IsUtf8, encode_utf8_all, all_scalars}
use Rattle.std.specs.FinMap.{FinMap, entries, entries_sorted}
use Rattle.std.specs.FinMap.Entries.{is_sorted, below_all}
use Rattle.std.specs.Ordering.{is_lt, is_eq}
use Rattle.sqlite_typed.specs.Tests.{bytes_eq}
use Rattle.bh_model.specs.State.{Octets, octets_cmp, Entry}
use Rattle.bh_model.specs.Pages.{is_name}
use Rattle.bh_tables.specs.Typed.{VersionRow, Tables}
use Rattle.bh_view.specs.Grouped.{matching}
use Rattle.bh_view.specs.Sound.{IsSound}
use Rattle.bh_view.specs.View.{rows_of}
use Rattle.bh_view.proofs.Keys.{text_Decides}
use Rattle.bh_pages.proofs.Keyed.{AreOthers, AreApart}
use Rattle.bh_listing.specs.Rows.{AreSmallKeys}
use Rattle.bh_listing.proofs.ListLemmas.{both2}

-- ---- UTF-8

abbrev AreSmall : List ℕ → Type 0
AreSmall = AllByRecursion (λ b. b < 255)

small_append : (bs cs : List ℕ) → AreSmall bs → AreSmall cs → AreSmall (bs ++ cs)
small_append [] cs one two = two
small_append (b ∷ bs) cs one two = (one.0, small_append bs cs one.1 two)

low : (a b : ℕ) → nat_lt a b ≡ true → a < b
low a b h = grind (arith, nat_tests, h)

later : (n : ℕ) → 128 + n % 64 < 255
later n = omega arith

small_char : (c : ℕ) → c < 1114112 → AreSmall (encode_utf8 c)
unfolding encode_utf8
small_char c top = one (nat_lt c 128) refl
  where
    four : AreSmall ((240 + c / 262144) ∷ (128 + c / 4096 % 64) ∷ (128 + c / 64 % 64) ∷ (128 + c % 64) ∷ [])
    four = (omega (arith, top), (later (c / 4096), (later (c / 64), (later c, tt))))

    three : (t : Bool) → nat_lt c 65536 ≡ t → AreSmall (cond t ((224 + c / 4096) ∷ (128 + c / 64 % 64) ∷ (128 + c % 64) ∷ []) ((240 + c / 262144) ∷ (128 + c / 4096 % 64) ∷ (128 + c / 64 % 64) ∷ (128 + c % 64) ∷ []))
    three true e = let h = low c 65536 e in (omega (arith, h), (later (c / 64), (later c, tt)))
    three false e = four

    two : (t : Bool) → nat_lt c 2048 ≡ t → AreSmall (cond t ((192 + c / 64) ∷ (128 + c % 64) ∷ []) (cond (nat_lt c 65536) ((224 + c / 4096) ∷ (128 + c / 64 % 64) ∷ (128 + c % 64) ∷ []) ((240 + c / 262144) ∷ (128 + c / 4096 % 64) ∷ (128 + c / 64 % 64) ∷ (128 + c % 64) ∷ [])))
    two true e = let h = low c 2048 e in (omega (arith, h), (later c, tt))
    two false e = three (nat_lt c 65536) refl

    one : (t : Bool) → nat_lt c 128 ≡ t → AreSmall (cond t (c ∷ []) (cond (nat_lt c 2048) ((192 + c / 64) ∷ (128 + c % 64) ∷ []) (cond (nat_lt c 65536) ((224 + c / 4096) ∷ (128 + c / 64 % 64) ∷ (128 + c % 64) ∷ []) ((240 + c / 262144) ∷ (128 + c / 4096 % 64) ∷ (128 + c / 64 % 64) ∷ (128 + c % 64) ∷ []))))
    one true e = let h = low c 128 e in (omega (arith, h), tt)
    one false e = two (nat_lt c 2048) refl

below : (c : ℕ) → IsScalar c → c < 1114112
below c s = go (nat_lt c 55296) (nat_le 57344 c) refl s
  where
    go : (t u : Bool) → nat_lt c 55296 ≡ t → cond t true (u && nat_lt c 1114112) ≡ true → c < 1114112
    go true u e h = let l = low c 55296 e in omega (arith, l)
    go false true e h = low c 1114112 h
    go false false e h = absurd (true≢false (sym h))

small_text : (cs : List ℕ) → all_scalars cs ≡ true → AreSmall (encode_utf8_all cs)
small_text [] h = tt
small_text (c ∷ cs) h = let both = both2 h in small_append (encode_utf8 c) (encode_utf8_all cs) (small_char c (below c both.0)) (small_text cs both.1)

pub small_utf8 : (bs : List ℕ) → IsUtf8 bs → AreSmall bs
small_utf8 bs text = subst AreSmall text.1.1 (small_text text.0 text.1.0)

-- ---- the rows of all tenants

module _ (P : VersionRow → Type 0) where
  of_tail : (t : Octets) (v : VersionRow) (l : List VersionRow) → AllByRecursion P (matching bytes_eq (λ (r : VersionRow). r.tenant) t (v ∷ l)) → AllByRecursion P (matching bytes_eq (λ (r : VersionRow). r.tenant) t l)
  of_tail t v l = go (bytes_eq v.tenant t)
    where
      go : (b : Bool) → AllByRecursion P (cond b (v ∷ matching bytes_eq (λ (r : VersionRow). r.tenant) t l) (matching bytes_eq (λ (r : VersionRow). r.tenant) t l)) → AllByRecursion P (matching bytes_eq (λ (r : VersionRow). r.tenant) t l)
      go true all = all.1
      go false all = all

  of_head : (v : VersionRow) (l : List VersionRow) → AllByRecursion P (matching bytes_eq (λ (r : VersionRow). r.tenant) v.tenant (v ∷ l)) → P v
  of_head v l = go (bytes_eq v.tenant v.tenant) ((text_Decides v.tenant v.tenant).1 refl)
    where
      go : (b : Bool) → b ≡ true → AllByRecursion P (cond b (v ∷ matching bytes_eq (λ (r : VersionRow). r.tenant) v.tenant l) (matching bytes_eq (λ (r : VersionRow). r.tenant) v.tenant l)) → P v
      go true is all = all.0
      go false is all = absurd (true≢false (sym is))

  of_tenants : (l : List VersionRow) → ((t : Octets) → AllByRecursion P (matching bytes_eq (λ (r : VersionRow). r.tenant) t l)) → AllByRecursion P l
  of_tenants [] each = tt
  of_tenants (v ∷ l) each = (of_head v l (each v.tenant), of_tenants l (λ t. of_tail t v l (each t)))

pub all_turned : {P Q : VersionRow → Type 0} → ((v : VersionRow) → P v → Q v) → (l : List VersionRow) → AllByRecursion P l → AllByRecursion Q l
all_turned f [] all = tt
all_turned f (v ∷ l) all = (f v all.0, all_turned f l all.1)

pub small_keys : (tables : Tables) → IsSound tables → AreSmallKeys tables.versions
small_keys tables sound = of_tenants (λ v. AreSmall v.okey) tables.versions (λ t. all_turned (λ v good. small_utf8 v.okey good.text) (rows_of t tables).versions (sound.tenants t).versions.each)

-- ---- a bucket's map

less_apart : (a b : Octets) → T (is_lt (octets_cmp a b)) → is_name b (Some a) ≡ false
less_apart a b h = go (octets_cmp a b) h
  where
    go : (o : Ordering) → T (is_lt o) → is_eq o ≡ false
    go Less h = refl
    go Equal h = absurd h
    go Greater h = absurd h

split : (a b : Bool) → T (a && b) → T a × T b
split true b h = (tt, h)
split false b h = absurd h

others : (k : Octets) (es : List (Octets × List Entry)) → T (below_all octets_cmp k es) → AreOthers (Some k) es
others k [] h = tt
others k (e ∷ es) h = let it = split (is_lt (octets_cmp k e.0)) (below_all octets_cmp k es) h in (less_apart k e.0 it.0, others k es it.1)

sorted_apart : (es : List (Octets × List Entry)) → T (is_sorted octets_cmp es) → AreApart es
sorted_apart [] h = tt
sorted_apart (e ∷ es) h = let it = split (below_all octets_cmp e.0 es) (is_sorted octets_cmp es) h in (others e.0 es it.0, sorted_apart es it.1)

pub entries_apart : (m : FinMap octets_cmp (List Entry)) → AreApart (entries m)
entries_apart m = sorted_apart (entries m) (entries_sorted m)
