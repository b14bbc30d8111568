-- What the router answers is the kind of the path.
use Rattle.std.proofs.Common.{arith, ◌≡◌, ◌⊎◌, inl, inr, ◌+◌, ◌-◌, ◌<◌, ◌==◌, ℕ, zero, suc, Bool, true, false, cond, List, [], ◌∷◌, ◌++◌, length, length-append, take, drop, Option, Some, None, option_map, refl, sym, ap, ap₂, ◌∙◌, eqb-true, nat_eq, subst, ◌&&◌, ltb, get_or, if◌then◌else◌}
use Rattle.std.proofs.Math.Seq.{drop-append_seam}
use Rattle.std.proofs.lemmas.Bool.{eq-eqb, ne_eqb, lt-ltb}
use Rattle.std.specs.Cmp.Lexicographic.{pointwise}
use Rattle.std.specs.List.{AllByRecursion, before_first, after_first, ends_with}
use Rattle.matchit.specs.Rows.{RowsOf}
use Rattle.matchit.specs.Router.{RouteOf}
use Rattle.matchit.specs.Seek.{seek, param_step, own, or_else, segment, has_slash, longest_suffix, cuts, first}
use Rattle.bh_operation.specs.Routes.{routes, object_route, slashed_route, bucket_route, host_route}
use Rattle.bh_operation.specs.Targets.{is_slash, kind_with, kind_in, kind_at}
use Rattle.bh_operation.specs.declared.target.Kind.{Kind}
use Rattle.bh_operation.specs.declared.target.Kind.TheVariants.{Host, Bucket, Object}

true_or_false : (b : Bool) → b ≡ true → b ≡ false → ⊥
true_or_false b is isnt = cc

-- ---- a path and its first slash

pub record IsWhole (p : List ℕ) : Type 0 where
  pub none : has_slash p ≡ false
  pub before : before_first is_slash p ≡ p
  pub after : after_first is_slash p ≡ []

pub record IsParted (p pre key : List ℕ) : Type 0 where
  pub is : p ≡ pre ++ 47 ∷ key
  pub none : has_slash pre ≡ false
  pub before : before_first is_slash p ≡ pre
  pub after : after_first is_slash p ≡ key

one_more : {X : Type 0} (n : ℕ) (x : X) (xs : List X) → take (1 + n) (x ∷ xs) ≡ x ∷ take n xs
one_more n x xs = ap (λ m. take m (x ∷ xs)) (let e : 1 + n ≡ suc n = omega arith in e)

one_less : {X : Type 0} (n : ℕ) (x : X) (xs : List X) → drop (1 + n + 1) (x ∷ xs) ≡ drop (n + 1) xs
one_less n x xs = ap (λ m. drop m (x ∷ xs)) (let e : 1 + n + 1 ≡ suc (n + 1) = omega arith in e)

split : (p : List ℕ) → IsWhole p ⊎ ((pre : List ℕ) × (key : List ℕ) × IsParted p pre key)
split [] = inl (record { none = refl; before = refl; after = refl })
split (x ∷ xs) = go (x == 47) refl (split xs)
  where
    go : (b : Bool) → (x == 47) ≡ b → IsWhole xs ⊎ ((pre : List ℕ) × (key : List ℕ) × IsParted xs pre key) → IsWhole (x ∷ xs) ⊎ ((pre : List ℕ) × (key : List ℕ) × IsParted (x ∷ xs) pre key)
    go true e rest = inr ([], xs, record { is = ap (λ y. y ∷ xs) (eqb-true x 47 e); none = refl; before = rw e refl; after = rw e refl })
    go false e (inl w) = inl (record { none = rw e w.none; before = rw e (one_more _ x xs ∙ ap (λ l. x ∷ l) w.before); after = rw e (one_less _ x xs ∙ w.after) })
    go false e (inr (pre, key, parted)) = inr (x ∷ pre, key, record { is = ap (λ l. x ∷ l) parted.is; none = rw e parted.none; before = rw e (one_more _ x xs ∙ ap (λ l. x ∷ l) parted.before); after = rw e (one_less _ x xs ∙ parted.after) })

whole_segment : (p : List ℕ) → has_slash p ≡ false → segment p ≡ p
whole_segment [] none = refl
whole_segment (x ∷ xs) none = go (x == 47) none (λ rest. whole_segment xs rest)
  where
    go : (b : Bool) → cond b true (has_slash xs) ≡ false → (has_slash xs ≡ false → segment xs ≡ xs) → cond b (x ∷ []) (x ∷ segment xs) ≡ x ∷ xs
    go true none rest = absurd (cc)
    go false none rest = ap (λ l. x ∷ l) (rest none)

parted_segment : (pre key : List ℕ) → has_slash pre ≡ false → segment (pre ++ 47 ∷ key) ≡ pre ++ 47 ∷ []
parted_segment [] key none = refl
parted_segment (x ∷ xs) key none = go (x == 47) none (λ rest. parted_segment xs key rest)
  where
    go : (b : Bool) → cond b true (has_slash xs) ≡ false → (has_slash xs ≡ false → segment (xs ++ 47 ∷ key) ≡ xs ++ 47 ∷ []) → cond b (x ∷ []) (x ∷ segment (xs ++ 47 ∷ key)) ≡ x ∷ (xs ++ 47 ∷ [])
    go true none rest = absurd (cc)
    go false none rest = ap (λ l. x ∷ l) (rest none)

-- ---- a walk

module _ {K : Type 0} where
  abbrev picked : Bool → ℕ → ℕ × RowsOf K
  picked c n = cond c (0, []) (n, [])

  none_picked : (c : Bool) (n : ℕ) → (picked c n).1 ≡ []
  none_picked true n = refl
  none_picked false n = refl

  none_left : (p : List ℕ) → (param_step {K = K} [] p).1 ≡ []
  unfolding param_step
  none_left p = none_picked (has_slash p) (length p)

  no_rows : (n : ℕ) (path : List ℕ) → seek {K = K} n [] path ≡ None
  unfolding seek
  no_rows n [] = refl
  no_rows (suc n) (b ∷ path) = no_rows n path
  no_rows zero (b ∷ path) = ap₂ or_else (no_rows 0 path) (ap₂ or_else (ap (λ rs. seek ((param_step {K = K} [] (b ∷ path)).0 - 1) rs path) (none_left (b ∷ path)) ∙ no_rows ((param_step {K = K} [] (b ∷ path)).0 - 1) path) refl)

  -- where no byte and no parameter goes on
  otherwise : (k : ℕ) (ks : List ℕ) (x : Option K) → or_else (seek 0 [] ks) (or_else (seek ((param_step {K = K} [] (k ∷ ks)).0 - 1) (param_step {K = K} [] (k ∷ ks)).1 ks) x) ≡ x
  otherwise k ks x = ap₂ or_else (no_rows 0 ks) (ap₂ or_else (ap (λ rs. seek ((param_step {K = K} [] (k ∷ ks)).0 - 1) rs ks) (none_left (k ∷ ks)) ∙ no_rows ((param_step {K = K} [] (k ∷ ks)).0 - 1) ks) refl)

  skip : (n : ℕ) (rs : RowsOf K) (pre rest : List ℕ) → length pre ≡ n → seek n rs (pre ++ rest) ≡ seek 0 rs rest
  unfolding seek
  skip zero rs [] rest e = refl
  skip (suc n) rs [] rest e = absurd (omega (arith, e))
  skip zero rs (b ∷ pre) rest e = absurd (omega (arith, e))
  skip (suc n) rs (b ∷ pre) rest e = skip n rs pre rest (omega (arith, e))

  past : (n : ℕ) (rs : RowsOf K) (p : List ℕ) → length p ≡ n → seek n rs p ≡ own rs
  unfolding seek
  past n rs [] e = refl
  past zero rs (b ∷ p) e = absurd (omega (arith, e))
  past (suc n) rs (b ∷ p) e = past n rs p (omega (arith, e))

  or_none : (x : Option K) → or_else x None ≡ x
  or_none None = refl
  or_none (Some k) = refl

other : (x k : ℕ) → k < x → (x == k) ≡ false
other x k less = ne_eqb x k (λ same. omega (arith, less, same))

module _ {K : Type 0} (o t b h : K) where
  abbrev after_host : RowsOf K
  after_host = (256 ∷ 47 ∷ 257 ∷ [], o) ∷ (256 ∷ 47 ∷ [], t) ∷ (256 ∷ [], b) ∷ ([], h) ∷ []

  abbrev after_bucket : RowsOf K
  after_bucket = (47 ∷ 257 ∷ [], o) ∷ (47 ∷ [], t) ∷ ([], b) ∷ []

  abbrev with_slash : RowsOf K
  with_slash = (47 ∷ 257 ∷ [], o) ∷ (47 ∷ [], t) ∷ []

  abbrev at_key : RowsOf K
  at_key = (257 ∷ [], o) ∷ ([], t) ∷ []

  abbrev key_answer : List ℕ → K
  key_answer [] = t
  key_answer (k ∷ ks) = o

  key_found : (key : List ℕ) → AllByRecursion (λ x. x < 256) key → seek 0 at_key key ≡ Some (key_answer key)
  unfolding seek
  key_found [] small = refl
  key_found (k ∷ ks) small =
      ap (λ c. or_else (seek 0 (cond c (([], o) ∷ []) []) ks) (or_else (seek ((param_step {K = K} [] (k ∷ ks)).0 - 1) (param_step {K = K} [] (k ∷ ks)).1 ks) (Some o))) (other 257 k (let low = small.0 in omega (arith, low)))
      ∙ otherwise k ks (Some o)

  slash_found : (key : List ℕ) → AllByRecursion (λ x. x < 256) key → seek 0 with_slash (47 ∷ key) ≡ Some (key_answer key)
  unfolding seek
  slash_found key small = ap (λ x. or_else x (or_else (seek ((param_step {K = K} [] (47 ∷ key)).0 - 1) (param_step {K = K} [] (47 ∷ key)).1 key) None)) (key_found key small)

  longest : (seg : List ℕ) (c : Bool) → cuts seg (47 ∷ []) ≡ c → longest_suffix seg after_bucket ≡ cond c (47 ∷ []) []
  longest seg true e = rw e refl
  longest seg false e = rw e refl

  param_at : (p : List ℕ) (c : Bool) → cuts (segment p) (47 ∷ []) ≡ c → param_step after_bucket p ≡ cond c (length (segment p) - 1, with_slash) (cond (has_slash p) (0, []) (length p, after_bucket))
  unfolding param_step
  param_at p true e = rw (longest (segment p) true e) refl
  param_at p false e = rw (longest (segment p) false e) refl

  -- where the bucket is
  at_bucket : (c : ℕ) (more : List ℕ) → c < 256 → seek 0 after_host (c ∷ more) ≡ seek ((param_step after_bucket (c ∷ more)).0 - 1) (param_step after_bucket (c ∷ more)).1 more
  unfolding seek
  at_bucket c more low =
      ap (λ e. or_else (seek 0 (cond e ((47 ∷ 257 ∷ [], o) ∷ cond e ((47 ∷ [], t) ∷ cond e (([], b) ∷ []) []) (cond e (([], b) ∷ []) [])) (cond e ((47 ∷ [], t) ∷ cond e (([], b) ∷ []) []) (cond e (([], b) ∷ []) []))) more)
      (or_else (seek ((param_step after_bucket (c ∷ more)).0 - 1) (param_step after_bucket (c ∷ more)).1 more) None)) (other 256 c low)
      ∙ ap (λ x. or_else x (or_else (seek ((param_step after_bucket (c ∷ more)).0 - 1) (param_step after_bucket (c ∷ more)).1 more) None)) (no_rows 0 more)
      ∙ or_none _

  no_other : (x : Option K) (k : ℕ) (ks : List ℕ) → or_else x (or_else (seek ((param_step {K = K} [] (k ∷ ks)).0 - 1) (param_step {K = K} [] (k ∷ ks)).1 ks) None) ≡ x
  no_other x k ks = ap (λ y. or_else x (or_else y None)) (ap (λ rs. seek ((param_step {K = K} [] (k ∷ ks)).0 - 1) rs ks) (none_left (k ∷ ks)) ∙ no_rows ((param_step {K = K} [] (k ∷ ks)).0 - 1) ks) ∙ or_none x

  -- ---- what stands after the first slash

  bucket_alone : (c : ℕ) (more : List ℕ) → c < 256 → has_slash (c ∷ more) ≡ false → cuts (c ∷ more) (47 ∷ []) ≡ false → seek 0 after_host (c ∷ more) ≡ Some b
  bucket_alone c more low none uncut =
      let p = c ∷ more in
      let at : param_step after_bucket p ≡ (length p, after_bucket) = param_at p false (ap (λ s. cuts s (47 ∷ [])) (whole_segment p none) ∙ uncut) ∙ ap (λ s. cond s (0, []) (length p, after_bucket)) none in
      at_bucket c more low ∙ ap (λ q. seek (q.0 - 1) q.1 more) at ∙ past (length p - 1) after_bucket more (omega arith)

  -- a slash follows at once
  no_bucket : (more : List ℕ) → seek 0 after_host (47 ∷ more) ≡ None
  no_bucket more =
      let at : param_step after_bucket (47 ∷ more) ≡ (0, []) = param_at (47 ∷ more) false refl in
      at_bucket 47 more (omega arith) ∙ ap (λ q. seek (q.0 - 1) q.1 more) at ∙ no_rows 0 more

  bucket_and_key : (c : ℕ) (pre key : List ℕ) → c < 256 → has_slash (c ∷ pre) ≡ false → cuts ((c ∷ pre) ++ 47 ∷ []) (47 ∷ []) ≡ true → AllByRecursion (λ x. x < 256) key → seek 0 after_host (c ∷ (pre ++ 47 ∷ key)) ≡ Some (key_answer key)
  bucket_and_key c pre key low none cut small =
      let p = c ∷ (pre ++ 47 ∷ key) in
      let seg : segment p ≡ (c ∷ pre) ++ 47 ∷ [] = parted_segment (c ∷ pre) key none in
      let at : param_step after_bucket p ≡ (length (segment p) - 1, with_slash) = param_at p true (ap (λ s. cuts s (47 ∷ [])) seg ∙ cut) in
      let long = ap length seg ∙ length-append (c ∷ pre) (47 ∷ []) in
      at_bucket c (pre ++ 47 ∷ key) low ∙ ap (λ q. seek (q.0 - 1) q.1 (pre ++ 47 ∷ key)) at ∙ skip (length (segment p) - 1 - 1) with_slash pre (47 ∷ key) (omega (arith, long)) ∙ slash_found key small

-- ---- the cuts

both_false : (a : Bool) → (a && false) ≡ false
both_false true = refl
both_false false = refl

last_is_other : (x : ℕ) (xs : List ℕ) → has_slash (x ∷ xs) ≡ false → ends_with nat_eq (x ∷ xs) (47 ∷ []) ≡ false
last_is_other x [] none = go (x == 47) refl none
  where
    go : (b : Bool) → (x == 47) ≡ b → cond b true false ≡ false → ((47 == x) && true) ≡ false
    go true e none = absurd (cc)
    go false e none = ap (λ b. b && true) (ne_eqb 47 x (λ same. true_or_false (x == 47) (eq-eqb x 47 (sym same)) e))
last_is_other x (y ∷ ys) none = go (x == 47) none (last_is_other y ys)
  where
    go : (b : Bool) → cond b true (has_slash (y ∷ ys)) ≡ false → (has_slash (y ∷ ys) ≡ false → ends_with nat_eq (y ∷ ys) (47 ∷ []) ≡ false) → ends_with nat_eq (x ∷ y ∷ ys) (47 ∷ []) ≡ false
    go true none rest = absurd (cc)
    go false none rest = ap (λ n. pointwise nat_eq (47 ∷ []) (drop n (x ∷ y ∷ ys))) (let e : length (x ∷ y ∷ ys) - 1 ≡ suc (length (y ∷ ys) - 1) = omega arith in e) ∙ rest none

uncut : (x : ℕ) (xs : List ℕ) → has_slash (x ∷ xs) ≡ false → cuts (x ∷ xs) (47 ∷ []) ≡ false
uncut x xs none = ap (λ b. ltb 1 (length (x ∷ xs)) && b) (last_is_other x xs none) ∙ both_false _

cut_there : (c : ℕ) (pre : List ℕ) → cuts ((c ∷ pre) ++ 47 ∷ []) (47 ∷ []) ≡ true
cut_there c pre =
    let long = length-append (c ∷ pre) (47 ∷ []) in
    let last : drop (length ((c ∷ pre) ++ 47 ∷ []) - 1) ((c ∷ pre) ++ 47 ∷ []) ≡ 47 ∷ [] = ap (λ n. drop n ((c ∷ pre) ++ 47 ∷ [])) (let e : length ((c ∷ pre) ++ 47 ∷ []) - 1 ≡ length (c ∷ pre) = omega (arith, long) in e) ∙ drop-append_seam (c ∷ pre) (47 ∷ []) in
    ap₂ (λ a l. a && pointwise nat_eq (47 ∷ []) l) (lt-ltb 1 (length ((c ∷ pre) ++ 47 ∷ [])) (omega (arith, long))) last

-- ---- all paths

all_behind : (pre key : List ℕ) → AllByRecursion (λ x. x < 256) (pre ++ 47 ∷ key) → AllByRecursion (λ x. x < 256) key
all_behind [] key all = all.1
all_behind (x ∷ pre) key all = all_behind pre key all.1

abbrev pub kind_of_route : RouteOf Kind → Kind
kind_of_route r = r.value

module _ (o t b h : RouteOf Kind) (object : o.value ≡ Object) (slashed : t.value ≡ Bucket) (bucket : b.value ≡ Bucket) (host : h.value ≡ Host) where
  by_key : (pre : List ℕ) (c : ℕ) (key : List ℕ) → option_map kind_of_route (Some (key_answer o t b h key)) ≡ kind_with (c ∷ pre) key
  by_key pre c [] = ap Some slashed
  by_key pre c (k ∷ ks) = ap Some object

  inside : (rest : List ℕ) → AllByRecursion (λ x. x < 256) rest → option_map kind_of_route (seek 0 (after_host o t b h) rest) ≡ kind_in rest
  unfolding seek
  inside [] small = ap Some host
  inside (c ∷ more) small = go (split (c ∷ more))
    where
      go : IsWhole (c ∷ more) ⊎ ((pre : List ℕ) × (key : List ℕ) × IsParted (c ∷ more) pre key) → option_map kind_of_route (seek 0 (after_host o t b h) (c ∷ more)) ≡ kind_in (c ∷ more)
      go (inl w) = ap (option_map kind_of_route) (bucket_alone o t b h c more small.0 w.none (uncut c more w.none)) ∙ ap Some bucket ∙ sym (ap₂ kind_with w.before w.after)
      go (inr ([], key, parted)) =
          ap (λ p. option_map kind_of_route (seek 0 (after_host o t b h) p)) parted.is ∙ ap (option_map kind_of_route) (no_bucket o t b h key) ∙ sym (ap₂ kind_with parted.before parted.after)
      go (inr (x ∷ pre, key, parted)) =
          let all = subst (AllByRecursion (λ x. x < 256)) parted.is small in
          ap (λ p. option_map kind_of_route (seek 0 (after_host o t b h) p)) parted.is
          ∙ ap (option_map kind_of_route) (bucket_and_key o t b h x pre key all.0 parted.none (cut_there x pre) (all_behind (x ∷ pre) key all))
          ∙ by_key pre x key ∙ sym (ap₂ kind_with parted.before parted.after)

pub routed_is : (path : List ℕ) → AllByRecursion (λ x. x < 256) path → option_map kind_of_route (first routes path) ≡ kind_at path
unfolding seek
routed_is [] small = refl
routed_is (c ∷ rest) small = go (c == 47) refl
  where
    go : (b : Bool) → (c == 47) ≡ b → option_map kind_of_route (first routes (c ∷ rest)) ≡ (if b then kind_in rest else None)
    go true e = ap (λ x. option_map kind_of_route (first routes (x ∷ rest))) (eqb-true c 47 e) ∙ ap (option_map kind_of_route) (no_other object_route slashed_route bucket_route host_route _ 47 rest) ∙ inside object_route slashed_route bucket_route host_route refl refl refl refl rest small.1
    go false e = rw (ne_eqb 47 c (λ same. true_or_false (c == 47) (eq-eqb c 47 (sym same)) e)) (ap (option_map kind_of_route) (otherwise c rest None))

-- the bytes of a text
pub bytes_small : (p : List ℕ) → ((i : ℕ) → get_or p i 0 < 256) → AllByRecursion (λ x. x < 256) p
bytes_small [] low = tt
bytes_small (x ∷ xs) low = (low 0, bytes_small xs (λ i. low (suc i)))
