-- The ids of access keys, and what they open.
use Rattle.std.proofs.Common.{◌≡◌, ◌≢◌, ℕ, suc, ◌+◌, nat_lt, Bool, true, false, true≢false, not, ◌&&◌, cond, List, [], ◌∷◌, ◌++◌, length, take, drop, position, Option, Some, None, option_and_then, option_map, refl, sym, ap, ap₂, ok_or, is_eq, ◌∙◌, arith, bytes_eq, Result, Ok, Err, is_none, is_some, eqb→eq, length-append, lt-ltb}
use Rattle.std.proofs.Math.Seq.{take-append_seam}
use Rattle.std.proofs.lemmas.Slice.Eq.{bytes_eq-Decides}
use Rattle.std.specs.Bool.{passes}
use Rattle.std.specs.List.{list_all, position_or_len}
use Rattle.std.specs.Result.{IfOk}
use Rattle.std.specs.Cmp.Lexicographic.{nat_list_cmp_total}
use Rattle.std.proofs.lemmas.Cmp.{tied_itself}
use Rattle.std.specs.FinMap.{FinMap, get, insert, remove, get-insert, get-remove}
use Rattle.bh_types.specs.Names.{is_name_byte, is_tenant_name, is_key_name, is_secret}
use Rattle.bh_types.specs.declared.refusal.Refusal.{Refusal}
use Rattle.bh_types.specs.declared.refusal.Refusal.TheVariants.{AccessDenied, InvalidAccessKeyId, InvalidName, KeyExists, NoSuchKeyName}
use Rattle.bh_types.specs.Outcomes.{◌>>=◌, require}
use Rattle.bh_model.specs.State.{Octets, octets_cmp}
use Rattle.bh_types.specs.AccessKeys.{is_dollar, access_key, access_key_of}
use Rattle.bh_model.specs.Credentials.{authenticate}
use Rattle.bh_model.specs.Laws.{key_id, key_named, AddedKeyOpens, RemovedKeyIsUnknown}

pub first : (a b : Bool) → a && b ≡ true → a ≡ true
first true b h = refl
first false b h = h

pub second : (a b : Bool) → a && b ≡ true → b ≡ true
second true b h = h
second false b h = absurd (true≢false (sym h))

no_dollar : (b : ℕ) → is_name_byte b ≡ true → is_dollar b ≡ false
no_dollar b h = elim (is_dollar b) as (λ t. is_dollar b ≡ t → t ≡ false) [
  | true ↦ λ e. absurd (true≢false (sym h ∙ ap is_name_byte (eqb→eq b 36 (passes _ e))))
  | false ↦ λ e. refl
] refl

dollar_place : (tenant name : List ℕ) → list_all is_name_byte tenant ≡ true → position_or_len is_dollar (tenant ++ 36 ∷ name) ≡ length tenant
dollar_place [] name h = refl
dollar_place (b ∷ bs) name h =
    ap (λ t. cond (not t) (1 + position_or_len is_dollar (bs ++ 36 ∷ name)) 0) (no_dollar b (first _ _ h))
    ∙ omega (arith, dollar_place bs name (second _ _ h))

longer : (xs : List ℕ) (y : ℕ) (ys : List ℕ) → nat_lt (length xs) (length (xs ++ y ∷ ys)) ≡ true
longer xs y ys = lt-ltb _ _ (omega (arith, length-append xs (y ∷ ys)))

dollar_at : (tenant name : List ℕ) → list_all is_name_byte tenant ≡ true → position is_dollar (key_id tenant name) ≡ Some (length tenant)
dollar_at tenant name h =
    ap (λ n. cond (nat_lt n (length (key_id tenant name))) (Some n) None) (dollar_place tenant name h)
    ∙ ap (λ t. cond t (Some (length tenant)) None) (longer tenant 36 name)

drop_past : (xs : List ℕ) (y : ℕ) (ys : List ℕ) → drop (length xs + 1) (xs ++ y ∷ ys) ≡ ys
drop_past [] y ys = refl
drop_past (x ∷ xs) y ys = ap (λ n. drop n (x ∷ xs ++ y ∷ ys)) (let e : length (x ∷ xs) + 1 ≡ suc (length xs + 1) = omega arith in e) ∙ drop_past xs y ys

-- the id of a key with these names is read as that key
read_back : (tenant name : List ℕ) → is_tenant_name tenant ≡ true → is_key_name name ≡ true → access_key (key_id tenant name) ≡ Some (key_named tenant name)
read_back tenant name is_tenant is_key =
    ap (option_and_then (λ i. access_key_of (take i (key_id tenant name)) (drop (i + 1) (key_id tenant name)))) (dollar_at tenant name (second _ _ is_tenant))
    ∙ ap₂ access_key_of (take-append_seam tenant (36 ∷ name)) (drop_past tenant 36 name)
    ∙ ap₂ (λ t k. option_map (λ (o : Octets). record { tenant = o; name = cond k (Some name) None }) (cond t (Some tenant) None)) is_tenant is_key

-- at the key that was inserted, and at the one that was removed
pub get-inserted : {X : Type 0} (m : FinMap octets_cmp X) (k : Octets) (v : X) → get (insert m k v) k ≡ Some v
get-inserted m k v = get-insert nat_list_cmp_total m k v k ∙ ap (λ o. cond (is_eq o) (Some v) (get m k)) (tied_itself nat_list_cmp_total k)

get-removed : {X : Type 0} (m : FinMap octets_cmp X) (k : Octets) → get (remove m k) k ≡ None
get-removed m k = get-remove nat_list_cmp_total m k k ∙ ap (λ o. cond (is_eq o) None (get m k)) (tied_itself nat_list_cmp_total k)

-- what a key opens in a state in which its name has this secret, or none
opens : Octets → Option Octets → Result (Unit {0}) Refusal
opens secret known = do
  k ← ok_or known InvalidAccessKeyId
  require (bytes_eq secret k) AccessDenied

opens_itself : (secret : Octets) → opens secret (Some secret) ≡ Ok tt
unfolding opens
opens_itself secret = ap (λ b. cond b (Ok tt) (Err AccessDenied)) ((bytes_eq-Decides secret secret).1 refl)

opens_other : (secret other : Octets) → other ≢ secret → opens other (Some secret) ≡ Err AccessDenied
unfolding opens
opens_other secret other apart = elim (bytes_eq other secret) as (λ b. bytes_eq other secret ≡ b → cond b (Ok (tt {0})) (Err AccessDenied) ≡ Err AccessDenied) [
  | true ↦ λ e. absurd (apart ((bytes_eq-Decides other secret).0 e))
  | false ↦ λ e. refl
] refl

-- what holds after a test that gives a value
pub tested : {A X E : Type 0} (b : Bool) (a : A) (e : E) (f : A → Result X E) (P : X → Type 0) → (b ≡ true → IfOk (f a) P) → IfOk (cond b (Ok a) (Err e) >>= f) P
tested true a e f P h = h refl
tested false a e f P h = tt

pub added_key_opens : AddedKeyOpens
unfolding opens
added_key_opens tenant name secret None = tested (is_tenant_name tenant && is_key_name name && is_secret secret) tt InvalidName _ _ (λ _. tt)
added_key_opens tenant name secret (Some t) =
    tested (is_tenant_name tenant && is_key_name name && is_secret secret) tt InvalidName _ _ (λ names.
    tested (is_none (get t.keys name)) tt KeyExists _ _ (λ _.
    let at : (other : Octets) → authenticate (key_named tenant name) other (Some (record t { keys = insert t.keys name secret })) ≡ opens other (Some secret)
    = λ other. ap (opens other) (get-inserted t.keys name secret) in (
      read_back tenant name (first _ _ (first _ _ names)) (second _ _ (first _ _ names)),
      at secret ∙ opens_itself secret,
      λ other apart. at other ∙ opens_other secret other apart,
    )))

pub removed_key_is_unknown : RemovedKeyIsUnknown
unfolding opens
removed_key_is_unknown tenant name secret None = tested (is_tenant_name tenant && is_key_name name) tt InvalidName _ _ (λ _. tt)
removed_key_is_unknown tenant name secret (Some t) =
    tested (is_tenant_name tenant && is_key_name name) tt InvalidName _ _ (λ names.
    tested (is_some (get t.keys name)) tt NoSuchKeyName _ _ (λ _.
    ap (opens secret) (get-removed t.keys name)))
