-- An upload that is closed is gone from the tables with its parts and their references; and so are several, one after another.
use Rattle.std.proofs.Common.{◌≡◌, ℕ, Bool, true, false, not, ◌&&◌, ◌||◌, cond, List, [], ◌∷◌, map, filter, Ordering, refl, sym, ap, ◌∙◌, subst}
use Rattle.std.specs.List.{AllByRecursion, list_any}
use Rattle.std.specs.Ordering.{is_gt}
use Rattle.sqlite_keyed.specs.Lists.{sort_by, insert_sorted, delete_where}
use Rattle.sqlite_typed.specs.Tests.{bytes_eq}
use Rattle.bh_model.specs.State.{Octets}
use Rattle.bh_tables.specs.Typed.{PartRow, RefRow, Tables}
use Rattle.bh_tables.specs.Shown.{part_name, is_part_of, is_of_body, by_part}
use Rattle.bh_view.specs.Bodies.{HasBodies, body_dropped}
use Rattle.bh_view.specs.Grouped.{same_number}
use Rattle.bh_view.specs.Sound.{IsSound}
use Rattle.bh_view.specs.View.{goes, part_goes, ref_goes, without_uploads, limits_in}
use Rattle.bh_view.proofs.PurgeLemmas.{any_filtered, uploads_gone}
use Rattle.bh_view.proofs.WriteLemmas.{whole_of}
use Rattle.bh_objects.proofs.Written.{becomes_so, IsHostOf}
use Rattle.bh_uploads.specs.Rows.{listed_parts}
use Rattle.bh_uploads.specs.Writes.{without_bodies, without_parts, without_row, upload_closed}
use Rattle.bh_uploads.proofs.Closing.{bodies_go, taken_whole, bodies_unnamed, its_tenant}

-- ---- lists

or_moved : (a b c : Bool) → (a || (b || c)) ≡ (b || (a || c))
or_moved true true c = refl
or_moved true false c = refl
or_moved false b c = refl

module _ {X : Type 0} where
  pub any_agree : (f g : X → Bool) (xs : List X) → AllByRecursion (λ x. f x ≡ g x) xs → list_any f xs ≡ list_any g xs
  any_agree f g [] all = refl
  any_agree f g (x ∷ xs) all = ap (λ b. b || list_any f xs) all.0 ∙ ap (λ b. g x || b) (any_agree f g xs all.1)

  pub any_mapped : {Y : Type 0} (f : X → Y) (p : Y → Bool) (xs : List X) → list_any p (map f xs) ≡ list_any (λ x. p (f x)) xs
  any_mapped f p [] = refl
  any_mapped f p (x ∷ xs) = ap (λ b. p (f x) || b) (any_mapped f p xs)

  any_put : (cmp : X → X → Ordering) (p : X → Bool) (x : X) (ys : List X) → list_any p (insert_sorted cmp x ys) ≡ (p x || list_any p ys)
  any_put cmp p x [] = refl
  any_put cmp p x (y ∷ ys) = elim (is_gt (cmp x y)) as (λ b. list_any p (cond b (y ∷ insert_sorted cmp x ys) (x ∷ y ∷ ys)) ≡ (p x || (p y || list_any p ys))) [
    | true ↦ ap (λ b. p y || b) (any_put cmp p x ys) ∙ or_moved (p y) (p x) (list_any p ys)
    | false ↦ refl
  ]

  pub any_sorted : (cmp : X → X → Ordering) (p : X → Bool) (xs : List X) → list_any p (sort_by cmp xs) ≡ list_any p xs
  any_sorted cmp p [] = refl
  any_sorted cmp p (x ∷ xs) = any_put cmp p x (sort_by cmp xs) ∙ ap (λ b. p x || b) (any_sorted cmp p xs)

  -- two deletions are one
  pub deleted_twice : (p q : X → Bool) (xs : List X) → delete_where q (delete_where p xs) ≡ delete_where (λ x. p x || q x) xs
  deleted_twice p q [] = refl
  deleted_twice p q (x ∷ xs) = elim (p x) as (λ b. delete_where q (cond (not b) (x ∷ delete_where p xs) (delete_where p xs)) ≡ cond (not (b || q x)) (x ∷ delete_where (λ y. p y || q y) xs) (delete_where (λ y. p y || q y) xs)) [
    | true ↦ deleted_twice p q xs
    | false ↦ elim (q x) as (λ b. cond (not b) (x ∷ delete_where q (delete_where p xs)) (delete_where q (delete_where p xs)) ≡ cond (not b) (x ∷ delete_where (λ y. p y || q y) xs) (delete_where (λ y. p y || q y) xs)) [
      | true ↦ deleted_twice p q xs
      | false ↦ ap (λ l. x ∷ l) (deleted_twice p q xs)
    ]
  ]

  pub deleted_so : (p q : X → Bool) → ((x : X) → p x ≡ q x) → (xs : List X) → delete_where p xs ≡ delete_where q xs
  deleted_so p q same xs i = delete_where (λ x. same x i) xs

-- ---- the references of an upload's parts

refs_dropped : (t : Octets) (bodies : List ℕ) (x : Tables) → (without_bodies t bodies x).refs ≡ delete_where (λ r. list_any (λ body. is_of_body (t, body) r) bodies) x.refs
refs_dropped t [] x = sym (all_kept x.refs)
  where
    all_kept : (rs : List RefRow) → delete_where (λ r. false) rs ≡ rs
    all_kept [] = refl
    all_kept (r ∷ rs) = ap (λ l. r ∷ l) (all_kept rs)
refs_dropped t (body ∷ bodies) x = refs_dropped t bodies (body_dropped (t, body) x) ∙ deleted_twice (is_of_body (t, body)) (λ r. list_any (λ b. is_of_body (t, b) r) bodies) x.refs

module _ (old : Tables) (t : Octets) (n : ℕ) (sound : IsSound old) (bodies : List ℕ) (are : bodies ≡ map (λ (p : PartRow). p.body) (listed_parts t n old)) where
  abbrev its : List PartRow
  its = filter (is_part_of t n) old.parts

  named : (r : RefRow) → list_any (λ body. is_of_body (t, body) r) bodies ≡ ref_goes t (λ m. same_number m n) old.parts r
  named r =
      ap (list_any (λ body. is_of_body (t, body) r)) are ∙ any_mapped (λ (p : PartRow). p.body) (λ body. is_of_body (t, body) r) (listed_parts t n old)
      ∙ any_sorted by_part (λ (p : PartRow). is_of_body (t, p.body) r) its
      ∙ any_agree (λ (p : PartRow). is_of_body (t, p.body) r) (λ (p : PartRow). is_of_body (part_name p) r) its (each its (its_tenant old t n sound))
      ∙ sym (any_filtered (is_part_of t n) (λ (p : PartRow). is_of_body (part_name p) r) old.parts)
    where
      each : (ps : List PartRow) → AllByRecursion (λ (p : PartRow). p.tenant ≡ t) ps → AllByRecursion (λ (p : PartRow). is_of_body (t, p.body) r ≡ is_of_body (part_name p) r) ps
      each [] all = tt
      each (p ∷ ps) all = (ap (λ z. is_of_body (z, p.body) r) (sym all.0), each ps all.1)

-- ---- one goes

pub record IsGone (t : Octets) (gone : ℕ → Bool) (old new : Tables) : Type 0 where
  pub is : new ≡ without_uploads t gone old
  pub sound : IsSound new
  pub bodies : HasBodies new
  pub limits : limits_in new ≡ limits_in old

pub closed_gone : (old new : Tables) → IsHostOf old → (t : Octets) (n : ℕ) (bodies : List ℕ) → bodies ≡ map (λ (p : PartRow). p.body) (listed_parts t n old) → new ≡ upload_closed t n bodies old → IsGone t (λ m. same_number m n) old new
closed_gone old new host t n bodies are e =
    let gone : ℕ → Bool = λ m. same_number m n in
    let x = without_parts t n old in
    let y = without_bodies t bodies x in
    let left = bodies_go t bodies [] x (taken_whole old t n host.sound bodies are [] (whole_of old host.sound host.bodies host.resolved)) (bodies_unnamed old t n host.sound bodies are) in
    let target : Tables = record old { uploads = delete_where (goes t gone) old.uploads; parts = delete_where (part_goes t gone) old.parts } in
    let same : y.blocks ≡ old.blocks = ap (λ (z : Tables). z.blocks) left.is in
    let last : without_row t n y ≡ record target { refs = y.refs; blocks = y.blocks } = ap (without_row t n) left.is ∙ (λ i. record target { refs = y.refs; blocks = sym same i }) in
    let refs : y.refs ≡ delete_where (ref_goes t gone old.parts) old.refs =
    refs_dropped t bodies x ∙ deleted_so (λ r. list_any (λ body. is_of_body (t, body) r) bodies) (ref_goes t gone old.parts) (named old t n host.sound bodies are) old.refs in
    let change = becomes_so t _ old target (without_row t n y) (uploads_gone old t gone host.sound target _ refl refl) (record { is = last; stored = left.is_whole.stored }) in
    subst (IsGone t gone old) (sym e) (record {
      is = last ∙ (λ i. record target { refs = refs i; blocks = same i });
      sound = change.sound;
      bodies = left.is_whole.bodies;
      limits = change.limits;
    })

-- ---- one after another

any_cond : {X : Type 0} (p : X → Bool) (b : Bool) (x : X) (xs : List X) → list_any p (cond b (x ∷ xs) xs) ≡ cond b (p x || list_any p xs) (list_any p xs)
any_cond p true x xs = refl
any_cond p false x xs = refl

or_true : (b : Bool) → (b || true) ≡ true
or_true true = refl
or_true false = refl

bools : (own a b c u v w : Bool) → (u || v) ≡ w → ((((own && a) && c) || u) || cond (not (own && a)) (((own && b) && c) || v) v) ≡ (((own && (a || b)) && c) || w)
bools true true b true u v w h = refl
bools true true b false u v w h = h
bools true false true true u v w h = or_true u
bools true false true false u v w h = h
bools true false false c u v w h = h
bools false a b c u v w h = h

module _ (t : Octets) (f g : ℕ → Bool) (x : Tables) where
  abbrev either : ℕ → Bool
  either n = f n || g n

  both_go : (a b c : Bool) → ((a && b) || (a && c)) ≡ (a && (b || c))
  both_go true b c = refl
  both_go false b c = refl

  -- a reference goes with the first or with those after it
  refs_either : (r : RefRow) (ps : List PartRow) → (ref_goes t f ps r || ref_goes t g (delete_where (part_goes t f) ps) r) ≡ ref_goes t either ps r
  refs_either r [] = refl
  refs_either r (p ∷ ps) =
      ap (λ b. ref_goes t f (p ∷ ps) r || b) (any_cond (λ q. part_goes t g q && is_of_body (part_name q) r) (not (part_goes t f p)) p (delete_where (part_goes t f) ps))
      ∙ bools (bytes_eq p.tenant t) (f p.upload) (g p.upload) (is_of_body (part_name p) r) (ref_goes t f ps r) (ref_goes t g (delete_where (part_goes t f) ps) r) (ref_goes t either ps r) (refs_either r ps)

  pub gone_twice : without_uploads t g (without_uploads t f x) ≡ without_uploads t either x
  gone_twice i = record x {
    uploads = (deleted_twice (goes t f) (goes t g) x.uploads ∙ deleted_so (λ u. goes t f u || goes t g u) (goes t either) (λ u. both_go (bytes_eq u.tenant t) (f u.upload) (g u.upload)) x.uploads) i;
    parts = (deleted_twice (part_goes t f) (part_goes t g) x.parts ∙ deleted_so (λ p. part_goes t f p || part_goes t g p) (part_goes t either) (λ p. both_go (bytes_eq p.tenant t) (f p.upload) (g p.upload)) x.parts) i;
    refs = (deleted_twice (ref_goes t f x.parts) (ref_goes t g (delete_where (part_goes t f) x.parts)) x.refs
        ∙ deleted_so (λ r. ref_goes t f x.parts r || ref_goes t g (delete_where (part_goes t f) x.parts) r) (ref_goes t either x.parts) (λ r. refs_either r x.parts) x.refs) i;
  }

-- where none goes, all stays
pub none_go : (t : Octets) (x : Tables) → without_uploads t (λ n. false) x ≡ x
none_go t x i = record x { uploads = kept (goes t (λ n. false)) (λ u. never (bytes_eq u.tenant t)) x.uploads i; parts = kept (part_goes t (λ n. false)) (λ p. never (bytes_eq p.tenant t)) x.parts i; refs = kept (ref_goes t (λ n. false) x.parts) (λ r. loose r x.parts) x.refs i }
  where
    never : (b : Bool) → (b && false) ≡ false
    never true = refl
    never false = refl

    kept : {X : Type 0} (p : X → Bool) → ((y : X) → p y ≡ false) → (xs : List X) → delete_where p xs ≡ xs
    kept p none [] = refl
    kept p none (y ∷ ys) = ap (λ b. cond (not b) (y ∷ delete_where p ys) (delete_where p ys)) (none y) ∙ ap (λ l. y ∷ l) (kept p none ys)

    loose : (r : RefRow) (ps : List PartRow) → ref_goes t (λ n. false) ps r ≡ false
    loose r [] = refl
    loose r (p ∷ ps) = ap (λ b. (b && is_of_body (part_name p) r) || ref_goes t (λ n. false) ps r) (never (bytes_eq p.tenant t)) ∙ loose r ps
