-- Damaged blocks, bodies and rows so far.
use Rattle.std.proofs.Common.{Option, Some, None, IfSome, arith, ◌≡◌, ◌⊎◌, inl, inr, ℕ, ◌+◌, ◌<◌, Bool, true, false, not, IsTrue, if◌then◌else◌, List, [], ◌∷◌, ◌++◌, length, take, get_or, refl, sym, ap, ◌∙◌, subst}
use Rattle.std.specs.List.{AllByRecursion}
use Rattle.sqlite.specs.Order.{Row}
use Rattle.sqlite.specs.Tree.{Trees}
use Rattle.sqlite_rules.specs.Lists.{Has}
use Rattle.bh_rows.specs.Form.{typed}
use Rattle.bh_shelf.specs.Contents.{Contents}
use Rattle.bh_tables.specs.Bodies.{Name, same_name}
use Rattle.bh_tables.specs.Rows.{pack_form, place_form}
use Rattle.bh_tables.specs.Schema.{Octets}
use Rattle.bh_stored.specs.Stored.{AreStoredIn}
use Rattle.bh_stored.specs.declared.stored.Stored.{Stored}
use Rattle.bh_tables.proofs.TotalLemmas.{name_Decides}
use Rattle.bh_check.specs.Holds.{first_two, part_body, ref_block}
use Rattle.bh_check.specs.Lost.{IsReadable, CountsDamaged, IsWhole, AreWhole, AreLost, AreLostIn}
use Rattle.bh_check.specs.declared.lost.Lost.{Lost}
use Rattle.bh_check.specs.Sums.{Keeps}
use Rattle.bh_check.specs.declared.sums.Sums.{Sums}
use Rattle.bh_check.proofs.Walks.{all_more}

pub all_so : {T : Type 0} (P Q : T → Type 0) → ((x : T) → P x → Q x) → (xs : List T) → AllByRecursion P xs → AllByRecursion Q xs
all_so P Q so [] all = tt
all_so P Q so (x ∷ xs) all = (so x all.0, all_so P Q so xs all.1)

pub all_of : {T : Type 0} (P : T → Type 0) (xs : List T) (x : T) → AllByRecursion P xs → Has xs x → P x
all_of P [] x all has = absurd has
all_of P (y ∷ xs) x all (inl is) = subst P (sym is) all.0
all_of P (y ∷ xs) x all (inr more) = all_of P xs x all.1 more

pub counted_none : (W : Row → Type 0) (s : Sums) → Keeps (λ _. 0) s → CountsDamaged W [] s
counted_none W s keeps = record { of = λ _. 0; are = keeps; others = tt }

pub counted_more : (W : Row → Type 0) (rows : List Row) (i : ℕ) (row : Row) (old new : Sums) (amount : ℕ) → i < length rows → row ≡ get_or rows i row → CountsDamaged W (take i rows) old → (amount ≡ 0 → W row)
    → ((of : Name → ℕ) → Keeps of old → Keeps (λ q. of q + (if same_name (first_two row) q then amount else 0)) new) → CountsDamaged W (take (i + 1) rows) new
counted_more W rows i row old new amount low is was well more =
    let more_of : Name → ℕ = λ q. was.of q + (if same_name (first_two row) q then amount else 0) in
    let before = all_so (λ r. was.of (first_two r) ≡ 0 → W r) (λ r. more_of (first_two r) ≡ 0 → W r) (λ r holds none. holds (omega (arith, none))) (take i rows) was.others in
    let itself = (name_Decides (first_two row) (first_two row)).1 refl in
    let here : more_of (first_two row) ≡ was.of (first_two row) + amount = ap (λ b. was.of (first_two row) + (if b then amount else 0)) itself in
    record {
      of = more_of;
      are = more was.of was.are;
      others = all_more (λ r. more_of (first_two r) ≡ 0 → W r) rows i row low is before (λ none. well (omega (arith, none, here)));
    }

-- a body that counts no reference to a damaged block is whole
pub whole_of : (W : Row → Type 0) (blocks refs : List Row) (damaged bodies : Sums) (d : CountsDamaged W blocks damaged) (b : CountsDamaged (λ r. d.of (ref_block r) ≡ 0) refs bodies)
    (body : Name) → b.of body ≡ 0 → IsWhole W blocks refs body
whole_of W blocks refs damaged bodies d b body none r block has its there named =
    let of_ref = ap b.of ((name_Decides (first_two r) body).0 its) ∙ none in
    let of_block = ap d.of ((name_Decides (first_two block) (ref_block r)).0 named) ∙ all_of (λ x. b.of (first_two x) ≡ 0 → d.of (ref_block x) ≡ 0) refs r b.others has of_ref in
    all_of (λ x. d.of (first_two x) ≡ 0 → W x) blocks block d.others there of_block

-- so are the parts of an upload of which none is counted
pub wholes_of : (W : Row → Type 0) (blocks refs parts : List Row) (damaged bodies uploads : Sums) (d : CountsDamaged W blocks damaged) (b : CountsDamaged (λ r. d.of (ref_block r) ≡ 0) refs bodies)
    (u : CountsDamaged (λ p. b.of (part_body p) ≡ 0) parts uploads) (upload : Name) → u.of upload ≡ 0 → AreWhole W blocks refs parts upload
wholes_of W blocks refs parts damaged bodies uploads d b u upload none p has its =
    whole_of W blocks refs damaged bodies d b (part_body p) (all_of (λ x. u.of (first_two x) ≡ 0 → b.of (part_body x) ≡ 0) parts p u.others has (ap u.of ((name_Decides (first_two p) upload).0 its) ∙ none))

-- rows so far that are listed, or of no damaged body
pub listed_more : (P : Row → Type 0) (rows old new : List Row) (i : ℕ) (row : Row) → i < length rows → row ≡ get_or rows i row → AllByRecursion (λ r. P r ⊎ Has old r) (take i rows)
    → (P row × (new ≡ old)) ⊎ (new ≡ old ++ row ∷ []) → AllByRecursion (λ r. P r ⊎ Has new r) (take (i + 1) rows)
listed_more P rows old new i row low is all (inl none) = all_more (λ r. P r ⊎ Has new r) rows i row low is (subst (λ l. AllByRecursion (λ r. P r ⊎ Has l r) (take i rows)) (sym none.1) all) (inl none.0)
listed_more P rows old new i row low is all (inr one) = all_more (λ r. P r ⊎ Has new r) rows i row low is (all_so (λ r. P r ⊎ Has old r) (λ r. P r ⊎ Has new r) still (take i rows) all) (inr (subst (λ l. Has l row) (sym one) (has_last old)))
  where
    has_last : (xs : List Row) → Has (xs ++ row ∷ []) row
    has_last [] = inl refl
    has_last (x ∷ xs) = inr (has_last xs)

    has_more : (xs : List Row) (r : Row) → Has xs r → Has (xs ++ row ∷ []) r
    has_more [] r has = absurd has
    has_more (x ∷ xs) r (inl e) = inl e
    has_more (x ∷ xs) r (inr has) = inr (has_more xs r has)

    still : (r : Row) → P r ⊎ Has old r → P r ⊎ Has new r
    still r (inl p) = inl p
    still r (inr has) = inr (subst (λ l. Has l r) (sym one) (has_more old r has))

-- ---- what was asked of one

pub unless : (b : Bool) (n : ℕ) → n ≡ (if not b then 1 else 0) → n ≡ 0 → IsTrue b
unless true n is none = refl
unless false n is none = absurd (omega (arith, is, none))

pub left_so : {A B X C : Type 0} → (A → B) → (A × X) ⊎ C → (B × X) ⊎ C
left_so so (inl both) = inl (so both.0, both.1)
left_so so (inr c) = inr c

pub either_so : {A B C : Type 0} → (A → B) → A ⊎ C → B ⊎ C
either_so so (inl a) = inl (so a)
either_so so (inr c) = inr c

pub some_so : {A : Type 0} (P Q : A → Type 0) → ((x : A) → P x → Q x) → (o : Option A) → IfSome o P → IfSome o Q
some_so P Q so None has = tt
some_so P Q so (Some x) has = so x has

-- what isn't whole of the rows that were read isn't of the database
module _ (packs : Contents) (digest : Octets → Octets) (d : Trees) (s : Stored) (lost : Lost) (stored : AreStoredIn d s) where
  abbrev Versions : List Row → List Row → List Row → List Row → List Row → Type 0
  Versions lengths places blocks refs rows = AllByRecursion (λ v. IsWhole (IsReadable (typed pack_form lengths) packs (typed place_form places) digest) blocks refs (first_two v) ⊎ Has lost.versions.items v) rows

  abbrev Uploads : List Row → List Row → List Row → List Row → List Row → List Row → Type 0
  Uploads lengths places blocks refs parts rows = AllByRecursion (λ u. AreWhole (IsReadable (typed pack_form lengths) packs (typed place_form places) digest) blocks refs parts (first_two u) ⊎ Has lost.uploads.items u) rows

  pub lost_in : AreLost (IsReadable (typed pack_form s.packs.items) packs (typed place_form s.places.items) digest) s lost → AreLostIn packs digest d lost
  lost_in it =
      let v0 : Versions s.packs.items s.places.items s.blocks.items s.refs.items (d 7) = subst (Versions s.packs.items s.places.items s.blocks.items s.refs.items) stored.versions_is it.versions in
      let v1 : Versions s.packs.items s.places.items s.blocks.items (d 12) (d 7) = subst (λ (l : List Row). Versions s.packs.items s.places.items s.blocks.items l (d 7)) stored.refs_is v0 in
      let v2 : Versions s.packs.items s.places.items (d 10) (d 12) (d 7) = subst (λ (l : List Row). Versions s.packs.items s.places.items l (d 12) (d 7)) stored.blocks_is v1 in
      let v3 : Versions s.packs.items (d 34) (d 10) (d 12) (d 7) = subst (λ (l : List Row). Versions s.packs.items l (d 10) (d 12) (d 7)) stored.places_is v2 in
      let u0 : Uploads s.packs.items s.places.items s.blocks.items s.refs.items s.parts.items (d 16) = subst (Uploads s.packs.items s.places.items s.blocks.items s.refs.items s.parts.items) stored.uploads_is it.uploads in
      let u1 : Uploads s.packs.items s.places.items s.blocks.items s.refs.items (d 18) (d 16) = subst (λ (l : List Row). Uploads s.packs.items s.places.items s.blocks.items s.refs.items l (d 16)) stored.parts_is u0 in
      let u2 : Uploads s.packs.items s.places.items s.blocks.items (d 12) (d 18) (d 16) = subst (λ (l : List Row). Uploads s.packs.items s.places.items s.blocks.items l (d 18) (d 16)) stored.refs_is u1 in
      let u3 : Uploads s.packs.items s.places.items (d 10) (d 12) (d 18) (d 16) = subst (λ (l : List Row). Uploads s.packs.items s.places.items l (d 12) (d 18) (d 16)) stored.blocks_is u2 in
      let u4 : Uploads s.packs.items (d 34) (d 10) (d 12) (d 18) (d 16) = subst (λ (l : List Row). Uploads s.packs.items l (d 10) (d 12) (d 18) (d 16)) stored.places_is u3 in
      record {
        versions = subst (λ (l : List Row). Versions l (d 34) (d 10) (d 12) (d 7)) stored.packs_is v3;
        uploads = subst (λ (l : List Row). Uploads l (d 34) (d 10) (d 12) (d 18) (d 16)) stored.packs_is u4;
      }
