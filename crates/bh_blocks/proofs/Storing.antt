-- What the storing of a block is to the tables.
use Rattle.std.proofs.Common.{◌≡◌, ℕ, [], ◌∷◌, ◌++◌, length, Option, Some, None, option_map, refl, sym, ap, ◌∙◌}
use Rattle.std.specs.Option.{option_map_or}
use Rattle.bh_tables.specs.Schema.{Octets}
use Rattle.bh_tables.specs.Typed.{BlockRow, RefRow, Tables, rebodied}
use Rattle.bh_tables.specs.Shown.{Name}
use Rattle.bh_tables.proofs.ResolvedLemmas.{rebodied_twice}
use Rattle.bh_view.specs.Blocks.{free_ord, copy_in, ord_for, blocks_with}
use Rattle.bh_view.specs.Bodies.{body_stored}
use Rattle.bh_blocks.specs.Named.{placed_at, body_at}
use Rattle.bh_blocks.specs.declared.refs.Place.{Place}
use Rattle.bh_blocks.proofs.BodySteps.{piece_stored}

module _ (digest : Octets → Octets) (c : Octets) (old : Tables) where
  abbrev row : BlockRow
  row = record { digest = digest c; ord = free_ord (digest c) old.blocks; bytes = c }

  -- a row that holds the bytes was found
  pub copy_there : rebodied old old.refs old.blocks ≡ old → (found : Octets) → found ≡ digest c → (n : ℕ) → Some n ≡ option_map (λ (b : BlockRow). b.ord) (copy_in found c old.blocks)
      → (◌≡◌ {A = Name} (found, n) (digest c, ord_for (digest c) c old.blocks)) × (old ≡ rebodied old old.refs (blocks_with (digest c) c old.blocks))
  copy_there own found e n some = let it = go (copy_in (digest c) c old.blocks) (some ∙ ap (λ d. option_map (λ (b : BlockRow). b.ord) (copy_in d c old.blocks)) e) in ((λ i. (e i, it.0 i)), it.1)
    where
      go : (o : Option BlockRow) → Some n ≡ option_map (λ (b : BlockRow). b.ord) o
          → (n ≡ option_map_or (λ (b : BlockRow). b.ord) o (free_ord (digest c) old.blocks)) × (old ≡ rebodied old old.refs (option_map_or (λ _. old.blocks) o (old.blocks ++ row ∷ [])))
      go None e = absurd (cc)
      go (Some b) e = (cc, sym own)

  -- no row does
  pub copy_missing : (found : Octets) → found ≡ digest c → (mid : Tables) → mid ≡ old → None ≡ option_map (λ (b : BlockRow). b.ord) (copy_in found c old.blocks)
      → (◌≡◌ {A = Name} (found, free_ord found mid.blocks) (digest c, ord_for (digest c) c old.blocks))
      × (rebodied mid mid.refs (mid.blocks ++ record { digest = found; ord = free_ord found mid.blocks; bytes = c } ∷ []) ≡ rebodied old old.refs (blocks_with (digest c) c old.blocks))
  copy_missing found e mid same none =
      let it = go (copy_in (digest c) c old.blocks) (none ∙ ap (λ d. option_map (λ (b : BlockRow). b.ord) (copy_in d c old.blocks)) e) in (
        (λ i. (e i, free_ord (e i) (same i).blocks)) ∙ ap (λ n. (digest c, n)) it.0,
        (λ i. rebodied (same i) (same i).refs ((same i).blocks ++ record { digest = e i; ord = free_ord (e i) (same i).blocks; bytes = c } ∷ [])) ∙ it.1,
      )
    where
      go : (o : Option BlockRow) → None ≡ option_map (λ (b : BlockRow). b.ord) o
          → (free_ord (digest c) old.blocks ≡ option_map_or (λ (b : BlockRow). b.ord) o (free_ord (digest c) old.blocks)) × (rebodied old old.refs (old.blocks ++ row ∷ []) ≡ rebodied old old.refs (option_map_or (λ _. old.blocks) o (old.blocks ++ row ∷ [])))
      go None e = (refl, refl)
      go (Some b) e = absurd (cc)

-- ---- a piece, by the block that holds its bytes or a new one

module _ (digest : Octets → Octets) (c : Octets) (at : Place) (old mid new : Tables) where
  abbrev here : Octets → ℕ → RefRow
  here found n = placed_at at found n (length c)

  -- a row that holds the bytes was found, and referred to
  pub known_stored : rebodied old old.refs old.blocks ≡ old → mid ≡ old → (found : Octets) → found ≡ digest c → (n : ℕ) → Some n ≡ option_map (λ (b : BlockRow). b.ord) (copy_in found c old.blocks)
      → new ≡ rebodied mid (mid.refs ++ here found n ∷ []) mid.blocks → new ≡ body_stored digest (body_at at) at.place (c ∷ []) old
  known_stored own same found e n some is =
      let it = copy_there digest c old own found e n some in
      piece_stored digest (body_at at) at.place c (found, n) old mid new (same ∙ it.1) it.0 is

  -- none was, and a block was added with the reference
  pub missing_stored : mid ≡ old → (found : Octets) → found ≡ digest c → None ≡ option_map (λ (b : BlockRow). b.ord) (copy_in found c old.blocks)
      → new ≡ rebodied mid (mid.refs ++ here found (free_ord found mid.blocks) ∷ []) (mid.blocks ++ record { digest = found; ord = free_ord found mid.blocks; bytes = c } ∷ []) → new ≡ body_stored digest (body_at at) at.place (c ∷ []) old
  missing_stored same found e none is =
      let it = copy_missing digest c old found e mid same none in
      let blocks = mid.blocks ++ record { digest = found; ord = free_ord found mid.blocks; bytes = c } ∷ [] in
      piece_stored digest (body_at at) at.place c (found, free_ord found mid.blocks) old (rebodied mid mid.refs blocks) new it.1 it.0
      (is ∙ sym (rebodied_twice mid (mid.refs ++ here found (free_ord found mid.blocks) ∷ []) mid.refs blocks blocks))

-- under the least ordinal that is free
pub new_stored : (at : Place) (digest c : Octets) (old mid : Tables) (n : ℕ) → mid ≡ old → n ≡ free_ord digest old.blocks
    → rebodied mid (mid.refs ++ placed_at at digest n (length c) ∷ []) (mid.blocks ++ record { digest = digest; ord = n; bytes = c } ∷ [])
    ≡ rebodied old (old.refs ++ placed_at at digest (free_ord digest old.blocks) (length c) ∷ []) (old.blocks ++ record { digest = digest; ord = free_ord digest old.blocks; bytes = c } ∷ [])
new_stored at digest c old mid n same is = λ i. rebodied (same i) ((same i).refs ++ placed_at at digest (is i) (length c) ∷ []) ((same i).blocks ++ record { digest = digest; ord = is i; bytes = c } ∷ [])
