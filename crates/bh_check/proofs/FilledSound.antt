-- A host's tables with the bytes of packs are sound, if a check of them finds nothing.
use Rattle.std.proofs.Common.{◌≡◌, inl, inr, ◌≤◌, pos, Bool, true, false, ◌&&◌, ◌||◌, [], ◌∷◌, length, filter, cond, refl, sym, ap, ◌∙◌, subst, codes, ◌==◌, nat_lt}
use Rattle.std.specs.Cmp.Derive.{both_true}
use Rattle.std.specs.Ordering.{int_eq}
use Rattle.std.proofs.lemmas.Bool.{and_parts}
use Rattle.sqlite.specs.Effect.{IsDatabase}
use Rattle.sqlite.specs.Tree.{Trees}
use Rattle.sqlite_keyed.proofs.ListLemmas.{filter-map}
use Rattle.sqlite_schema.specs.declared.schema.Constraint.TheVariants.{Unique}
use Rattle.sqlite_sql.specs.declared.ops.CompareOp.TheVariants.{Eq}
use Rattle.sqlite_tied.specs.Compute.{everything}
use Rattle.sqlite_typed.specs.Tests.{bytes_eq}
use Rattle.sqlite_typed.proofs.TestLemmas.{at_blobs, at_ints, last_term, then_term}
use Rattle.sqlite_value.specs.Keys.{first_key}
use Rattle.bh_rows.specs.Form.{AreRows, typed}
use Rattle.bh_rows.proofs.ObeyedLemmas.{one_passes}
use Rattle.bh_shelf.specs.Contents.{Contents}
use Rattle.bh_tables.specs.Schema.{Octets, host_schema, placed_table, at, auto}
use Rattle.bh_tables.specs.Bodies.{same_name}
use Rattle.bh_tables.specs.Hosts.{tables_opened}
use Rattle.bh_tables.specs.Rows.{PlaceRow, place_form, place_of}
use Rattle.bh_view.specs.Bodies.{IsSoundHost}
use Rattle.bh_base.specs.Placed.{filled_trees}
use Rattle.bh_base.proofs.Obeying.{filled_obeys}
use Rattle.bh_stored.specs.Stored.{seen}
use Rattle.bh_stored.specs.declared.stored.Edition.TheVariants.{Fifth}
use Rattle.bh_check.specs.Blocks.{AreNamed}
use Rattle.bh_check.specs.Checked.{IsChecked}
use Rattle.bh_check.specs.Holds.{first_two}
use Rattle.bh_check.proofs.Counted.{length_map}
use Rattle.bh_check.proofs.HostIs.{held_is}
use Rattle.bh_check.proofs.OneLemmas.{at_most_one, same_texts, same_numbers}
use Rattle.bh_check.proofs.Sound.{makes_sound}

-- all tables are those of a host of the present version
none_hidden : (b : Bool) → (b && false) ≡ false
none_hidden true = refl
none_hidden false = refl

pub seen_fifth : (d : Trees) → seen Fifth d ≡ d
seen_fifth d = λ i t. cond (none_hidden (t == 26 || t == 28) i || (none_hidden (t == 30) i || (none_hidden (nat_lt 31 t) i || none_hidden (nat_lt 43 t) i))) [] (d t)

module _ (trees : Trees) (whole : IsDatabase (record { schema = host_schema; trees = trees })) where
  -- no two places are of one block
  pub places_named : AreRows place_form (trees 34) → AreNamed (trees 34)
  unfolding everything first_key
  places_named held q = subst (λ n. n ≤ 1) (ap length (filter-map (λ (p : PlaceRow). bytes_eq p.digest q.0 && int_eq (pos p.ord) (pos q.1)) place_of (trees 34)) ∙ length_map place_of (filter (λ r. same_name (first_two r) q) (trees 34)))
      (at_most_one (λ (p : PlaceRow). bytes_eq p.digest q.0 && int_eq (pos p.ord) (pos q.1)) (typed place_form (trees 34))
      (one_passes place_form host_schema (at 34 placed_table) trees (whole.obeys.rules Unique) (inr (inr (inr (inr (inr (inr (inr (inr (inr (inr (inr (inr (inr (inr (inl refl))))))))))))))) (auto (codes "sqlite_autoindex_placed_1") 35 34 (1 ∷ 2 ∷ [])) (inr (inr (inr (inr (inr (inr (inr (inr (inr (inr (inr (inr (inr (inr (inr (inr (inr (inr (inr (inr (inl refl))))))))))))))))))))) refl held (λ (p : PlaceRow). bytes_eq p.digest q.0 && int_eq (pos p.ord) (pos q.1))
      (λ a b x y h k. (then_term (at_blobs false Eq x.digest y.digest) (last_term (at_ints false Eq (pos x.ord) (pos y.ord)))) ∙ (let h0 = and_parts _ _ h in let k0 = and_parts _ _ k in both_true (same_texts x.digest y.digest q.0 h0.0 k0.0) (same_numbers x.ord y.ord q.1 h0.1 k0.1)))))

  -- the rows that were checked
  pub filled_sound : (digest : Octets → Octets) (packs : Contents) → IsChecked Fifth digest (filled_trees packs trees) → IsSoundHost digest (tables_opened (record { schema = host_schema; trees = filled_trees packs trees }))
  filled_sound digest packs checked =
      let now = filled_trees packs trees in
      let c : IsChecked Fifth digest (seen Fifth now) = subst (IsChecked Fifth digest) (sym (seen_fifth now)) checked in
      makes_sound Fifth digest now (filled_obeys packs (record { schema = host_schema; trees = trees }) (record { schema = refl; held = held_is Fifth digest now c }) whole) c
