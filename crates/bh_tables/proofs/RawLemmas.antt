-- A write to one table leaves the others.
use Rattle.std.proofs.Common.{◌≡◌, ◌≢◌, inl, inr, ℕ, [], ◌++◌, cond, sym, ap, ◌∙◌}
use Rattle.std.proofs.lemmas.Bool.{cases_eq, eq-eqb, ne_eqb}
use Rattle.std.specs.List.{AllByRecursion}
use Rattle.sqlite.specs.Tree.{Trees}
use Rattle.sqlite_trees.specs.Tree.{with_tree}
use Rattle.bh_tables.specs.Schema.{host_schema}
use Rattle.bh_tables.specs.Typed.{raw}

module _ (tree : ℕ) (db next : Trees) where
  at : (t : ℕ) → (t ≢ tree → next t ≡ db t) → next t ≡ with_tree db tree (next tree) t
  at t same = elim (cases_eq t tree) [ inl is ↦ ap next is ∙ ap (λ b. cond b (next tree) (db t)) (sym (eq-eqb t tree is)) | inr other ↦ same other ∙ ap (λ b. cond b (next tree) (db t)) (sym (ne_eqb t tree other)) ]

  pub raw_changed : AllByRecursion (λ t. t.tree ≢ tree → next t.tree ≡ db t.tree) host_schema.tables → raw next ≡ raw (with_tree db tree (next tree))
  raw_changed h = λ i. record {
    host = at 0 h.0 i;
    tenants = at 1 h.1.0 i;
    keys = at 3 h.1.1.0 i;
    buckets = at 5 h.1.1.1.0 i;
    versions = at 7 h.1.1.1.1.0 i;
    blocks = at 10 h.1.1.1.1.1.0 i;
    refs = at 12 h.1.1.1.1.1.1.0 i;
    uploads = at 16 h.1.1.1.1.1.1.1.0 i;
    parts = at 18 h.1.1.1.1.1.1.1.1.0 i;
    uses = at 23 h.1.1.1.1.1.1.1.1.1.0 i;
    locks = at 26 h.1.1.1.1.1.1.1.1.1.1.0 i;
    retains = at 28 h.1.1.1.1.1.1.1.1.1.1.1.0 i;
    tallies = at 30 h.1.1.1.1.1.1.1.1.1.1.1.1.0 i;
    garbage = at 44 h.1.1.1.1.1.1.1.1.1.1.1.1.1.1.1.1.1.1.1.0 i;
    packs = at 32 h.1.1.1.1.1.1.1.1.1.1.1.1.1.0 i;
    places = at 34 h.1.1.1.1.1.1.1.1.1.1.1.1.1.1.0 i;
    unfilled = at 37 h.1.1.1.1.1.1.1.1.1.1.1.1.1.1.1.0 i
        ++ (at 39 h.1.1.1.1.1.1.1.1.1.1.1.1.1.1.1.1.0 i ++ (at 41 h.1.1.1.1.1.1.1.1.1.1.1.1.1.1.1.1.1.0 i ++ (at 43 h.1.1.1.1.1.1.1.1.1.1.1.1.1.1.1.1.1.1.0 i ++ [])));
  }
