-- The entry number of a key's version, as it is read.
use Rattle.std.proofs.Common.{◌≡◌, ℕ, List, Option, Some, None, option_map, find, refl, sym, ap, ◌∙◌}
use Rattle.bh_types.specs.declared.id.VersionId.{VersionId}
use Rattle.bh_types.specs.declared.wanted.Wanted.TheVariants.{Named}
use Rattle.bh_model.specs.State.{Octets}
use Rattle.bh_tables.specs.Typed.{VersionRow}
use Rattle.bh_tables.specs.Shown.{is_version}
use Rattle.bh_view.specs.View.{id_of}
use Rattle.bh_view.specs.Wanted.{wanted_row}
use Rattle.bh_view.proofs.WantedLemmas.{named_row}
use Rattle.bh_schema.specs.Rows.{SeenHead, seen_head}
use Rattle.bh_schema.specs.Views.{head_seen}
use Rattle.bh_schema.specs.declared.rows.versions.VersionHead.{VersionHead}

of_head : (found : Option VersionHead) → option_map (λ (h : VersionHead). h.seq) found ≡ option_map (λ (s : SeenHead). s.seq) (option_map head_seen found)
of_head None = refl
of_head (Some h) = refl

of_row : (row : Option VersionRow) → option_map (λ (s : SeenHead). s.seq) (option_map seen_head row) ≡ option_map (λ (v : VersionRow). v.seq) row
of_row None = refl
of_row (Some v) = refl

pub seq_found : (t b k : Octets) (id : VersionId) (number : ℕ) (versions : List VersionRow) (found : Option VersionHead) → id_of number ≡ id
    → option_map head_seen found ≡ option_map seen_head (find (is_version t b k number) versions)
    → option_map (λ (h : VersionHead). h.seq) found ≡ option_map (λ (v : VersionRow). v.seq) (wanted_row t b k (Named id) versions)
seq_found t b k id number versions found is seen =
    of_head found ∙ ap (option_map (λ (s : SeenHead). s.seq)) seen ∙ of_row (find (is_version t b k number) versions)
    ∙ ap (option_map (λ (v : VersionRow). v.seq)) (sym (named_row t b k number versions) ∙ ap (λ x. wanted_row t b k (Named x) versions) is)
