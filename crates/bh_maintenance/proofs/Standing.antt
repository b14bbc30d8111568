-- A host without packs: a new one stands as its database does alone.
use Rattle.std.proofs.Common.{◌≡◌, refl, sym, ap, ◌∙◌, subst}
use Rattle.sqlite.specs.State.{State}
use Rattle.bh_types.specs.BlockDigests.{digest_number}
use Rattle.bh_types.specs.Limits.{HostLimits}
use Rattle.bh_types.specs.declared.block_digest.BlockDigest.{BlockDigest}
use Rattle.bh_tables.specs.Typed.{Tables}
use Rattle.bh_view.specs.Bodies.{IsSoundHost}
use Rattle.bh_view.specs.Laws.{new_host}
use Rattle.bh_view.specs.View.{view, latest_of}
use Rattle.bh_storage.specs.Calls.{Seen, IsAtRest}
use Rattle.bh_base.specs.Layer.{standing, IsStateClean, KeepsDisk}
use Rattle.bh_base.specs.Shown.{shown}
use Rattle.bh_base.proofs.Lifting.{shown_clean, clean_shown, shown_intact, intact_shown}
use Rattle.bh_schema.specs.Storage.{seen_in}
use Rattle.bh_schema.proofs.Storing.{sound_host}
use Rattle.bh_bare.specs.Bare.{no_packs, IsBare}
use Rattle.bh_bare.proofs.Bare.{rest_bare, seen_bare, left_alone}
use Rattle.bh_blocks.specs.Digests.{digest_by}
use Rattle.bh_create.specs.Creation.{IsNewHost}

clean_joined : (s : State) → IsStateClean s → IsStateClean (shown no_packs s)
clean_joined s clean = clean_shown no_packs s clean refl

module _ (old new : State) (follows : KeepsDisk (shown no_packs old) (shown no_packs new)) where
  pub follows_alone : KeepsDisk old new
  unfolding standing
  follows_alone = record {
    clean = λ clean. (shown_clean no_packs old (follows.clean (clean_joined new clean))).0;
    intact = λ intact. (shown_intact no_packs old (follows.intact (intact_shown no_packs new intact refl))).0;
    limit = follows.limit;
  }

-- ---- a new host

module _ (limits : HostLimits) (digest : BlockDigest) (s : State) (new : IsStateClean (shown no_packs s) → IsNewHost limits digest (shown no_packs s)) where
  pub new_bare : IsStateClean s → IsBare (standing s)
  new_bare clean = rest_bare s limits ((new (clean_joined s clean)).rest (digest_by digest))

  pub new_alone : IsStateClean s → IsNewHost limits digest s
  new_alone clean =
      let it = new (clean_joined s clean) in
      let made : Tables = new_host limits.min_part limits.max_body (digest_number digest) in
      let same : seen_in limits (shown no_packs s) ≡ seen_in limits s = seen_bare s (new_bare clean) limits in
      let sound : IsSoundHost (digest_by digest) made = subst (IsSoundHost (digest_by digest)) it.tables (it.rest (digest_by digest)).sound in
      record {
        rest = λ named. subst (IsAtRest (IsSoundHost named)) same (it.rest named);
        tables = ap (λ (x : Seen). x.now) (sym same) ∙ it.tables;
        latest = ap (λ (x : Seen). latest_of x.now) (sym same) ∙ it.latest;
        vacant = λ tenant. ap (λ (x : Seen). view x.now tenant) (sym same) ∙ it.vacant tenant;
        left = left_alone s (λ x. x ≡ made) (λ db is. sound_host db (subst (IsSoundHost (digest_by digest)) (sym is) sound).sound) it.left;
      }
