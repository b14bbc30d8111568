use Rattle.std.proofs.Common.{◌≡◌, ◌-◌, length, sym, ap, ◌∙◌, subst}
use Rattle.std.proofs.lemmas.Result.{IfOk-at_ok}
use Rattle.std.specs.List.{list_any}
use Rattle.bh_base.specs.Connections.{state}
use Rattle.sqlite.specs.State.{State}
use Rattle.bh_model.specs.State.{Octets}
use Rattle.bh_model.specs.Runs.{purged_tenant}
use Rattle.bh_tables.specs.Shown.{unreferenced}
use Rattle.bh_tables.specs.Typed.{Tables}
use Rattle.bh_view.specs.Becomes.{KeepsBodies}
use Rattle.bh_view.specs.Blocks.{AreDigests}
use Rattle.bh_view.specs.Sweep.{is_due, uploads_swept, without_each, without_blocks}
use Rattle.bh_view.specs.View.{view}
use Rattle.bh_cache.specs.Kept.{Agrees}
use Rattle.bh_base.specs.Layer.{standing, IsStateClean}
use Rattle.bh_schema.specs.Working.{tables_at, StillWorking, StillWorkingBy}
use Rattle.bh_schema.proofs.Storing.{on_ok}
use Rattle.bh_objects.proofs.Working.{same_tables, asked_working, works_on, works_then}
use Rattle.bh_sweep.proofs.Alike.{swept_alike}
use Rattle.bh_sweep.proofs.Left.{each_blocks}
use Rattle.bh_sweep.proofs.Steps.{these_go, is_swept, tells_complete}
use Rattle.bh_sweep.proofs.sweep.sweep.Given as given
use Rattle.bh_sweep.proofs.sweep.sweep.Goals as goal

pub any_stale-requires : goal.any_stale-requires
any_stale-requires g c clean = works_on (state g.S.Store g.P.Shelf c.args.connection.now) (state g.S.Store g.P.Shelf c.remove_stale.new.connection) (c.in_ok-uploads.ensures.works.working clean)

pub remove_blocks-requires : goal.remove_blocks-requires
remove_blocks-requires g c clean =
    let old = state g.S.Store g.P.Shelf c.args.connection.now in
    let one = state g.S.Store g.P.Shelf c.remove_stale.new.connection in
    let two = state g.S.Store g.P.Shelf c.any_stale.new.connection in
    (asked_working one two (λ before. works_on old one (c.in_ok-uploads.ensures.works.working before)) c.in_ok-stale.ensures.reads.within c.in_ok-stale.ensures.reads.same clean (λ bytes. bytes)).is

module _ (g : given.Over) (c : goal.After-neither-complete g) where
  abbrev old : State
  old = state g.S.Store g.P.Shelf c.args.connection.now

  abbrev one : State
  one = state g.S.Store g.P.Shelf c.remove_stale.new.connection

  abbrev two : State
  two = state g.S.Store g.P.Shelf c.any_stale.new.connection

  abbrev three : State
  three = state g.S.Store g.P.Shelf c.remove_blocks.new.connection

  abbrev new : State
  new = state g.S.Store g.P.Shelf c.any_unreferenced.new.connection

  module _ (clean : IsStateClean new) where
    clean_three : IsStateClean three
    clean_three = c.any_unreferenced.ensures.within.follows.clean clean

    clean_two : IsStateClean two
    clean_two = c.in_ok-blocks.ensures.within.follows.clean clean_three

    clean_one : IsStateClean one
    clean_one = c.in_ok-stale.ensures.reads.within.follows.clean clean_two

    clean_old : IsStateClean old
    clean_old = c.in_ok-uploads.ensures.works.within.follows.clean clean_one

    stays : standing new ≡ standing three
    stays = on_ok _ c.in_ok-left.ensures.ok c.any_unreferenced.ensures.same clean.intact

    last : tables_at new ≡ tables_at three
    last = same_tables three new stays

    taken : tables_at two ≡ without_each (uploads_swept c.args.at c.args.limit (tables_at old)) (tables_at old)
    taken = same_tables one two (c.in_ok-stale.ensures.reads.same clean_two.intact) ∙ c.in_ok-uploads.ensures.removed clean_one

    many : c.in_ok-uploads.uploads ≡ length (uploads_swept c.args.at c.args.limit (tables_at old))
    many = c.in_ok-uploads.ensures.count clean_one

    gone : tables_at three ≡ without_blocks (unreferenced (c.args.limit - c.in_ok-uploads.uploads) (tables_at two).refs (tables_at two).blocks) (tables_at two)
    gone = c.in_ok-blocks.ensures.removed clean_three ∙ ap (λ n. without_blocks (unreferenced n (tables_at two).refs (tables_at two).blocks) (tables_at two)) c.saturating_sub.ensures

    works_two : StillWorking old two
    works_two = works_then old one two (c.in_ok-uploads.ensures.works.working clean_one)
        (asked_working one two (λ before. works_on old one (c.in_ok-uploads.ensures.works.working before)) c.in_ok-stale.ensures.reads.within c.in_ok-stale.ensures.reads.same clean_two)

    module _ (digest : Octets → Octets) (digests : AreDigests digest (tables_at old).blocks) where
      keeps : KeepsBodies digest (tables_at two) (tables_at three)
      keeps = c.in_ok-blocks.ensures.keeps digest clean_three ((works_two digest).digests digests)

      works_three : StillWorkingBy digest two three
      works_three = record {
        is = record { inside = c.in_ok-blocks.ensures.inside clean_three; sound = keeps.sound; bodies = keeps.has (works_two digest).is.bodies };
        limits = keeps.limits;
        digests = λ d. keeps.digests;
      }

      works_new : StillWorkingBy digest old new
      works_new =
          let first = works_two digest in
          let then = works_three in
          let end = asked_working three new (λ _. then.is) c.any_unreferenced.ensures.within (on_ok _ c.in_ok-left.ensures.ok c.any_unreferenced.ensures.same) clean digest in
          record { is = end.is; limits = end.limits ∙ then.limits ∙ first.limits; digests = λ d. end.digests (then.digests (first.digests d)) }

      alike : (t : Octets) → purged_tenant (view (tables_at new) t) c.args.at ≡ purged_tenant (view (tables_at old) t) c.args.at
      alike t =
          ap (λ (x : Tables). purged_tenant (view x t) c.args.at) last
          ∙ ap (λ s. purged_tenant s c.args.at) (keeps.views t)
          ∙ ap (λ (x : Tables). purged_tenant (view x t) c.args.at) taken
          ∙ swept_alike c.args.at c.args.limit (tables_at old) (c.requires clean_old).sound t

pub returns-clause-swept : goal.returns-clause-swept
returns-clause-swept g c clean = last g c clean ∙ is_swept c.args.at c.args.limit c.in_ok-uploads.uploads (tables_at (old g c)) (tables_at (two g c)) (tables_at (three g c)) (taken g c clean) (many g c clean) (gone g c clean)

pub returns-clause-blocks : goal.returns-clause-blocks
returns-clause-blocks g c clean =
    c.in_ok-blocks.ensures.count (clean_three g c clean)
    ∙ ap (λ n. length (unreferenced n (tables_at (two g c)).refs (tables_at (two g c)).blocks)) c.saturating_sub.ensures
    ∙ ap length (these_go c.args.at c.args.limit c.in_ok-uploads.uploads (tables_at (old g c)) (tables_at (two g c)) (tables_at (three g c)) (taken g c clean) (many g c clean))

pub returns-clause-complete : goal.returns-clause-complete
returns-clause-complete g c clean =
    c.neither-complete.ensures
    ∙ tells_complete c.args.at c.args.limit c.in_ok-uploads.uploads (tables_at (old g c)) (tables_at (two g c)) (tables_at (three g c)) (taken g c clean) (many g c clean) (gone g c clean) c.in_ok-stale.stale c.in_ok-left.left
    (c.requires (clean_old g c clean)).sound
    (c.in_ok-stale.ensures.found (clean_two g c clean) ∙ ap (λ (x : Tables). list_any (is_due c.args.at x) x.uploads) (sym (same_tables (one g c) (two g c) (c.in_ok-stale.ensures.reads.same (clean_two g c clean).intact))))
    (IfOk-at_ok _ c.in_ok-left.ensures.ok c.any_unreferenced.ensures.found clean)

pub returns-clause-working : goal.returns-clause-working
returns-clause-working g c digest digests clean = works_new g c clean digest digests

pub returns-clause-purged : goal.returns-clause-purged
returns-clause-purged g c digest clean digests = alike g c clean digest digests

pub returns-clause-kept : goal.returns-clause-kept
returns-clause-kept g c clean agrees =
    let stays = ap (λ (x : Tables). x.blocks) (taken g c clean) ∙ each_blocks (uploads_swept c.args.at c.args.limit (tables_at (old g c))) (tables_at (old g c)) in
    subst (λ (x : Tables). Agrees c.remove_blocks.new.cache x.blocks) (sym (last g c clean))
    (c.in_ok-blocks.ensures.kept (clean_three g c clean) (subst (Agrees c.args.cache.now) (sym stays) agrees))
