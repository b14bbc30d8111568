use Rattle.std.proofs.Common.{◌++◌, List, [], length, sym, ap, subst, refl, ◌∙◌, append_assoc, append-nil}
use Rattle.std.proofs.lemmas.Map.Views.{exact_unsigned_eq}
use Rattle.sqlite.specs.Order.{Row}
use Rattle.bh_rows.specs.Form.{typed}
use Rattle.bh_shelf.specs.Contents.{Contents}
use Rattle.bh_tables.specs.Rows.{pack_form, place_form}
use Rattle.bh_check.specs.Looked.{AreLookedAt}
use Rattle.bh_check.proofs.ShownLemmas.{looked_none, none_left}
use Rattle.bh_check.proofs.looked.look.Goals as goal

pub groups-init : goal.groups-init
groups-init g c =
    let s = c.args.stored.now in (
      record { clean = λ clean. clean; seen = λ clean. refl },
      λ clean known named. (
        [],
        c.as_slice-rest.ensures.value,
        looked_none (typed pack_form s.packs.items) (g.P.Shelf.seen c.args.packs.now) (typed place_form s.places.items) g.D.Digester.digest_of c.new-looked.result c.new-looked.ensures.names c.new-looked.ensures.none,
      ),
    )

pub groups-preserved : goal.groups-preserved
groups-preserved g c =
    let inv = c.groups.invariant in
    let s = c.args.stored.now in
    let reads = c.in_ok-look_at.ensures.reads in
    let (some, more) = c.split_at.result in (
      record { clean = λ clean. inv.0.clean (reads.clean clean); seen = λ clean. reads.seen clean ∙ inv.0.seen (reads.clean clean) },
      λ clean known named.
          let was = inv.1 (reads.clean clean) known named in
          let same = inv.0.seen (reads.clean clean) in (
            was.0 ++ some.now,
            append_assoc was.0 some.now more.now ∙ ap (λ l. was.0 ++ l) (sym c.split_at.ensures.by_index.0) ∙ was.1,
            subst (λ (seen : Contents). AreLookedAt (typed pack_form s.packs.items) seen (typed place_form s.places.items) g.D.Digester.digest_of (was.0 ++ some.now) c.look_at.new.looked) same
                (c.in_ok-look_at.ensures.looked clean known named was.0
                (subst (λ (seen : Contents). AreLookedAt (typed pack_form s.packs.items) seen (typed place_form s.places.items) g.D.Digester.digest_of was.0 c.groups.looked) (sym same) was.2)),
          ),
    )

pub returns : goal.returns
returns g c =
    let inv = c.groups.invariant in
    let s = c.args.stored.now in
    let end = sym c.is_empty.ensures ∙ c.groups-test.false in
    record {
      looked = λ clean known named.
          let was = inv.1 clean known named in
          subst (λ (l : List Row). AreLookedAt (typed pack_form s.packs.items) (g.P.Shelf.seen c.args.packs.now) (typed place_form s.places.items) g.D.Digester.digest_of l c.groups.looked)
          (sym (append-nil was.0) ∙ ap (λ l. was.0 ++ l) (sym (none_left c.groups.rest.now (exact_unsigned_eq (length c.groups.rest.now) 0 end))) ∙ was.1) was.2;
      reads = inv.0;
    }
