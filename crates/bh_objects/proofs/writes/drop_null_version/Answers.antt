use Rattle.std.proofs.Common.{rules, ◌≡◌, ℕ, Bool, true, false, Option, Some, find, option_map, sym, ap, ◌∙◌, subst}
use Rattle.std.specs.Prelude.{if◌then◌else◌}
use Rattle.std.specs.Option.{option_map_or}
use Rattle.bh_base.specs.Connections.{state}
use Rattle.bh_model.specs.State.{Octets}
use Rattle.bh_tables.specs.Shown.{is_version}
use Rattle.bh_tables.specs.Typed.{VersionRow, Tables}
use Rattle.bh_view.proofs.FilterLemmas.{none_mapped}
use Rattle.bh_view.proofs.BucketLemmas.{row_of}
use Rattle.bh_base.specs.Layer.{IsInside}
use Rattle.bh_schema.specs.Rows.{SeenHead, seen_head}
use Rattle.bh_schema.specs.Views.{head_seen}
use Rattle.bh_schema.specs.Working.{tables_at}
use Rattle.bh_schema.specs.Written.{bytes_of_id}
use Rattle.bh_objects.specs.Answers.{is_marked}
use Rattle.bh_objects.specs.Writes.{without_entry, without_null_version}
use Rattle.bh_objects.proofs.Sizes.{size_of_head}
use Rattle.bh_objects.proofs.Working.{same_tables, asked_inside, on_ok_then}
use Rattle.bh_objects.proofs.writes.drop_null_version.Goals as goal

-- what is left where this row, or none, is the entry `null`
abbrev left : Octets → Octets → Octets → Tables → Option VersionRow → Tables
left t b k tables row = option_map_or (λ v. if is_marked v.marker then tables else without_entry t b k 0 v.seq tables) row tables

of_row : (t b k : Octets) (tables : Tables) (row : VersionRow) (marked : Bool) → find (is_version t b k 0) tables.versions ≡ Some row → is_marked row.marker ≡ marked
    → (if marked then tables else without_entry t b k 0 row.seq tables) ≡ without_null_version t b k tables
of_row t b k tables row marked there its = sym (ap (left t b k tables) there ∙ ap (λ m. if m then tables else without_entry t b k 0 row.seq tables) its)

pub returns-in-None : goal.returns-in-None
returns-in-None g c = record {
  changes = record {
    within = search rules;
    opens = search rules;
    holds = λ clean.
        let old = state g.S.Store g.P.Shelf c.args.connection.now in
        let same = c.in_ok-numbered_head.ensures.reads.same clean.intact in
        let none = none_mapped seen_head _ (sym (c.in_ok-numbered_head.ensures.found clean) ∙ ap (option_map head_seen) c.in-None.is) in
        record {
          within = subst IsInside (sym same) (c.requires (c.in_ok-numbered_head.ensures.reads.within.follows.clean clean));
          is = same_tables old (state g.S.Store g.P.Shelf c.numbered_head.new.connection) same ∙ ap (left c.args.tenant.now c.args.bucket.now c.args.key.now (tables_at old)) (sym none);
        };
  };
}

pub returns-then-is_marker : goal.returns-then-is_marker
returns-then-is_marker g c = record {
  changes = record {
    within = search rules;
    opens = search rules;
    holds = λ clean.
        let old = state g.S.Store g.P.Shelf c.args.connection.now in
        let same = c.in_ok-numbered_head.ensures.reads.same clean.intact in
        let row = row_of seen_head _ (head_seen c.in-Some.head) (sym (c.in_ok-numbered_head.ensures.found clean) ∙ ap (option_map head_seen) c.in-Some.is) in
        record {
          within = subst IsInside (sym same) (c.requires (c.in_ok-numbered_head.ensures.reads.within.follows.clean clean));
          is = same_tables old (state g.S.Store g.P.Shelf c.numbered_head.new.connection) same
              ∙ of_row c.args.tenant.now c.args.bucket.now c.args.key.now (tables_at old) row.0 true row.1 (ap (λ (x : SeenHead). is_marked x.marker) row.2 ∙ sym c.is_marker.ensures ∙ c.if-is_marker.true);
        };
  };
}

pub returns : goal.returns
returns g c = record {
  changes = record {
    within = search rules;
    opens = search rules;
    holds = on_ok_then c.drop_entry.result _ _ (λ holds clean.
        let t = c.args.tenant.now in
        let b = c.args.bucket.now in
        let k = c.args.key.now in
        let old = state g.S.Store g.P.Shelf c.args.connection.now in
        let middle = state g.S.Store g.P.Shelf c.numbered_head.new.connection in
        let clean_middle = c.drop_entry.ensures.changes.within.follows.clean clean in
        let same = same_tables old middle (c.in_ok-numbered_head.ensures.reads.same clean_middle.intact) in
        let row = row_of seen_head _ (head_seen c.in-Some.head) (sym (c.in_ok-numbered_head.ensures.found clean_middle) ∙ ap (option_map head_seen) c.in-Some.is) in
        let it = holds clean in
        record {
          within = it.within;
          is = it.is ∙ ap (λ (n : ℕ). without_entry t b k 0 n (tables_at middle)) c.as_replaced.ensures.seq
              ∙ ap (λ (x : SeenHead). without_entry t b k 0 x.seq (tables_at middle)) (sym row.2)
              ∙ ap (without_entry t b k 0 row.0.seq) same
              ∙ of_row t b k (tables_at old) row.0 false row.1 (ap (λ (x : SeenHead). is_marked x.marker) row.2 ∙ sym c.is_marker.ensures ∙ c.if-is_marker.false);
        }) c.drop_entry.ensures.changes.holds;
  };
}

pub drop_entry-requires-clause-held : goal.drop_entry-requires-clause-held
drop_entry-requires-clause-held g c clean =
    let t = c.args.tenant.now in
    let b = c.args.bucket.now in
    let k = c.args.key.now in
    let old = state g.S.Store g.P.Shelf c.args.connection.now in
    let same = same_tables old (state g.S.Store g.P.Shelf c.numbered_head.new.connection) (c.in_ok-numbered_head.ensures.reads.same clean.intact) in
    ap (bytes_of_id t b k 0) same ∙ size_of_head t b k 0 (tables_at old) (head_seen c.in-Some.head) (sym (ap (option_map head_seen) c.in-Some.is) ∙ c.in_ok-numbered_head.ensures.found clean) ∙ sym c.as_replaced.ensures.size

pub drop_entry-requires-clause-inside : goal.drop_entry-requires-clause-inside
drop_entry-requires-clause-inside g c =
    asked_inside (state g.S.Store g.P.Shelf c.args.connection.now) (state g.S.Store g.P.Shelf c.numbered_head.new.connection) c.requires c.in_ok-numbered_head.ensures.reads.within c.in_ok-numbered_head.ensures.reads.same
