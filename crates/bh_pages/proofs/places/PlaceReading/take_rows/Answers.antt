use Rattle.std.proofs.Common.{◌<◌, ◌≤◌, option_map, inl, inr, ap, subst, ◌∙◌}
use Rattle.bh_pages.specs.Taken.{seen_place, GoesOn}
use Rattle.bh_pages.proofs.places.PlaceReading.take_rows.Goals as goal

pub returns-then-listed-asked-clause-took : goal.returns-then-listed-asked-clause-took
returns-then-listed-asked-clause-took g c = record {
  added = c.in_ok-add_rows.ensures;
  goes = inl (subst (λ n. c.args.asked.now.max < n) (c.len-listed.ensures ∙ c.add_rows.new.self.entries.ok.0) c.if-listed-asked.true);
}

pub returns-in_default-clause-took : goal.returns-in_default-clause-took
returns-in_default-clause-took g c = record {
  added = c.in_ok-add_rows.ensures;
  goes = inr (subst (GoesOn g.R.Row.spot c.args.asked.now (seen_place c.args.self.now.place) c.args.rows.now c.args.self.now.count)
      (ap (option_map seen_place) c.in_default.is) c.in_ok-place.ensures);
}

pub returns-clause-took : goal.returns-clause-took
returns-clause-took g c = record {
  added = c.in_ok-add_rows.ensures;
  goes = (
    subst (λ n. n ≤ c.args.asked.now.max) (c.len-listed.ensures ∙ c.add_rows.new.self.entries.ok.0) c.if-listed-asked.false,
    subst (GoesOn g.R.Row.spot c.args.asked.now (seen_place c.args.self.now.place) c.args.rows.now c.args.self.now.count)
        (ap (option_map seen_place) c.in-Some.is) c.in_ok-place.ensures,
  );
}
