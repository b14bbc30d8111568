use Rattle.std.proofs.Common.{rules, arith, [], subst}
use Rattle.bh_base.specs.Connections.{state}
use Rattle.bh_http.specs.Bodies.{Gives}
use Rattle.bh_http.proofs.BodyLemmas.{if_err, going_may}
use Rattle.bh_schema.specs.Working.{tables_at}
use Rattle.bh_schema.proofs.Storing.{on_ok}
use Rattle.bh_blocks.proofs.Drafting.{begins}
use Rattle.bh_objects.proofs.Filling.{filled}
use Rattle.bh_objects.proofs.coming.take_block.Goals as goal

pub returns : goal.returns
returns g c =
    let came = c.in_ok-fill.ensures in
    let pushed = c.push_known.ensures in
    let begun = c.requires.begun in
    let is = c.in_ok-or_trouble.ensures.ok in
    let start = tables_at (state g.S.Store g.P.Shelf c.args.connection.now) in
    record {
      takes = record {
        within = pushed.within;
        taken = record {
          within = pushed.within;
          opens = on_ok _ is pushed.opens;
          inside = on_ok _ is pushed.inside;
          copies = on_ok _ is pushed.copies;
          of = pushed.of;
          body = (let b = pushed.body in let i = begun.body in omega (arith, b, i));
          size = pushed.size;
          place = on_ok _ is pushed.small;
          fewer = on_ok _ is pushed.fewer;
          going = came.going;
          came = (
            _,
            subst (Gives _ _) (filled _ _ _ _ came.fits came.gives came.full (omega (arith, c.requires.more))) came.gives,
            c.new_with_prefix-hasher.ensures,
            λ clean. on_ok _ is pushed.goes clean [] start (begins g.D.Digester.digest_of c.args.draft.now start begun.place begun.waiting),
          );
        };
        stopped = tt;
      };
    }

pub returns-in_err-clone : goal.returns-in_err-clone
returns-in_err-clone g c = record {
  takes = record {
    within = search rules;
    taken = search rules;
    stopped = if_err c.from_residual-in_err-clone.result (_, c.in_ok-fill.ensures.gives, going_may _ c.in_ok-fill.ensures.going);
  };
}

pub returns-in_err-or_trouble : goal.returns-in_err-or_trouble
returns-in_err-or_trouble g c = record {
  takes = record {
    within = c.push_known.ensures.within;
    taken = search rules;
    stopped = if_err c.from_residual-in_err-or_trouble.result (_, c.in_ok-fill.ensures.gives, going_may _ c.in_ok-fill.ensures.going);
  };
}
