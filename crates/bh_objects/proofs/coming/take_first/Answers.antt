use Rattle.std.proofs.Common.{rules, arith, [], refl}
use Rattle.bh_base.specs.Connections.{state}
use Rattle.bh_http.proofs.BodyLemmas.{gives_none}
use Rattle.bh_schema.specs.Working.{tables_at}
use Rattle.bh_blocks.proofs.Drafting.{begins}
use Rattle.bh_objects.proofs.coming.take_first.Goals as goal

pub returns-else-is_short : goal.returns-else-is_short
returns-else-is_short g c =
    let begun = c.requires.begun in
    let start = tables_at (state g.S.Store g.P.Shelf c.args.connection.now) in
    record {
      takes = record {
        within = search rules;
        taken = record {
          within = search rules;
          opens = λ intact up. up;
          inside = c.requires.inside;
          copies = c.requires.copies;
          of = refl;
          body = begun.body;
          size = refl;
          place = (let p = begun.place in omega (arith, p));
          fewer = rw begun.waiting begun.size;
          going = c.requires.going;
          came = ([], gives_none _ c.requires.going, c.new.ensures, λ clean. begins g.D.Digester.digest_of c.args.draft.now start begun.place begun.waiting);
        };
        stopped = tt;
      };
    }
