use Rattle.std.proofs.Common.{◌+◌, None, Some, length, subst}
use Rattle.memchr.specs.Find.{IsFirst, OccursAt}
use Rattle.bh_pages.proofs.Finding.{name_found, some_bytes, rest_is}
use Rattle.bh_pages.proofs.names.name_end.Goals as goal

pub returns-in-None-clause-name : goal.returns-in-None-clause-name
returns-in-None-clause-name c = λ under. name_found c.args.prefix.now c.args.delimiter.now c.args.key.now c.in-Some.rest.now None under (some_bytes c.args.delimiter.now c.if-is_empty.ensures)
    (rest_is c.args.prefix.now c.args.key.now c.in-Some.rest.now c.in-Some.ensures.lookup.0.2) (subst (λ r. IsFirst (OccursAt c.in-Some.rest.now c.args.delimiter.now) 0 (length c.in-Some.rest.now + 1) r) c.in-None.is c.find.ensures)

pub returns-in-Some-find-clause-name : goal.returns-in-Some-find-clause-name
returns-in-Some-find-clause-name c = λ under. name_found c.args.prefix.now c.args.delimiter.now c.args.key.now c.in-Some.rest.now (Some c.in-Some-find.at) under (some_bytes c.args.delimiter.now c.if-is_empty.ensures)
    (rest_is c.args.prefix.now c.args.key.now c.in-Some.rest.now c.in-Some.ensures.lookup.0.2) c.in-Some-find.ensures
