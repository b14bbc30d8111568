-- What was written comes after what wasn't read yet.
use Rattle.std.proofs.Common.{◌++◌, length, take, ap, ◌∙◌, arith}
use Rattle.std.proofs.lemmas.List.{length-append, length-take-le}
use Rattle.bh_stage.specs.Records.{bytes_of}
use Rattle.bh_stage.proofs.RecordLemmas.{bytes_of_append}
use Rattle.bh_stage.proofs.SpoolLemmas.{put_rest, put_faithful}
use Rattle.bh_stage.proofs.spooled.Spool.put.Goals as goal

pub invariant_of-self-2 : goal.invariant_of-self-2
invariant_of-self-2 c =
    let s = c.begin_anew.new.self in
    let told = ap bytes_of c.and-self.ensures ∙ bytes_of_append s.put.items c.args.count c.args.piece.now in
    let len = ap length told ∙ length-append (bytes_of s.put.items) (take c.args.count c.args.piece.now) in
    let front = length-take-le c.args.count c.args.piece.now (omega arith) in
    record { within = omega arith; left = omega arith }

pub returns-clause-ok : goal.returns-clause-ok
returns-clause-ok c =
    let s = c.begin_anew.new.self in
    let told = ap bytes_of c.and-self.ensures ∙ bytes_of_append s.put.items c.args.count c.args.piece.now in
    put_rest (bytes_of s.put.items) (bytes_of s.got.items) (take c.args.count c.args.piece.now) (bytes_of c.and-self.result.items) told (omega (arith, s.left))
    ∙ ap (λ x. x ++ take c.args.count c.args.piece.now) c.begin_anew.ensures.rest

pub returns-clause-faithful : goal.returns-clause-faithful
returns-clause-faithful c = λ same.
    let s = c.begin_anew.new.self in
    let told = ap bytes_of c.and-self.ensures ∙ bytes_of_append s.put.items c.args.count c.args.piece.now in
    c.begin_anew.ensures.faithful (put_faithful (bytes_of s.put.items) (bytes_of s.got.items) (take c.args.count c.args.piece.now) (bytes_of c.and-self.result.items) told (omega (arith, s.left)) same)
