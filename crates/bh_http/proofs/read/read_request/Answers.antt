use Rattle.std.proofs.Common.{subst, sym}
use Rattle.bh_http.specs.Reading.{Reads}
use Rattle.bh_http.proofs.Completing.{head_reads}
use Rattle.bh_http.proofs.read.read_request.Goals as goal

pub returns-in-Ok : goal.returns-in-Ok
returns-in-Ok c = subst (Reads c.args.limits.now c.args.bytes.now) (sym c.with_body.ensures) (head_reads c.args.limits.now c.args.bytes.now _ c.in-Ok.ensures.ok)

pub returns-in-Err : goal.returns-in-Err
returns-in-Err c = head_reads c.args.limits.now c.args.bytes.now _ c.in-Err.ensures.err
