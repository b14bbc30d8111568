use Rattle.std.proofs.Common.{◌≤◌, length, drop, ap, sym, ◌∙◌, arith, inr}
use Rattle.std.proofs.lemmas.Result.{IfOk-weaker, IfErr-weaker}
use Rattle.bh_http.specs.Reading.{announcing, framing}
use Rattle.bh_http.proofs.Heads.{has_head, parts_same}
use Rattle.bh_http.proofs.read.split_head.Goals as goal

pub returns-in-Some-clause-ok : goal.returns-in-Some-clause-ok
returns-in-Some-clause-ok c =
    let limits = c.args.limits.now in
    let headers = c.find_head.new.headers in
    let spans = c.in-Some.spans in
    let rest = drop spans.len c.args.bytes.now in
    let (head, at, small) = c.in-Some.ensures.found in
    let room : length headers ≤ 64 = omega arith in
    let has = has_head c.args.bytes.now headers spans head at small room in
    IfOk-weaker c.split_at.result _ _ (λ found is. inr (head, rest, has, is ∙ ap (λ parts. announcing parts rest (framing limits parts)) (sym (parts_same c.args.bytes.now headers spans head at)))) c.split_at.ensures.ok

pub returns-in-Some-clause-err : goal.returns-in-Some-clause-err
returns-in-Some-clause-err c =
    let limits = c.args.limits.now in
    let headers = c.find_head.new.headers in
    let spans = c.in-Some.spans in
    let rest = drop spans.len c.args.bytes.now in
    let (head, at, small) = c.in-Some.ensures.found in
    let room : length headers ≤ 64 = omega arith in
    let has = has_head c.args.bytes.now headers spans head at small room in
    IfErr-weaker c.split_at.result _ _ (λ refusal is. inr (head, rest, has, is ∙ ap (λ parts. announcing parts rest (framing limits parts)) (sym (parts_same c.args.bytes.now headers spans head at)))) c.split_at.ensures.err
