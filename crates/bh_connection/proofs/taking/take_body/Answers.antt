use Rattle.std.proofs.Common.{◌≡◌, ◌++◌, None, List, ℕ, [], take, ap, subst, ◌∙◌, append_assoc, append-nil, rules}
use Rattle.bh_http.specs.Bodies.{Coming, Gives}
use Rattle.bh_http.proofs.BodyLemmas.{gives_then}
use Rattle.bh_connection.proofs.taking.take_body.Goals as goal

-- no more came
gives_end : (a b c : Coming) (x : List ℕ) → b.broken ≡ None → Gives a b x → Gives b c [] → Gives a c x
gives_end a b c x going one none = subst (λ l. Gives a c l) (append-nil x) (gives_then a b c x [] going one none)

pub taking-preserved : goal.taking-preserved
taking-preserved g c =
    let (given, gave, is) = c.taking.invariant.came in
    let piece = take c.in-Ok.count c.next.new.room in
    record {
      going = c.in-Ok.ensures.going;
      came = (
        given ++ piece,
        gives_then _ _ _ given piece c.taking.invariant.going gave c.in-Ok.ensures.gives,
        c.in_ok-extend_from_slice-in-Ok.ensures.items ∙ ap (λ l. l ++ piece) is ∙ append_assoc c.args.bytes.now.items given piece,
      );
    }

pub returns-in_err-extend_from_slice-in-Ok-clause-came : goal.returns-in_err-extend_from_slice-in-Ok-clause-came
returns-in_err-extend_from_slice-in-Ok-clause-came g c =
    let (given, gave, is) = c.taking.invariant.came in
    let piece = take c.in-Ok.count c.next.new.room in
    (given ++ piece, gives_then _ _ _ given piece c.taking.invariant.going gave c.in-Ok.ensures.gives, search rules)

pub returns-in-Err-Ended-clause-came : goal.returns-in-Err-Ended-clause-came
returns-in-Err-Ended-clause-came g c =
    let (given, gave, is) = c.taking.invariant.came in
    (given, gives_end _ _ _ given c.taking.invariant.going gave c.in-Err-Ended.ensures.none, is)

pub returns-in-Err-Failed-clause-came : goal.returns-in-Err-Failed-clause-came
returns-in-Err-Failed-clause-came g c =
    let (given, gave, is) = c.taking.invariant.came in
    (given, gives_end _ _ _ given c.taking.invariant.going gave c.in-Err-Failed.ensures.none, tt)
