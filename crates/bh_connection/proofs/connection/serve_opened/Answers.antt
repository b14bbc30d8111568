use Rattle.std.proofs.Common.{drop, refl, sym, subst, Ok}
use Rattle.bh_http.specs.Arriving.{IsFound}
use Rattle.bh_http.specs.Reading.{ReadsHead}
use Rattle.bh_http.specs.Views.{announced_view}
use Rattle.bh_link.specs.Taking.{Opens, announced_size}
use Rattle.bh_link.proofs.Opened.{opened_head}
use Rattle.bh_connection.proofs.HeadedLemmas.{unread}
use Rattle.bh_connection.proofs.connection.serve_opened.Goals as goal

pub returns-in-Ok-clause-came_to : goal.returns-in-Ok-clause-came_to
returns-in-Ok-clause-came_to g c = λ start begun opens gave.
    let limits = (g.H.Storage.seen c.args.host.now).limits in
    let bytes = c.args.opening.now.bytes.items in
    let found = c.in-Ok.found in
    let finds : IsFound limits bytes c.args.headers.now found = rw c.in-Ok.is at c.requires.finds in
    let head = announced_view c.of-head.result in
    let rest = drop found.spans.len bytes in
    let reads : ReadsHead limits bytes (Ok (head, rest)) = subst (λ h. ReadsHead limits bytes (Ok (h, rest))) (sym (rw c.as_slice.ensures.value at c.of-head.ensures)) finds.reads in
    let left = g.R.Source.remaining c.args.reader.now.inner in
    let opened = subst (λ h. Opens limits start left bytes (announced_size h)) c.in-Ok.is opens in
    let its = opened_head limits start left bytes found.body_size opened head rest reads in
    c.serve_headed.ensures.came_to start begun bytes (subst (Opens limits start left bytes) (sym its.0) opened) (subst (λ r. ReadsHead limits bytes (Ok (head, r))) its.1 reads) gave

pub returns-in-Err-clause-came_to : goal.returns-in-Err-clause-came_to
returns-in-Err-clause-came_to g c = λ start begun opens gave.
    let sent = c.answer.ensures in
    let told = c.refuse_unread-told.ensures in
    let opening = c.args.opening.now in
    unread g.H.Storage.IsIntact g.H.Storage.IsOpen g.H.Storage.seen g.H.Storage.left g.H.Storage.IsSoundStore (g.H.Storage.seen c.args.host.now).limits _ _ _ c.answer.result opening.bytes.items (announced_size opening.head) c.in-Err.refusal _ _ _ _
    refl c.requires.in_range c.requires.rest told.stays.intact opens refl (rw c.in-Err.is at c.requires.finds) gave c.requires.reads told.anew sent.stamp sent.out sent.took sent.ended
