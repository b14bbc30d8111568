use Rattle.std.proofs.Common.{◌≡◌, ℕ, false, List, inl, inr, sym, subst, ◌∙◌, ap}
use Rattle.sqlite_disk.specs.Events.{Event, replay}
use Rattle.sqlite_disk.specs.History.{MayLeave}
use Rattle.bh_shelf.specs.Marks.{kept_of}
use Rattle.bh_shelf.specs.Ranges.{contents_of, range_of}
use Rattle.bh_pack_files.specs.contracts.file.PackFileDisk.TheImpl.{ghosts}
use Rattle.bh_pack_shelf.proofs.OpenLemmas.{synced_stands, kept_sized, opened_next}
use Rattle.bh_pack_shelf.proofs.opening.put.Goals as goal

pub open_at-requires : goal.open_at-requires
open_at-requires g c =
    let disk = ghosts g.row.S g.S.Held g.S.Held-dict g.S.Destruct-dict in
    let file = c.args.file in
    let start = g.S.Held.held file.pack in
    let seen : disk.seen file ≡ start = ap (λ (log : List Event). (replay start log).seen) c.requires.1 in
    let only : (left : List ℕ) → disk.may_leave file left → left ≡ start = λ left may.
    let P : List Event → Type 0 = λ log. let m = replay start log in MayLeave false m.seen m.synced m.steps left in
    elim (subst P c.requires.1 may) [ inl same ↦ same | inr same ↦ same ] in
    synced_stands disk file (λ left may. only left may ∙ sym seen)

pub returns-in-Ok-clause-opened : goal.returns-in-Ok-clause-opened
returns-in-Ok-clause-opened g c = λ clean rows opened.
    let disk = ghosts g.row.S g.S.Held g.S.Held-dict g.S.Destruct-dict in
    let old = c.args.shelf.now in
    let new = c.open_at.new.shelf in
    let row = c.args.row in
    let held = g.S.Held.held in
    let start = held c.args.file.pack in
    let seen : disk.seen c.args.file ≡ held row.pack = ap (λ (log : List Event). (replay start log).seen) c.requires.1 ∙ ap held c.requires.0 in
    let has : (offset size : ℕ) → contents_of disk new.packs (kept_of new.marks) row.pack offset size ≡ range_of (held row.pack) row.length offset size =
    λ offset size. c.in-Ok.ensures.opened clean offset size ∙ ap (λ (f : List ℕ). range_of f row.length offset size) seen in
    opened_next held row rows (contents_of disk old.packs (kept_of old.marks)) (contents_of disk new.packs (kept_of new.marks))
    (kept_sized disk new.packs new.marks new.sound clean) has (c.open_at.ensures.others clean) opened
