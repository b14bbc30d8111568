use Rattle.std.proofs.Common.{◌≡◌, ◌≢◌, length, Option, Some, None, IfSome, Result, Ok, Err, IfOk, arith, refl, sym, ap, ◌∙◌}
use Rattle.std.proofs.lemmas.Bool.{eqb-false}
use Rattle.sqlite.specs.Held.{state}
use Rattle.bh_shelf.specs.Contents.{Contents}
use Rattle.bh_packs.specs.Sums.{sum_of}
use Rattle.bh_packs.specs.declared.place.Place.{Place}
use Rattle.bh_base.specs.Connections.{backing, IsClean, HasAt}
use Rattle.bh_base.proofs.Lifting.{shown_clean, clean_shown, packs_within, shown_more, named_inside}
use Rattle.bh_base.proofs.connection.Connection.append.Goals as goal

-- where nothing was found, all holds of it
none_had : {E X : Type 0} (r : Result (Option X) E) (P : X → Type 0) → IfOk r (λ found. found ≡ None) → IfOk r (λ found. IfSome found P)
none_had (Ok None) P is = tt
none_had (Ok (Some x)) P is = absurd (cc)
none_had (Err e) P is = tt

pub returns-then-is_empty-clause-within : goal.returns-then-is_empty-clause-within
returns-then-is_empty-clause-within g c =
    let a = backing g.P.Shelf c.args.self.now.packs in
    packs_within a a (state g.S.Store c.args.self.now.database) (λ clean. clean) (λ clean pack offset size bytes has. has) (λ clean. refl) (λ clean. (c.requires clean).by.inside)

pub returns-in-Ok-clause-within : goal.returns-in-Ok-clause-within
returns-in-Ok-clause-within g c =
    packs_within (backing g.P.Shelf c.args.self.now.packs) (backing g.P.Shelf c.append.new.self) (state g.S.Store c.args.self.now.database) c.append.ensures.clean c.append.ensures.stood c.append.ensures.kept (λ clean. (c.requires clean).by.inside)

pub returns-in-Err-clause-within : goal.returns-in-Err-clause-within
returns-in-Err-clause-within g c =
    packs_within (backing g.P.Shelf c.args.self.now.packs) (backing g.P.Shelf c.append.new.self) (state g.S.Store c.args.self.now.database) c.append.ensures.clean c.append.ensures.stood c.append.ensures.kept (λ clean. (c.requires clean).by.inside)

pub returns-in-Ok-clause-same : goal.returns-in-Ok-clause-same
returns-in-Ok-clause-same g c clean =
    let s = state g.S.Store c.args.self.now.database in
    let a = backing g.P.Shelf c.args.self.now.packs in
    let b = backing g.P.Shelf c.append.new.self in
    let it = shown_clean b s clean in
    let m = c.requires (clean_shown a s it.0 (c.append.ensures.clean it.1)) in
    shown_more a b s (c.append.ensures.seen it.1) (c.append.ensures.kept it.1) m.by.inside m.by.host.held.blocks

pub returns-in-Err-clause-same : goal.returns-in-Err-clause-same
returns-in-Err-clause-same g c clean =
    let s = state g.S.Store c.args.self.now.database in
    let a = backing g.P.Shelf c.args.self.now.packs in
    let b = backing g.P.Shelf c.append.new.self in
    let it = shown_clean b s clean in
    let m = c.requires (clean_shown a s it.0 (c.append.ensures.clean it.1)) in
    shown_more a b s (c.append.ensures.seen it.1) (c.append.ensures.kept it.1) m.by.inside m.by.host.held.blocks

-- the bytes are some
pub returns-in-Ok-clause-placed : goal.returns-in-Ok-clause-placed
returns-in-Ok-clause-placed g c clean =
    let s = state g.S.Store c.args.self.now.database in
    let a = backing g.P.Shelf c.args.self.now.packs in
    let b = backing g.P.Shelf c.append.new.self in
    let place = c.in-Ok.place in
    let it = shown_clean b s clean in
    let m = c.requires (clean_shown a s it.0 (c.append.ensures.clean it.1)) in
    let many : length c.args.bytes.now ≢ 0 = eqb-false (length c.args.bytes.now) 0 (sym c.is_empty.ensures ∙ c.if-is_empty.false) in
    ap (λ (n : Contents). n place.pack place.offset place.size) (named_inside a b s m.by.inside) ∙ c.in-Ok.ensures.placed (omega (arith, many))

pub returns-in-Ok-clause-size : goal.returns-in-Ok-clause-size
returns-in-Ok-clause-size g c =
    let many : length c.args.bytes.now ≢ 0 = eqb-false (length c.args.bytes.now) 0 (sym c.is_empty.ensures ∙ c.if-is_empty.false) in
    c.in-Ok.ensures.size (omega (arith, many))

pub returns-in-Ok-clause-sum : goal.returns-in-Ok-clause-sum
returns-in-Ok-clause-sum g c =
    let many : length c.args.bytes.now ≢ 0 = eqb-false (length c.args.bytes.now) 0 (sym c.is_empty.ensures ∙ c.if-is_empty.false) in
    c.in-Ok.ensures.sum (omega (arith, many))

-- none was found
pub returns-in-Err-clause-placed : goal.returns-in-Err-clause-placed
returns-in-Err-clause-placed g c =
    let new = record c.args.self.now { packs = c.append.new.self } in
    none_had c.without_room.result (λ (place : Place). IsClean g.S.Store g.P.Shelf new → HasAt g.S.Store g.P.Shelf new place c.args.bytes.now) c.without_room.ensures.none

pub returns-in-Err-clause-size : goal.returns-in-Err-clause-size
returns-in-Err-clause-size g c = none_had c.without_room.result (λ (place : Place). place.size ≡ length c.args.bytes.now) c.without_room.ensures.none

pub returns-in-Err-clause-sum : goal.returns-in-Err-clause-sum
returns-in-Err-clause-sum g c = none_had c.without_room.result (λ (place : Place). place.sum ≡ sum_of c.args.bytes.now) c.without_room.ensures.none
