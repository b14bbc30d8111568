use Rattle.bh_packs.proofs.pack.Pack.open.Goals as goal

pub returns-clause-settled : goal.returns-clause-settled
returns-clause-settled g c = λ at bytes below stands. record {
  marked = below;
  below = below;
  stands = c.measure.ensures.others at bytes stands;
}
