use Rattle.bh_compare.proofs.terms.+same_term.Given as goal

-- proposed from what the function passes where it calls itself
abbrev pub decreases-same_term : goal.decreases-same_term
decreases-same_term l = l.depth
