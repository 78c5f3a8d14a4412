-- `inclusion::admits_in_turn` meets its contract: what indexes or numbers tell, else the comparison by AIDs. Assumes nothing.
use Rattle.inclusion.proofs.admits_in_turn.Goals as goal

pub returns-then-told_yes : goal.returns-then-told_yes
returns-then-told_yes c = record { admits_all_of = c.told_yes.ensures.admits_all_of c.if-told_yes.true; row_true_2 = c.told_yes.ensures.row_true_2 }

pub returns : goal.returns
returns c = record { admits_all_of = c.admits_all_of.ensures; row_true_2 = c.told_yes.ensures.row_true_2 }
