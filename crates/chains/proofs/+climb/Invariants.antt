-- The measure is the state itself: each supply is a smaller one.
use Rattle.chains.proofs.+climb.Given as goal

abbrev pub decreases-climb : goal.decreases-climb
decreases-climb l = l.k.0
