use Rattle.salvage.proofs.OnePart.{Upto}
use Rattle.salvage.proofs.list_finds.Given as goal

abbrev pub invariant-loop-find : goal.invariant-loop-find
invariant-loop-find l =
    Upto l.text l.at.0 l.finds l.count l.initial.starts l.initial.kinds l.starts l.kinds l.find-index l.listed
