use Rattle.table.proofs.Seeking.{Seeking}
use Rattle.table.proofs.TableArrows.lookup.Given as goal

abbrev pub invariant-loop-s : goal.invariant-loop-s
invariant-loop-s l = Seeking l.self.entries.now l.self.m l.from l.on l.end l.s
