-- `compact_fill::Filling::fill_all` meets its contract: the last state is asked for what the others left.
use Rattle.compact_fill.proofs.Finishing.{still-first, last-asked}
use Rattle.compact_fill.proofs.Held.{still_word}
use Rattle.compact_fill.proofs.Filling.fill_all.Goals as goal

pub start_state-requires : goal.start_state-requires
start_state-requires c =
    let filled = c.fill_states-all.ensures in
    rw filled.same.letters (last-asked c.args.self.now.first_form filled.states filled.sets filled.next)

pub returns-clause-rows : goal.returns-clause-rows
returns-clause-rows c =
    let filled = c.fill_states-all.ensures in
    let own = still_word filled.same (still-first c.args.self.now.first_form filled.states) in
    record {
      but_last = c.fill_states-all.new.self.entries.now;
      states = filled.states;
      last = rw (own, filled.same.letters) at c.start_state.ensures.starts;
    }
