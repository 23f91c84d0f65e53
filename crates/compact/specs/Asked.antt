-- Compact rows that code asks for arrows.
--
--   arrow_of r   where the arrows of the rows r lead
use Rattle.oracle.specs.Arrows.{Delta}
use Rattle.compact.specs.Compact.{read_compact}
use Rattle.compact.specs.declared.Rows.{Rows}

abbrev pub arrow_of : Rows → Delta
arrow_of r = read_compact r.m r.sets.now r.entries.now
