use Rattle.std.specs.Slice.Iter.{chunks_rest, chunks_size}
use Rattle.pieces_shown.proofs.Handed.{HandedOn}
use Rattle.pieces_shown.proofs.in_pieces.Given as goal

abbrev pub invariant-loop-piece : goal.invariant-loop-piece
invariant-loop-piece g l = HandedOn l.word l.text l.s (chunks_rest l.piece-iterator) (chunks_size l.piece-iterator) l.end l.count
