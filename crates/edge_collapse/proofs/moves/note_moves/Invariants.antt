-- The moves of the vertices so far are listed.
use Rattle.std.proofs.Common.{◌≡◌, ◌≤◌, List, take, vec_len, vec_capacity}
use Rattle.tpz_base.specs.Meshes.{Edge}
use Rattle.edge_collapse.specs.Places.{taken_by, AreLed, moves_among}
use Rattle.edge_collapse.proofs.moves.note_moves.Given as goal

abbrev pub invariant-loop-v : goal.invariant-loop-v
invariant-loop-v l = record {
  items : (es : List Edge) → AreLed l.list.vertices es l.places → l.moves.items ≡ moves_among (taken_by es) (take l.v l.list.vertices);
  few : vec_len l.moves ≤ l.v;
  capacity : vec_capacity l.fn.moves ≤ vec_capacity l.moves;
}
