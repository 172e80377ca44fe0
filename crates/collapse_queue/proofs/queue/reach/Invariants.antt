-- The ids are used one by one, and the queue stays what it was.
use Rattle.std.proofs.Common.{◌≡◌, ◌+◌, ◌-◌, length, vec_capacity}
use Rattle.collapse_queue.specs.Heaps.{padded, IsHeld}
use Rattle.collapse_queue.proofs.queue.reach.Given as goal

abbrev pub invariant-loop-heap : goal.invariant-loop-heap
invariant-loop-heap g l = record {
  queue : IsHeld g.K.Ord.cmp l.heap.len l.heap.ids.items l.keys.items l.heap.cap (vec_capacity l.keys);
  keys : padded l.heap.cap l.keys.items ≡ padded l.fn.heap.cap l.fn.keys.items;
  cap : l.heap.cap ≡ l.fn.heap.cap;
}

abbrev pub decreases-loop-heap : goal.decreases-loop-heap
decreases-loop-heap g l = l.id + 1 - length l.keys.items
