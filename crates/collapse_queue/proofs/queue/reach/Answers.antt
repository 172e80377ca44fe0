-- The next id joins the ids that were used, and has no key.
use Rattle.std.proofs.Common.{rules, ◌≡◌, ◌<◌, [], ◌∷◌, ◌++◌, None, length, refl, ◌∙◌, arith}
use Rattle.std.proofs.lemmas.List.{length-append}
use Rattle.collapse_queue.proofs.Used.{queue_grown, padded_more}
use Rattle.collapse_queue.proofs.queue.reach.Goals as goal

pub loop-heap-preserved : goal.loop-heap-preserved
loop-heap-preserved g c =
    let h = c.loop-heap.heap in
    let keys = c.loop-heap.keys.items in
    let i = c.loop-heap.invariant in
    let items : c.push.new.self.items ≡ keys ++ None ∷ [] = search rules in
    let few : length keys < h.cap = omega arith in
    let roomy = i.queue.roomy in
    record {
      queue = rw (items, c.add.ensures.ids, c.add.ensures.len, c.add.ensures.cap) (record {
        queue = queue_grown h.len (length h.ids.items) h.ids.items keys h.within refl i.queue.queue;
        held = omega (arith, length-append keys (None ∷ []));
        roomy = omega arith;
      });
      keys = rw (items, c.add.ensures.cap) (padded_more h.cap keys few) ∙ i.keys;
      cap = c.add.ensures.cap ∙ i.cap;
    }
