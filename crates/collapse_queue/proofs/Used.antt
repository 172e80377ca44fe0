-- The ids that were used: one more of them, and the keys of all ids below the capacity.
use Rattle.std.proofs.Common.{◌≡◌, ℕ, zero, suc, ◌-◌, ◌<◌, ◌≤◌, List, [], ◌∷◌, ◌++◌, Option, None, IsSome, length, replicate, refl, sym, ap, ◌∙◌, subst, arith, append_assoc}
use Rattle.std.proofs.lemmas.Bool.{cases_lt}
use Rattle.std.proofs.lemmas.List.{length-append, length-replicate, length-set}
use Rattle.std.specs.declared.cmp.Ordering.{Ordering}
use Rattle.std.specs.Prelude.{slice_set}
use Rattle.collapse_queue.specs.Queues.{key_of, empty_queue, IsLeast}
use Rattle.collapse_queue.specs.Heaps.{is_before, parent_of, padded, IsKeyedBelow, IsHeap, IsQueue, IsHeld}
use Rattle.collapse_queue.proofs.Places.{at, either}
use Rattle.collapse_queue.proofs.QueueLaw.{key_of-empty_queue, empty_by_keys}

-- a list with one more at its end
end_low : (xs : List ℕ) (x k : ℕ) → k < length xs → at (xs ++ x ∷ []) k ≡ at xs k
end_low [] x k h = absurd (omega arith)
end_low (y ∷ xs) x zero h = refl
end_low (y ∷ xs) x (suc k) h = end_low xs x k (omega arith)

end_last : (xs : List ℕ) (x k : ℕ) → k ≡ length xs → at (xs ++ x ∷ []) k ≡ x
end_last [] x zero h = refl
end_last [] x (suc k) h = absurd (omega arith)
end_last (y ∷ xs) x zero h = absurd (omega arith)
end_last (y ∷ xs) x (suc k) h = end_last xs x k (omega arith)

module _ {K : Type 0} where
  -- keys of ids without one
  pub key_of-more : (keys : List (Option K)) (m id : ℕ) → key_of (keys ++ replicate m None) id ≡ key_of keys id
  key_of-more [] m id = key_of-empty_queue m id
  key_of-more (k ∷ keys) m zero = refl
  key_of-more (k ∷ keys) m (suc id) = key_of-more keys m id

  pub key_of-one : (keys : List (Option K)) (id : ℕ) → key_of (keys ++ None ∷ []) id ≡ key_of keys id
  key_of-one keys id = key_of-more keys 1 id

  pub key_of-padded : (cap : ℕ) (keys : List (Option K)) (id : ℕ) → key_of (padded cap keys) id ≡ key_of keys id
  key_of-padded cap keys id = key_of-more keys (cap - length keys) id

  pub length-padded : (cap : ℕ) (keys : List (Option K)) → length keys ≤ cap → length (padded cap keys) ≡ cap
  length-padded cap keys h =
      let none : Option K = None in
      omega (arith, length-append keys (replicate (cap - length keys) none), length-replicate (cap - length keys) none)

  -- the next id is used
  pub padded_more : (cap : ℕ) (keys : List (Option K)) → length keys < cap → padded cap (keys ++ None ∷ []) ≡ padded cap keys
  padded_more cap keys h =
      let none : Option K = None in
      let long = length-append keys (none ∷ []) in
      let one : suc (cap - length (keys ++ none ∷ [])) ≡ cap - length keys = omega arith in
      append_assoc keys (none ∷ []) (replicate (cap - length (keys ++ none ∷ [])) none) ∙ ap (λ m. keys ++ replicate m none) one

  set_low : (keys more : List (Option K)) (id : ℕ) (x : Option K) → id < length keys → slice_set (keys ++ more) id x ≡ slice_set keys id x ++ more
  set_low [] more id x h = absurd (omega arith)
  set_low (k ∷ keys) more zero x h = refl
  set_low (k ∷ keys) more (suc id) x h = ap (λ ks. k ∷ ks) (set_low keys more id x (omega arith))

  -- another key of an id that was used
  pub padded_set : (cap : ℕ) (keys : List (Option K)) (id : ℕ) (x : Option K) → id < length keys → padded cap (slice_set keys id x) ≡ slice_set (padded cap keys) id x
  padded_set cap keys id x h =
      let none : Option K = None in
      ap (λ m. slice_set keys id x ++ replicate (cap - m) none) (length-set keys id x) ∙ sym (set_low keys (replicate (cap - length keys) none) id x h)

  -- an id with a key was used
  pub used : (cap : ℕ) (keys : List (Option K)) (id : ℕ) → IsSome (key_of (padded cap keys) id) → IsSome (key_of keys id)
  used cap keys id h = subst (λ (o : Option K). IsSome o) (key_of-padded cap keys id) h

  -- no id has a key
  pub padded_empty : (cap : ℕ) (keys : List (Option K)) → length keys ≤ cap → ((id : ℕ) → key_of keys id ≡ None) → padded cap keys ≡ empty_queue cap
  padded_empty cap keys h none =
      empty_by_keys (padded cap keys) (λ id. key_of-padded cap keys id ∙ none id) ∙ ap (λ m. empty_queue m) (length-padded cap keys h)

  pub least_padded : {cmp : K → K → Ordering} (cap : ℕ) (keys : List (Option K)) (e : ℕ × K) → IsLeast cmp keys e → IsLeast cmp (padded cap keys) e
  least_padded cap keys e l = record {
    present = key_of-padded cap keys e.0 ∙ l.present;
    least = λ id key h. l.least id key (sym (key_of-padded cap keys id) ∙ h);
  }

  before_grown : (cmp : K → K → Ordering) (keys : List (Option K)) (a b : ℕ) → is_before cmp (keys ++ None ∷ []) a b ≡ is_before cmp keys a b
  before_grown cmp keys a b = rw (key_of-one keys a, key_of-one keys b) refl

  -- the heap doesn't see the next id
  pub queue_grown : {cmp : K → K → Ordering} (n m : ℕ) (ids : List ℕ) (keys : List (Option K)) → n ≤ length ids → m ≡ length ids → IsQueue cmp n ids keys → IsQueue cmp n (ids ++ m ∷ []) (keys ++ None ∷ [])
  queue_grown {cmp = cmp} n m ids keys le is q =
      let none : Option K = None in
      let more = keys ++ none ∷ [] in
      let a = length-append ids (m ∷ []) in
      let b = length-append keys (none ∷ []) in
      let same = q.same_length in
      let low = λ (k : ℕ) (h : k < length ids). ap (key_of more) (end_low ids m k h) ∙ key_of-one keys (at ids k) in
      record {
        same_length = omega arith;
        keyed = record {
          present = λ k h. subst (λ (o : Option K). IsSome o) (sym (low k (omega arith))) (q.keyed.present k h);
          absent = λ k h p. either (cases_lt k (length ids))
              (λ l. low k l ∙ q.keyed.absent k h l)
              (λ l. ap (key_of more) (end_last ids m k (omega arith)) ∙ key_of-one keys m ∙ past keys m (omega arith));
        };
        heap = record {
          ordered = λ k z h.
              ap (λ x. is_before cmp more x (at (ids ++ m ∷ []) (parent_of k))) (end_low ids m k (omega arith))
              ∙ ap (λ x. is_before cmp more (at ids k) x) (end_low ids m (parent_of k) (omega arith))
              ∙ before_grown cmp keys (at ids k) (at ids (parent_of k)) ∙ q.heap.ordered k z h;
        };
      }
    where
      past : (keys : List (Option K)) (m : ℕ) → length keys ≤ m → key_of keys m ≡ None
      past [] m h = refl
      past (k ∷ keys) zero h = absurd (omega arith)
      past (k ∷ keys) (suc m) h = past keys m (omega arith)

-- after another key of an id, in words of the calls
pub held_set : {K : Type 0} {cmp : K → K → Ordering} (keys new : List (Option K)) (id n n' cap cap' room : ℕ) (key : Option K) (ids ids' : List ℕ) → IsHeld cmp n ids keys cap room → length ids' ≡ length ids → cap' ≡ cap
    → new ≡ slice_set keys id key → IsKeyedBelow new ids' n' → IsHeap (is_before cmp new) ids' n' → IsHeld cmp n' ids' (slice_set keys id key) cap' room
held_set {cmp = cmp} keys new id n n' cap cap' room key ids ids' q long same is keyed heap =
    let set = length-set keys id key in
    let held = q.held in
    let roomy = q.roomy in
    record {
      queue = record {
        same_length = set ∙ q.queue.same_length ∙ sym long;
        keyed = subst (λ ks. IsKeyedBelow ks ids' n') is keyed;
        heap = subst (λ ks. IsHeap (is_before cmp ks) ids' n') is heap;
      };
      held = omega arith;
      roomy = omega arith;
    }

pub seen_set : {K : Type 0} (keys self : List (Option K)) (id cap cap' : ℕ) (key : Option K) → cap' ≡ cap → id < length keys → padded cap keys ≡ self → padded cap' (slice_set keys id key) ≡ slice_set self id key
seen_set keys self id cap cap' key same h seen =
    ap (λ m. padded m (slice_set keys id key)) same ∙ padded_set cap keys id key h ∙ ap (λ q. slice_set q id key) seen
