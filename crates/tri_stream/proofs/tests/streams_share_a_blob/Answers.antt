-- A name that is live stays so while other names come and go.
use Rattle.std.proofs.Common.{◌≡◌, None, refl, sym}
use Rattle.tri_stream.specs.declared.names.StreamId.{StreamId}
use Rattle.tri_stream.specs.Streams.{StreamsState, count_of, IsLive, LeavesOthers}
use Rattle.tri_stream.proofs.Changes.{append_counts, live_as_before, live_differs, nothing_told}
use Rattle.tri_stream.proofs.tests.streams_share_a_blob.Goals as goal

kept_live : (id x : StreamId) (s s' : StreamsState) → count_of s id ≡ None → LeavesOthers id s s' None None → IsLive s x → IsLive s' x
kept_live id x s s' fresh others live = live_as_before s s' x (others.counts x (live_differs s x id live fresh)) live

pub add-requires-clause-live : goal.add-requires-clause-live
add-requires-clause-live g c =
    let s = c.make.new.self in
    let made = c.in_ok-other.ensures in
    kept_live c.in_ok-other.other c.in_ok-first.first s c.make-2.new.self made.fresh (made.others None (nothing_told s)) (rw c.in_ok-first.ensures.count refl)

pub add-requires-3-clause-live : goal.add-requires-3-clause-live
add-requires-3-clause-live g c =
    let s = c.make.new.self in
    let made = c.in_ok-other.ensures in
    let first = c.in_ok-first.first in
    let live = kept_live c.in_ok-other.other first s c.make-2.new.self made.fresh (made.others None (nothing_told s)) (rw c.in_ok-first.ensures.count refl) in
    c.add-2.ensures.live first (c.add.ensures.live first live)

pub count-requires : goal.count-requires
count-requires g c =
    let s = c.make.new.self in
    let made = c.in_ok-other.ensures in
    let first = c.in_ok-first.first in
    let live = kept_live c.in_ok-other.other first s c.make-2.new.self made.fresh (made.others None (nothing_told s)) (rw c.in_ok-first.ensures.count refl) in
    c.add-4.ensures.live first (c.add-3.ensures.live first (c.add-2.ensures.live first (c.add.ensures.live first live)))

pub gives-requires-2-clause-live : goal.gives-requires-2-clause-live
gives-requires-2-clause-live g c =
    let first = c.in_ok-first.first in
    let other = c.in_ok-other.other in
    let here : IsLive c.make.new.self first = rw c.in_ok-first.ensures.count refl in
    let apart = live_differs c.make.new.self first other here c.in_ok-other.ensures.fresh in
    let made : IsLive c.make-2.new.self other = rw c.in_ok-other.ensures.count refl in
    let added = c.add-4.ensures.live other (c.add-3.ensures.live other (c.add-2.ensures.live other (c.add.ensures.live other made))) in
    let read = live_as_before c.add-4.new.streams c.gives.new.streams other (c.gives.ensures.counts other) added in
    let ended = c.give_back.ensures in
    let kept = append_counts c.give_back.result first c.gives.new.streams c.give_back.new.self _ _ ended.others ended.err other (λ same. apart (sym same)) in
    let left = live_as_before c.gives.new.streams c.give_back.new.self other kept read in
    let again = c.in_ok-again.ensures in
    c.add-5.ensures.live other
    (kept_live c.in_ok-again.again other c.give_back.new.self c.make-3.new.self again.fresh (again.others None (nothing_told c.give_back.new.self)) left)
