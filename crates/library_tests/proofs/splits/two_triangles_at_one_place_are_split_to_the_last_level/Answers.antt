-- One stream was made, and triangles went to no other.
use Rattle.tri_stream.proofs.Changes.{append_counts}
use Rattle.split_pass.proofs.Moving.{none_else}
use Rattle.library_tests.proofs.splits.two_triangles_at_one_place_are_split_to_the_last_level.Goals as goal

pub split-made-requires-clause-only : goal.split-made-requires-clause-only
split-made-requires-clause-only g c =
    let whole = c.in_ok-whole.whole in
    let s0 = c.new-streams.result in
    let s1 = c.make.new.self in
    let s2 = c.append.new.self in
    let s3 = c.append-2.new.self in
    none_else whole s0 s1 s2 s3 c.new-streams.ensures.none (c.in_ok-whole.ensures.others)
    (append_counts c.append.result whole s1 s2 _ _ c.append.ensures.others c.append.ensures.err)
    (append_counts c.append-2.result whole s2 s3 _ _ c.append-2.ensures.others c.append-2.ensures.err)
