-- A triangle that is added leaves every name live.
use Rattle.std.proofs.Common.{◌≡◌, ◌≢◌, ◌∙◌, arith, inl, inr, subst, sym}
use Rattle.tri_stream.specs.declared.names.StreamId.{StreamId}
use Rattle.tri_stream.specs.Streams.{StreamsState, count_of, IsLive}
use Rattle.tri_stream.proofs.Changes.{append_counts, live_as_before, same_name}
use Rattle.tri_stream.proofs.tests.add.Goals as goal

still_live : (id x : StreamId) (s s' : StreamsState) → IsLive s' id → ((y : StreamId) → y ≢ id → count_of s' y ≡ count_of s y) → IsLive s x → IsLive s' x
still_live id x s s' here others live =
    elim (same_name x id) [
      | inl e ↦ subst (IsLive s') (sym e) here
      | inr other ↦ live_as_before s s' x (others x other) live
    ]

pub append-requires-clause-live : goal.append-requires-clause-live
append-requires-clause-live g c = c.times.invariant.live c.args.id c.requires.live

pub times-preserved : goal.times-preserved
times-preserved g c =
    let inv = c.times.invariant in
    let held = g.B.Blob.held in
    record {
      live = λ x live.
          still_live c.args.id x c.times.streams c.append.new.self c.append.ensures.live
          (append_counts c.append.result c.args.id c.times.streams c.append.new.self (held c.times.blob) (held c.append.new.blob) c.append.ensures.others c.append.ensures.err)
          (inv.live x live);
      stands = c.append.ensures.kept.stands;
      level = c.append.ensures.kept.l ∙ inv.level;
      cursors = λ at f. c.append.ensures.cursors at (inv.cursors at f);
      few = let one = c.in_ok-append.ensures.total in let few = inv.few in omega arith;
    }

pub returns-in_err-append-clause-live : goal.returns-in_err-append-clause-live
returns-in_err-append-clause-live g c = λ x live.
    live_as_before c.times.streams c.append.new.self x (c.in_err-append.ensures.err.counts x) (c.times.invariant.live x live)
