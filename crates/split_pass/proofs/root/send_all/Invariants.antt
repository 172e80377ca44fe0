-- The triangles that were read have gone to the streams of their roots.
use Rattle.std.proofs.Common.{◌≡◌, ◌≤◌, ◌+◌, ◌-◌, ◌++◌, ℕ, Some}
use Rattle.std.specs.Prelude.{filter, is_some, slice_get, take}
use Rattle.std.specs.Option.{ForSome, option_map}
use Rattle.tpz_base.specs.Roots.{is_in_root}
use Rattle.tri_stream.specs.declared.names.StreamId.{StreamId}
use Rattle.tri_stream.specs.Streams.{told_list, total, Follows, size_of, Stays}
use Rattle.split_pass.specs.Moves.{AreLive, LeavesAllOthers}
use Rattle.split_pass.proofs.root.send_all.Given as goal

abbrev pub invariant-triangles : goal.invariant-triangles
invariant-triangles g l =
    let held = g.B.Blob.held in
    let old = told_list l.fn.streams (held l.fn.work) in
    let now = told_list l.streams (held l.work) in
    record {
      stream : l.at.stream ≡ l.fn.whole;
      given : l.at.given ≤ size_of l.fn.streams l.fn.whole;
      follows : Follows l.streams (held l.work) l.at;
      lists : ForSome (old l.fn.whole)
          (λ M. (k : ℕ) (x : StreamId) → slice_get l.ids k ≡ Some x → now x ≡ option_map (λ list. list ++ filter (is_in_root k) (take l.at.given M)) (old x));
      live : AreLive l.ids l.streams;
      others : LeavesAllOthers l.ids l.fn.streams l.streams (held l.fn.work) (held l.work);
      total : total l.streams ≡ total l.fn.streams + l.at.given;
      stays : Stays l.fn.streams l.streams (held l.work);
      later : g.B.Blob.faults l.fn.work ≤ g.B.Blob.faults l.work;
      telling : is_some (held l.work) ≡ is_some (held l.fn.work);
    }

abbrev pub decreases-triangles : goal.decreases-triangles
decreases-triangles g l = size_of l.fn.streams l.fn.whole - l.at.given
