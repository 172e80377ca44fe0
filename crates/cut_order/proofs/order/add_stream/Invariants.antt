-- The triangles that were read have been added.
use Rattle.std.proofs.Common.{◌≡◌, ◌≤◌, ◌-◌, ◌++◌}
use Rattle.std.specs.Prelude.{is_some, take}
use Rattle.std.specs.Option.{ForSome, unwrap_or}
use Rattle.tri_stream.specs.Streams.{count_of, told_list, Follows}
use Rattle.cut_order.specs.Leaves.{KeepsStreams}
use Rattle.cut_export.specs.Numbering.{numbered_mesh, IsNumbering}
use Rattle.cut_order.proofs.order.add_stream.Given as goal

abbrev pub invariant-triangles : goal.invariant-triangles
invariant-triangles g l =
    let held = g.W.Blob.held in
    record {
      stream : l.at.stream ≡ l.fn.id;
      given : l.at.given ≤ unwrap_or (count_of l.fn.streams l.fn.id) 0;
      follows : Follows l.streams (held l.work) l.at;
      mesh : ForSome (told_list l.fn.streams (held l.fn.work) l.fn.id) (λ M. numbered_mesh l.numbered ≡ numbered_mesh l.fn.numbered ++ take l.at.given M);
      numbering : IsNumbering l.numbered;
      kept : KeepsStreams l.fn.streams l.streams (held l.fn.work) (held l.work);
      later : g.W.Blob.faults l.fn.work ≤ g.W.Blob.faults l.work;
      telling : is_some (held l.work) ≡ is_some (held l.fn.work);
    }

abbrev pub decreases-triangles : goal.decreases-triangles
decreases-triangles g l = unwrap_or (count_of l.fn.streams l.fn.id) 0 - l.at.given
