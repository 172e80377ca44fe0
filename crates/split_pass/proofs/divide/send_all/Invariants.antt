-- The triangles that were read have gone to their children.
use Rattle.std.proofs.Common.{◌≡◌, ◌≤◌, ◌+◌, ◌-◌, ◌++◌}
use Rattle.std.specs.Prelude.{is_some, take}
use Rattle.std.specs.Option.{ForSome, option_map}
use Rattle.tetra_name.specs.Names.{tetrahedron_of}
use Rattle.tri_stream.specs.Streams.{told_list, total, IsLive, Follows, size_of, Stays}
use Rattle.split_pass.specs.Crowds.{first_part, second_part}
use Rattle.split_pass.specs.Moves.{LeavesAllBut}
use Rattle.split_pass.proofs.divide.send_all.Given as goal

abbrev pub invariant-triangles : goal.invariant-triangles
invariant-triangles g l =
    let held = g.B.Blob.held in
    let old = told_list l.fn.streams (held l.fn.work) in
    let now = told_list l.streams (held l.work) in
    record {
      stream : l.at.stream ≡ l.fn.id;
      given : l.at.given ≤ size_of l.fn.streams l.fn.id;
      follows : Follows l.streams (held l.work) l.at;
      first : ForSome (tetrahedron_of l.fn.l l.fn.name)
          (λ T. ForSome (old l.fn.id) (λ M. now l.halves.first ≡ option_map (λ list. list ++ first_part T (take l.at.given M)) (old l.halves.first)));
      second : ForSome (tetrahedron_of l.fn.l l.fn.name)
          (λ T. ForSome (old l.fn.id) (λ M. now l.halves.second ≡ option_map (λ list. list ++ second_part T (take l.at.given M)) (old l.halves.second)));
      live_first : IsLive l.streams l.halves.first;
      live_second : IsLive l.streams l.halves.second;
      sizes : size_of l.streams l.halves.first + size_of l.streams l.halves.second
          ≡ size_of l.fn.streams l.halves.first + size_of l.fn.streams l.halves.second + l.at.given;
      others : LeavesAllBut l.halves.first l.halves.second l.fn.streams l.streams (held l.fn.work) (held l.work);
      total : total l.streams ≡ total l.fn.streams + l.at.given;
      stays : Stays l.fn.streams l.streams (held l.work);
      later : g.B.Blob.faults l.fn.work ≤ g.B.Blob.faults l.work;
      telling : is_some (held l.work) ≡ is_some (held l.fn.work);
    }

abbrev pub decreases-triangles : goal.decreases-triangles
decreases-triangles g l = size_of l.fn.streams l.fn.id - l.at.given
