-- What contracts see of a reader of the elements, and what always holds of it.
use Rattle.std.specs.Prelude.{◌≡◌, ◌+◌, ◌≤◌, [], Some, None}
use Rattle.ply_head.specs.Heads.{IsLaidOut, IsSmall}
use Rattle.ply_body.specs.declared.faces.Faces.TheInside.{Inside}
use Rattle.ply_body.specs.declared.frame.Frame.{Frame}
use Rattle.ply_body.specs.Inputs.{vertex_count}
use Rattle.ply_body.specs.Spots.{IsSmallFrame}
use Rattle.ply_body.specs.Readings.{Reading}
use Rattle.ply_body.specs.Places.{cursor_of, tally, IsPlaced}

abbrev pub reading_of : Inside → Reading
reading_of r = record {
  setting = record { digits = r.digits; vertices = r.walk.vertices };
  place = r.walk.items;
  cursor = cursor_of r.walk.place r.walk.elements.items;
  frame = r.frame;
  refusal = r.refusal;
  given = r.given;
  dropped = r.walk.dropped;
}

-- It can read on: the points are loaded, and each triangle that was formed before the place was given or dropped.
pub record IsReady (r : Inside) (frame : Frame) : Type 0 where
  pub frame_small : IsSmallFrame frame
  pub vertices : frame.vertices ≡ r.walk.vertices
  pub placed : IsPlaced r.walk.vertices r.walk.elements.items r.walk.place
  pub counted : r.given + r.walk.dropped ≤ tally r.walk.place

pub record IsReader (r : Inside) : Type 0 where
  pub digits_few : r.digits ≤ 9
  pub small : IsSmall r.walk.elements.items
  pub laid_out : IsLaidOut r.walk.elements.items
  pub vertices_are : r.walk.vertices ≡ vertex_count r.walk.elements.items
  pub vertices_few : r.walk.vertices ≤ 2147483648
  pub counts_few : r.given + r.walk.dropped ≤ 2147483648
  pub fresh : r.frame ≡ None → r.refusal ≡ None → r.walk.buffer ≡ []
  pub ready : (frame : Frame) → r.frame ≡ Some frame → r.refusal ≡ None → IsReady r frame
