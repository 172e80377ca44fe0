-- The count is that of the triangles.
use Rattle.std.proofs.Common.{List, length, ap, sym, ◌∙◌}
use Rattle.tpz_base.specs.declared.shape.Tri.{Tri}
use Rattle.tri_stream.proofs.Buffers.{tris_length}
use Rattle.tri_stream.proofs.buffer.Buffer.len.Goals as goal

pub returns : goal.returns
returns c = sym (tris_length c.self.inside.count c.self.inside.bytes) ∙ ap (λ (x : List Tri). length x) c.self.view_is
