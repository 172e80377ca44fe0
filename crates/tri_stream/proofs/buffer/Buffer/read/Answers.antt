-- The bytes of the buffer are those of the blob.
use Rattle.tri_stream.proofs.Buffers.{tris_length, tris_read}
use Rattle.tri_stream.proofs.buffer.Buffer.read.Goals as goal

pub returns-clause-count : goal.returns-clause-count
returns-clause-count g c = tris_length c.args.count _

pub returns-clause-tris : goal.returns-clause-tris
returns-clause-tris g c = λ x is. tris_read _ x c.args.at c.args.count (c.in_ok-fill.ensures.bytes x is)
