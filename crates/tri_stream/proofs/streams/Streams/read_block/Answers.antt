-- The triangles that are read are those of the stream, as far as its block has them.
use Rattle.std.proofs.Common.{◌≡◌, length, sym, ◌∙◌, arith, refl}
use Rattle.tri_stream.proofs.Reading.{moved_on, tris_are, tris_there}
use Rattle.tri_stream.proofs.streams.Streams.read_block.Goals as goal

pub buffer-requires-clause-there : goal.buffer-requires-clause-there
buffer-requires-clause-there g c =
    let at = c.args.at.now in
    let n = c.min-count.result in
    let v = c.args.span in
    let more = c.requires.more in
    let is = c.min-count.ensures in
    λ x told.
    tris_there c.args.self.now (g.B.Blob.held c.args.blob.now) at v c.requires.span more c.requires.cursor c.requires.stands c.in_ok-block.block n
    (omega arith) (omega arith) (omega arith) c.in_ok-block.ensures.block x (sym c.next_block.ensures.held ∙ told)

pub returns-clause-cursor : goal.returns-clause-cursor
returns-clause-cursor g c =
    let at = c.args.at.now in
    let n = c.min-count.result in
    let v = c.args.span in
    let more = c.requires.more in
    let is = c.min-count.ensures in
    let told = g.B.Blob.held c.args.blob.now in
    let tris = c.in_ok-buffer.buffer in
    let long : length tris ≡ n = c.in_ok-buffer.ensures.count in
    moved_on c.args.self.now told told at v c.in_ok-block.block tris c.requires.cursor c.requires.span more refl c.in_ok-block.ensures.block (omega arith)
    (tris_are c.args.self.now told at v c.requires.span more c.requires.cursor c.requires.stands c.in_ok-block.block n tris long (omega arith) (omega arith)
    c.in_ok-block.ensures.block (λ x e. c.in_ok-buffer.ensures.tris x (c.next_block.ensures.held ∙ e)))
