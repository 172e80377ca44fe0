-- The triangles that stand behind the link of a block are its first.
use Rattle.tri_stream.proofs.Reading.{never_past, tris_of_block}
use Rattle.tri_stream.proofs.streams.Streams.buffer.Goals as goal

pub returns-in_ok-read-in-Some-clause-tris : goal.returns-in_ok-read-in-Some-clause-tris
returns-in_ok-read-in-Some-clause-tris g c =
    tris_of_block (g.B.Blob.held c.args.blob.now) c.args.self.now.base c.args.block c.args.count c.in-Some.start c.in_ok-read-in-Some.field-0 c.in-Some.ensures.place
    c.in_ok-read-in-Some.ensures.tris

pub returns-in-None-clause-damage : goal.returns-in-None-clause-damage
returns-in-None-clause-damage g c = λ offset is.
    never_past c.args.self.now (g.B.Blob.held c.args.blob.now) c.args.block c.args.count c.requires.there (c.place.ensures.none c.in-None.is)
