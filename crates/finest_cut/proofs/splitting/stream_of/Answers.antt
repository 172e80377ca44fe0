-- The stream was made first, and has all.
use Rattle.std.proofs.Common.{◌∙◌, subst}
use Rattle.tpz_base.specs.Meshes.{Mesh}
use Rattle.mesh_stream.specs.Fills.{IsSourceOf}
use Rattle.mesh_stream.proofs.Filling.{source_of}
use Rattle.finest_cut.proofs.splitting.stream_of.Goals as goal

pub returns-clause-holds : goal.returns-clause-holds
returns-clause-holds g c =
    subst (λ (M : Mesh). IsSourceOf c.args.l M c.fill.new.streams c.in_ok-whole.whole (g.W.Blob.held c.args.work.now) (g.W.Blob.held c.fill.new.work)) c.deref.ensures.value
    (source_of c.in_ok-whole.whole c.deref.result.now c.args.l c.new-streams.result c.make.new.self c.fill.new.streams _ _
    c.new-streams.ensures.none (c.make.ensures.l ∙ c.new-streams.ensures.l) c.in_ok-whole.ensures.count c.in_ok-whole.ensures.list c.in_ok-whole.ensures.others
    c.new-streams.ensures.stands c.in_ok-fill.ensures.filled)
