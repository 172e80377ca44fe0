-- One triangle is added after another.
use Rattle.std.proofs.Common.{subst, arith}
use Rattle.std.proofs.lemmas.List.{length-take, take_all}
use Rattle.tpz_base.specs.Meshes.{Mesh}
use Rattle.mesh_stream.specs.Fills.{Fills}
use Rattle.mesh_stream.proofs.Filling.{fills_more, fills_none, still_live}
use Rattle.finest_cut.proofs.splitting.fill.Goals as goal

pub tris-init : goal.tris-init
tris-init g c = record { filled = fills_none c.args.id c.args.streams.now _ c.requires.stands; later = omega arith }

pub append-requires-clause-live : goal.append-requires-clause-live
append-requires-clause-live g c = still_live c.args.id _ c.args.streams.now c.tris.streams _ _ c.tris.invariant.filled c.requires.live

pub append-requires-clause-stands : goal.append-requires-clause-stands
append-requires-clause-stands g c = c.tris.invariant.filled.stands

pub append-requires-clause-few : goal.append-requires-clause-few
append-requires-clause-few g c = omega (arith, c.tris.invariant.filled.total, c.requires.few, length-take c.tris.t-index c.args.tris.now)

pub tris-preserved : goal.tris-preserved
tris-preserved g c = record {
  filled = fills_more c.args.id c.args.tris.now c.tris.t-index _ c.args.streams.now c.tris.streams _ _ _ _ (omega arith) c.tris.invariant.filled
      c.in_ok-append.ensures.count c.in_ok-append.ensures.list c.in_ok-append.ensures.others c.in_ok-append.ensures.total c.append.ensures.kept;
  later = omega (arith, c.tris.invariant.later, c.append.ensures.later);
}

pub returns-clause-filled : goal.returns-clause-filled
returns-clause-filled g c =
    subst (λ (M : Mesh). Fills c.args.id M c.args.streams.now c.tris.streams (g.W.Blob.held c.args.work.now) (g.W.Blob.held c.tris.work))
    (take_all c.tris.t-index c.args.tris.now (omega arith)) c.tris.invariant.filled
