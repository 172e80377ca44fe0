use Rattle.cut_export.proofs.Exports.{view_more}
use Rattle.cut_export.proofs.export.number_views.Goals as goal

pub views-preserved : goal.views-preserved
views-preserved c = record {
  mesh = view_more c.args.views.now c.views.view-index _ _ _ c.views-test.true c.views.invariant.mesh c.in_ok-add_all.ensures.mesh;
  numbering = c.in_ok-add_all.ensures.numbering;
}
