-- One more corner of the star; all of them are covered at the end.
use Rattle.std.proofs.Common.{arith, sym, ◌∙◌, ap}
use Rattle.std.specs.List.{list_all}
use Rattle.std.proofs.lemmas.List.{take_all}
use Rattle.edge_collapse.specs.declared.star.StarFace.{StarFace}
use Rattle.edge_collapse.proofs.BestLaw.{counted, covered_more, all_covered}
use Rattle.edge_collapse.proofs.best.least_from.Goals as goal

pub loop-f-preserved : goal.loop-f-preserved
loop-f-preserved c = record {
  covered = covered_more c.args.list.now.mesh c.args.p c.loop-f.best c.with_face-best.result c.args.faces.now c.loop-f.f-index _ (omega arith)
      c.with_face-best.ensures.kept c.with_face-best.ensures.here c.loop-f.invariant.covered;
  from = c.with_face-best.ensures.from;
  due = c.with_face-best.ensures.due;
}

pub returns-clause-covers : goal.returns-clause-covers
returns-clause-covers c =
    all_covered c.args.list.now.mesh c.args.p c.loop-f.best c.args.faces.now c.len.ensures.plain c.requires.faces
    (ap (list_all (λ (x : StarFace). counted c.args.list.now.mesh c.args.p c.loop-f.best x.next)) (sym (take_all c.loop-f.f-index c.args.faces.now (omega arith)))
    ∙ c.loop-f.invariant.covered)
