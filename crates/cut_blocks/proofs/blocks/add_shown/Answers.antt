-- Part after part.
use Rattle.std.proofs.Common.{sym, refl, ◌∙◌, ap, arith}
use Rattle.std.proofs.Common.{Vec, Global}
use Rattle.patch_view.specs.declared.PatchView.{PatchView}
use Rattle.patch_view.specs.Views.{mesh_of}
use Rattle.tetra_name.specs.Names.{point_of}
use Rattle.view_cut.proofs.Parts.{few_members, part_named, parts-length}
use Rattle.cut_blocks.proofs.ShownLaw.{part_added, part_passed, patch_there}
use Rattle.cut_blocks.proofs.blocks.add_shown.Goals.{then-is_set+in_ok-push, else-is_set}
use Rattle.cut_blocks.proofs.blocks.add_shown.Goals as goal

pub is_set-requires : goal.is_set-requires
is_set-requires c =
    let d = point_of c.args.shown.now.centre in
    let few = few_members c.args.l d c.requires.bound.most c.requires.named.can_split.0 in
    omega (arith, few, parts-length c.args.l d, c.requires.named.patches, c.parts.invariant.end, c.parts-test.true)

pub child-requires-clause-name : goal.child-requires-clause-name
child-requires-clause-name c =
    part_named c.args.l c.args.shown.now.centre c.parts.k (omega (arith, c.requires.named.patches, c.parts.invariant.end, c.parts-test.true))

pub parts-preserved : goal.parts-preserved
parts-preserved c = record {
  end = c.parts.invariant.end;
  mesh = elim c.if-is_set.branch [
    | then-is_set+in_ok-push w ↦ part_added c.args.shown.now.bits c.parts.k c.args.shown.now.block.patches _ _ _ _ _ w.patch.ensures c.parts.invariant.mesh (sym c.is_set.ensures ∙ w.if-is_set.true)
        (ap (λ (v : Vec PatchView Global). v.items) w.into-is ∙ w.in_ok-push.ensures.items) refl
    | else-is_set w ↦
        (let at = patch_there c.args.shown.now.block.patches c.parts.k (omega (arith, c.parts.invariant.end, c.parts-test.true)) in
        ap (λ (v : Vec PatchView Global). mesh_of v.items) w.into-is
        ∙ part_passed c.args.shown.now.bits c.parts.k c.args.shown.now.block.patches at.0 _ _ at.1 c.parts.invariant.mesh (sym c.is_set.ensures ∙ w.if-is_set.false))
  ];
}
