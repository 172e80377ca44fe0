-- The blocks, the views, and the part.
use Rattle.std.proofs.Common.{◌∷◌, [], List, ap, ap₂, sym, ◌∙◌, subst, length}
use Rattle.std.specs.Prelude.{All, Contains}
use Rattle.tpz_base.specs.Meshes.{Mesh}
use Rattle.tpz_base.specs.Texts.{text}
use Rattle.tpz_io.specs.Told.{followed_by}
use Rattle.cut_export.specs.Parts.{row_of, IsLow}
use Rattle.patch_view.specs.declared.PatchView.{PatchView}
use Rattle.patch_view.specs.Views.{mesh_of}
use Rattle.patch_file.specs.declared.shape.Params.{Params}
use Rattle.patch_file.specs.Patches.{joined}
use Rattle.patch_file.specs.Tables.{Contents}
use Rattle.cut_blocks.specs.declared.blocks.Shown.{Shown}
use Rattle.cut_blocks.specs.Shown.{all_patches, IsNamed}
use Rattle.run_status.specs.Statuses.{IsOfLines}
use Rattle.cut_blocks.proofs.OpenLaw.{same_l, same_status}
use Rattle.command_replay.proofs.PlayLaw.{asked_export, export_no_bad, export_no_read, export_of_lines, low_near, part_shown, told_record}
use Rattle.command_replay.proofs.replay.write_cut.Goals as goal

pub returns-in-Err-clause-spent : goal.returns-in-Err-clause-spent
returns-in-Err-clause-spent g c = λ i e.
    subst (λ xs. Contains xs i) c.list-set.ensures.places (told_record c.list-set.result.now i c.in-Err.status c.in-Err.ensures.status (same_status _ _ e))

pub views_of-requires-clause-named : goal.views_of-requires-clause-named
views_of-requires-clause-named g c =
    subst (λ (q : Params). All (IsNamed q.l) c.deref.result.now) (sym c.params-params.ensures)
    (subst (λ l. All (IsNamed l) c.deref.result.now) (sym (same_l _ c.args.reader.now c.args.player.now.graph c.requires.ready.reader_of))
    (subst (All (IsNamed c.args.player.now.graph.l)) (sym c.deref.ensures.value) c.in-Ok.ensures.named))

pub write_mesh-requires : goal.write_mesh-requires
write_mesh-requires g c = subst (λ (q : Params). IsLow q.low) (sym c.params-params.ensures) (low_near c.args.reader.now.params.low c.requires.ready.params.low)

pub returns-in-Err-write_mesh-clause-bad : goal.returns-in-Err-write_mesh-clause-bad
returns-in-Err-write_mesh-clause-bad g c = λ bad e. absurd (export_no_bad c.in-Err-write_mesh.fault bad (sym c.status_of_export.ensures ∙ same_status _ _ e))

pub returns-in-Err-write_mesh-clause-spent : goal.returns-in-Err-write_mesh-clause-spent
returns-in-Err-write_mesh-clause-spent g c = λ i e. absurd (export_no_read c.in-Err-write_mesh.fault i (sym c.status_of_export.ensures ∙ same_status _ _ e))

pub returns-in-Err-write_mesh-clause-status : goal.returns-in-Err-write_mesh-clause-status
returns-in-Err-write_mesh-clause-status g c = subst IsOfLines (sym c.status_of_export.ensures) (export_of_lines c.in-Err-write_mesh.fault)

pub returns-in-Err-write_mesh-clause-asked : goal.returns-in-Err-write_mesh-clause-asked
returns-in-Err-write_mesh-clause-asked g c =
    asked_export c.args.tries (length c.list-set.result.now) (length c.args.player.now.front) _ c.in-Err-write_mesh.fault c.status_of_export.result _ _ _ _ _ _ (ap length c.list-set.ensures.places)
    c.status_of_export.ensures c.in-Ok.ensures.asked

pub returns-clause-part : goal.returns-clause-part
returns-clause-part g c = λ bs told.
    let tb = c.args.reader.now in
    c.in_default.ensures.part
    ∙ ap₂ (λ (M : Mesh) (q : Params). followed_by (g.O.Out.parts c.args.out.now) (text M (row_of q.low) q.digits ∷ []))
    (ap (λ (vs : List PatchView). mesh_of vs) c.deref-2.ensures.value ∙ c.in_ok-views.ensures
    ∙ ap₂ (λ (b : Contents) (ss : List Shown). joined (all_patches b.patches ss)) c.base.ensures c.deref.ensures.value
    ∙ part_shown _ c.args.reader.now c.args.player.now.graph c.requires.ready.reader_of bs told c.args.player.now.front c.list-set.result.now c.in-Ok.shown.items c.list-set.ensures.places
    c.requires.ready.set (c.in-Ok.ensures.right bs told) c.in-Ok.ensures.count (c.in-Ok.ensures.patches bs told))
    c.params-params.ensures
