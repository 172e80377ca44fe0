-- The stream of all triangles is split, and the leaves are taken in the order of the cut.
use Rattle.std.proofs.Common.{◌≡◌, ◌∙◌, arith, ap, sym, Err, inr}
use Rattle.std.proofs.lemmas.Result.{IfErr-weaker, IfOk-weaker}
use Rattle.run_status.specs.declared.status.Status.TheVariants.{TooManyRecords}
use Rattle.diamond_graph.specs.Adding.{ClosingState}
use Rattle.tetra_name.proofs.NameFacts.{some_is}
use Rattle.cut_order.proofs.LeafOrder.{on_any}
use Rattle.mesh_stream.proofs.ReadLemmas.{told_later, err_is}
use Rattle.tri_stream.proofs.Changes.{untold_before}
use Rattle.run_status.proofs.StreamFaults.{split_told, split_was_damage, split_was_fault}
use Rattle.finest_cut.proofs.SplitMesh.{counted_size, few_split, many_split, split_mesh, split_too_many}
use Rattle.finest_cut.proofs.splitting.number_by_cap.Goals as goal

pub split-requires-clause-l : goal.split-requires-clause-l
split-requires-clause-l g c = ap (λ (closing : ClosingState). closing.l) c.new-closing.ensures ∙ sym c.in_ok-source.ensures.holds.level

pub split-requires-clause-whole : goal.split-requires-clause-whole
split-requires-clause-whole g c = some_is _ _ c.in_ok-source.ensures.holds.count

pub split-requires-clause-only : goal.split-requires-clause-only
split-requires-clause-only g c = c.in_ok-source.ensures.holds.only

pub split-requires-clause-few : goal.split-requires-clause-few
split-requires-clause-few g c = let size = counted_size _ _ c.in_ok-source.ensures.holds.count in omega (arith, size, c.requires.few)

pub split-requires-clause-stands : goal.split-requires-clause-stands
split-requires-clause-stands g c = c.in_ok-source.ensures.holds.stands

pub returns-in-Err-clause-too_many : goal.returns-in-Err-clause-too_many
returns-in-Err-clause-too_many g c = λ e held keeps.
    let source = c.in_ok-source.ensures.holds in
    let (later, kept) = told_later _ _ held source.telling keeps in
    let same : c.status_of_split.result ≡ TooManyRecords = cc in
    let fault = split_too_many c.in-Err.fault (sym c.status_of_split.ensures ∙ same) in
    many_split c.args.mesh.l c.args.cap _ c.args.mesh.tris.items source.level (c.in-Err.ensures.too_many (ap Err fault) _ (source.list later kept))

pub returns-clause-mesh : goal.returns-clause-mesh
returns-clause-mesh g c =
    IfOk-weaker c.number_leaves.result _ _ (λ numbered made held keeps.
    let source = c.in_ok-source.ensures.holds in
    let (later, kept) = told_later _ _ held source.telling keeps in
    split_mesh c.args.mesh.l c.args.cap c.args.mesh.tris.items c.in-Ok.made.graph _ c.in-Ok.made.leaves _ _ _ source.level c.in-Ok.ensures.l
    (c.in-Ok.ensures.graph _ (source.list later kept)) (c.in-Ok.ensures.patches _ (source.list later kept)) made) c.number_leaves.ensures.mesh

pub returns-clause-few : goal.returns-clause-few
returns-clause-few g c =
    on_any c.number_leaves.result _ (λ held keeps.
    let source = c.in_ok-source.ensures.holds in
    let (later, kept) = told_later _ _ held source.telling keeps in
    few_split c.args.mesh.l c.args.cap _ c.args.mesh.tris.items source.level (c.in-Ok.ensures.few _ (source.list later kept)))

pub returns-in-Err-clause-status : goal.returns-in-Err-clause-status
returns-in-Err-clause-status g c = split_told _ _ c.status_of_split.ensures

pub returns-in-Err-clause-work_fault : goal.returns-in-Err-clause-work_fault
returns-in-Err-clause-work_fault g c = λ e.
    let rose = c.in-Err.ensures.work_fault (ap Err (split_was_fault _ _ c.status_of_split.ensures (err_is _ _ e))) in
    let first = c.stream_of.ensures.later in
    omega arith

pub returns-in-Err-clause-work_damage : goal.returns-in-Err-clause-work_damage
returns-in-Err-clause-work_damage g c = λ offset e.
    untold_before _ _ c.in_ok-source.ensures.holds.telling
    (c.in-Err.ensures.work_damage offset (ap Err (split_was_damage _ _ offset c.status_of_split.ensures (err_is _ _ e))))

pub returns-clause-status : goal.returns-clause-status
returns-clause-status g c = IfErr-weaker c.number_leaves.result _ _ (λ s of_streams. inr of_streams) c.number_leaves.ensures.status

pub returns-clause-work_fault : goal.returns-clause-work_fault
returns-clause-work_fault g c = λ e.
    let rose = c.number_leaves.ensures.work_fault e in
    let first = c.stream_of.ensures.later in
    let second = c.split.ensures.later in
    omega arith

pub returns-clause-work_damage : goal.returns-clause-work_damage
returns-clause-work_damage g c = λ offset e.
    untold_before _ _ c.in_ok-source.ensures.holds.telling
    (untold_before _ _ c.split.ensures.telling (c.number_leaves.ensures.work_damage offset e))
