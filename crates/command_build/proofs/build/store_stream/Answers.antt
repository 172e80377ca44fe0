-- The split of the stream is built.
use Rattle.std.proofs.Common.{◌≡◌, ◌≤◌, ◌⊎◌, Err, ap, length, subst, inl, inr, arith}
use Rattle.std.specs.Option.{ForSome}
use Rattle.tpz_base.specs.Meshes.{Mesh}
use Rattle.diamond_graph.specs.Adding.{most_centres}
use Rattle.diamond_graph.specs.Graphs.{centres}
use Rattle.assign.specs.Splits.{split_set}
use Rattle.assign.specs.Standing.{HoldsPatches}
use Rattle.patch_file.specs.declared.shape.Params.{Params}
use Rattle.patch_file.specs.Written.{ReadsUnfinished}
use Rattle.build_pass.specs.Building.{greatest_fine, store_of}
use Rattle.tri_stream.proofs.Changes.{untold_before}
use Rattle.mesh_stream.proofs.ReadLemmas.{told_later, err_is}
use Rattle.run_status.proofs.StreamFaults.{split_told, split_was_damage, split_was_fault}
use Rattle.command_build.proofs.BuildSteps.{build_told, build_was_damage, build_was_fault, built_is, never_too_many, split_at, store_fault_told, stream_buildable, told_bytes}
use Rattle.command_build.proofs.build.store_stream.Goals as goal

pub returns-in-Ok-build-clause-built : goal.returns-in-Ok-build-clause-built
returns-in-Ok-build-clause-built g c = λ M told.
    let held = told_bytes _ _ _ M told in
    let (later, kept) = told_later _ _ held.0 c.split.ensures.telling held.1 in
    let C = centres c.in-Ok.made.graph in
    let now = g.W.Blob.held c.split.new.work in
    let q = split_at c.args.read.l _ c.args.cap C M _ _ now c.requires.small.l (c.in-Ok.ensures.graph M told) (c.in-Ok.ensures.patches M told) in
    built_is c.in-Ok-build.built c.args.read.l c.args.cap c.args.budget C M c.in-Ok-build.ensures.records q.0
    (subst (λ (p : Params). (N : Mesh) → C ≡ split_set p.l p.cap N → HoldsPatches p.l C N c.in-Ok.made.leaves c.split.new.streams now
    → c.in-Ok-build.built.peak ≡ greatest_fine p.l p.budget (split_set p.l p.cap N) N (split_set p.l p.cap N)) c.params_of-params.ensures (c.in-Ok-build.ensures.peak later kept) M q.0 q.1)

pub returns-in-Ok-build-clause-whole : goal.returns-in-Ok-build-clause-whole
returns-in-Ok-build-clause-whole g c = λ M told.
    let held = told_bytes _ _ _ M told in
    let (later, kept) = told_later _ _ held.0 c.split.ensures.telling held.1 in
    let C = centres c.in-Ok.made.graph in
    let now = g.W.Blob.held c.split.new.work in
    let q = split_at c.args.read.l _ c.args.cap C M _ _ now c.requires.small.l (c.in-Ok.ensures.graph M told) (c.in-Ok.ensures.patches M told) in
    subst (λ (p : Params). (N : Mesh) → C ≡ split_set p.l p.cap N → HoldsPatches p.l C N c.in-Ok.made.leaves c.split.new.streams now
    → ForSome (g.S.Blob.held c.build.new.store) (λ store. store ≡ store_of N p)) c.params_of-params.ensures (c.in-Ok-build.ensures.whole later kept) M q.0 q.1

pub returns-in-Ok-build-clause-buildable : goal.returns-in-Ok-build-clause-buildable
returns-in-Ok-build-clause-buildable g c = λ M told count x y z three.
    let small = c.requires.small in
    let few = subst (λ n. length (split_set n c.args.cap M) ≤ most_centres) small.l (c.in-Ok.ensures.few M told) in
    stream_buildable c.args.cap c.args.budget c.args.read _ M x y z small (small.held M told) count three c.requires.some_cap c.requires.most_cap c.requires.some c.requires.most few

pub returns-in-Ok-build-clause-left : goal.returns-in-Ok-build-clause-left
returns-in-Ok-build-clause-left g c = inr (λ store at. let some = c.in-Ok-build.ensures.some store at in inr (some.0, c.params_of-params.result, some.1))

pub returns-clause-refused : goal.returns-clause-refused
returns-clause-refused g c = λ M told.
    let held = told_bytes _ _ _ M told in
    let (later, kept) = told_later _ _ held.0 c.split.ensures.telling held.1 in
    let C = centres c.in-Ok.made.graph in
    let now = g.W.Blob.held c.split.new.work in
    let q = split_at c.args.read.l _ c.args.cap C M _ _ now c.requires.small.l (c.in-Ok.ensures.graph M told) (c.in-Ok.ensures.patches M told) in
    inr (subst (λ (p : Params). (N : Mesh) → C ≡ split_set p.l p.cap N → HoldsPatches p.l C N c.in-Ok.made.leaves c.split.new.streams now
    → ForSome (g.S.Blob.held c.build.new.store) (λ store. ReadsUnfinished store ⊎ (store ≡ store_of N p))) c.params_of-params.ensures (c.in-Err-build.ensures.refused later kept) M q.0 q.1)

pub returns-clause-left : goal.returns-clause-left
returns-clause-left g c = inr (λ store at. elim (c.in-Err-build.ensures.left store at) [ inl shut ↦ inl shut | inr some ↦ inr (some.0, c.params_of-params.result, some.1) ])

pub returns-clause-too_many : goal.returns-clause-too_many
returns-clause-too_many g c = λ e. absurd (never_too_many _ _ c.status_of_build.ensures (err_is _ _ e))

pub returns-clause-before : goal.returns-clause-before
returns-clause-before g c = λ e. absurd (never_too_many _ _ c.status_of_build.ensures (err_is _ _ e))

pub returns-clause-status : goal.returns-clause-status
returns-clause-status g c = build_told _ _ c.status_of_build.ensures

pub returns-clause-cause : goal.returns-clause-cause
returns-clause-cause g c = λ e. c.in-Err-build.ensures.cause (ap Err (store_fault_told _ _ c.status_of_build.ensures (err_is _ _ e)))

pub returns-clause-work_fault : goal.returns-clause-work_fault
returns-clause-work_fault g c = λ e.
    let rose = c.in-Err-build.ensures.work_fault (ap Err (build_was_fault _ _ c.status_of_build.ensures (err_is _ _ e))) in
    let first = c.split.ensures.later in
    omega arith

pub returns-clause-work_damage : goal.returns-clause-work_damage
returns-clause-work_damage g c = λ offset e.
    untold_before _ _ c.split.ensures.telling
    (c.in-Err-build.ensures.work_damage offset (ap Err (build_was_damage _ _ offset c.status_of_build.ensures (err_is _ _ e))))

pub returns-in-Err-clause-status : goal.returns-in-Err-clause-status
returns-in-Err-clause-status g c = inr (split_told _ _ c.status_of_split.ensures)

pub returns-in-Err-clause-work_fault : goal.returns-in-Err-clause-work_fault
returns-in-Err-clause-work_fault g c = λ e. c.in-Err.ensures.work_fault (ap Err (split_was_fault _ _ c.status_of_split.ensures (err_is _ _ e)))

pub returns-in-Err-clause-work_damage : goal.returns-in-Err-clause-work_damage
returns-in-Err-clause-work_damage g c = λ offset e.
    c.in-Err.ensures.work_damage offset (ap Err (split_was_damage _ _ offset c.status_of_split.ensures (err_is _ _ e)))
