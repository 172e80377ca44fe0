-- The build, and then the replay.
use Rattle.std.proofs.Common.{arith, refl}
use Rattle.run_status.specs.declared.status.Status.TheVariants as status
use Rattle.mesh_output.proofs.Exports.{nothing}
use Rattle.command_replay.proofs.TourRuns.{build_other, replay_other, tour_run}
use Rattle.command_replay.proofs.tour.run_tour.Goals as goal

pub returns-in-Ok-clause-run : goal.returns-in-Ok-clause-run
returns-in-Ok-clause-run g c =
    tour_run c.args.plan.digits c.args.plan.cap c.args.plan.budget c.args.tries _ _
    (record { held = g.S.Blob.held c.run_build.new.store; reads = g.S.Blob.reads c.run_build.new.store; outcomes = g.S.Blob.outcomes c.run_build.new.store; faults = g.S.Blob.faults c.run_build.new.store })
    (record { parts = g.O.Out.parts c.run_build.new.out; notes = g.O.Out.notes c.run_build.new.out; faults = g.O.Out.faults c.run_build.new.out }) _ c.run_replay.result status.Ok
    (build_other c.args.plan.digits c.args.plan.cap c.args.plan.budget _ _ _ _ status.Ok refl (c.in-Ok.ensures.run _ _))
    (λ e. absurd (e refl)) (λ e. replay_other c.args.tries _ _ _ _ c.run_replay.result (λ u. u.0) (c.run_replay.ensures.run _ _ _ _))
    c.run_build.ensures.out_later c.run_replay.ensures.out_later

pub returns-in_default-clause-run : goal.returns-in_default-clause-run
returns-in_default-clause-run g c =
    tour_run c.args.plan.digits c.args.plan.cap c.args.plan.budget c.args.tries _ _
    (record { held = g.S.Blob.held c.run_build.new.store; reads = g.S.Blob.reads c.run_build.new.store; outcomes = g.S.Blob.outcomes c.run_build.new.store; faults = g.S.Blob.faults c.run_build.new.store })
    (record { parts = g.O.Out.parts c.run_build.new.out; notes = g.O.Out.notes c.run_build.new.out; faults = g.O.Out.faults c.run_build.new.out }) _ c.run_build.result c.run_build.result
    (c.run_build.ensures.run _ _)
    (λ e. (refl, refl, refl, refl, nothing _ _ _ _ refl refl)) (λ e. absurd (c.in_default.not-Ok e))
    c.run_build.ensures.out_later (omega arith)
