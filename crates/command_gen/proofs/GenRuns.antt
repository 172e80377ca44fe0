-- What a run of `gen` says.
use Rattle.std.proofs.Common.{◌≡◌, ℕ, ◌⊎◌, refl, inl, inr}
use Rattle.mesh_gen.proofs.Sums.{generated_closed}
use Rattle.run_status.specs.declared.status.Status.{Status}
use Rattle.run_status.specs.declared.status.Status.TheVariants as status
use Rattle.command_gen.specs.Gen.{gen_items}
use Rattle.command_gen.specs.GenRuns.{GenRun}
use Rattle.mesh_output.proofs.Exports.{none_yet}
use Rattle.mesh_output.proofs.OutAnswers.{IsGenAnswer}
use Rattle.run_record.specs.Seen.{Seen}

-- memory ran out before a device was touched
pub gen_unstarted : (size : ℕ) (s : Seen) → GenRun size s s status.Memory
gen_unstarted size s = record {
  ok = λ e. absurd cc;
  closed = generated_closed size;
  complete = λ no. inr refl;
  front = none_yet (gen_items size) s.out.parts s.out.parts s.out.notes s.out.notes refl refl;
}

pub gen_complete : (answer : Status) (out_failed : Type 0) → IsGenAnswer answer → (answer ≡ status.OutFault → out_failed) → (out_failed → ⊥) → (answer ≡ status.Ok) ⊎ (answer ≡ status.Memory)
gen_complete answer out_failed is fault none = elim is [ inl e ↦ inl e | inr k ↦ elim k [ inl e ↦ absurd (none (fault e)) | inr e ↦ inr e ] ]
