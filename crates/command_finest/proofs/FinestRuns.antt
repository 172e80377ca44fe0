-- What a run of `finest` says.
use Rattle.std.proofs.Common.{ℕ, refl, inl, inr}
use Rattle.std.specs.Prelude.{Option}
use Rattle.tpz_base.specs.Cubes.{level_bound}
use Rattle.ply_body.specs.Inputs.{mesh_of}
use Rattle.run_status.specs.declared.status.Status.TheVariants as status
use Rattle.command_finest.specs.FinestRuns.{FinestRun}
use Rattle.finest_cut.proofs.RootCut.{each_once}
use Rattle.mesh_output.proofs.Exports.{none_yet, nothing}
use Rattle.run_record.specs.Seen.{Seen}

-- memory ran out before a device was touched
pub finest_unstarted : (digits cap : Option ℕ) (s : Seen) → FinestRun digits cap s s status.Memory
finest_unstarted digits cap s = record {
  ok = λ e. absurd cc;
  once = λ rows faces. each_once cap (level_bound rows) (mesh_of rows faces);
  refused = λ h. absurd h;
  accepted = λ h. absurd (elim h [ inl e ↦ cc | inr k ↦ elim k [ inl e ↦ cc | inr e ↦ cc ] ]);
  few = λ h. absurd (elim h [ inl e ↦ cc | inr e ↦ cc ]);
  too_many = λ e. absurd cc;
  complete = λ bytes told held keeps no_input no_work no_out. (λ rows faces means. (λ fits. inr refl, λ past. inr refl), λ r is. inr refl);
  front = λ bytes told held keeps rows faces means. none_yet _ s.out.parts s.out.parts s.out.notes s.out.notes refl refl;
  unaccepted = λ bytes told not_accepted. nothing s.out.parts s.out.parts s.out.notes s.out.notes refl refl;
  unread = λ a b c. nothing s.out.parts s.out.parts s.out.notes s.out.notes refl refl;
}
