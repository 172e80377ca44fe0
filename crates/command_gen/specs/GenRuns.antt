-- What holds of a run of `gen`: by whether the output failed in it, and by the parts and notes before and after it.
use Rattle.std.specs.Prelude.{◌≡◌, ◌⊎◌, ℕ, pos}
use Rattle.tpz_io.specs.Writes.{Wrote, WrotePrefix}
use Rattle.tpz_base.specs.declared.shape.Point.{Point}
use Rattle.tpz_base.specs.Meshes.{edge_sum}
use Rattle.mesh_gen.specs.Generator.{generated}
use Rattle.run_status.specs.declared.status.Status.{Status}
use Rattle.run_status.specs.declared.status.Status.TheVariants as status
use Rattle.command_gen.specs.Gen.{gen_items}
use Rattle.run_record.specs.Seen.{Seen}
use Rattle.tpz_io.specs.Causes.{Rose}

-- a run of `gen`, by what the output says before and after it
pub record GenRun (size : ℕ) (old new : Seen) (answer : Status) : Type 0 where
  -- Ok: the part and the note are those of the mesh of this size
  pub ok : answer ≡ status.Ok → Wrote (gen_items size) old.out.parts new.out.parts old.out.notes new.out.notes
  -- each edge of the mesh runs as often one way as the other
  pub closed : (a b : Point) → edge_sum (generated size) a b ≡ pos 0
  -- without a failure the answer is Ok, or memory ran out
  pub complete : ¬ Rose old.out.faults new.out.faults → (answer ≡ status.Ok) ⊎ (answer ≡ status.Memory)
  -- whatever the answer, what is written is a front of what the command writes
  pub front : WrotePrefix (gen_items size) old.out.parts new.out.parts old.out.notes new.out.notes
