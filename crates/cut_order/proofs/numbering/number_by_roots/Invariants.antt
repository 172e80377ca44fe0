use Rattle.std.proofs.Common.{◌≡◌, ℕ, ◌≤◌}
use Rattle.tpz_base.specs.Roots.{root_part, roots_parts}
use Rattle.cut_export.specs.Numbering.{numbered_mesh, IsNumbering}
use Rattle.cut_order.proofs.numbering.number_by_roots.Given as goal

abbrev pub invariant-roots : goal.invariant-roots
invariant-roots l = record {
  mesh : numbered_mesh l.numbered ≡ roots_parts l.fn.tris.items l.place;
  numbering : IsNumbering l.numbered;
  there : (k : ℕ) → l.place ≤ k → root_part l.tris.items k ≡ root_part l.fn.tris.items k;
}
