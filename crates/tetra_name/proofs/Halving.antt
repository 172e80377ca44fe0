-- Points by half a unit.
use Rattle.std.proofs.Common.{◌≡◌, ℕ, ◌+◌, ◌-◌, ◌*◌, ◌^◌, ◌≤◌, ◌<◌, ◌&&◌, true, arith}
use Rattle.std.specs.Prelude.{nat_lt}
use Rattle.std.proofs.lemmas.Bool.{and_parts, ltb-true}
use Rattle.tpz_base.specs.declared.shape.Point.{Point}
use Rattle.tetra_name.specs.Steps.{is_half, is_half_step, half_step, IsScalable}
use Rattle.tetra_name.proofs.Rooms.{in_range}

below_end : (N j n : ℕ) → n ≤ 2 * N → 2 * N * 2 ^ j < 2 ^ 32 → n * 2 ^ j < 2 ^ 32
below_end N j n le h = let h' : 2 ^ j * (2 * N) < 2 ^ 32 = omega (arith, h) in in_range j (2 * N) n h' le

half_in : (N n : ℕ) → is_half N n ≡ true → n - 1 ≤ 2 * N
half_in N n e = let k = and_parts (nat_lt 0 n) (nat_lt n (2 * N + 2)) e in let lt = ltb-true n (2 * N + 2) k.1 in omega (arith, lt)

pub half_fits : (N j : ℕ) (u o : Point) → 2 * N * 2 ^ j < 2 ^ 32 → is_half_step N u o ≡ true → IsScalable j (half_step u o)
unfolding is_half_step half_step
half_fits N j u o h e =
    let x = and_parts (is_half N (2 * u.x + o.x)) (is_half N (2 * u.y + o.y) && is_half N (2 * u.z + o.z)) e in
    let y = and_parts (is_half N (2 * u.y + o.y)) (is_half N (2 * u.z + o.z)) x.1 in
    (below_end N j (2 * u.x + o.x - 1) (half_in N (2 * u.x + o.x) x.0) h, below_end N j (2 * u.y + o.y - 1) (half_in N (2 * u.y + o.y) y.0) h, below_end N j (2 * u.z + o.z - 1) (half_in N (2 * u.z + o.z) y.1) h)
