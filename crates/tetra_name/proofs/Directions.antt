-- Directions and orders of axes.
use Rattle.std.proofs.Common.{◌≡◌, ℕ, zero, suc, ◌+◌, ◌-◌, ◌*◌, ◌%◌, ◌≤◌, ◌<◌, ◌⊎◌, Bool, true, false, ◌&&◌, List, [], ◌∷◌, refl, sym, subst, inl, inr, arith, true≢false}
use Rattle.std.specs.Prelude.{nat_lt}
use Rattle.std.specs.List.{AllByRecursion, list_all}
use Rattle.std.proofs.lemmas.Bool.{cases_order, and_parts, ltb-true}
use Rattle.tpz_base.specs.declared.shape.Point.{Point}
use Rattle.tpz_base.specs.Points.{point_lt}
use Rattle.tpz_base.proofs.CutLaw.{Member}
use Rattle.tpz_base.proofs.AxisPaths.{Order, xyz, xzy, yxz, yzx, zxy, zyx, along}
use Rattle.tetra_name.specs.Steps.{moved, coordinate, is_forwards, start, finish, start_point, finish_point, half_offsets, long_axes, pair_lt, pairs, step_directions}
use Rattle.tetra_name.proofs.Sorting.{Below, Strict}

-- the direction along the first axis of the order
abbrev pub first : Order → Bool → ℕ
first xyz true = 0
first xyz false = 5
first xzy true = 0
first xzy false = 5
first yxz true = 1
first yxz false = 4
first yzx true = 1
first yzx false = 4
first zxy true = 2
first zxy false = 3
first zyx true = 2
first zyx false = 3

-- the direction along the second axis of the order
abbrev pub second : Order → Bool → ℕ
second xyz true = 1
second xyz false = 4
second xzy true = 2
second xzy false = 3
second yxz true = 0
second yxz false = 5
second yzx true = 2
second yzx false = 3
second zxy true = 0
second zxy false = 5
second zyx true = 1
second zyx false = 4

-- the direction along the third axis of the order
abbrev pub third : Order → Bool → ℕ
third xyz true = 2
third xyz false = 3
third xzy true = 1
third xzy false = 4
third yxz true = 2
third yxz false = 3
third yzx true = 0
third yzx false = 5
third zxy true = 1
third zxy false = 4
third zyx true = 0
third zyx false = 5

abbrev pub shifted : Bool → ℕ → ℕ → ℕ
shifted true s n = n + s
shifted false s n = n - s

pub moved-first : (s : ℕ) (w : Order) (b : Bool) (p q r : ℕ) → moved s (first w b) (along w p q r) ≡ along w (shifted b s p) q r
unfolding moved
moved-first s xyz true p q r = refl
moved-first s xyz false p q r = refl
moved-first s xzy true p q r = refl
moved-first s xzy false p q r = refl
moved-first s yxz true p q r = refl
moved-first s yxz false p q r = refl
moved-first s yzx true p q r = refl
moved-first s yzx false p q r = refl
moved-first s zxy true p q r = refl
moved-first s zxy false p q r = refl
moved-first s zyx true p q r = refl
moved-first s zyx false p q r = refl

pub coordinate-first : (w : Order) (b : Bool) (p q r : ℕ) → coordinate (first w b) (along w p q r) ≡ p
unfolding coordinate
coordinate-first xyz true p q r = refl
coordinate-first xyz false p q r = refl
coordinate-first xzy true p q r = refl
coordinate-first xzy false p q r = refl
coordinate-first yxz true p q r = refl
coordinate-first yxz false p q r = refl
coordinate-first yzx true p q r = refl
coordinate-first yzx false p q r = refl
coordinate-first zxy true p q r = refl
coordinate-first zxy false p q r = refl
coordinate-first zyx true p q r = refl
coordinate-first zyx false p q r = refl

pub forwards-first : (w : Order) (b : Bool) → is_forwards (first w b) ≡ b
unfolding is_forwards
forwards-first xyz true = refl
forwards-first xyz false = refl
forwards-first xzy true = refl
forwards-first xzy false = refl
forwards-first yxz true = refl
forwards-first yxz false = refl
forwards-first yzx true = refl
forwards-first yzx false = refl
forwards-first zxy true = refl
forwards-first zxy false = refl
forwards-first zyx true = refl
forwards-first zyx false = refl

pub moved-second : (s : ℕ) (w : Order) (b : Bool) (p q r : ℕ) → moved s (second w b) (along w p q r) ≡ along w p (shifted b s q) r
unfolding moved
moved-second s xyz true p q r = refl
moved-second s xyz false p q r = refl
moved-second s xzy true p q r = refl
moved-second s xzy false p q r = refl
moved-second s yxz true p q r = refl
moved-second s yxz false p q r = refl
moved-second s yzx true p q r = refl
moved-second s yzx false p q r = refl
moved-second s zxy true p q r = refl
moved-second s zxy false p q r = refl
moved-second s zyx true p q r = refl
moved-second s zyx false p q r = refl

pub coordinate-second : (w : Order) (b : Bool) (p q r : ℕ) → coordinate (second w b) (along w p q r) ≡ q
unfolding coordinate
coordinate-second xyz true p q r = refl
coordinate-second xyz false p q r = refl
coordinate-second xzy true p q r = refl
coordinate-second xzy false p q r = refl
coordinate-second yxz true p q r = refl
coordinate-second yxz false p q r = refl
coordinate-second yzx true p q r = refl
coordinate-second yzx false p q r = refl
coordinate-second zxy true p q r = refl
coordinate-second zxy false p q r = refl
coordinate-second zyx true p q r = refl
coordinate-second zyx false p q r = refl

pub forwards-second : (w : Order) (b : Bool) → is_forwards (second w b) ≡ b
unfolding is_forwards
forwards-second xyz true = refl
forwards-second xyz false = refl
forwards-second xzy true = refl
forwards-second xzy false = refl
forwards-second yxz true = refl
forwards-second yxz false = refl
forwards-second yzx true = refl
forwards-second yzx false = refl
forwards-second zxy true = refl
forwards-second zxy false = refl
forwards-second zyx true = refl
forwards-second zyx false = refl

pub moved-third : (s : ℕ) (w : Order) (b : Bool) (p q r : ℕ) → moved s (third w b) (along w p q r) ≡ along w p q (shifted b s r)
unfolding moved
moved-third s xyz true p q r = refl
moved-third s xyz false p q r = refl
moved-third s xzy true p q r = refl
moved-third s xzy false p q r = refl
moved-third s yxz true p q r = refl
moved-third s yxz false p q r = refl
moved-third s yzx true p q r = refl
moved-third s yzx false p q r = refl
moved-third s zxy true p q r = refl
moved-third s zxy false p q r = refl
moved-third s zyx true p q r = refl
moved-third s zyx false p q r = refl

pub coordinate-third : (w : Order) (b : Bool) (p q r : ℕ) → coordinate (third w b) (along w p q r) ≡ r
unfolding coordinate
coordinate-third xyz true p q r = refl
coordinate-third xyz false p q r = refl
coordinate-third xzy true p q r = refl
coordinate-third xzy false p q r = refl
coordinate-third yxz true p q r = refl
coordinate-third yxz false p q r = refl
coordinate-third yzx true p q r = refl
coordinate-third yzx false p q r = refl
coordinate-third zxy true p q r = refl
coordinate-third zxy false p q r = refl
coordinate-third zyx true p q r = refl
coordinate-third zyx false p q r = refl

pub forwards-third : (w : Order) (b : Bool) → is_forwards (third w b) ≡ b
unfolding is_forwards
forwards-third xyz true = refl
forwards-third xyz false = refl
forwards-third xzy true = refl
forwards-third xzy false = refl
forwards-third yxz true = refl
forwards-third yxz false = refl
forwards-third yzx true = refl
forwards-third yzx false = refl
forwards-third zxy true = refl
forwards-third zxy false = refl
forwards-third zyx true = refl
forwards-third zyx false = refl

pub start-along : (w : Order) (p q r : ℕ) → start_point (along w p q r) ≡ along w (start p) (start q) (start r)
unfolding start_point
start-along xyz p q r = refl
start-along xzy p q r = refl
start-along yxz p q r = refl
start-along yzx p q r = refl
start-along zxy p q r = refl
start-along zyx p q r = refl

pub finish-along : (w : Order) (p q r : ℕ) → finish_point (along w p q r) ≡ along w (finish p) (finish q) (finish r)
unfolding finish_point
finish-along xyz p q r = refl
finish-along xzy p q r = refl
finish-along yxz p q r = refl
finish-along yzx p q r = refl
finish-along zxy p q r = refl
finish-along zyx p q r = refl

pub long_axes-along : (w : Order) (p q r : ℕ) → long_axes (along w p q r) ≡ p % 2 + (q % 2 + r % 2)
unfolding long_axes
long_axes-along xyz p q r = refl
long_axes-along xzy p q r = omega arith
long_axes-along yxz p q r = omega arith
long_axes-along yzx p q r = omega arith
long_axes-along zxy p q r = omega arith
long_axes-along zyx p q r = omega arith

-- a point by its coordinates in an order
pub record Along (w : Order) (u : Point) : Type 0 where
  pub p : ℕ
  pub q : ℕ
  pub r : ℕ
  pub is : u ≡ along w p q r

pub by_order : (w : Order) (u : Point) → Along w u
by_order xyz u = record { p = u.x; q = u.y; r = u.z; is = refl }
by_order xzy u = record { p = u.x; q = u.z; r = u.y; is = refl }
by_order yxz u = record { p = u.y; q = u.x; r = u.z; is = refl }
by_order yzx u = record { p = u.y; q = u.z; r = u.x; is = refl }
by_order zxy u = record { p = u.z; q = u.x; r = u.y; is = refl }
by_order zyx u = record { p = u.z; q = u.y; r = u.x; is = refl }

pub pair-first_second : (w : Order) (b c : Bool) → Member pairs (first w b, second w c)
unfolding pairs
pair-first_second xyz true true = inl refl
pair-first_second xyz true false = inr (inr (inr (inl refl)))
pair-first_second xyz false true = inr (inr (inr (inr (inr (inr (inr (inr (inr (inr (inr (inr (inr (inr (inr (inr (inr (inr (inr (inr (inl refl))))))))))))))))))))
pair-first_second xyz false false = inr (inr (inr (inr (inr (inr (inr (inr (inr (inr (inr (inr (inr (inr (inr (inr (inr (inr (inr (inr (inr (inr (inr (inl refl)))))))))))))))))))))))
pair-first_second xzy true true = inr (inl refl)
pair-first_second xzy true false = inr (inr (inl refl))
pair-first_second xzy false true = inr (inr (inr (inr (inr (inr (inr (inr (inr (inr (inr (inr (inr (inr (inr (inr (inr (inr (inr (inr (inr (inl refl)))))))))))))))))))))
pair-first_second xzy false false = inr (inr (inr (inr (inr (inr (inr (inr (inr (inr (inr (inr (inr (inr (inr (inr (inr (inr (inr (inr (inr (inr (inl refl))))))))))))))))))))))
pair-first_second yxz true true = inr (inr (inr (inr (inl refl))))
pair-first_second yxz true false = inr (inr (inr (inr (inr (inr (inr (inl refl)))))))
pair-first_second yxz false true = inr (inr (inr (inr (inr (inr (inr (inr (inr (inr (inr (inr (inr (inr (inr (inr (inl refl))))))))))))))))
pair-first_second yxz false false = inr (inr (inr (inr (inr (inr (inr (inr (inr (inr (inr (inr (inr (inr (inr (inr (inr (inr (inr (inl refl)))))))))))))))))))
pair-first_second yzx true true = inr (inr (inr (inr (inr (inl refl)))))
pair-first_second yzx true false = inr (inr (inr (inr (inr (inr (inl refl))))))
pair-first_second yzx false true = inr (inr (inr (inr (inr (inr (inr (inr (inr (inr (inr (inr (inr (inr (inr (inr (inr (inl refl)))))))))))))))))
pair-first_second yzx false false = inr (inr (inr (inr (inr (inr (inr (inr (inr (inr (inr (inr (inr (inr (inr (inr (inr (inr (inl refl))))))))))))))))))
pair-first_second zxy true true = inr (inr (inr (inr (inr (inr (inr (inr (inl refl))))))))
pair-first_second zxy true false = inr (inr (inr (inr (inr (inr (inr (inr (inr (inr (inr (inl refl)))))))))))
pair-first_second zxy false true = inr (inr (inr (inr (inr (inr (inr (inr (inr (inr (inr (inr (inl refl))))))))))))
pair-first_second zxy false false = inr (inr (inr (inr (inr (inr (inr (inr (inr (inr (inr (inr (inr (inr (inr (inl refl)))))))))))))))
pair-first_second zyx true true = inr (inr (inr (inr (inr (inr (inr (inr (inr (inl refl)))))))))
pair-first_second zyx true false = inr (inr (inr (inr (inr (inr (inr (inr (inr (inr (inl refl))))))))))
pair-first_second zyx false true = inr (inr (inr (inr (inr (inr (inr (inr (inr (inr (inr (inr (inr (inl refl)))))))))))))
pair-first_second zyx false false = inr (inr (inr (inr (inr (inr (inr (inr (inr (inr (inr (inr (inr (inr (inl refl))))))))))))))

pub record FirstSecond (q : ℕ × ℕ) : Type 0 where
  pub w : Order
  pub b : Bool
  pub c : Bool
  pub is : q ≡ (first w b, second w c)

pub all-first_second : AllByRecursion FirstSecond pairs
unfolding pairs
all-first_second =
    (record { w = xyz; b = true; c = true; is = refl }, (record { w = xzy; b = true; c = true; is = refl }, (record { w = xzy; b = true; c = false; is = refl }, (record { w = xyz; b = true; c = false; is = refl }, (record { w = yxz; b = true; c = true; is = refl }, (record { w = yzx; b = true; c = true; is = refl }, (record { w = yzx; b = true; c = false; is = refl }, (record { w = yxz; b = true; c = false; is = refl }, (record { w = zxy; b = true; c = true; is = refl }, (record { w = zyx; b = true; c = true; is = refl }, (record { w = zyx; b = true; c = false; is = refl }, (record { w = zxy; b = true; c = false; is = refl }, (record { w = zxy; b = false; c = true; is = refl }, (record { w = zyx; b = false; c = true; is = refl }, (record { w = zyx; b = false; c = false; is = refl }, (record { w = zxy; b = false; c = false; is = refl }, (record { w = yxz; b = false; c = true; is = refl }, (record { w = yzx; b = false; c = true; is = refl }, (record { w = yzx; b = false; c = false; is = refl }, (record { w = yxz; b = false; c = false; is = refl }, (record { w = xyz; b = false; c = true; is = refl }, (record { w = xzy; b = false; c = true; is = refl }, (record { w = xzy; b = false; c = false; is = refl }, (record { w = xyz; b = false; c = false; is = refl }, tt))))))))))))))))))))))))

pub pair-first_third : (w : Order) (b c : Bool) → Member pairs (first w b, third w c)
unfolding pairs
pair-first_third xyz true true = inr (inl refl)
pair-first_third xyz true false = inr (inr (inl refl))
pair-first_third xyz false true = inr (inr (inr (inr (inr (inr (inr (inr (inr (inr (inr (inr (inr (inr (inr (inr (inr (inr (inr (inr (inr (inl refl)))))))))))))))))))))
pair-first_third xyz false false = inr (inr (inr (inr (inr (inr (inr (inr (inr (inr (inr (inr (inr (inr (inr (inr (inr (inr (inr (inr (inr (inr (inl refl))))))))))))))))))))))
pair-first_third xzy true true = inl refl
pair-first_third xzy true false = inr (inr (inr (inl refl)))
pair-first_third xzy false true = inr (inr (inr (inr (inr (inr (inr (inr (inr (inr (inr (inr (inr (inr (inr (inr (inr (inr (inr (inr (inl refl))))))))))))))))))))
pair-first_third xzy false false = inr (inr (inr (inr (inr (inr (inr (inr (inr (inr (inr (inr (inr (inr (inr (inr (inr (inr (inr (inr (inr (inr (inr (inl refl)))))))))))))))))))))))
pair-first_third yxz true true = inr (inr (inr (inr (inr (inl refl)))))
pair-first_third yxz true false = inr (inr (inr (inr (inr (inr (inl refl))))))
pair-first_third yxz false true = inr (inr (inr (inr (inr (inr (inr (inr (inr (inr (inr (inr (inr (inr (inr (inr (inr (inl refl)))))))))))))))))
pair-first_third yxz false false = inr (inr (inr (inr (inr (inr (inr (inr (inr (inr (inr (inr (inr (inr (inr (inr (inr (inr (inl refl))))))))))))))))))
pair-first_third yzx true true = inr (inr (inr (inr (inl refl))))
pair-first_third yzx true false = inr (inr (inr (inr (inr (inr (inr (inl refl)))))))
pair-first_third yzx false true = inr (inr (inr (inr (inr (inr (inr (inr (inr (inr (inr (inr (inr (inr (inr (inr (inl refl))))))))))))))))
pair-first_third yzx false false = inr (inr (inr (inr (inr (inr (inr (inr (inr (inr (inr (inr (inr (inr (inr (inr (inr (inr (inr (inl refl)))))))))))))))))))
pair-first_third zxy true true = inr (inr (inr (inr (inr (inr (inr (inr (inr (inl refl)))))))))
pair-first_third zxy true false = inr (inr (inr (inr (inr (inr (inr (inr (inr (inr (inl refl))))))))))
pair-first_third zxy false true = inr (inr (inr (inr (inr (inr (inr (inr (inr (inr (inr (inr (inr (inl refl)))))))))))))
pair-first_third zxy false false = inr (inr (inr (inr (inr (inr (inr (inr (inr (inr (inr (inr (inr (inr (inl refl))))))))))))))
pair-first_third zyx true true = inr (inr (inr (inr (inr (inr (inr (inr (inl refl))))))))
pair-first_third zyx true false = inr (inr (inr (inr (inr (inr (inr (inr (inr (inr (inr (inl refl)))))))))))
pair-first_third zyx false true = inr (inr (inr (inr (inr (inr (inr (inr (inr (inr (inr (inr (inl refl))))))))))))
pair-first_third zyx false false = inr (inr (inr (inr (inr (inr (inr (inr (inr (inr (inr (inr (inr (inr (inr (inl refl)))))))))))))))

pub record FirstThird (q : ℕ × ℕ) : Type 0 where
  pub w : Order
  pub b : Bool
  pub c : Bool
  pub is : q ≡ (first w b, third w c)

pub all-first_third : AllByRecursion FirstThird pairs
unfolding pairs
all-first_third =
    (record { w = xzy; b = true; c = true; is = refl }, (record { w = xyz; b = true; c = true; is = refl }, (record { w = xyz; b = true; c = false; is = refl }, (record { w = xzy; b = true; c = false; is = refl }, (record { w = yzx; b = true; c = true; is = refl }, (record { w = yxz; b = true; c = true; is = refl }, (record { w = yxz; b = true; c = false; is = refl }, (record { w = yzx; b = true; c = false; is = refl }, (record { w = zyx; b = true; c = true; is = refl }, (record { w = zxy; b = true; c = true; is = refl }, (record { w = zxy; b = true; c = false; is = refl }, (record { w = zyx; b = true; c = false; is = refl }, (record { w = zyx; b = false; c = true; is = refl }, (record { w = zxy; b = false; c = true; is = refl }, (record { w = zxy; b = false; c = false; is = refl }, (record { w = zyx; b = false; c = false; is = refl }, (record { w = yzx; b = false; c = true; is = refl }, (record { w = yxz; b = false; c = true; is = refl }, (record { w = yxz; b = false; c = false; is = refl }, (record { w = yzx; b = false; c = false; is = refl }, (record { w = xzy; b = false; c = true; is = refl }, (record { w = xyz; b = false; c = true; is = refl }, (record { w = xyz; b = false; c = false; is = refl }, (record { w = xzy; b = false; c = false; is = refl }, tt))))))))))))))))))))))))

pub pair-second_third : (w : Order) (b c : Bool) → Member pairs (second w b, third w c)
unfolding pairs
pair-second_third xyz true true = inr (inr (inr (inr (inr (inl refl)))))
pair-second_third xyz true false = inr (inr (inr (inr (inr (inr (inl refl))))))
pair-second_third xyz false true = inr (inr (inr (inr (inr (inr (inr (inr (inr (inr (inr (inr (inr (inr (inr (inr (inr (inl refl)))))))))))))))))
pair-second_third xyz false false = inr (inr (inr (inr (inr (inr (inr (inr (inr (inr (inr (inr (inr (inr (inr (inr (inr (inr (inl refl))))))))))))))))))
pair-second_third xzy true true = inr (inr (inr (inr (inr (inr (inr (inr (inr (inl refl)))))))))
pair-second_third xzy true false = inr (inr (inr (inr (inr (inr (inr (inr (inr (inr (inl refl))))))))))
pair-second_third xzy false true = inr (inr (inr (inr (inr (inr (inr (inr (inr (inr (inr (inr (inr (inl refl)))))))))))))
pair-second_third xzy false false = inr (inr (inr (inr (inr (inr (inr (inr (inr (inr (inr (inr (inr (inr (inl refl))))))))))))))
pair-second_third yxz true true = inr (inl refl)
pair-second_third yxz true false = inr (inr (inl refl))
pair-second_third yxz false true = inr (inr (inr (inr (inr (inr (inr (inr (inr (inr (inr (inr (inr (inr (inr (inr (inr (inr (inr (inr (inr (inl refl)))))))))))))))))))))
pair-second_third yxz false false = inr (inr (inr (inr (inr (inr (inr (inr (inr (inr (inr (inr (inr (inr (inr (inr (inr (inr (inr (inr (inr (inr (inl refl))))))))))))))))))))))
pair-second_third yzx true true = inr (inr (inr (inr (inr (inr (inr (inr (inl refl))))))))
pair-second_third yzx true false = inr (inr (inr (inr (inr (inr (inr (inr (inr (inr (inr (inl refl)))))))))))
pair-second_third yzx false true = inr (inr (inr (inr (inr (inr (inr (inr (inr (inr (inr (inr (inl refl))))))))))))
pair-second_third yzx false false = inr (inr (inr (inr (inr (inr (inr (inr (inr (inr (inr (inr (inr (inr (inr (inl refl)))))))))))))))
pair-second_third zxy true true = inl refl
pair-second_third zxy true false = inr (inr (inr (inl refl)))
pair-second_third zxy false true = inr (inr (inr (inr (inr (inr (inr (inr (inr (inr (inr (inr (inr (inr (inr (inr (inr (inr (inr (inr (inl refl))))))))))))))))))))
pair-second_third zxy false false = inr (inr (inr (inr (inr (inr (inr (inr (inr (inr (inr (inr (inr (inr (inr (inr (inr (inr (inr (inr (inr (inr (inr (inl refl)))))))))))))))))))))))
pair-second_third zyx true true = inr (inr (inr (inr (inl refl))))
pair-second_third zyx true false = inr (inr (inr (inr (inr (inr (inr (inl refl)))))))
pair-second_third zyx false true = inr (inr (inr (inr (inr (inr (inr (inr (inr (inr (inr (inr (inr (inr (inr (inr (inl refl))))))))))))))))
pair-second_third zyx false false = inr (inr (inr (inr (inr (inr (inr (inr (inr (inr (inr (inr (inr (inr (inr (inr (inr (inr (inr (inl refl)))))))))))))))))))

pub record SecondThird (q : ℕ × ℕ) : Type 0 where
  pub w : Order
  pub b : Bool
  pub c : Bool
  pub is : q ≡ (second w b, third w c)

pub all-second_third : AllByRecursion SecondThird pairs
unfolding pairs
all-second_third =
    (record { w = zxy; b = true; c = true; is = refl }, (record { w = yxz; b = true; c = true; is = refl }, (record { w = yxz; b = true; c = false; is = refl }, (record { w = zxy; b = true; c = false; is = refl }, (record { w = zyx; b = true; c = true; is = refl }, (record { w = xyz; b = true; c = true; is = refl }, (record { w = xyz; b = true; c = false; is = refl }, (record { w = zyx; b = true; c = false; is = refl }, (record { w = yzx; b = true; c = true; is = refl }, (record { w = xzy; b = true; c = true; is = refl }, (record { w = xzy; b = true; c = false; is = refl }, (record { w = yzx; b = true; c = false; is = refl }, (record { w = yzx; b = false; c = true; is = refl }, (record { w = xzy; b = false; c = true; is = refl }, (record { w = xzy; b = false; c = false; is = refl }, (record { w = yzx; b = false; c = false; is = refl }, (record { w = zyx; b = false; c = true; is = refl }, (record { w = xyz; b = false; c = true; is = refl }, (record { w = xyz; b = false; c = false; is = refl }, (record { w = zyx; b = false; c = false; is = refl }, (record { w = zxy; b = false; c = true; is = refl }, (record { w = yxz; b = false; c = true; is = refl }, (record { w = yxz; b = false; c = false; is = refl }, (record { w = zxy; b = false; c = false; is = refl }, tt))))))))))))))))))))))))

-- of two directions from one point, the earlier one leads to the greater point
pub moved_below : (s d e : ℕ) (p : Point) → 0 < s → d < e → e < 6 → (is_forwards e ≡ true) ⊎ (s ≤ coordinate e p) → Below (moved s e p) (moved s d p)
unfolding moved coordinate is_forwards
moved_below s zero (suc zero) p pos lt in_six room = inl (omega (arith, pos))
moved_below s (suc d) (suc zero) p pos lt in_six room = absurd (omega (arith, lt))
moved_below s zero (suc (suc zero)) p pos lt in_six room = inl (omega (arith, pos))
moved_below s (suc zero) (suc (suc zero)) p pos lt in_six room = inr (refl, inl (omega (arith, pos)))
moved_below s (suc (suc d)) (suc (suc zero)) p pos lt in_six room = absurd (omega (arith, lt))
moved_below s zero (suc (suc (suc zero))) p pos lt in_six room = elim room [ inl t ↦ absurd (true≢false (sym t)) | inr n ↦ inl (omega (arith, n, pos)) ]
moved_below s (suc zero) (suc (suc (suc zero))) p pos lt in_six room = elim room [ inl t ↦ absurd (true≢false (sym t)) | inr n ↦ inr (refl, inl (omega (arith, n, pos))) ]
moved_below s (suc (suc zero)) (suc (suc (suc zero))) p pos lt in_six room = elim room [ inl t ↦ absurd (true≢false (sym t)) | inr n ↦ inr (refl, inr (refl, omega (arith, n, pos))) ]
moved_below s (suc (suc (suc d))) (suc (suc (suc zero))) p pos lt in_six room = absurd (omega (arith, lt))
moved_below s zero (suc (suc (suc (suc zero)))) p pos lt in_six room = elim room [ inl t ↦ absurd (true≢false (sym t)) | inr n ↦ inl (omega (arith, n, pos)) ]
moved_below s (suc zero) (suc (suc (suc (suc zero)))) p pos lt in_six room = elim room [ inl t ↦ absurd (true≢false (sym t)) | inr n ↦ inr (refl, inl (omega (arith, n, pos))) ]
moved_below s (suc (suc zero)) (suc (suc (suc (suc zero)))) p pos lt in_six room = elim room [ inl t ↦ absurd (true≢false (sym t)) | inr n ↦ inr (refl, inl (omega (arith, n, pos))) ]
moved_below s (suc (suc (suc zero))) (suc (suc (suc (suc zero)))) p pos lt in_six room = elim room [ inl t ↦ absurd (true≢false (sym t)) | inr n ↦ inr (refl, inl (omega (arith, n, pos))) ]
moved_below s (suc (suc (suc (suc d)))) (suc (suc (suc (suc zero)))) p pos lt in_six room = absurd (omega (arith, lt))
moved_below s zero (suc (suc (suc (suc (suc zero))))) p pos lt in_six room = elim room [ inl t ↦ absurd (true≢false (sym t)) | inr n ↦ inl (omega (arith, n, pos)) ]
moved_below s (suc zero) (suc (suc (suc (suc (suc zero))))) p pos lt in_six room = elim room [ inl t ↦ absurd (true≢false (sym t)) | inr n ↦ inl (omega (arith, n, pos)) ]
moved_below s (suc (suc zero)) (suc (suc (suc (suc (suc zero))))) p pos lt in_six room = elim room [ inl t ↦ absurd (true≢false (sym t)) | inr n ↦ inl (omega (arith, n, pos)) ]
moved_below s (suc (suc (suc zero))) (suc (suc (suc (suc (suc zero))))) p pos lt in_six room = elim room [ inl t ↦ absurd (true≢false (sym t)) | inr n ↦ inl (omega (arith, n, pos)) ]
moved_below s (suc (suc (suc (suc zero)))) (suc (suc (suc (suc (suc zero))))) p pos lt in_six room = elim room [ inl t ↦ absurd (true≢false (sym t)) | inr n ↦ inl (omega (arith, n, pos)) ]
moved_below s (suc (suc (suc (suc (suc d))))) (suc (suc (suc (suc (suc zero))))) p pos lt in_six room = absurd (omega (arith, lt))
moved_below s d zero p pos lt in_six room = absurd (omega (arith, lt))
moved_below s d (suc (suc (suc (suc (suc (suc e)))))) p pos lt in_six room = absurd (omega (arith, in_six))

-- pairs of directions in order
abbrev pub PairBelow : ℕ × ℕ → ℕ × ℕ → Type 0
PairBelow q r = (q.0 < r.0) ⊎ ((q.0 ≡ r.0) × (q.1 < r.1))

strict_test : {X : Type 0} → (X → X → Bool) → List X → Bool
strict_test below [] = true
strict_test below (x ∷ xs) = list_all (below x) xs && strict_test below xs

all_true : {X : Type 0} (t : X → Bool) (xs : List X) → list_all t xs ≡ true → (y : X) → Member xs y → t y ≡ true
all_true t [] h y m = absurd m
all_true t (x ∷ xs) h y m =
    let k = and_parts (t x) (list_all t xs) h in
    elim m [ inl e ↦ subst (λ a. t a ≡ true) e k.0 | inr n ↦ all_true t xs k.1 y n ]

tested : {X : Type 0} (below : X → X → Bool) (xs : List X) → strict_test below xs ≡ true → Strict (λ x y. below x y ≡ true) xs
unfolding strict_test
tested below [] h = tt
tested below (x ∷ xs) h =
    let k = and_parts (list_all (below x) xs) (strict_test below xs) h in
    (all_true (below x) xs k.0, tested below xs k.1)

pub pairs_sorted : Strict (λ q r. pair_lt q r ≡ true) pairs
unfolding pairs strict_test
pairs_sorted = tested pair_lt pairs refl

pub steps_sorted : Strict (λ d e. nat_lt e d ≡ true) step_directions
unfolding step_directions strict_test
steps_sorted = tested (λ d e. nat_lt e d) step_directions refl

pub offsets_sorted : Strict (λ p q. point_lt p q ≡ true) half_offsets
unfolding half_offsets strict_test
offsets_sorted = tested point_lt half_offsets refl

steps_in_six : list_all (λ d. nat_lt d 6) step_directions ≡ true
unfolding step_directions
steps_in_six = refl

pub step_below_six : (d : ℕ) → Member step_directions d → d < 6
step_below_six d m = ltb-true d 6 (all_true (λ e. nat_lt e 6) step_directions steps_in_six d m)

pub step_member : (d : ℕ) → d < 6 → Member step_directions d
unfolding step_directions
step_member zero h = inr (inr (inr (inr (inr (inl refl)))))
step_member (suc zero) h = inr (inr (inr (inr (inl refl))))
step_member (suc (suc zero)) h = inr (inr (inr (inl refl)))
step_member (suc (suc (suc zero))) h = inr (inr (inl refl))
step_member (suc (suc (suc (suc zero)))) h = inr (inl refl)
step_member (suc (suc (suc (suc (suc zero))))) h = inl refl
step_member (suc (suc (suc (suc (suc (suc d)))))) h = absurd (omega (arith, h))

-- every direction is the first of an order
pub record ByFirst (d : ℕ) : Type 0 where
  pub w : Order
  pub b : Bool
  pub is : d ≡ first w b

pub by_first : (d : ℕ) → d < 6 → ByFirst d
by_first zero h = record { w = xyz; b = true; is = refl }
by_first (suc zero) h = record { w = yxz; b = true; is = refl }
by_first (suc (suc zero)) h = record { w = zxy; b = true; is = refl }
by_first (suc (suc (suc zero))) h = record { w = zxy; b = false; is = refl }
by_first (suc (suc (suc (suc zero)))) h = record { w = yxz; b = false; is = refl }
by_first (suc (suc (suc (suc (suc zero))))) h = record { w = xyz; b = false; is = refl }
by_first (suc (suc (suc (suc (suc (suc d)))))) h = absurd (omega (arith, h))

-- the order with the last two axes exchanged
abbrev pub other : Order → Order
other xyz = xzy
other xzy = xyz
other yxz = yzx
other yzx = yxz
other zxy = zyx
other zyx = zxy

pub first-other : (w : Order) (b : Bool) → first (other w) b ≡ first w b
first-other xyz true = refl
first-other xyz false = refl
first-other xzy true = refl
first-other xzy false = refl
first-other yxz true = refl
first-other yxz false = refl
first-other yzx true = refl
first-other yzx false = refl
first-other zxy true = refl
first-other zxy false = refl
first-other zyx true = refl
first-other zyx false = refl

pub along-other : (w : Order) (p q r : ℕ) → along (other w) p r q ≡ along w p q r
along-other xyz p q r = refl
along-other xzy p q r = refl
along-other yxz p q r = refl
along-other yzx p q r = refl
along-other zxy p q r = refl
along-other zyx p q r = refl

-- the directions of a pair are below six
abbrev pub in_six : ℕ × ℕ → Bool
in_six q = nat_lt q.0 6 && nat_lt q.1 6

all_in_six : list_all in_six pairs ≡ true
unfolding pairs
all_in_six = refl

pub below_six : (q : ℕ × ℕ) → Member pairs q → (q.0 < 6) × (q.1 < 6)
below_six q m =
    let k = and_parts (nat_lt q.0 6) (nat_lt q.1 6) (all_true in_six pairs all_in_six q m) in
    (ltb-true q.0 6 k.0, ltb-true q.1 6 k.1)

pub pair_below : (q r : ℕ × ℕ) → q.1 < 6 → r.1 < 6 → pair_lt q r ≡ true → PairBelow q r
pair_below q r a b e =
    let h : 6 * q.0 + q.1 < 6 * r.0 + r.1 = ltb-true (6 * q.0 + q.1) (6 * r.0 + r.1) e in
    elim (cases_order q.0 r.0) [
      | inl k ↦ inr (k, omega (arith, h, k))
      | inr k ↦ elim k [ inl l ↦ inl l | inr l ↦ absurd (omega (arith, a, b, h, l)) ]
    ]
