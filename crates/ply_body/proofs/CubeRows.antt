-- The least and the greatest coordinates of rows, and the rows less the least.
use Rattle.std.proofs.Common.{◌≡◌, ℕ, zero, suc, ◌+◌, ◌≤◌, ◌<◌, ◌^◌, List, [], ◌∷◌, ◌++◌, map, length, get_or, refl, sym, ◌∙◌, ap, subst, cond, arith}
use Rattle.std.specs.Prelude.{IfSome, max, Bool, true, false, ℤ, pos, negsuc, unsigned_abs, ◌-ℤ◌, ◌≤ℤ◌, fold, All, find, nat_le, nat_lt, unwrap_or}
use Rattle.std.specs.Int.{int_min, int_max}
use Rattle.std.specs.List.{AllByRecursion, range_with_len, slice_index_or}
use Rattle.std.specs.Option.{option_or}
use Rattle.std.specs.declared.option.Option.{Option}
use Rattle.std.specs.declared.option.Option.TheVariants.{None, Some}
use Rattle.std.proofs.lemmas.Int.{ints, clamps}
use Rattle.std.proofs.lemmas.Bool.{leb-true, le-leb, lt-leb, ltb-false}
use Rattle.std.proofs.lemmas.List.Sums.{fold-append}
use Rattle.std.proofs.lemmas.List.Elements.{All-nil, All-head, All-tail, All-from_recursion}
use Rattle.tpz_base.specs.Points.{point}
use Rattle.tpz_base.specs.Cubes.{Row, extent, least, less, level_bound, low_of, most, natural_of, widest}
use Rattle.ply_body.specs.declared.frame.Frame.{Frame}
use Rattle.ply_body.specs.Inputs.{point_at}
use Rattle.ply_body.specs.Spots.{row_of, spots_of, AreSpots, IsFrameOf, IsNear, IsOver, IsSmallRow}
use Rattle.ply_body.specs.Hulls.{level_from, lower, higher, high_of, HasHull, IsExtent, IsHullOf}
use Rattle.ply_body.specs.declared.hull.Hull.{Hull}
use Rattle.ply_body.specs.declared.fault.BodyFault.{BodyFault}
use Rattle.ply_body.specs.declared.fault.BodyFault.TheVariants as fault
use Rattle.ply_body.specs.Bodies.{too_wide, wide}

-- a fold of rows goes by axis
fold_lower : (r : Row) (rows : List Row) → fold lower r rows
    ≡ record { x = fold int_min r.x (map (λ s. s.x) rows); y = fold int_min r.y (map (λ s. s.y) rows); z = fold int_min r.z (map (λ s. s.z) rows) }
fold_lower r [] = refl
fold_lower r (s ∷ rows) = fold_lower (lower r s) rows

fold_higher : (r : Row) (rows : List Row) → fold higher r rows
    ≡ record { x = fold int_max r.x (map (λ s. s.x) rows); y = fold int_max r.y (map (λ s. s.y) rows); z = fold int_max r.z (map (λ s. s.z) rows) }
fold_higher r [] = refl
fold_higher r (s ∷ rows) = fold_higher (higher r s) rows

low_is : (r : Row) (rows : List Row) → fold lower r rows ≡ low_of (r ∷ rows)
low_is r rows = fold_lower r rows

high_is : (r : Row) (rows : List Row) → fold higher r rows ≡ high_of (r ∷ rows)
high_is r rows = fold_higher r rows

-- with one row more
pub low_more : (r : Row) (rows : List Row) (s : Row) → low_of ((r ∷ rows) ++ s ∷ []) ≡ lower (low_of (r ∷ rows)) s
low_more r rows s = sym (low_is r (rows ++ s ∷ [])) ∙ fold-append lower r rows (s ∷ []) ∙ ap (λ (l : Row). lower l s) (low_is r rows)

pub high_more : (r : Row) (rows : List Row) (s : Row) → high_of ((r ∷ rows) ++ s ∷ []) ≡ higher (high_of (r ∷ rows)) s
high_more r rows s = sym (high_is r (rows ++ s ∷ [])) ∙ fold-append higher r rows (s ∷ []) ∙ ap (λ (l : Row). higher l s) (high_is r rows)

over_trans : (a b c : Row) → IsOver a b → IsOver b c → IsOver a c
over_trans a b c first second =
    record { x = along a.x b.x c.x first.x second.x; y = along a.y b.y c.y first.y second.y; z = along a.z b.z c.z first.z second.z }
  where
    along : (x y z : ℤ) → x ≤ℤ y → y ≤ℤ z → x ≤ℤ z
    along x y z xy yz = omega (arith, ints)

min_left : (x y : ℤ) → int_min x y ≤ℤ x
min_left x y = omega (arith, ints, clamps)

min_right : (x y : ℤ) → int_min x y ≤ℤ y
min_right x y = omega (arith, ints, clamps)

max_left : (x y : ℤ) → x ≤ℤ int_max x y
max_left x y = omega (arith, ints, clamps)

max_right : (x y : ℤ) → y ≤ℤ int_max x y
max_right x y = omega (arith, ints, clamps)

over_first : (r : Row) (rows : List Row) → IsOver (fold lower r rows) r
over_first r [] = record { x = omega (arith, ints); y = omega (arith, ints); z = omega (arith, ints) }
over_first r (s ∷ rows) =
    over_trans _ (lower r s) r (over_first (lower r s) rows) (record { x = min_left r.x s.x; y = min_left r.y s.y; z = min_left r.z s.z })

over_rest : (r : Row) (rows : List Row) → AllByRecursion (IsOver (fold lower r rows)) rows
over_rest r [] = tt
over_rest r (s ∷ rows) = (
  over_trans _ (lower r s) s (over_first (lower r s) rows) (record { x = min_right r.x s.x; y = min_right r.y s.y; z = min_right r.z s.z }),
  over_rest (lower r s) rows,
)

under_first : (r : Row) (rows : List Row) → IsOver r (fold higher r rows)
under_first r [] = record { x = omega (arith, ints); y = omega (arith, ints); z = omega (arith, ints) }
under_first r (s ∷ rows) =
    over_trans r (higher r s) _ (record { x = max_left r.x s.x; y = max_left r.y s.y; z = max_left r.z s.z }) (under_first (higher r s) rows)

under_rest : (r : Row) (rows : List Row) → AllByRecursion (λ s. IsOver s (fold higher r rows)) rows
under_rest r [] = tt
under_rest r (s ∷ rows) = (
  over_trans s (higher r s) _ (record { x = max_right r.x s.x; y = max_right r.y s.y; z = max_right r.z s.z }) (under_first (higher r s) rows),
  under_rest (higher r s) rows,
)

-- no row is below the least coordinates, and none above the greatest
pub all_over : (rows : List Row) → All (IsOver (low_of rows)) rows
all_over [] = All-nil (IsOver (low_of []))
all_over (r ∷ rows) = subst (λ low. All (IsOver low) (r ∷ rows)) (low_is r rows)
    (All-from_recursion (IsOver (fold lower r rows)) (r ∷ rows) (over_first r rows, over_rest r rows))

all_under : (rows : List Row) → All (λ s. IsOver s (high_of rows)) rows
all_under [] = All-nil (λ s. IsOver s (high_of []))
all_under (r ∷ rows) = subst (λ high. All (λ s. IsOver s high) (r ∷ rows)) (high_is r rows)
    (All-from_recursion (λ s. IsOver s (fold higher r rows)) (r ∷ rows) (under_first r rows, under_rest r rows))

-- the least coordinates of rows that are at most the greatest in absolute value are so too

nearer : (y z : ℤ) → unsigned_abs y ≤ 2147483647 → unsigned_abs z ≤ 2147483647 → unsigned_abs (int_min y z) ≤ 2147483647
nearer y z first second = omega (arith, ints, clamps)

small_fold : (r : Row) (rows : List Row) → IsSmallRow r → All IsSmallRow rows → IsSmallRow (fold lower r rows)
small_fold r [] small all = small
small_fold r (s ∷ rows) small all =
    let next : IsSmallRow s = All-head IsSmallRow s rows all in
    small_fold (lower r s) rows (record { x = nearer r.x s.x small.x next.x; y = nearer r.y s.y small.y next.y; z = nearer r.z s.z small.z next.z })
    (All-tail IsSmallRow s rows all)

small_low : (rows : List Row) → All IsSmallRow rows → IsSmallRow (low_of rows)
small_low [] all = record { x = omega arith; y = omega arith; z = omega arith }
small_low (r ∷ rows) all = subst IsSmallRow (low_is r rows) (small_fold r rows (All-head IsSmallRow r rows all) (All-tail IsSmallRow r rows all))

pub small_hull : (found : Option Hull) (rows : List Row) → IsHullOf found rows → All IsSmallRow rows → IfSome found (λ h. IsSmallRow (row_of h.low))
small_hull None rows is all = tt
small_hull (Some hull) rows is all = subst IsSmallRow is.low (small_low rows all)

natural_grows : (a b : ℤ) → a ≤ℤ b → natural_of a ≤ natural_of b
natural_grows (pos a) (pos b) below = omega (arith, ints)
natural_grows (pos a) (negsuc b) below = absurd (omega (arith, ints))
natural_grows (negsuc a) (pos b) below = omega arith
natural_grows (negsuc a) (negsuc b) below = omega arith

shift : (l m h : ℤ) → m ≤ℤ h → (m -ℤ l) ≤ℤ (h -ℤ l)
shift l m h below = omega (arith, ints)

-- the level covers the extents
covers : (w : ℕ) (ls : List ℕ) → w ≤ 2 ^ 30 → w ≤ 2 ^ unwrap_or (find (λ l. nat_le w (2 ^ l)) ls) 30
covers w [] narrow = narrow
covers w (l ∷ ls) narrow = go (find (λ k. nat_le w (2 ^ k)) ls) (nat_le w (2 ^ l)) refl (covers w ls narrow)
  where
    go : (rest : Option ℕ) (b : Bool) → nat_le w (2 ^ l) ≡ b → w ≤ 2 ^ unwrap_or rest 30 → w ≤ 2 ^ unwrap_or (cond b (Some l) rest) 30
    go rest true is below = omega (arith, leb-true)
    go rest false is below = below

near_at : (rows : List Row) (l : ℕ) (r : Row) → widest rows ≤ 2 ^ l → IsOver (low_of rows) r → IsOver r (high_of rows) → IsNear l (low_of rows) r
near_at rows l r wide over under = let low = low_of rows in let high = high_of rows in record {
  over = over;
  near = record {
    x = omega (arith, wide, natural_grows (r.x -ℤ low.x) (high.x -ℤ low.x) (shift low.x r.x high.x under.x));
    y = omega (arith, wide, natural_grows (r.y -ℤ low.y) (high.y -ℤ low.y) (shift low.y r.y high.y under.y));
    z = omega (arith, wide, natural_grows (r.z -ℤ low.z) (high.z -ℤ low.z) (shift low.z r.z high.z under.z));
  };
}

-- each row is in the cube of the frame
row_near : (frame : Frame) (rows : List Row) (n : ℕ) (d : Row) → IsFrameOf frame rows → n < length rows → IsNear frame.l (low_of rows) (get_or rows n d)
row_near frame rows n d is below =
    let wide : widest rows ≤ 2 ^ level_bound rows = covers (widest rows) (range_with_len 1 30) is.narrow in
    subst (λ (l : ℕ). IsNear l (low_of rows) (get_or rows n d)) (sym is.l)
    (near_at rows (level_bound rows) (get_or rows n d) wide (all_over rows n d below) (all_under rows n d below))

-- the point at a place is that of the row there
place_of : (low : Row) (rows : List Row) (n : ℕ) (d : Row) → n < length rows → slice_index_or (map (less low) rows) n (point 0 0 0) ≡ less low (get_or rows n d)
place_of low [] n d below = absurd (omega arith)
place_of low (r ∷ rows) zero d below = refl
place_of low (r ∷ rows) (suc n) d below = place_of low rows n d (omega arith)

pub point_at_is : (low : Row) (rows : List Row) (n : ℕ) (d : Row) → n < length rows → point_at (spots_of low rows) n ≡ less low (get_or rows n d)
point_at_is low rows n d below = place_of low rows n d below

-- The rows of a frame are points of its cube.
pub frame_spots : (frame : Frame) (rows : List Row) → IsFrameOf frame rows → AreSpots frame (low_of rows) rows
frame_spots frame rows is =
    record { least = is.low; vertices = is.vertices; small = is.small; near = λ n d below. row_near frame rows n d is below }

-- The level that covers a width.

pub level_here : (w l n : ℕ) → w ≤ 2 ^ l → level_from l (suc n) w ≡ l
unfolding level_from
level_here w l n fits = rw (le-leb w (2 ^ l) fits) refl

pub level_next : (w l n : ℕ) → 2 ^ l < w → level_from l (suc n) w ≡ level_from (l + 1) n w
unfolding level_from
level_next w l n past = rw (lt-leb w (2 ^ l) past) refl

pub level_end : (w l : ℕ) → l ≡ 30 → level_from l 1 w ≡ 30
unfolding level_from
level_end w l is = go l (nat_le w (2 ^ l)) is
  where
    go : (l : ℕ) (b : Bool) → l ≡ 30 → ◌≡◌ {A = ℕ} (unwrap_or (cond b (Some l) None) 30) 30
    go l true is = is
    go l false is = refl

pub level_is : (rows : List Row) → level_bound rows ≡ level_from 1 30 (widest rows)
unfolding level_from
level_is rows = refl

-- The faults of axes.

pub or_three : (x y z x' y' z' : Option BodyFault) → x ≡ x' → y ≡ y' → z ≡ z' → option_or x (option_or y z) ≡ option_or x' (option_or y' z')
or_three x y z x' y' z' xs ys zs = cc

or_none : (x y : Option BodyFault) → option_or x y ≡ None → (x ≡ None) × (y ≡ None)
or_none None y is = (refl, is)
or_none (Some f) y is = absurd (cc)

not_wide : (axis : ℕ) (vs : List ℤ) → wide axis vs ≡ None → extent vs ≤ 2 ^ 30
not_wide axis vs is = go (nat_lt (2 ^ 30) (extent vs)) refl is
  where
    go : (b : Bool) → nat_lt (2 ^ 30) (extent vs) ≡ b → ◌≡◌ {A = Option BodyFault} (cond b (Some (fault.Extent axis (least vs) (most vs))) None) None → extent vs ≤ 2 ^ 30
    go true test is = absurd (cc)
    go false test is = ltb-false (2 ^ 30) (extent vs) test

pub narrow_is : (rows : List Row) → too_wide rows ≡ None → widest rows ≤ 2 ^ 30
narrow_is rows is =
    let (on_x, others) = or_none _ _ is in
    let (on_y, on_z) = or_none _ _ others in
    let x = not_wide 0 (map (λ (r : Row). r.x) rows) on_x in
    let y = not_wide 1 (map (λ (r : Row). r.y) rows) on_y in
    let z = not_wide 2 (map (λ (r : Row). r.z) rows) on_z in
    omega (arith, x, y, z)

-- the extents of rows, by their hull
pub widest_is : (rows : List Row) (hull : Hull) (x y z : ℕ) → HasHull hull rows → x ≡ natural_of (hull.high.x -ℤ hull.low.x)
    → y ≡ natural_of (hull.high.y -ℤ hull.low.y) → z ≡ natural_of (hull.high.z -ℤ hull.low.z) → max x (max y z) ≡ widest rows
widest_is rows hull x y z is xs ys zs = sym (ap (λ (h : Row). between (low_of rows) h) is.high ∙ ap (λ (l : Row). between l (row_of hull.high)) is.low
    ∙ three _ _ _ x y z (sym xs) (sym ys) (sym zs))
  where
    between : Row → Row → ℕ
    between low high = max (natural_of (high.x -ℤ low.x)) (max (natural_of (high.y -ℤ low.y)) (natural_of (high.z -ℤ low.z)))

    three : (a b c a' b' c' : ℕ) → a ≡ a' → b ≡ b' → c ≡ c' → max a (max b c) ≡ max a' (max b' c')
    three a b c a' b' c' x y z = cc

pub or_extent : (a b : Option BodyFault) → IfSome a IsExtent → IfSome b IsExtent → IfSome (option_or a b) IsExtent
or_extent None b x y = y
or_extent (Some f) b x y = x
