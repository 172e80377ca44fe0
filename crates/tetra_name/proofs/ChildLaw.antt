-- The directions and the centre of a member's children.
use Rattle.std.proofs.Common.{◌≡◌, ℕ, ◌+◌, ◌-◌, ◌*◌, ◌%◌, ◌≤◌, ◌<◌, Bool, true, false, not, map, refl, sym, ◌∙◌, ap, subst, arith, true≢false}
use Rattle.std.proofs.lemmas.Bool.{lt-ltb, ltb-true}
use Rattle.tpz_base.specs.declared.shape.Point.{Point}
use Rattle.tpz_base.specs.Points.{point_scale}
use Rattle.tpz_base.specs.Tetrahedra.{Tetrahedron, child_0, child_1}
use Rattle.tpz_base.proofs.CutLaw.{Member}
use Rattle.tpz_base.proofs.AxisPaths.{Order, xyz, xzy, yxz, yzx, zxy, zyx, along, swapped, turned}
use Rattle.tetra_name.specs.Steps.{moved, coordinate, start, finish, allows, is_member, long_axes, pairs, opposite, rest_of}
use Rattle.tetra_name.proofs.Flags.{cube_list, face_list, edge_list, cube_child_0, cube_child_1, face_child_0, face_child_1, edge_child_0, edge_child_1}
use Rattle.tetra_name.proofs.Rounds.{list_doubled}
use Rattle.tetra_name.proofs.Directions.{first, second, third, shifted, moved-first, moved-second, moved-third, coordinate-first, coordinate-second, coordinate-third, forwards-first, forwards-second, forwards-third, long_axes-along, pair-first_second, pair-first_third, pair-second_third}
use Rattle.tetra_name.proofs.Closed.{way, start_up, start_down, finish_up, finish_down, allows_long, cube_is, face_is, edge_is, cube_kind, face_kind, edge_kind, member_from, Corners}

pub opposite-first : (w : Order) (b : Bool) → opposite (first w b) ≡ first w (not b)
unfolding opposite
opposite-first xyz true = refl
opposite-first xyz false = refl
opposite-first xzy true = refl
opposite-first xzy false = refl
opposite-first yxz true = refl
opposite-first yxz false = refl
opposite-first yzx true = refl
opposite-first yzx false = refl
opposite-first zxy true = refl
opposite-first zxy false = refl
opposite-first zyx true = refl
opposite-first zyx false = refl

pub opposite-second : (w : Order) (b : Bool) → opposite (second w b) ≡ second w (not b)
unfolding opposite
opposite-second xyz true = refl
opposite-second xyz false = refl
opposite-second xzy true = refl
opposite-second xzy false = refl
opposite-second yxz true = refl
opposite-second yxz false = refl
opposite-second yzx true = refl
opposite-second yzx false = refl
opposite-second zxy true = refl
opposite-second zxy false = refl
opposite-second zyx true = refl
opposite-second zyx false = refl

pub opposite-third : (w : Order) (b : Bool) → opposite (third w b) ≡ third w (not b)
unfolding opposite
opposite-third xyz true = refl
opposite-third xyz false = refl
opposite-third xzy true = refl
opposite-third xzy false = refl
opposite-third yxz true = refl
opposite-third yxz false = refl
opposite-third yzx true = refl
opposite-third yzx false = refl
opposite-third zxy true = refl
opposite-third zxy false = refl
opposite-third zyx true = refl
opposite-third zyx false = refl

-- the direction of the remaining axis
pub rest-first_second : (w : Order) (b c d : Bool) (p q r : ℕ) → r % 4 ≡ way d → rest_of (along w p q r) (first w b, second w c) ≡ third w d
unfolding rest_of coordinate
rest-first_second xyz true true true p q r e = rw e refl
rest-first_second xyz true true false p q r e = rw e refl
rest-first_second xyz true false true p q r e = rw e refl
rest-first_second xyz true false false p q r e = rw e refl
rest-first_second xyz false true true p q r e = rw e refl
rest-first_second xyz false true false p q r e = rw e refl
rest-first_second xyz false false true p q r e = rw e refl
rest-first_second xyz false false false p q r e = rw e refl
rest-first_second xzy true true true p q r e = rw e refl
rest-first_second xzy true true false p q r e = rw e refl
rest-first_second xzy true false true p q r e = rw e refl
rest-first_second xzy true false false p q r e = rw e refl
rest-first_second xzy false true true p q r e = rw e refl
rest-first_second xzy false true false p q r e = rw e refl
rest-first_second xzy false false true p q r e = rw e refl
rest-first_second xzy false false false p q r e = rw e refl
rest-first_second yxz true true true p q r e = rw e refl
rest-first_second yxz true true false p q r e = rw e refl
rest-first_second yxz true false true p q r e = rw e refl
rest-first_second yxz true false false p q r e = rw e refl
rest-first_second yxz false true true p q r e = rw e refl
rest-first_second yxz false true false p q r e = rw e refl
rest-first_second yxz false false true p q r e = rw e refl
rest-first_second yxz false false false p q r e = rw e refl
rest-first_second yzx true true true p q r e = rw e refl
rest-first_second yzx true true false p q r e = rw e refl
rest-first_second yzx true false true p q r e = rw e refl
rest-first_second yzx true false false p q r e = rw e refl
rest-first_second yzx false true true p q r e = rw e refl
rest-first_second yzx false true false p q r e = rw e refl
rest-first_second yzx false false true p q r e = rw e refl
rest-first_second yzx false false false p q r e = rw e refl
rest-first_second zxy true true true p q r e = rw e refl
rest-first_second zxy true true false p q r e = rw e refl
rest-first_second zxy true false true p q r e = rw e refl
rest-first_second zxy true false false p q r e = rw e refl
rest-first_second zxy false true true p q r e = rw e refl
rest-first_second zxy false true false p q r e = rw e refl
rest-first_second zxy false false true p q r e = rw e refl
rest-first_second zxy false false false p q r e = rw e refl
rest-first_second zyx true true true p q r e = rw e refl
rest-first_second zyx true true false p q r e = rw e refl
rest-first_second zyx true false true p q r e = rw e refl
rest-first_second zyx true false false p q r e = rw e refl
rest-first_second zyx false true true p q r e = rw e refl
rest-first_second zyx false true false p q r e = rw e refl
rest-first_second zyx false false true p q r e = rw e refl
rest-first_second zyx false false false p q r e = rw e refl

-- the direction of the remaining axis
pub rest-first_third : (w : Order) (b c d : Bool) (p q r : ℕ) → q % 4 ≡ way d → rest_of (along w p q r) (first w b, third w c) ≡ second w d
unfolding rest_of coordinate
rest-first_third xyz true true true p q r e = rw e refl
rest-first_third xyz true true false p q r e = rw e refl
rest-first_third xyz true false true p q r e = rw e refl
rest-first_third xyz true false false p q r e = rw e refl
rest-first_third xyz false true true p q r e = rw e refl
rest-first_third xyz false true false p q r e = rw e refl
rest-first_third xyz false false true p q r e = rw e refl
rest-first_third xyz false false false p q r e = rw e refl
rest-first_third xzy true true true p q r e = rw e refl
rest-first_third xzy true true false p q r e = rw e refl
rest-first_third xzy true false true p q r e = rw e refl
rest-first_third xzy true false false p q r e = rw e refl
rest-first_third xzy false true true p q r e = rw e refl
rest-first_third xzy false true false p q r e = rw e refl
rest-first_third xzy false false true p q r e = rw e refl
rest-first_third xzy false false false p q r e = rw e refl
rest-first_third yxz true true true p q r e = rw e refl
rest-first_third yxz true true false p q r e = rw e refl
rest-first_third yxz true false true p q r e = rw e refl
rest-first_third yxz true false false p q r e = rw e refl
rest-first_third yxz false true true p q r e = rw e refl
rest-first_third yxz false true false p q r e = rw e refl
rest-first_third yxz false false true p q r e = rw e refl
rest-first_third yxz false false false p q r e = rw e refl
rest-first_third yzx true true true p q r e = rw e refl
rest-first_third yzx true true false p q r e = rw e refl
rest-first_third yzx true false true p q r e = rw e refl
rest-first_third yzx true false false p q r e = rw e refl
rest-first_third yzx false true true p q r e = rw e refl
rest-first_third yzx false true false p q r e = rw e refl
rest-first_third yzx false false true p q r e = rw e refl
rest-first_third yzx false false false p q r e = rw e refl
rest-first_third zxy true true true p q r e = rw e refl
rest-first_third zxy true true false p q r e = rw e refl
rest-first_third zxy true false true p q r e = rw e refl
rest-first_third zxy true false false p q r e = rw e refl
rest-first_third zxy false true true p q r e = rw e refl
rest-first_third zxy false true false p q r e = rw e refl
rest-first_third zxy false false true p q r e = rw e refl
rest-first_third zxy false false false p q r e = rw e refl
rest-first_third zyx true true true p q r e = rw e refl
rest-first_third zyx true true false p q r e = rw e refl
rest-first_third zyx true false true p q r e = rw e refl
rest-first_third zyx true false false p q r e = rw e refl
rest-first_third zyx false true true p q r e = rw e refl
rest-first_third zyx false true false p q r e = rw e refl
rest-first_third zyx false false true p q r e = rw e refl
rest-first_third zyx false false false p q r e = rw e refl

-- the direction of the remaining axis
pub rest-second_third : (w : Order) (b c d : Bool) (p q r : ℕ) → p % 4 ≡ way d → rest_of (along w p q r) (second w b, third w c) ≡ first w d
unfolding rest_of coordinate
rest-second_third xyz true true true p q r e = rw e refl
rest-second_third xyz true true false p q r e = rw e refl
rest-second_third xyz true false true p q r e = rw e refl
rest-second_third xyz true false false p q r e = rw e refl
rest-second_third xyz false true true p q r e = rw e refl
rest-second_third xyz false true false p q r e = rw e refl
rest-second_third xyz false false true p q r e = rw e refl
rest-second_third xyz false false false p q r e = rw e refl
rest-second_third xzy true true true p q r e = rw e refl
rest-second_third xzy true true false p q r e = rw e refl
rest-second_third xzy true false true p q r e = rw e refl
rest-second_third xzy true false false p q r e = rw e refl
rest-second_third xzy false true true p q r e = rw e refl
rest-second_third xzy false true false p q r e = rw e refl
rest-second_third xzy false false true p q r e = rw e refl
rest-second_third xzy false false false p q r e = rw e refl
rest-second_third yxz true true true p q r e = rw e refl
rest-second_third yxz true true false p q r e = rw e refl
rest-second_third yxz true false true p q r e = rw e refl
rest-second_third yxz true false false p q r e = rw e refl
rest-second_third yxz false true true p q r e = rw e refl
rest-second_third yxz false true false p q r e = rw e refl
rest-second_third yxz false false true p q r e = rw e refl
rest-second_third yxz false false false p q r e = rw e refl
rest-second_third yzx true true true p q r e = rw e refl
rest-second_third yzx true true false p q r e = rw e refl
rest-second_third yzx true false true p q r e = rw e refl
rest-second_third yzx true false false p q r e = rw e refl
rest-second_third yzx false true true p q r e = rw e refl
rest-second_third yzx false true false p q r e = rw e refl
rest-second_third yzx false false true p q r e = rw e refl
rest-second_third yzx false false false p q r e = rw e refl
rest-second_third zxy true true true p q r e = rw e refl
rest-second_third zxy true true false p q r e = rw e refl
rest-second_third zxy true false true p q r e = rw e refl
rest-second_third zxy true false false p q r e = rw e refl
rest-second_third zxy false true true p q r e = rw e refl
rest-second_third zxy false true false p q r e = rw e refl
rest-second_third zxy false false true p q r e = rw e refl
rest-second_third zxy false false false p q r e = rw e refl
rest-second_third zyx true true true p q r e = rw e refl
rest-second_third zyx true true false p q r e = rw e refl
rest-second_third zyx true false true p q r e = rw e refl
rest-second_third zyx true false false p q r e = rw e refl
rest-second_third zyx false true true p q r e = rw e refl
rest-second_third zyx false true false p q r e = rw e refl
rest-second_third zyx false false true p q r e = rw e refl
rest-second_third zyx false false false p q r e = rw e refl

-- half a step
pub shift_start_half : (d : Bool) (m : ℕ) → m % 4 ≡ way d → shifted d 1 (start m) ≡ m
shift_start_half true m e = rw (start_up m e) (omega (arith, e))
shift_start_half false m e = rw (start_down m e) (omega arith)

pub shift_finish_half : (d : Bool) (m : ℕ) → m % 4 ≡ way d → shifted (not d) 1 (finish m) ≡ m
shift_finish_half true m e = rw (finish_up m e) (omega arith)
shift_finish_half false m e = rw (finish_down m e) (omega (arith, e))

pub shift_to_start : (d : Bool) (m : ℕ) → m % 4 ≡ way d → shifted (not d) 1 m ≡ start m
shift_to_start true m e = sym (start_up m e)
shift_to_start false m e = sym (start_down m e)

pub shift_to_finish : (d : Bool) (m : ℕ) → m % 4 ≡ way d → shifted d 1 m ≡ finish m
shift_to_finish true m e = sym (finish_up m e)
shift_to_finish false m e = sym (finish_down m e)

pub start_even : (d : Bool) (m : ℕ) → m % 4 ≡ way d → start m % 2 ≡ 0
start_even true m e = rw (start_up m e) (omega (arith, e))
start_even false m e = rw (start_down m e) (omega (arith, e))

pub finish_even : (d : Bool) (m : ℕ) → m % 4 ≡ way d → finish m % 2 ≡ 0
finish_even true m e = rw (finish_up m e) (omega (arith, e))
finish_even false m e = rw (finish_down m e) (omega (arith, e))

pub start_allows : (N : ℕ) (d : Bool) (m : ℕ) → m ≤ N → m % 4 ≡ way d → allows N d (start m) ≡ true
unfolding allows
start_allows N true m h e = let s = start_up m e in let even = start_even true m e in rw even (lt-ltb (start m) N (omega (arith, s, h, e)))
start_allows N false m h e = let s = start_down m e in let even = start_even false m e in rw even (lt-ltb 0 (start m) (omega (arith, s)))

pub finish_allows : (N : ℕ) (d : Bool) (m : ℕ) → m ≤ N → m % 4 ≡ way d → allows N (not d) (finish m) ≡ true
unfolding allows
finish_allows N true m h e = let s = finish_up m e in let even = finish_even true m e in rw even (lt-ltb 0 (finish m) (omega (arith, s)))
finish_allows N false m h e = let s = finish_down m e in let even = finish_even false m e in rw even (lt-ltb (finish m) N (omega (arith, s, h, e)))

pub odd_one : (b : Bool) (m : ℕ) → m % 4 ≡ way b → m % 2 ≡ 1
odd_one true m e = omega (arith, e)
odd_one false m e = omega (arith, e)

sum : (b : Bool) (m : ℕ) → m % 4 ≡ way b → start m + finish m ≡ 2 * m
sum true m e = rw (start_up m e, finish_up m e) (omega (arith, e))
sum false m e = rw (start_down m e, finish_down m e) (omega (arith, e))

odd_two : (b c : Bool) (p q r : ℕ) → p % 4 ≡ way b → q % 4 ≡ way c → r % 2 ≡ 0 → p % 2 + (q % 2 + r % 2) ≡ 2
odd_two b c p q r e f g = let x = odd_one b p e in let y = odd_one c q f in omega (arith, x, y, g)

-- a child in units, with its pair of directions
pub record Child (h N o : ℕ) (S : Tetrahedron) (u : Point) (q : ℕ × ℕ) : Type 0 where
  pub has : Member pairs q
  pub axes : long_axes u ≡ o
  pub valid : is_member N u q ≡ true
  pub is : S.corners ≡ Corners h u q

pub along_cong : (w : Order) (p q r p' q' r' : ℕ) → p ≡ p' → q ≡ q' → r ≡ r' → along w p q r ≡ along w p' q' r'
along_cong w p q r p' q' r' e f g = cc

pub along-turned : (w : Order) (p q r : ℕ) → along (turned w) p q r ≡ along w r p q
along-turned xyz p q r = refl
along-turned xzy p q r = refl
along-turned yxz p q r = refl
along-turned yzx p q r = refl
along-turned zxy p q r = refl
along-turned zyx p q r = refl

pub along-swapped : (w : Order) (p q r : ℕ) → along (swapped w) p q r ≡ along w q p r
along-swapped xyz p q r = refl
along-swapped xzy p q r = refl
along-swapped yxz p q r = refl
along-swapped yzx p q r = refl
along-swapped zxy p q r = refl
along-swapped zyx p q r = refl

pub turned-first : (w : Order) (b : Bool) → first (turned w) b ≡ second w b
turned-first xyz true = refl
turned-first xyz false = refl
turned-first xzy true = refl
turned-first xzy false = refl
turned-first yxz true = refl
turned-first yxz false = refl
turned-first yzx true = refl
turned-first yzx false = refl
turned-first zxy true = refl
turned-first zxy false = refl
turned-first zyx true = refl
turned-first zyx false = refl

pub turned-third : (w : Order) (b : Bool) → third (turned w) b ≡ first w b
turned-third xyz true = refl
turned-third xyz false = refl
turned-third xzy true = refl
turned-third xzy false = refl
turned-third yxz true = refl
turned-third yxz false = refl
turned-third yzx true = refl
turned-third yzx false = refl
turned-third zxy true = refl
turned-third zxy false = refl
turned-third zyx true = refl
turned-third zyx false = refl

pub turned-second : (w : Order) (b : Bool) → second (turned w) b ≡ third w b
turned-second xyz true = refl
turned-second xyz false = refl
turned-second xzy true = refl
turned-second xzy false = refl
turned-second yxz true = refl
turned-second yxz false = refl
turned-second yzx true = refl
turned-second yzx false = refl
turned-second zxy true = refl
turned-second zxy false = refl
turned-second zyx true = refl
turned-second zyx false = refl

pub swapped-first : (w : Order) (b : Bool) → first (swapped w) b ≡ second w b
swapped-first xyz true = refl
swapped-first xyz false = refl
swapped-first xzy true = refl
swapped-first xzy false = refl
swapped-first yxz true = refl
swapped-first yxz false = refl
swapped-first yzx true = refl
swapped-first yzx false = refl
swapped-first zxy true = refl
swapped-first zxy false = refl
swapped-first zyx true = refl
swapped-first zyx false = refl

pub swapped-second : (w : Order) (b : Bool) → second (swapped w) b ≡ first w b
swapped-second xyz true = refl
swapped-second xyz false = refl
swapped-second xzy true = refl
swapped-second xzy false = refl
swapped-second yxz true = refl
swapped-second yxz false = refl
swapped-second yzx true = refl
swapped-second yzx false = refl
swapped-second zxy true = refl
swapped-second zxy false = refl
swapped-second zyx true = refl
swapped-second zyx false = refl

pub swapped-third : (w : Order) (b : Bool) → third (swapped w) b ≡ third w b
swapped-third xyz true = refl
swapped-third xyz false = refl
swapped-third xzy true = refl
swapped-third xzy false = refl
swapped-third yxz true = refl
swapped-third yxz false = refl
swapped-third yzx true = refl
swapped-third yzx false = refl
swapped-third zxy true = refl
swapped-third zxy false = refl
swapped-third zyx true = refl
swapped-third zyx false = refl

-- of the cube's centre: to the face through the first two steps, and to the one through the last two
pub cube_child_at_0 : (h N : ℕ) (T : Tetrahedron) (w : Order) (b c d : Bool) (p q r : ℕ) → p ≤ N → q ≤ N → r ≤ N → p % 4 ≡ way b → q % 4 ≡ way c → r % 4 ≡ way d → T.level % 3 ≡ 0
    → T.corners ≡ cube_list h w (start p) (start q) (start r) (finish p) (finish q) (finish r)
    → Child h N 2 (child_0 T) (moved 1 (opposite (rest_of (along w p q r) (first w b, second w c))) (along w p q r)) (first w b, rest_of (along w p q r) (first w b, second w c))
cube_child_at_0 h N T w b c d p q r ip iq ir ep eq er n is =
    let rest = rest-first_second w b c d p q r er in
    let u : moved 1 (opposite (rest_of (along w p q r) (first w b, second w c))) (along w p q r) ≡ along w p q (start r) =
    ap (λ x. moved 1 (opposite x) (along w p q r)) rest ∙ ap (λ x. moved 1 x (along w p q r)) (opposite-third w d) ∙ moved-third 1 w (not d) p q r ∙ ap (λ x. along w p q x) (shift_to_start d r er) in
    let o : long_axes (along w p q (start r)) ≡ 2 = long_axes-along w p q (start r) ∙ odd_two b c p q (start r) ep eq (start_even d r er) in
    rw (u, rest) (record {
      has = pair-first_third w b d;
      axes = o;
      valid = member_from N (along w p q (start r)) (first w b) (third w d) b d p (start r) (forwards-first w b) (coordinate-first w b p q (start r)) (forwards-third w d) (coordinate-third w d p q (start r))
          (allows_long N b p ep) (start_allows N d r ir er) (omega (arith, o, odd_one b p ep)) (omega (arith, o, start_even d r er));
      is = cube_child_0 h T w (start p) (start q) (start r) (finish p) (finish q) (finish r) p q r (sum b p ep) (sum c q eq) (sum d r er) n is
          ∙ ap (λ x. face_list h w (start p) (start q) (start r) (finish p) (finish q) p q x) (sym (shift_start_half d r er))
          ∙ sym (ap (map (point_scale h)) (face_kind _ _ o) ∙ face_is h w b d p q (start r) ep (start_even d r er));
    })

pub cube_child_at_1 : (h N : ℕ) (T : Tetrahedron) (w : Order) (b c d : Bool) (p q r : ℕ) → p ≤ N → q ≤ N → r ≤ N → p % 4 ≡ way b → q % 4 ≡ way c → r % 4 ≡ way d → T.level % 3 ≡ 0
    → T.corners ≡ cube_list h w (start p) (start q) (start r) (finish p) (finish q) (finish r)
    → Child h N 2 (child_1 T) (moved 1 (first w b) (along w p q r)) (second w c, opposite (first w b))
cube_child_at_1 h N T w b c d p q r ip iq ir ep eq er n is =
    let u : moved 1 (first w b) (along w p q r) ≡ along (turned w) q r (finish p) =
    moved-first 1 w b p q r ∙ ap (λ x. along w x q r) (shift_to_finish b p ep) ∙ sym (along-turned w q r (finish p)) in
    let d1 : second w c ≡ first (turned w) c = sym (turned-first w c) in
    let d2 : opposite (first w b) ≡ third (turned w) (not b) = opposite-first w b ∙ sym (turned-third w (not b)) in
    let o : long_axes (along (turned w) q r (finish p)) ≡ 2 = long_axes-along (turned w) q r (finish p) ∙ odd_two c d q r (finish p) eq er (finish_even b p ep) in
    rw (u, d1, d2) (record {
      has = pair-first_third (turned w) c (not b);
      axes = o;
      valid = member_from N (along (turned w) q r (finish p)) (first (turned w) c) (third (turned w) (not b)) c (not b) q (finish p) (forwards-first (turned w) c) (coordinate-first (turned w) c q r (finish p))
          (forwards-third (turned w) (not b)) (coordinate-third (turned w) (not b) q r (finish p)) (allows_long N c q eq) (finish_allows N b p ip ep) (omega (arith, o, odd_one c q eq)) (omega (arith, o, finish_even b p ep));
      is = cube_child_1 h T w (start p) (start q) (start r) (finish p) (finish q) (finish r) p q r (sum b p ep) (sum c q eq) (sum d r er) n is
          ∙ ap (λ x. face_list h (turned w) (start q) (start r) (finish p) (finish q) (finish r) q r x) (sym (shift_finish_half b p ep))
          ∙ sym (ap (map (point_scale h)) (face_kind _ _ o) ∙ face_is h (turned w) c (not b) q r (finish p) eq (finish_even b p ep));
    })

-- of a face's centre: to the edges that are the two steps
pub face_child_at_0 : (h N : ℕ) (T : Tetrahedron) (w : Order) (b c s : Bool) (p q r : ℕ) → p ≤ N → q ≤ N → p % 4 ≡ way b → q % 4 ≡ way c → r % 2 ≡ 0 → allows N s r ≡ true → T.level % 3 ≡ 1
    → T.corners ≡ face_list h w (start p) (start q) r (finish p) (finish q) p q (shifted s 1 r)
    → Child h N 1 (child_0 T) (moved 1 (opposite (rest_of (along w p q r) (first w b, third w s))) (along w p q r)) (rest_of (along w p q r) (first w b, third w s), third w s)
face_child_at_0 h N T w b c s p q r ip iq ep eq even may n is =
    let rest = rest-first_third w b s c p q r eq in
    let u : moved 1 (opposite (rest_of (along w p q r) (first w b, third w s))) (along w p q r) ≡ along w p (start q) r =
    ap (λ x. moved 1 (opposite x) (along w p q r)) rest ∙ ap (λ x. moved 1 x (along w p q r)) (opposite-second w c) ∙ moved-second 1 w (not c) p q r ∙ ap (λ x. along w p x r) (shift_to_start c q eq) in
    let o : long_axes (along w p (start q) r) ≡ 1 = long_axes-along w p (start q) r ∙ omega (arith, odd_one b p ep, start_even c q eq, even) in
    rw (u, rest) (record {
      has = pair-second_third w c s;
      axes = o;
      valid = member_from N (along w p (start q) r) (second w c) (third w s) c s (start q) r (forwards-second w c) (coordinate-second w c p (start q) r) (forwards-third w s) (coordinate-third w s p (start q) r)
          (start_allows N c q iq eq) may (omega (arith, o, start_even c q eq)) (omega (arith, o, even));
      is = face_child_0 h T w (start p) (start q) r (finish p) (finish q) p q (shifted s 1 r) (sum b p ep) (sum c q eq) n is
          ∙ ap (λ x. edge_list h w (start p) (start q) r (finish p) p x (shifted s 1 r)) (sym (shift_start_half c q eq))
          ∙ sym (ap (map (point_scale h)) (edge_kind _ _ o) ∙ edge_is h w c s p (start q) r (start_even c q eq) even);
    })

pub face_child_at_1 : (h N : ℕ) (T : Tetrahedron) (w : Order) (b c s : Bool) (p q r : ℕ) → p ≤ N → q ≤ N → p % 4 ≡ way b → q % 4 ≡ way c → r % 2 ≡ 0 → allows N s r ≡ true → T.level % 3 ≡ 1
    → T.corners ≡ face_list h w (start p) (start q) r (finish p) (finish q) p q (shifted s 1 r)
    → Child h N 1 (child_1 T) (moved 1 (first w b) (along w p q r)) (opposite (first w b), third w s)
face_child_at_1 h N T w b c s p q r ip iq ep eq even may n is =
    let u : moved 1 (first w b) (along w p q r) ≡ along (swapped w) q (finish p) r =
    moved-first 1 w b p q r ∙ ap (λ x. along w x q r) (shift_to_finish b p ep) ∙ sym (along-swapped w q (finish p) r) in
    let d1 : opposite (first w b) ≡ second (swapped w) (not b) = opposite-first w b ∙ sym (swapped-second w (not b)) in
    let d2 : third w s ≡ third (swapped w) s = sym (swapped-third w s) in
    let o : long_axes (along (swapped w) q (finish p) r) ≡ 1 = long_axes-along (swapped w) q (finish p) r ∙ omega (arith, odd_one c q eq, finish_even b p ep, even) in
    rw (u, d1, d2) (record {
      has = pair-second_third (swapped w) (not b) s;
      axes = o;
      valid = member_from N (along (swapped w) q (finish p) r) (second (swapped w) (not b)) (third (swapped w) s) (not b) s (finish p) r (forwards-second (swapped w) (not b)) (coordinate-second (swapped w) (not b) q (finish p) r)
          (forwards-third (swapped w) s) (coordinate-third (swapped w) s q (finish p) r) (finish_allows N b p ip ep) may (omega (arith, o, finish_even b p ep)) (omega (arith, o, even));
      is = face_child_1 h T w (start p) (start q) r (finish p) (finish q) p q (shifted s 1 r) (sum b p ep) (sum c q eq) n is
          ∙ ap (λ x. edge_list h (swapped w) (start q) (finish p) r (finish q) q x (shifted s 1 r)) (sym (shift_finish_half b p ep))
          ∙ sym (ap (map (point_scale h)) (edge_kind _ _ o) ∙ edge_is h (swapped w) (not b) s q (finish p) r (finish_even b p ep) even);
    })

-- a step of one unit is one of two half as long
step_way : (d : Bool) (a : ℕ) → a % 2 ≡ 0 → (d ≡ false → 0 < a) → (a + shifted d 1 a) % 4 ≡ way d
step_way true a e pos = omega (arith, e)
step_way false a e pos = let lt = pos refl in omega (arith, e, lt)

step_start : (d : Bool) (a : ℕ) → a % 2 ≡ 0 → (d ≡ false → 0 < a) → start (a + shifted d 1 a) ≡ 2 * a
step_start true a e pos = start_up (a + (a + 1)) (step_way true a e pos) ∙ omega arith
step_start false a e pos = let lt = pos refl in start_down (a + (a - 1)) (step_way false a e pos) ∙ omega (arith, lt)

step_finish : (d : Bool) (a : ℕ) → a % 2 ≡ 0 → (d ≡ false → 0 < a) → finish (a + shifted d 1 a) ≡ 2 * shifted d 1 a
step_finish true a e pos = finish_up (a + (a + 1)) (step_way true a e pos) ∙ omega arith
step_finish false a e pos = let lt = pos refl in finish_down (a + (a - 1)) (step_way false a e pos) ∙ omega (arith, lt)

list_cong : (h : ℕ) (w : Order) (a0 a1 a2 b0 b1 b2 c0 c1 c2 d0 d1 d2 : ℕ) → a0 ≡ c0 → a1 ≡ c1 → a2 ≡ c2 → b0 ≡ d0 → b1 ≡ d1 → b2 ≡ d2 → cube_list h w a0 a1 a2 b0 b1 b2 ≡ cube_list h w c0 c1 c2 d0 d1 d2
list_cong h w a0 a1 a2 b0 b1 b2 c0 c1 c2 d0 d1 d2 e0 e1 e2 f0 f1 f2 = cc

-- three steps of one unit, in units of half the length
next_child : (h N : ℕ) (S : Tetrahedron) (w : Order) (b c d : Bool) (p q r : ℕ) → p % 2 ≡ 0 → q % 2 ≡ 0 → r % 2 ≡ 0 → (b ≡ false → 0 < p) → (c ≡ false → 0 < q) → (d ≡ false → 0 < r)
    → S.corners ≡ cube_list (2 * h) w p q r (shifted b 1 p) (shifted c 1 q) (shifted d 1 r)
    → Child h (2 * N) 3 S (along w (p + shifted b 1 p) (q + shifted c 1 q) (r + shifted d 1 r)) (first w b, second w c)
next_child h N S w b c d p q r ep eq er fp fq fr is =
    let P = p + shifted b 1 p in
    let Q = q + shifted c 1 q in
    let R = r + shifted d 1 r in
    let wp : (p + shifted b 1 p) % 4 ≡ way b = step_way b p ep fp in
    let wq : (q + shifted c 1 q) % 4 ≡ way c = step_way c q eq fq in
    let wr : (r + shifted d 1 r) % 4 ≡ way d = step_way d r er fr in
    let o : long_axes (along w (p + shifted b 1 p) (q + shifted c 1 q) (r + shifted d 1 r)) ≡ 3 =
    long_axes-along w (p + shifted b 1 p) (q + shifted c 1 q) (r + shifted d 1 r) ∙ omega (arith, odd_one b (p + shifted b 1 p) wp, odd_one c (q + shifted c 1 q) wq, odd_one d (r + shifted d 1 r) wr) in
    record {
      has = pair-first_second w b c;
      axes = o;
      valid = member_from (2 * N) (along w P Q R) (first w b) (second w c) b c P Q (forwards-first w b) (coordinate-first w b P Q R) (forwards-second w c) (coordinate-second w c P Q R)
          (allows_long (2 * N) b P wp) (allows_long (2 * N) c Q wq) (omega (arith, o, odd_one b (p + shifted b 1 p) wp)) (omega (arith, o, odd_one c (q + shifted c 1 q) wq));
      is = is ∙ list_doubled h w p q r (shifted b 1 p) (shifted c 1 q) (shifted d 1 r) (2 * p) (2 * q) (2 * r) (2 * shifted b 1 p) (2 * shifted c 1 q) (2 * shifted d 1 r) refl refl refl refl refl refl
          ∙ list_cong h w _ _ _ _ _ _ _ _ _ _ _ _ (sym (step_start b p ep fp)) (sym (step_start c q eq fq)) (sym (step_start d r er fr)) (sym (step_finish b p ep fp)) (sym (step_finish c q eq fq)) (sym (step_finish d r er fr))
          ∙ sym (ap (map (point_scale h)) (cube_kind _ _ o) ∙ cube_is h w b c P Q R wp wq);
    }

pub may_back : (N : ℕ) (d : Bool) (n : ℕ) → n % 2 ≡ 0 → allows N d n ≡ true → d ≡ false → 0 < n
unfolding allows
may_back N true n e may f = absurd (true≢false f)
may_back N false n e may f = ltb-true 0 n (rw e at may)

start_back : (b : Bool) (m : ℕ) → m % 4 ≡ way b → b ≡ false → 0 < start m
start_back true m e f = absurd (true≢false f)
start_back false m e f = let s = start_down m e in omega (arith, s)

finish_back : (b : Bool) (m : ℕ) → m % 4 ≡ way b → not b ≡ false → 0 < finish m
finish_back true m e f = let s = finish_up m e in omega (arith, s)
finish_back false m e f = absurd (true≢false f)

-- of an edge's centre: to the cubes at its two halves
pub edge_child_at_0 : (h N : ℕ) (T : Tetrahedron) (w : Order) (b s t : Bool) (p q r : ℕ) → p % 4 ≡ way b → q % 2 ≡ 0 → r % 2 ≡ 0 → allows N s q ≡ true → allows N t r ≡ true → T.level % 3 ≡ 2
    → T.corners ≡ edge_list (2 * h) w (start p) q r (finish p) p (shifted s 1 q) (shifted t 1 r)
    → Child h (2 * N) 3 (child_0 T) (along w (start p + p) (q + shifted s 1 q) (r + shifted t 1 r)) (first w b, second w s)
edge_child_at_0 h N T w b s t p q r ep eq er ms mt n is =
    let half = shift_start_half b p ep in
    subst (λ x. Child h (2 * N) 3 (child_0 T) (along w (start p + x) (q + shifted s 1 q) (r + shifted t 1 r)) (first w b, second w s)) half
    (next_child h N (child_0 T) w b s t (start p) q r (start_even b p ep) eq er (start_back b p ep) (may_back N s q eq ms) (may_back N t r er mt)
    (edge_child_0 (2 * h) T w (start p) q r (finish p) p (shifted s 1 q) (shifted t 1 r) (sum b p ep) n is ∙ ap (λ x. cube_list (2 * h) w (start p) q r x (shifted s 1 q) (shifted t 1 r)) (sym half)))

pub edge_child_at_1 : (h N : ℕ) (T : Tetrahedron) (w : Order) (b s t : Bool) (p q r : ℕ) → p % 4 ≡ way b → q % 2 ≡ 0 → r % 2 ≡ 0 → allows N s q ≡ true → allows N t r ≡ true → T.level % 3 ≡ 2
    → T.corners ≡ edge_list (2 * h) w (start p) q r (finish p) p (shifted s 1 q) (shifted t 1 r)
    → Child h (2 * N) 3 (child_1 T) (along w (finish p + p) (q + shifted s 1 q) (r + shifted t 1 r)) (first w (not b), second w s)
edge_child_at_1 h N T w b s t p q r ep eq er ms mt n is =
    let half = shift_finish_half b p ep in
    subst (λ x. Child h (2 * N) 3 (child_1 T) (along w (finish p + x) (q + shifted s 1 q) (r + shifted t 1 r)) (first w (not b), second w s)) half
    (next_child h N (child_1 T) w (not b) s t (finish p) q r (finish_even b p ep) eq er (finish_back b p ep) (may_back N s q eq ms) (may_back N t r er mt)
    (edge_child_1 (2 * h) T w (start p) q r (finish p) p (shifted s 1 q) (shifted t 1 r) (sum b p ep) n is ∙ ap (λ x. cube_list (2 * h) w (finish p) q r x (shifted s 1 q) (shifted t 1 r)) (sym half)))
