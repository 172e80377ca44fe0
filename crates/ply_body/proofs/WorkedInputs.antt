-- Inputs that are read and refused.
use Rattle.std.proofs.Common.{◌≡◌, ℕ, List, [], ◌∷◌, ◌++◌, refl, Ok, Err}
use Rattle.std.specs.Prelude.{codes, pos, neg_ℤ, flat_map}
use Rattle.ply_head.specs.declared.fault.HeadFault.TheVariants as head_fault
use Rattle.tpz_base.specs.Points.{point}
use Rattle.tpz_base.specs.Meshes.{triangle}
use Rattle.tpz_base.specs.Cubes.{Row, level_bound, low_of}
use Rattle.tpz_base.specs.Texts.{Bytes, Face}
use Rattle.ply_body.specs.declared.fault.BodyFault.TheVariants as fault
use Rattle.ply_head.specs.declared.element.Kind.TheVariants.{U8}
use Rattle.ply_body.specs.declared.fault.Flaw.TheVariants.{Short, TooLong, TooManyTris}
use Rattle.ply_body.specs.Items.{Items, Tokens, tokens, lack_of}
use Rattle.ply_body.specs.Bodies.{Setting, Input, corners, row_at}
use Rattle.ply_body.specs.Inputs.{InHead, InBody, default_input, input, mesh_of, dropped_of}

-- lines, each ended by the given bytes
ended : Bytes → List Bytes → Bytes
ended end ls = flat_map (λ l. l ++ end) ls

joined : List Bytes → Bytes
unfolding ended
joined ls = ended (10 ∷ []) ls

head : Bytes → Bytes → Bytes → List Bytes
head digits vertices faces =
    codes "ply" ∷ codes "format ascii 1.0" ∷ (codes "comment tpz digits " ++ digits) ∷ (codes "element vertex " ++ vertices)
    ∷ codes "property int x" ∷ codes "property int y" ∷ codes "property int z" ∷ (codes "element face " ++ faces)
    ∷ codes "property list uchar int vertex_indices" ∷ codes "end_header" ∷ []

-- a point with coordinates that aren't below 0
at : ℕ → ℕ → ℕ → Row
at x y z = row_at (pos x) (pos y) (pos z)

face : ℕ → ℕ → ℕ → Face
face i j k = record { i = i; j = j; k = k }

triangle_lines : List Bytes
unfolding head
triangle_lines = head (codes "0") (codes "3") (codes "1") ++ codes "0 0 0" ∷ codes "4 0 0" ∷ codes "0 4 0" ∷ codes "3 0 1 2" ∷ []

triangle_input : Input
unfolding at face
triangle_input = record { rows = at 0 0 0 ∷ at 4 0 0 ∷ at 0 4 0 ∷ []; faces = face 0 1 2 ∷ [] }

one_triangle : default_input (joined triangle_lines) ≡ Ok triangle_input
unfolding ended joined head at face triangle_lines triangle_input
one_triangle = refl

one_vertex : default_input (joined (head (codes "0") (codes "1") (codes "0") ++ codes "7 7 7" ∷ []))
    ≡ Ok (record { rows = at 7 7 7 ∷ []; faces = [] })
unfolding ended joined head at
one_vertex = refl

unended_header : default_input (joined (codes "ply" ∷ codes "format ascii 1.0" ∷ codes "element vertex 1" ∷ []) ++ codes "property int x")
    ≡ Err (InHead (head_fault.Line 4))
unfolding ended joined
unended_header = refl

short_row : default_input (joined (head (codes "0") (codes "1") (codes "0") ++ codes "0 0" ∷ [])) ≡ Err (InBody (fault.Short 0 0))
unfolding ended joined head
short_row = refl

-- every line ended by CR LF
triangle_with_returns : default_input (ended (13 ∷ 10 ∷ []) triangle_lines) ≡ Ok triangle_input
unfolding ended head at face triangle_lines triangle_input
triangle_with_returns = refl

-- a count of vertices, and no body
no_body : default_input (joined (head (codes "0") (codes "2147483648") (codes "0"))) ≡ Err (InBody (fault.Short 0 0))
unfolding ended joined head
no_body = refl

-- the greatest count of corners
many_corners : default_input (joined (head (codes "0") (codes "3") (codes "1")
    ++ codes "0 0 0" ∷ codes "4 0 0" ∷ codes "0 4 0" ∷ codes "9223372036854775807 0 1 2" ∷ [])) ≡ Err (InBody (fault.Short 1 0))
unfolding ended joined head
many_corners = refl

-- an element without properties, whose rows aren't walked
no_properties : default_input (joined (codes "ply" ∷ codes "format ascii 1.0" ∷ codes "element empty 2147483648" ∷ codes "element vertex 0"
    ∷ codes "property int x" ∷ codes "property int y" ∷ codes "property int z" ∷ codes "element face 0"
    ∷ codes "property list uchar int vertex_index" ∷ codes "end_header" ∷ []))
    ≡ Ok (record { rows = []; faces = [] })
unfolding ended joined
no_properties = refl

scanned : default_input (joined (codes "ply" ∷ codes "format ascii 1.0" ∷ codes "comment zipper output" ∷ codes "element vertex 3"
    ∷ codes "property float x" ∷ codes "property float y" ∷ codes "property float z" ∷ codes "property float confidence"
    ∷ codes "property float intensity" ∷ codes "element face 1" ∷ codes "property list uchar int vertex_indices" ∷ codes "end_header"
    ∷ codes "-0.0378297 0.12794 0.00447467 0.850855 0.5 " ∷ codes "-0.0447794 0.128887 0.00190497 0.900159 0.5 "
    ∷ codes "0.0000015 -2.5e-6 1 1 0.5" ∷ codes "3 0 1 2 " ∷ []))
    ≡ (let a = row_at (neg_ℤ (pos 37830)) (pos 127940) (pos 4475) in
    let b = row_at (neg_ℤ (pos 44779)) (pos 128887) (pos 1905) in
    let c = row_at (pos 2) (neg_ℤ (pos 3)) (pos 1000000) in
    Ok (record { rows = a ∷ b ∷ c ∷ []; faces = face 0 1 2 ∷ [] }))
unfolding ended joined face
scanned = refl

square : Bytes → List Bytes
unfolding head
square face = head (codes "0") (codes "4") (codes "1") ++ codes "0 0 0" ∷ codes "4 0 0" ∷ codes "4 4 0" ∷ codes "0 4 0" ∷ face ∷ []

square_as_polygon : default_input (joined (square (codes "4 0 1 2 3"))) ≡ Ok (record {
  rows = at 0 0 0 ∷ at 4 0 0 ∷ at 4 4 0 ∷ at 0 4 0 ∷ [];
  faces = face 0 1 2 ∷ face 0 2 3 ∷ [];
})
unfolding ended joined head at face square
square_as_polygon = refl

index_of_none : default_input (joined (square (codes "3 0 1 4"))) ≡ Err (InBody (fault.BadIndex 1 0 (pos 4)))
unfolding ended joined head square
index_of_none = refl

triangle_not_whole : default_input (joined (square (codes "3 0 1 1"))) ≡ Ok (record {
  rows = at 0 0 0 ∷ at 4 0 0 ∷ at 4 4 0 ∷ at 0 4 0 ∷ [];
  faces = face 0 1 1 ∷ [];
})
unfolding ended joined head at face square
triangle_not_whole = refl

-- a binary header
binary : Bytes → List Bytes → List Bytes
binary format coordinates =
    codes "ply" ∷ (codes "format " ++ format ++ codes " 1.0") ∷ codes "element vertex 3" ∷ [] ++ coordinates
    ++ codes "element face 1" ∷ codes "property list uchar int vertex_indices" ∷ codes "end_header" ∷ []

shorts : List Bytes
shorts = codes "property short x" ∷ codes "property short y" ∷ codes "property short z" ∷ []

little_shorts : default_input (joined (binary (codes "binary_little_endian") shorts)
    ++ 0 ∷ 0 ∷ 0 ∷ 0 ∷ 0 ∷ 0 ∷ 4 ∷ 0 ∷ 0 ∷ 0 ∷ 0 ∷ 0 ∷ 0 ∷ 0 ∷ 4 ∷ 0 ∷ 0 ∷ 0 ∷ 3 ∷ 0 ∷ 0 ∷ 0 ∷ 0 ∷ 1 ∷ 0 ∷ 0 ∷ 0 ∷ 2 ∷ 0 ∷ 0 ∷ 0 ∷ []) ≡ Ok triangle_input
unfolding ended joined at face triangle_input binary shorts
little_shorts = refl

big_shorts : default_input (joined (binary (codes "binary_big_endian") shorts)
    ++ 0 ∷ 0 ∷ 0 ∷ 0 ∷ 0 ∷ 0 ∷ 0 ∷ 4 ∷ 0 ∷ 0 ∷ 0 ∷ 0 ∷ 0 ∷ 0 ∷ 0 ∷ 4 ∷ 0 ∷ 0 ∷ 3 ∷ 0 ∷ 0 ∷ 0 ∷ 0 ∷ 0 ∷ 0 ∷ 0 ∷ 1 ∷ 0 ∷ 0 ∷ 0 ∷ 2 ∷ []) ≡ Ok triangle_input
unfolding ended joined at face triangle_input binary shorts
big_shorts = refl

binary_floats : default_input (joined (binary (codes "binary_little_endian")
    (codes "property float x" ∷ codes "property int y" ∷ codes "property int z" ∷ []))) ≡ Err (InHead (head_fault.FloatBinary 9))
unfolding ended joined binary
binary_floats = refl

wide_rows : Bytes → Bytes
unfolding ended joined head
wide_rows x = joined (head (codes "0") (codes "2") (codes "0") ++ codes "0 0 0" ∷ (x ++ codes " 0 0") ∷ [])

widest_axis : default_input (wide_rows (codes "1073741824")) ≡ Ok (record { rows = at 0 0 0 ∷ at 1073741824 0 0 ∷ []; faces = [] })
unfolding ended joined head at wide_rows
widest_axis = refl

too_wide_axis : default_input (wide_rows (codes "1073741825")) ≡ Err (InBody (fault.Extent 0 (pos 0) (pos 1073741825)))
unfolding ended joined head wide_rows
too_wide_axis = refl

-- the cubes of some rows
level_of_triangle : level_bound (at 0 0 0 ∷ at 4 0 0 ∷ at 0 4 0 ∷ []) ≡ 2
unfolding at
level_of_triangle = refl

level_of_vertex : level_bound (at 7 7 7 ∷ []) ≡ 1
unfolding at
level_of_vertex = refl

level_of_widest : level_bound (at 0 0 0 ∷ at 1073741824 0 0 ∷ []) ≡ 30
unfolding at
level_of_widest = refl

scanned_rows : List Row
scanned_rows = row_at (neg_ℤ (pos 37830)) (pos 127940) (pos 4475) ∷ row_at (neg_ℤ (pos 44779)) (pos 128887) (pos 1905)
    ∷ row_at (pos 2) (neg_ℤ (pos 3)) (pos 1000000) ∷ []

level_of_scanned : level_bound scanned_rows ≡ 20
unfolding scanned_rows
level_of_scanned = refl

low_of_scanned : low_of scanned_rows ≡ row_at (neg_ℤ (pos 44779)) (neg_ℤ (pos 3)) (pos 1905)
unfolding scanned_rows
low_of_scanned = refl

-- Limits, with a small room or many triangles before.
zeros : List Bytes → Items
zeros more = record { content = Tokens (codes "0" ∷ more); lack = Short }

numbers : Items
unfolding zeros
numbers = zeros (codes "0" ∷ codes "0" ∷ codes "0" ∷ [])

setting : Setting
setting = record { digits = 0; vertices = 1 }

last_triangle : corners setting U8 2147483647 0 3 numbers ≡ Ok (0 ∷ 0 ∷ 0 ∷ [], zeros [])
unfolding zeros numbers setting
last_triangle = refl

one_triangle_more : corners setting U8 2147483647 0 4 numbers ≡ Err TooManyTris
unfolding zeros numbers setting
one_triangle_more = refl

-- a token whose gap stands past the room isn't complete, and one at the end of the input is
complete_within : tokens 4 (codes "12 3 4") ≡ codes "12" ∷ []
complete_within = refl

complete_at_room : tokens 5 (codes "12 3 4") ≡ codes "12" ∷ codes "3" ∷ []
complete_at_room = refl

complete_at_end : tokens 7 (codes "12 3 4") ≡ codes "12" ∷ codes "3" ∷ codes "4" ∷ []
complete_at_end = refl

lack_in_room : lack_of 6 (codes "12 3 4") ≡ TooLong
lack_in_room = refl

lack_at_end : lack_of 7 (codes "12 3 4") ≡ Short
lack_at_end = refl

-- a float that isn't used is skipped
skipped_float : default_input (joined (binary (codes "binary_little_endian")
    (codes "property int x" ∷ codes "property int y" ∷ codes "property float nx" ∷ codes "property int z" ∷ []))
    ++ 1 ∷ 0 ∷ 0 ∷ 0 ∷ 2 ∷ 0 ∷ 0 ∷ 0 ∷ 0 ∷ 0 ∷ 128 ∷ 63 ∷ 255 ∷ 255 ∷ 255 ∷ 255 ∷ [] ++ 0 ∷ 0 ∷ 0 ∷ 0 ∷ 0 ∷ 0 ∷ 0 ∷ 0 ∷ 0 ∷ 0 ∷ 128 ∷ 63 ∷ 0 ∷ 0 ∷ 0 ∷ 128 ∷ [])
    ≡ Err (InBody (fault.Range 0 1))
unfolding ended joined binary
skipped_float = refl

-- the mesh of the square as one polygon, and a triangle that isn't whole
square_mesh : mesh_of (at 0 0 0 ∷ at 4 0 0 ∷ at 4 4 0 ∷ at 0 4 0 ∷ []) (face 0 1 2 ∷ face 0 1 1 ∷ face 0 2 3 ∷ [])
    ≡ triangle (point 0 0 0) (point 4 0 0) (point 4 4 0) ∷ triangle (point 0 0 0) (point 4 4 0) (point 0 4 0) ∷ []
unfolding at face
square_mesh = refl

square_dropped : dropped_of (at 0 0 0 ∷ at 4 0 0 ∷ at 4 4 0 ∷ at 0 4 0 ∷ []) (face 0 1 2 ∷ face 0 1 1 ∷ face 0 2 3 ∷ []) ≡ 1
unfolding at face
square_dropped = refl

-- with digits that are chosen
chosen_digits : input (joined (head (codes "0") (codes "1") (codes "0") ++ codes "1.25 -1.25 0.04" ∷ [])) 1
    ≡ Ok (record { rows = row_at (pos 13) (neg_ℤ (pos 13)) (pos 0) ∷ []; faces = [] })
unfolding ended joined head
chosen_digits = refl
