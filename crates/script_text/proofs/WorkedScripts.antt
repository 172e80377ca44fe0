-- The definitions computed at worked scripts.
use Rattle.std.proofs.Common.{◌≡◌, refl, [], ◌∷◌, ◌++◌, Some, None}
use Rattle.std.specs.Prelude.{codes, pos, negsuc}
use Rattle.std.specs.Fmt.{digits}
use Rattle.script_text.specs.declared.line.Line.TheVariants.{Look, Write}
use Rattle.script_text.specs.Commands.{read_line}
use Rattle.script_text.specs.Scripts.{script}

a_view : read_line (codes "view 0 -1 20 65536") ≡ Some (Look (pos 0) (negsuc 0) (pos 20) 65536)
unfolding read_line digits
a_view = refl

a_write : read_line (codes "write") ≡ Some Write
unfolding read_line digits
a_write = refl

two_spellings : read_line (codes "view 0 -0 020 65536") ≡ None
unfolding read_line digits
two_spellings = refl

too_far : read_line (codes "view 0 0 1099511627777 0") ≡ None
unfolding read_line digits
too_far = refl

-- a comment, an empty line whose carriage return is dropped, a command, and a last line that keeps it
some_lines : script read_line (35 ∷ 10 ∷ 13 ∷ 10 ∷ codes "write" ++ 10 ∷ codes "write" ++ 13 ∷ [])
    ≡ record { lines = None ∷ None ∷ Some Write ∷ []; bad = Some 4 }
unfolding read_line digits
some_lines = refl
