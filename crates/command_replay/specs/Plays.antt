-- What the lines of a script make of a store.
use Rattle.std.specs.Prelude.{ℕ, suc, ◌*◌, length, List, [], ◌∷◌, ◌++◌, Option, Some, None, codes, decimal, ℤ, ◌-ℤ◌}
use Rattle.tpz_io.specs.Writes.{Item, Part}
use Rattle.tpz_base.specs.declared.shape.Point.{Point}
use Rattle.tpz_base.specs.Texts.{Bytes, text}
use Rattle.view_cut.specs.declared.wanting.View.{View}
use Rattle.view_cut.specs.Views.{counted_by, wanted_centres, wanted_places}
use Rattle.script_text.specs.declared.line.Line.{Line}
use Rattle.script_text.specs.declared.line.Line.TheVariants.{Look, Write}
use Rattle.script_text.specs.Commands.{read_line}
use Rattle.script_text.specs.Scripts.{ScriptLines, script}
use Rattle.cut_export.specs.Parts.{row_of}
use Rattle.patch_file.specs.declared.shape.StoreBad.TheVariants.{BadBlock}
use Rattle.run_status.specs.declared.status.Status.{Status}
use Rattle.run_status.specs.declared.status.Status.TheVariants as status
use Rattle.patch_file.specs.Tables.{Table, entries_of}
use Rattle.patch_file.specs.Patches.{mesh_of_cut}
use Rattle.cut_blocks.specs.WrongBlocks.{Stored}

-- a view of a script, whose eye is given in scaled coordinates of the input
abbrev pub view_at : List ℤ → ℤ → ℤ → ℤ → ℕ → View
view_at low x y z tol = record { eye = record { x = x -ℤ (row_of low).x; y = y -ℤ (row_of low).y; z = z -ℤ (row_of low).z }; tol = tol }

-- the cut of a view, and none of the diamonds where there is no view yet
abbrev pub cut_of : Table → Option View → List Point
cut_of tb None = []
cut_of tb (Some v) = wanted_centres v (entries_of tb)

-- the numbers of its records
abbrev pub numbers_of : Table → Option View → List ℕ
numbers_of tb None = []
numbers_of tb (Some v) = wanted_places v (entries_of tb)

-- the part that shows it
abbrev pub part_of : Stored → Option View → Item
part_of out view = Part (text (mesh_of_cut out.0 (cut_of out.0 view)) (row_of out.1.low) out.1.digits)

-- what was played: the last view, what was written, the numbers of the records whose blocks were read, and how many views there were
pub record Play : Type 0 where
  pub view : Option View
  pub items : List Item
  pub reads : List ℕ
  pub looks : ℕ

abbrev pub start : Play
start = record { view = None; items = []; reads = []; looks = 0 }

abbrev pub looked : View → Play → Play
looked v p = record { view = Some v; items = p.items; reads = p.reads; looks = suc p.looks }

abbrev pub written : Stored → Play → Play
written out p = record { view = p.view; items = p.items ++ part_of out p.view ∷ []; reads = p.reads ++ numbers_of out.0 p.view; looks = p.looks }

-- a line changes the view, or writes the cut of the last one; one that is passed over does nothing
abbrev pub step : Stored → Play → Option Line → Play
step out p None = p
step out p (Some (Look x y z tol)) = looked (view_at out.1.low x y z tol) p
step out p (Some Write) = written out p

-- what a line writes, and the numbers of the records whose blocks it reads
abbrev pub shows : Stored → Play → Line → List Item
shows out p (Look x y z tol) = []
shows out p Write = part_of out p.view ∷ []

abbrev pub asks : Stored → Play → Line → List ℕ
asks out p (Look x y z tol) = []
asks out p Write = numbers_of out.0 p.view

unfoldable pub played_on : Stored → Play → List (Option Line) → Play
played_on out p [] = p
played_on out p (line ∷ lines) = played_on out (step out p line) lines

-- the lines of a script, one after another
abbrev pub play : Stored → List (Option Line) → Play
play out lines = played_on out start lines

-- the lines of a script, and what they make of a store
abbrev pub lines_of : Bytes → ScriptLines Line
lines_of bytes = script read_line bytes

abbrev pub played : Stored → Bytes → Play
played out bytes = play out (lines_of bytes).lines

abbrev pub replay_note : ℕ → ℕ → ℕ → Bytes
replay_note parts reads tests = codes "replay parts " ++ (decimal parts ++ (codes " reads " ++ (decimal reads ++ (codes " tests " ++ decimal tests))))

-- how many tests of records the views of a play make
abbrev pub tests_of : Stored → Play → ℕ
tests_of out p = counted_by (p.looks * length out.0.records) 0

-- how a script ends, by its first line outside the grammar and the first wrong block that it reads, which comes before that line
abbrev pub end_of : Option ℕ → Option (ℕ × ℕ) → Status
end_of bad (Some (i, offset)) = status.BadStore (BadBlock i offset)
end_of (Some line) None = status.ScriptBad line
end_of None None = status.Ok
