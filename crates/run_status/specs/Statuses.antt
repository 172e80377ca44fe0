-- The exit status and the line on standard error of each way in which a run ends.
use Rattle.std.specs.Prelude.{◌≡◌, ◌⊎◌, ℕ, List, ◌++◌, codes, decimal}
use Rattle.std.specs.Fmt.{signed_decimal}
use Rattle.ply_head.specs.declared.fault.HeadFault.{HeadFault}
use Rattle.ply_head.specs.declared.fault.HeadFault.TheVariants as head
use Rattle.ply_body.specs.declared.fault.BodyFault.{BodyFault}
use Rattle.ply_body.specs.declared.fault.BodyFault.TheVariants as body
use Rattle.ply_body.specs.Inputs.{Refusal, InHead, InBody}
use Rattle.tri_stream.specs.declared.fault.StreamFault.{StreamFault}
use Rattle.tri_stream.specs.declared.fault.StreamFault.TheVariants as stream
use Rattle.split_pass.specs.declared.fault.SplitFault.{SplitFault}
use Rattle.split_pass.specs.declared.fault.SplitFault.TheVariants as split
use Rattle.patch_file.specs.declared.shape.StoreBad.{StoreBad}
use Rattle.patch_file.specs.declared.shape.StoreBad.TheVariants as bad
use Rattle.patch_file.specs.declared.fault.OpenFault.{OpenFault}
use Rattle.patch_file.specs.declared.fault.OpenFault.TheVariants as opening
use Rattle.patch_file.specs.declared.writer.WriteFault.{WriteFault}
use Rattle.patch_file.specs.declared.writer.WriteFault.TheVariants as claim
use Rattle.build_pass.specs.declared.fault.BuildFault.{BuildFault}
use Rattle.build_pass.specs.declared.fault.BuildFault.TheVariants as build
use Rattle.script_text.specs.declared.script.ScriptFault.{ScriptFault as ScriptRefusal}
use Rattle.script_text.specs.declared.script.ScriptFault.TheVariants as scripts
use Rattle.cut_export.specs.declared.export.ExportFault.{ExportFault}
use Rattle.cut_export.specs.declared.export.ExportFault.TheVariants as export
use Rattle.run_status.specs.declared.status.Status.{Status}
use Rattle.run_status.specs.declared.status.Status.TheVariants.{Ok, Usage, BadInput, Extent, InputFault, ScriptBad, ScriptFault, WorkFault, WorkDamage, StoreFault, NotEmpty, TooManyRecords, BadStore, ReadFault, OutFault, Memory}
use Rattle.run_status.specs.declared.status.ReadAt.{ReadAt}
use Rattle.run_status.specs.declared.status.ReadAt.TheVariants as read_at
use Rattle.run_status.specs.declared.status.InputKind.{InputKind}
use Rattle.run_status.specs.declared.status.InputKind.TheVariants as kind
use Rattle.run_status.specs.declared.status.Place.{Place}
use Rattle.run_status.specs.declared.status.Place.TheVariants.{Line, Row}

abbrev pub code_of : Status → ℕ
code_of Ok = 0
code_of Usage = 2
code_of (BadInput kind place) = 3
code_of (Extent axis least greatest) = 4
code_of InputFault = 5
code_of (ScriptBad line) = 6
code_of ScriptFault = 7
code_of WorkFault = 8
code_of (WorkDamage offset) = 9
code_of StoreFault = 10
code_of (NotEmpty len) = 11
code_of (BadStore why) = 12
code_of (ReadFault at) = 13
code_of OutFault = 14
code_of Memory = 16
code_of TooManyRecords = 22

-- the name of a refusal; that of an index has the index behind it
abbrev pub kind_text : InputKind → List ℕ
kind_text kind.NotPly = codes "NotPly"
kind_text kind.Format = codes "Format"
kind_text kind.Line = codes "Line"
kind_text kind.TypeName = codes "TypeName"
kind_text kind.NoVertex = codes "NoVertex"
kind_text kind.NoFace = codes "NoFace"
kind_text kind.FloatBinary = codes "FloatBinary"
kind_text kind.TooMany = codes "TooMany"
kind_text kind.Short = codes "Short"
kind_text kind.Number = codes "Number"
kind_text kind.Range = codes "Range"
kind_text (kind.BadIndex index) = codes "BadIndex " ++ signed_decimal index
kind_text kind.TooManyTris = codes "TooManyTris"
kind_text kind.TooLong = codes "TooLong"

abbrev pub place_text : Place → List ℕ
place_text (Line line) = codes "line " ++ decimal line
place_text (Row element row) = codes "element " ++ (decimal element ++ (codes " row " ++ decimal row))

-- the name of a refusal of a store, and its numbers
abbrev pub bad_text : StoreBad → List ℕ
bad_text (bad.Short len) = codes "Short " ++ decimal len
bad_text bad.Magic = codes "Magic"
bad_text (bad.Unfinished gate) = codes "Unfinished " ++ decimal gate
bad_text (bad.Field offset) = codes "Field " ++ decimal offset
bad_text (bad.Order rec) = codes "Order " ++ decimal rec
bad_text (bad.NotClosed rec) = codes "NotClosed " ++ decimal rec
bad_text (bad.NotSaturated rec) = codes "NotSaturated " ++ decimal rec
bad_text (bad.BadBlock rec offset) = codes "BadBlock " ++ (decimal rec ++ (codes " " ++ decimal offset))

abbrev pub read_at_text : ReadAt → List ℕ
read_at_text read_at.Head = codes "head"
read_at_text (read_at.Record rec) = codes "record " ++ decimal rec

abbrev pub line_of : Status → List ℕ
line_of Ok = codes ""
line_of Usage = codes "tpz: usage: tpz FOLDER COMMAND [--NAME VALUE]"
line_of (BadInput kind place) = codes "tpz: bad input: " ++ (kind_text kind ++ (codes " at " ++ place_text place))
line_of (Extent axis least greatest) =
    codes "tpz: extent: axis " ++ (decimal axis ++ (codes " from " ++ (signed_decimal least ++ (codes " to " ++ (signed_decimal greatest ++ codes "; use fewer --digits")))))
line_of InputFault = codes "tpz: input failed"
line_of (ScriptBad line) = codes "tpz: bad script line " ++ decimal line
line_of ScriptFault = codes "tpz: script failed"
line_of WorkFault = codes "tpz: work file failed"
line_of (WorkDamage offset) = codes "tpz: work file damaged at " ++ decimal offset
line_of StoreFault = codes "tpz: store failed"
line_of (NotEmpty len) = codes "tpz: the store is not empty: " ++ (decimal len ++ codes " bytes")
line_of (BadStore why) = codes "tpz: bad store: " ++ bad_text why
line_of (ReadFault at) = codes "tpz: store read failed at " ++ read_at_text at
line_of OutFault = codes "tpz: output failed"
line_of Memory = codes "tpz: out of memory"
line_of TooManyRecords = codes "tpz: too many records"

-- the status of a store that isn't opened
abbrev pub open_status : OpenFault → Status
open_status (opening.Bad b) = BadStore b
open_status opening.ReadFault = ReadFault read_at.Head
open_status opening.Memory = Memory

-- the status of a script that isn't read further
abbrev pub script_status : ScriptRefusal → Status
script_status (scripts.Bad line) = ScriptBad line
script_status scripts.Input = ScriptFault

-- the status of a part that isn't written
abbrev pub export_status : ExportFault → Status
export_status export.OutFault = OutFault
export_status export.Memory = Memory

-- The status of each fault of the header and of the rows.
abbrev pub head_status : HeadFault → Status
head_status (head.NotPly line) = BadInput kind.NotPly (Line line)
head_status (head.Format line) = BadInput kind.Format (Line line)
head_status (head.Line line) = BadInput kind.Line (Line line)
head_status (head.TypeName line) = BadInput kind.TypeName (Line line)
head_status (head.NoVertex line) = BadInput kind.NoVertex (Line line)
head_status (head.NoFace line) = BadInput kind.NoFace (Line line)
head_status (head.FloatBinary line) = BadInput kind.FloatBinary (Line line)
head_status (head.TooMany line) = BadInput kind.TooMany (Line line)
head_status head.InputFault = InputFault
head_status head.Memory = Memory

abbrev pub body_status : BodyFault → Status
body_status (body.Short element row) = BadInput kind.Short (Row element row)
body_status (body.Number element row) = BadInput kind.Number (Row element row)
body_status (body.Range element row) = BadInput kind.Range (Row element row)
body_status (body.BadIndex element row index) = BadInput (kind.BadIndex index) (Row element row)
body_status (body.Extent axis least greatest) = Extent axis least greatest
body_status (body.TooManyTris element row) = BadInput kind.TooManyTris (Row element row)
body_status (body.TooLong element row) = BadInput kind.TooLong (Row element row)
body_status body.InputFault = InputFault
body_status body.WorkFault = WorkFault
body_status (body.WorkDamage offset) = WorkDamage offset

-- the status of a fault of streams
abbrev pub stream_status : StreamFault → Status
stream_status stream.WorkFault = WorkFault
stream_status (stream.WorkDamage offset) = WorkDamage offset

-- the status of a fault of a split
abbrev pub split_status : SplitFault → Status
split_status split.TooManyRecords = TooManyRecords
split_status split.WorkFault = WorkFault
split_status (split.WorkDamage offset) = WorkDamage offset
split_status split.Memory = Memory

-- the status of a store that isn't claimed
abbrev pub claim_status : WriteFault → Status
claim_status (claim.NotEmpty len) = NotEmpty len
claim_status claim.StoreFault = StoreFault

-- the status of a store that isn't built
abbrev pub build_status : BuildFault → Status
build_status build.WorkFault = WorkFault
build_status (build.WorkDamage offset) = WorkDamage offset
build_status build.StoreFault = StoreFault
build_status build.Memory = Memory

-- the status of a refusal of the input
abbrev pub status_of : Refusal → Status
status_of (InHead f) = head_status f
status_of (InBody f) = body_status f

-- the input was refused
abbrev pub IsRefused : Status → Type 0
IsRefused (BadInput kind place) = Unit {0}
IsRefused (Extent axis least greatest) = Unit {0}
IsRefused _ = ⊥

-- what reading an input may end with, other than its mesh
abbrev pub IsUnread : Status → Type 0
IsUnread Ok = ⊥
IsUnread Usage = ⊥
IsUnread OutFault = ⊥
IsUnread StoreFault = ⊥
IsUnread (NotEmpty len) = ⊥
IsUnread (ScriptBad line) = ⊥
IsUnread ScriptFault = ⊥
IsUnread TooManyRecords = ⊥
IsUnread (BadStore why) = ⊥
IsUnread (ReadFault at) = ⊥
IsUnread _ = Unit {0}

-- what calls on streams, and what takes memory for their triangles, may end with
abbrev pub IsOfStreams : Status → Type 0
IsOfStreams status = (status ≡ Memory) ⊎ ((status ≡ WorkFault) ⊎ ((offset : ℕ) × (status ≡ WorkDamage offset)))

-- what a build may end with that wrote no store
abbrev pub IsUnbuilt : Status → Type 0
IsUnbuilt Ok = ⊥
IsUnbuilt Usage = ⊥
IsUnbuilt (ScriptBad line) = ⊥
IsUnbuilt ScriptFault = ⊥
IsUnbuilt (BadStore why) = ⊥
IsUnbuilt (ReadFault at) = ⊥
IsUnbuilt OutFault = ⊥
IsUnbuilt _ = Unit {0}

-- what a command ends with that opens or writes a store, or takes a script, and no other
abbrev pub IsOfStore : Status → Type 0
IsOfStore StoreFault = Unit {0}
IsOfStore (NotEmpty len) = Unit {0}
IsOfStore (ScriptBad line) = Unit {0}
IsOfStore ScriptFault = Unit {0}
IsOfStore (BadStore why) = Unit {0}
IsOfStore (ReadFault at) = Unit {0}
IsOfStore _ = ⊥

-- what the lines of a script may end with before the last
abbrev pub IsOfLines : Status → Type 0
IsOfLines (ScriptBad line) = Unit {0}
IsOfLines ScriptFault = Unit {0}
IsOfLines (BadStore why) = Unit {0}
IsOfLines (ReadFault (read_at.Record rec)) = Unit {0}
IsOfLines OutFault = Unit {0}
IsOfLines Memory = Unit {0}
IsOfLines _ = ⊥

-- what a replay may end with
abbrev pub IsOfReplay : Status → Type 0
IsOfReplay Ok = Unit {0}
IsOfReplay (ScriptBad line) = Unit {0}
IsOfReplay ScriptFault = Unit {0}
IsOfReplay (BadStore why) = Unit {0}
IsOfReplay (ReadFault at) = Unit {0}
IsOfReplay OutFault = Unit {0}
IsOfReplay Memory = Unit {0}
IsOfReplay _ = ⊥
