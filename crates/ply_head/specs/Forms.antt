-- The form of a line as the code has it.
use Rattle.ply_head.specs.Headers.{Form, Passed, FormatLine, ElementLine, ScalarLine, ListLine, EndLine, NoForm}
use Rattle.ply_head.specs.declared.form.Form.{Form as Borrowed}
use Rattle.ply_head.specs.declared.form.Form.TheVariants as line

-- the form with the words in place of loans of them
abbrev pub seen_form : Borrowed → Form
seen_form line.Passed = Passed
seen_form (line.FormatLine f v) = FormatLine f.now v.now
seen_form (line.ElementLine n c) = ElementLine n.now c.now
seen_form (line.ScalarLine t n) = ScalarLine t.now n.now
seen_form (line.ListLine c i n) = ListLine c.now i.now n.now
seen_form line.EndLine = EndLine
seen_form line.NoForm = NoForm
