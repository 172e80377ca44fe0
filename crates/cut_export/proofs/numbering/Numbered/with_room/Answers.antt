use Rattle.cut_export.proofs.NumberLemmas.{numbering_none}
use Rattle.cut_export.proofs.numbering.Numbered.with_room.Goals as goal

pub returns-clause-mesh : goal.returns-clause-mesh
returns-clause-mesh c = (numbering_none _ c.in_ok-vertices.ensures.empty c.in_ok-faces.ensures.items).0

pub returns-clause-numbering : goal.returns-clause-numbering
returns-clause-numbering c = (numbering_none _ c.in_ok-vertices.ensures.empty c.in_ok-faces.ensures.items).1
