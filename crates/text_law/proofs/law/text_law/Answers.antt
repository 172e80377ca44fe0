use Rattle.text_law.proofs.WrittenMeshes.{none_dropped, read_as, triangles_as}
use Rattle.text_law.proofs.law.text_law.Goals as goal

pub returns-clause-read : goal.returns-clause-read
returns-clause-read c = λ l digits M low h. read_as l digits M low h

pub returns-clause-triangles : goal.returns-clause-triangles
returns-clause-triangles c = λ l M low h. triangles_as l M low h

pub returns-clause-none_dropped : goal.returns-clause-none_dropped
returns-clause-none_dropped c = λ l M low h. none_dropped l M low h
