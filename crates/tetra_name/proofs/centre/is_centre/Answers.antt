use Rattle.std.proofs.Common.{IsTrue, arith, subst, sym, true≢false}
use Rattle.std.proofs.lemmas.Bool.{eqb-true, eq-eqb, lt-ltb}
use Rattle.tetra_name.specs.Names.{point_of}
use Rattle.tetra_name.proofs.centre.is_centre.Goals as goal
use Rattle.tetra_name.proofs.NamesLaw.{within_of, centre_of_parts, test_of_centre}

pub returns-then-not-is_within : goal.returns-then-not-is_within
returns-then-not-is_within c =
    (λ t. absurd (true≢false (sym t)), λ h. subst IsTrue c.if-not-is_within.true (c.is_within.ensures.1 (within_of c.args.l (point_of c.args.c) c.requires.most h)))

pub returns-then-j-l : goal.returns-then-j-l
returns-then-j-l c = (λ t. absurd (true≢false (sym t)), λ h. let t = test_of_centre c.args.l (point_of c.args.c) c.requires.most h in absurd (omega (arith, t.power, c.power-j.ensures)))

pub returns-then-j-gt0 : goal.returns-then-j-gt0
returns-then-j-gt0 c = (
  λ t. centre_of_parts c.args.l (point_of c.args.c) c.power-j.result c.requires.most (c.is_within.ensures.0 (c.if-not-is_within.false)) c.power-j.ensures (omega arith) (λ e. absurd (omega (arith, e))),
  λ h. lt-ltb 0 c.power-j.result c.if-j-gt0.true,
)

pub returns-else-j-gt0 : goal.returns-else-j-gt0
returns-else-j-gt0 c = (
  λ t. centre_of_parts c.args.l (point_of c.args.c) c.power-j.result c.requires.most (c.is_within.ensures.0 (c.if-not-is_within.false)) c.power-j.ensures (omega arith) (λ e. eqb-true _ 3 t),
  λ h. let t = test_of_centre c.args.l (point_of c.args.c) c.requires.most h in eq-eqb _ 3 (t.odd (omega (arith, c.power-j.ensures))),
)
