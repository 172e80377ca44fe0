-- One stream after another is made beside those that were.
use Rattle.std.proofs.Common.{◌∷◌, []}
use Rattle.split_pass.proofs.Rooting.{made_more, made_none}
use Rattle.split_pass.proofs.root.make_roots.Goals as goal

pub returns-clause-made : goal.returns-clause-made
returns-clause-made c =
    let s0 = c.args.streams.now in
    let x0 = c.in_ok-sixth.sixth in
    let s1 = c.make.new.self in
    let x1 = c.in_ok-fifth.fifth in
    let s2 = c.make-2.new.self in
    let x2 = c.in_ok-fourth.fourth in
    let s3 = c.make-3.new.self in
    let x3 = c.in_ok-third.third in
    let s4 = c.make-4.new.self in
    let x4 = c.in_ok-second.second in
    let s5 = c.make-5.new.self in
    let x5 = c.in_ok-first.first in
    let s6 = c.make-6.new.self in
    let m1 =
    made_more x0 [] s0 s0 s1 (made_none s0)
    (record { fresh = c.in_ok-sixth.ensures.fresh; count = c.in_ok-sixth.ensures.count; list = c.in_ok-sixth.ensures.list; others = c.in_ok-sixth.ensures.others; total = c.in_ok-sixth.ensures.total; base = c.in_ok-sixth.ensures.base; l = c.in_ok-sixth.ensures.l; stands = c.in_ok-sixth.ensures.stands })
    in
    let m2 =
    made_more x1 (x0 ∷ []) s0 s1 s2 m1
    (record { fresh = c.in_ok-fifth.ensures.fresh; count = c.in_ok-fifth.ensures.count; list = c.in_ok-fifth.ensures.list; others = c.in_ok-fifth.ensures.others; total = c.in_ok-fifth.ensures.total; base = c.in_ok-fifth.ensures.base; l = c.in_ok-fifth.ensures.l; stands = c.in_ok-fifth.ensures.stands })
    in
    let m3 =
    made_more x2 (x1 ∷ x0 ∷ []) s0 s2 s3 m2
    (record { fresh = c.in_ok-fourth.ensures.fresh; count = c.in_ok-fourth.ensures.count; list = c.in_ok-fourth.ensures.list; others = c.in_ok-fourth.ensures.others; total = c.in_ok-fourth.ensures.total; base = c.in_ok-fourth.ensures.base; l = c.in_ok-fourth.ensures.l; stands = c.in_ok-fourth.ensures.stands })
    in
    let m4 =
    made_more x3 (x2 ∷ x1 ∷ x0 ∷ []) s0 s3 s4 m3
    (record { fresh = c.in_ok-third.ensures.fresh; count = c.in_ok-third.ensures.count; list = c.in_ok-third.ensures.list; others = c.in_ok-third.ensures.others; total = c.in_ok-third.ensures.total; base = c.in_ok-third.ensures.base; l = c.in_ok-third.ensures.l; stands = c.in_ok-third.ensures.stands })
    in
    let m5 =
    made_more x4 (x3 ∷ x2 ∷ x1 ∷ x0 ∷ []) s0 s4 s5 m4
    (record { fresh = c.in_ok-second.ensures.fresh; count = c.in_ok-second.ensures.count; list = c.in_ok-second.ensures.list; others = c.in_ok-second.ensures.others; total = c.in_ok-second.ensures.total; base = c.in_ok-second.ensures.base; l = c.in_ok-second.ensures.l; stands = c.in_ok-second.ensures.stands })
    in
    made_more x5 (x4 ∷ x3 ∷ x2 ∷ x1 ∷ x0 ∷ []) s0 s5 s6 m5
    (record { fresh = c.in_ok-first.ensures.fresh; count = c.in_ok-first.ensures.count; list = c.in_ok-first.ensures.list; others = c.in_ok-first.ensures.others; total = c.in_ok-first.ensures.total; base = c.in_ok-first.ensures.base; l = c.in_ok-first.ensures.l; stands = c.in_ok-first.ensures.stands })
