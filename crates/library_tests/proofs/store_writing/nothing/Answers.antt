use Rattle.std.proofs.Common.{refl, ap}
use Rattle.patch_file.specs.Writing.{WriterState}
use Rattle.patch_file.proofs.Appending.{stands_same}
use Rattle.library_tests.proofs.store_writing.nothing.Goals as goal

pub patches-requires-clause-stands : goal.patches-requires-clause-stands
patches-requires-clause-stands g c = stands_same _ _ _ _ (ap (λ (w : WriterState). w.tail) c.start_base.ensures) refl c.in_ok-begin.ensures.stands
