use Rattle.std.proofs.Common.{refl, ap}
use Rattle.patch_file.specs.Writing.{WriterState}
use Rattle.patch_file.proofs.Appending.{stands_same}
use Rattle.library_tests.proofs.store_writing.square.Goals as goal

pub patches-requires-3-clause-stands : goal.patches-requires-3-clause-stands
patches-requires-3-clause-stands g c = stands_same _ _ _ _ (ap (λ (w : WriterState). w.tail) c.start_base.ensures) refl c.in_ok-end_block-2.ensures.stands
