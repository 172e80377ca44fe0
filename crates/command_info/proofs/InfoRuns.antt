-- What a run of `info` says.
use Rattle.std.proofs.Common.{◌≡◌, ℕ, ◌⊎◌, Bool, false, List, refl, sym, ◌∙◌, ap, subst, inl, inr, ◌++◌, []}
use Rattle.std.specs.Prelude.{Some, Result, Ok, Err, replicate}
use Rattle.std.specs.Option.{ForSome}
use Rattle.tpz_base.specs.Texts.{Bytes}
use Rattle.patch_file.specs.declared.shape.Params.{Params}
use Rattle.patch_file.specs.declared.shape.StoreBad.{StoreBad}
use Rattle.patch_file.specs.Tables.{Table}
use Rattle.patch_file.specs.Stores.{read}
use Rattle.tpz_io.specs.Writes.{Wrote, WrotePrefix}
use Rattle.command_info.specs.Info.{info_items}
use Rattle.run_status.specs.declared.status.ReadAt.TheVariants as read_at
use Rattle.run_status.specs.declared.status.Status.{Status}
use Rattle.run_status.specs.declared.status.Status.TheVariants as status
use Rattle.command_info.specs.InfoRuns.{InfoRun}
use Rattle.mesh_output.proofs.Exports.{none_yet, nothing}
use Rattle.run_record.specs.Seen.{Seen}
use Rattle.tpz_io.specs.Causes.{Rose}
use Rattle.patch_file.specs.Asking.{RoseBy}

-- memory ran out before a device was touched
pub info_unstarted : (tries : ℕ) (s : Seen) → InfoRun tries s s status.Memory
info_unstarted tries s = record {
  ok = λ e. absurd cc;
  refused = λ bad e. absurd cc;
  fault = λ e. absurd cc;
  head = λ rec e. cc;
  complete = λ bytes told no_read no_out. (λ out is. inr refl, λ bad is. inr refl);
  same = refl;
  written = λ bytes told out is. none_yet _ s.out.parts s.out.parts s.out.notes s.out.notes refl refl;
  unaccepted = λ bytes told bad is. nothing s.out.parts s.out.parts s.out.notes s.out.notes refl refl;
  unread = λ ended. nothing s.out.parts s.out.parts s.out.notes s.out.notes refl refl;
}

abbrev pub IsInfoAnswer : Status → Type 0
IsInfoAnswer answer = (answer ≡ status.Ok) ⊎ ((answer ≡ status.OutFault) ⊎ ((answer ≡ status.Memory)
    ⊎ ((answer ≡ status.ReadFault read_at.Head) ⊎ ((bad : StoreBad) × (answer ≡ status.BadStore bad)))))

-- an answer that `info` has not
pub never_told : (answer other : Status) → IsInfoAnswer answer → (status.Ok ≡ other → ⊥) → (status.OutFault ≡ other → ⊥) → (status.Memory ≡ other → ⊥) → (status.ReadFault read_at.Head ≡ other → ⊥)
    → ((bad : StoreBad) → status.BadStore bad ≡ other → ⊥) → answer ≡ other → ⊥
never_told answer other is a b c d e h =
    elim is [
      | inl k ↦ a (sym k ∙ h)
      | inr k ↦ elim k [
        | inl l ↦ b (sym l ∙ h)
        | inr l ↦ elim l [
          | inl m ↦ c (sym m ∙ h)
          | inr m ↦ elim m [ inl n ↦ d (sym n ∙ h) | inr n ↦ e n.0 (sym n.1 ∙ h) ]
        ]
      ]
    ]

read_once : (bytes : Bytes) (out : Table × Params) (bad : StoreBad) → read bytes ≡ Ok out → read bytes ≡ Err bad → ⊥
read_once bytes out bad a b = let both : ◌≡◌ {A = Result (Table × Params) StoreBad} (Ok out) (Err bad) = sym a ∙ b in cc

refused_once : (bytes : Bytes) (bad bad' : StoreBad) → read bytes ≡ Err bad → read bytes ≡ Err bad' → bad ≡ bad'
refused_once bytes bad bad' a b = let both : ◌≡◌ {A = Result (Table × Params) StoreBad} (Err bad) (Err bad') = sym a ∙ b in cc

read_alike : (bytes : Bytes) (out out' : Table × Params) → read bytes ≡ Ok out → read bytes ≡ Ok out' → out ≡ out'
read_alike bytes out out' a b = let both : ◌≡◌ {A = Result (Table × Params) StoreBad} (Ok out) (Ok out') = sym a ∙ b in cc

module _ (tries : ℕ) (old new : Seen) (answer : Status)
    (is : IsInfoAnswer answer)
    (ok : answer ≡ status.Ok → ForSome old.store.held (λ bytes. (out : Table × Params) × (read bytes ≡ Ok out) × Wrote (info_items out bytes) old.out.parts new.out.parts old.out.notes new.out.notes))
    (accepted : answer ≡ status.OutFault → ForSome old.store.held (λ bytes. (out : Table × Params) × (read bytes ≡ Ok out)))
    (refused : (bad : StoreBad) → answer ≡ status.BadStore bad → ForSome old.store.held (λ bytes. read bytes ≡ Err bad))
    (fault : answer ≡ status.ReadFault read_at.Head → RoseBy tries old.store.faults new.store.faults)
    (spent : answer ≡ status.ReadFault read_at.Head → ForSome new.store.outcomes (λ all. (front : List Bool) × (all ≡ front ++ replicate tries false)))
    (out_fault : answer ≡ status.OutFault → Rose old.out.faults new.out.faults)
    (written : ¬ (answer ≡ status.Ok) → Wrote [] old.out.parts new.out.parts old.out.notes new.out.notes) where
  when_read : (bytes : Bytes) → old.store.held ≡ Some bytes → ¬ RoseBy tries old.store.faults new.store.faults → ¬ Rose old.out.faults new.out.faults → (out : Table × Params) → read bytes ≡ Ok out → (answer ≡ status.Ok) ⊎ (answer ≡ status.Memory)
  when_read bytes told no_read no_out out means =
      elim is [
        | inl e ↦ inl e
        | inr k ↦ elim k [
          | inl e ↦ absurd (no_out (out_fault e))
          | inr l ↦ elim l [
            | inl e ↦ inr e
            | inr m ↦ elim m [ inl e ↦ absurd (no_read (fault e)) | inr e ↦ absurd (read_once bytes out e.0 means (refused e.0 e.1 bytes told)) ]
          ]
        ]
      ]

  when_refused : (bytes : Bytes) → old.store.held ≡ Some bytes → ¬ RoseBy tries old.store.faults new.store.faults → (bad : StoreBad) → read bytes ≡ Err bad → (answer ≡ status.BadStore bad) ⊎ (answer ≡ status.Memory)
  when_refused bytes told no_read bad means =
      elim is [
        | inl e ↦ (let o = ok e bytes told in absurd (read_once bytes o.0 bad o.1 means))
        | inr k ↦ elim k [
          | inl e ↦ (let o = accepted e bytes told in absurd (read_once bytes o.0 bad o.1 means))
          | inr l ↦ elim l [
            | inl e ↦ inr e
            | inr m ↦ elim m [ inl e ↦ absurd (no_read (fault e)) | inr e ↦ inl (e.1 ∙ ap (λ b. status.BadStore b) (refused_once bytes e.0 bad (refused e.0 e.1 bytes told) means)) ]
          ]
        ]
      ]

  -- Ok, or nothing is written
  done_or_not : (answer ≡ status.Ok) ⊎ Wrote [] old.out.parts new.out.parts old.out.notes new.out.notes
  done_or_not =
      elim is [
        | inl e ↦ inl e
        | inr k ↦ elim k [
          | inl e ↦ inr (written (λ f. let wrong : status.OutFault ≡ status.Ok = sym e ∙ f in cc))
          | inr l ↦ elim l [
            | inl e ↦ inr (written (λ f. let wrong : status.Memory ≡ status.Ok = sym e ∙ f in cc))
            | inr m ↦ elim m [
              | inl e ↦ inr (written (λ f. let wrong : status.ReadFault read_at.Head ≡ status.Ok = sym e ∙ f in cc))
              | inr e ↦ inr (written (λ f. let wrong : status.BadStore e.0 ≡ status.Ok = sym e.1 ∙ f in cc))
            ]
          ]
        ]
      ]

  front_of : (bytes : Bytes) → old.store.held ≡ Some bytes → (out : Table × Params) → read bytes ≡ Ok out → WrotePrefix (info_items out bytes) old.out.parts new.out.parts old.out.notes new.out.notes
  front_of bytes told out means =
      elim done_or_not [
        | inl e ↦ (let o = ok e bytes told in (1, subst (λ x. Wrote (info_items x bytes) old.out.parts new.out.parts old.out.notes new.out.notes) (read_alike bytes o.0 out o.1 means) o.2))
        | inr w ↦ (0, w)
      ]

  nothing_of : (bytes : Bytes) → old.store.held ≡ Some bytes → (bad : StoreBad) → read bytes ≡ Err bad → Wrote [] old.out.parts new.out.parts old.out.notes new.out.notes
  nothing_of bytes told bad means =
      elim done_or_not [
        | inl e ↦ (let o = ok e bytes told in absurd (read_once bytes o.0 bad o.1 means))
        | inr w ↦ w
      ]

  pub info_run : new.store.held ≡ old.store.held → InfoRun tries old new answer
  info_run same = record {
    ok = ok;
    refused = refused;
    fault = λ e. (fault e, spent e);
    head = λ rec e. never_told answer (status.ReadFault (read_at.Record rec)) is (λ f. cc) (λ f. cc) (λ f. cc) (λ f. cc) (λ bad f. cc) e;
    complete = λ bytes told no_read no_out. (when_read bytes told no_read no_out, when_refused bytes told no_read);
    same = same;
    written = front_of;
    unaccepted = nothing_of;
    unread = written;
  }
