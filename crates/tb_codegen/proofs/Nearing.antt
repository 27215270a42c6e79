-- A step of code either emits an event or goes on at an instruction from which fewer stand before the next `proc`.
use Rattle.std.proofs.Common.{◌≡◌, ℕ, ◌<◌, ◌+◌, Bool, true, false, cond, List, [], ◌∷◌, Option, Some, None, slice_get, refl, inl, arith}
use Rattle.std.specs.Prelude.{ℤ, pos, negsuc}
use Rattle.tb_prim.specs.declared.event.Cause.{Cause}
use Rattle.tb_prim.specs.declared.event.Event.{Event}
use Rattle.tb_prim.specs.declared.event.Stop.{Stop}
use Rattle.tb_semantics.specs.Graph.{IsIn}
use Rattle.tb_mac.specs.declared.code.Instr.{Instr}
use Rattle.tb_mac.specs.declared.code.Instr.TheVariants as I
use Rattle.tb_mac.specs.declared.word.Placed.{Placed}
use Rattle.tb_mac.specs.declared.word.Word.{Word}
use Rattle.tb_mac.specs.declared.word.Word.TheVariants as W
use Rattle.tb_mac.specs.Assembled.{Assembled}
use Rattle.tb_mac.specs.Effects.{Effect, Gives, Makes, Changes, Puts, Takes, Peeks, Fails, NoNextStep, object_at, procedure_at}
use Rattle.tb_mac.specs.Frames.{Frame as MacFrame, Framed, FramedOutcome, Continues, Shows, AsksNext, AsksAhead, Ends, applies_to, carries_out, enters, fails, framed_perform, gets, halts, holds_word, of_captured, of_cell, of_frame, of_number, of_procedure, of_register, requests, rest_number, words_of}
use Rattle.tb_mac.specs.MacStep.{Walked, Elements, NoList, NoWord, place_in, captured_at, place_of, walk_list}
use Rattle.tb_mac.specs.Objects.{cell_kind, vector_tag}
use Rattle.tb_mac.specs.Words.{is_false, is_undefined, on_some}
use Rattle.tb_codegen.proofs.Ahead.{jumps}
use Rattle.tb_codegen.proofs.Windows.{IsPlain, left}

-- an instruction that enters a procedure
abbrev pub IsCall : Instr → Type 0
IsCall (I.Invoke a) = Unit {0}
IsCall I.Apply = Unit {0}
IsCall i = ⊥

module _ (c : Assembled) (m : Framed) where
  -- what goes on without an event goes on nearer to the next `proc`
  pub data Nears : FramedOutcome → Type 0 where
    n_goes : {n : Framed} → left c.code n.pc < left c.code m.pc → Nears (Continues n)
    n_shows : {e : Event} {n : Framed} → Nears (Shows e n)
    n_asks : {a : ℕ} → Nears (AsksNext a)
    n_peeks : {a : ℕ} → left c.code (m.pc + 1) < left c.code m.pc → Nears (AsksAhead a)
    n_ends : {s : Stop} → Nears (Ends s)

  -- the entry of the procedure in register 0 is at a `proc`
  pub record EntersProc : Type 0 where
    pub at_proc : (w : Word) (o : Placed) (x : ℕ) → slice_get m.registers 0 ≡ Some w → procedure_at (words_of m) w ≡ Some o →
        place_in (words_of m (o.at + 1)) ≡ Some x → left c.code x ≡ 0

  some-nears : {X : Type 0} (o : Option X) (z : FramedOutcome) (k : X → FramedOutcome) → Nears z → ((x : X) → o ≡ Some x → Nears (k x)) → Nears (on_some o z k)
  some-nears None z k h g = h
  some-nears (Some x) z k h g = g x refl

  cond-nears : (b : Bool) (y z : FramedOutcome) → Nears y → Nears z → Nears (cond b y z)
  cond-nears true y z g h = g
  cond-nears false y z g h = h

  frame-nears : (fs : List MacFrame) (k : MacFrame → List MacFrame → FramedOutcome) → ((f : MacFrame) (gs : List MacFrame) → Nears (k f gs)) →
      Nears (of_frame m fs k)
  frame-nears [] k h = n_ends
  frame-nears (f ∷ fs) k h = h f fs

  fails-nears : (cause : Cause) → Nears (fails c m cause)
  fails-nears cause = some-nears (place_of c.places m.pc) (halts m) _ n_ends (λ p e. n_ends)

  requests-nears : (need : ℕ) (n : Framed) → left c.code n.pc < left c.code m.pc → Nears (requests need m n)
  requests-nears need n h = cond-nears _ _ _ n_ends (n_goes h)

  register-nears : (a : ℕ) (k : Word → FramedOutcome) → ((w : Word) → Nears (k w)) → Nears (on_some (slice_get m.registers a) (halts m) k)
  register-nears a k h = some-nears (slice_get m.registers a) (halts m) k n_ends (λ w e. h w)

  word-nears : (o : Option Word) (k : Word → FramedOutcome) → ((w : Word) → Nears (k w)) → Nears (on_some o (halts m) k)
  word-nears o k h = some-nears o (halts m) k n_ends (λ w e. h w)

  cell-nears : (b : ℕ) (k : ℕ → Word → FramedOutcome) → ((at : ℕ) (w : Word) → Nears (k at w)) → Nears (of_cell m b k)
  cell-nears b k h =
      register-nears b _ (λ u. some-nears (object_at (words_of m) vector_tag cell_kind u) (halts m)
      (λ (o : Placed). on_some (words_of m (o.at + 1)) (halts m) (k (o.at + 1))) n_ends (λ o e. word-nears (words_of m (o.at + 1)) _ (h (o.at + 1))))

  captured-nears : (b x : ℕ) (k : ℕ → Word → FramedOutcome) → ((at : ℕ) (w : Word) → Nears (k at w)) → Nears (of_captured m b x k)
  captured-nears b x k h =
      register-nears b _ (λ u. some-nears (captured_at (words_of m) x u) (halts m)
      (λ (at : ℕ). on_some (words_of m at) (halts m) (k at)) n_ends (λ at e. word-nears (words_of m at) _ (h at)))

  rest-nears : (a : ℕ) (n : ℤ) → left c.code (m.pc + 1) < left c.code m.pc → Nears (rest_number c a n m)
  rest-nears a (pos n) lt = cond-nears _ _ _ (fails-nears Cause.WrongArgs) (cond-nears _ _ _ n_ends (requests-nears _ _ lt))
  rest-nears a (negsuc n) lt = fails-nears Cause.WrongArgs

  number-nears : (w : Word) (k : ℤ → FramedOutcome) → ((n : ℤ) → Nears (k n)) → Nears (of_number w (halts m) k)
  number-nears (W.Fix n) k h = h n
  number-nears _ k h = n_ends

  effect-nears : (a : ℕ) (e : Effect) → left c.code (m.pc + 1) < left c.code m.pc → Nears (carries_out c a m e)
  effect-nears a (Gives w) lt = n_goes lt
  effect-nears a (Makes tag ws) lt = requests-nears _ _ lt
  effect-nears a (Changes at w) lt = word-nears (words_of m at) _ (λ old. n_goes lt)
  effect-nears a (Puts b) lt = n_shows
  effect-nears a Takes lt = n_asks
  effect-nears a Peeks lt = n_peeks lt
  effect-nears a (Fails cause) lt = fails-nears cause
  effect-nears a NoNextStep lt = n_ends

  enters-nears : (w : Word) (o : Placed) (rs : List Word) → EntersProc → slice_get m.registers 0 ≡ Some w → procedure_at (words_of m) w ≡ Some o →
      left c.code (m.pc + 1) < left c.code m.pc → Nears (enters o m (record m { registers = rs }))
  enters-nears w o rs en e f lt =
      some-nears (place_in (words_of m (o.at + 1))) (halts m) _ n_ends (λ x g. n_goes (let z = en.at_proc w o x e f g in omega (arith, z, lt)))

  procedure-nears : (k : Placed → FramedOutcome) → ((w : Word) (o : Placed) → slice_get m.registers 0 ≡ Some w → procedure_at (words_of m) w ≡ Some o → Nears (k o)) →
      Nears (of_procedure c m k)
  procedure-nears k h =
      some-nears (slice_get m.registers 0) (halts m) _ n_ends
      (λ w e. some-nears (procedure_at (words_of m) w) (fails c m Cause.NotProcedure) k (fails-nears Cause.NotProcedure) (λ o f. h w o e f))

  applies-nears : (w : Word) (o : Placed) (l : Walked) → EntersProc → slice_get m.registers 0 ≡ Some w → procedure_at (words_of m) w ≡ Some o →
      left c.code (m.pc + 1) < left c.code m.pc → Nears (applies_to c o m l)
  applies-nears w o (Elements us) en e f lt = enters-nears w o _ en e f lt
  applies-nears w o (NoList cause) en e f lt = fails-nears cause
  applies-nears w o NoWord en e f lt = n_ends

  pub perform-nears : (i : Instr) → (IsPlain i → left c.code (m.pc + 1) < left c.code m.pc) →
      ((x : ℕ) → IsIn x (jumps i) → left c.code x < left c.code m.pc) → (IsCall i → EntersProc) → Nears (framed_perform c m i)
  perform-nears (I.Proc x) lt to en = n_shows
  perform-nears (I.Args a) lt to en = register-nears 16 _ (λ w. cond-nears _ _ _ (n_goes (lt tt)) (fails-nears Cause.WrongArgs))
  perform-nears (I.ArgsGe a) lt to en = register-nears 16 _ (λ w. number-nears w _ (λ n. rest-nears a n (lt tt)))
  perform-nears (I.Save x) lt to en = requests-nears _ _ (lt tt)
  perform-nears (I.SetRtn x) lt to en = frame-nears m.frames _ (λ f fs. n_goes (lt tt))
  perform-nears (I.Load a x) lt to en = frame-nears m.frames _ (λ f fs. word-nears (slice_get f.slots x) _ (λ w. n_goes (lt tt)))
  perform-nears (I.Store a x) lt to en = frame-nears m.frames _ (λ f fs. cond-nears _ _ _ (register-nears a _ (λ w. n_goes (lt tt))) n_ends)
  perform-nears (I.Pop x) lt to en = frame-nears m.frames _ (λ f fs. cond-nears _ _ _ (n_goes (lt tt)) n_ends)
  perform-nears I.Return lt to en = frame-nears m.frames _ (λ f fs. some-nears (place_in (Some f.back)) (halts m) _ n_ends (λ x e. n_shows))
  perform-nears (I.Invoke a) lt to en = procedure-nears _ (λ w o e f. enters-nears w o _ (en tt) e f (lt tt))
  perform-nears (I.Jump x) lt to en = n_goes (to x (inl refl))
  perform-nears (I.Brf a x) lt to en =
      register-nears a _ (λ w. n_goes (by (is_false w)))
    where
      by : (b : Bool) → left c.code (cond b x (m.pc + 1)) < left c.code m.pc
      by true = to x (inl refl)
      by false = lt tt
  perform-nears (I.Imm a x) lt to en = word-nears _ _ (λ w. n_goes (lt tt))
  perform-nears (I.Stat a tag x) lt to en = some-nears _ (halts m) _ n_ends (λ at e. n_goes (lt tt))
  perform-nears (I.Move a b) lt to en = register-nears b _ (λ w. n_goes (lt tt))
  perform-nears (I.GlobalGet a x) lt to en = word-nears (words_of m x) _ (λ w. cond-nears _ _ _ (fails-nears Cause.Undefined) (n_goes (lt tt)))
  perform-nears (I.GlobalSet a x) lt to en =
      word-nears (words_of m x) _ (λ w. cond-nears _ _ _ (fails-nears Cause.Undefined) (register-nears a _ (λ u. n_goes (lt tt))))
  perform-nears (I.GlobalDef a x) lt to en = word-nears (words_of m x) _ (λ w. register-nears a _ (λ u. n_goes (lt tt)))
  perform-nears (I.Cell a b) lt to en = register-nears b _ (λ w. requests-nears _ _ (lt tt))
  perform-nears (I.CellGet a b) lt to en =
      cell-nears b (λ at w. cond (is_undefined w) (fails c m Cause.Undefined) (Continues (gets a w m)))
      (λ at w. cond-nears (is_undefined w) _ _ (fails-nears Cause.Undefined) (n_goes (lt tt)))
  perform-nears (I.CellSet a b) lt to en =
      cell-nears a (λ at w. of_register m b (λ u. Continues (holds_word at u m))) (λ at w. register-nears b _ (λ u. n_goes (lt tt)))
  perform-nears (I.Clo a n x) lt to en = requests-nears _ _ (lt tt)
  perform-nears (I.Capt a b x) lt to en = captured-nears b x _ (λ at w. n_goes (lt tt))
  perform-nears (I.CaptSet a b x) lt to en = captured-nears a x _ (λ at w. register-nears b _ (λ u. n_goes (lt tt)))
  perform-nears I.Apply lt to en =
      procedure-nears _ (λ w o e f. register-nears 1 _ (λ l. applies-nears w o (walk_list (words_of m) l) (en tt) e f (lt tt)))
  perform-nears I.End lt to en = n_ends
  perform-nears (I.Op0 a x) lt to en = effect-nears a _ (lt tt)
  perform-nears (I.Op1 a b x) lt to en = register-nears b _ (λ u. effect-nears a _ (lt tt))
  perform-nears (I.Op2 a b d x) lt to en = register-nears b _ (λ u. register-nears d _ (λ v. effect-nears a _ (lt tt)))
  perform-nears (I.Op3 a b d x) lt to en = register-nears a _ (λ u. register-nears b _ (λ v. register-nears d _ (λ w. effect-nears 16 _ (lt tt))))
