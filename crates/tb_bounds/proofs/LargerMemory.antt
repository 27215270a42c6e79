-- The same run in a larger memory: the machine does the same there, until a request is refused that the larger memory
-- has room for, and it goes on from there.
use Rattle.std.proofs.Common.{◌≡◌, refl, sym, ap, ◌∙◌, subst, ℕ, zero, suc, ◌+◌, ◌-◌, ◌<◌, ◌≤◌, ◌==◌, arith, ℤ, pos, negsuc, Bool, true, false, cond, nat_lt, List, [], ◌∷◌, ◌++◌, length, take, drop, Option, None, Some, slice_get, slice_set, length-append, length-set}
use Rattle.std.proofs.Math.Seq.{drop-append-add, take-append-add}
use Rattle.std.proofs.lemmas.Bool.{le-ltb, ltb-false, ltb-true}
use Rattle.std.proofs.lemmas.List.{append_assoc, drop-append-le, length-drop, length-take-le, take-append-drop}
use Rattle.tb_prim.specs.declared.event.Cause.{Cause}
use Rattle.tb_prim.specs.declared.event.Event.{Event}
use Rattle.tb_prim.specs.declared.event.Stop.{Stop}
use Rattle.tb_semantics.specs.Runs.{run}
use Rattle.tb_mac.specs.Assembled.{Assembled}
use Rattle.tb_mac.specs.Effects.{Effect, Gives, Makes, Changes, Puts, Takes, Peeks, Fails, NoNextStep, object_at, procedure_at}
use Rattle.tb_mac.specs.FramedRuns.{FramedState, Runs, Stays, framed_after, framed_next, framed_of, is_full_stop, receives}
use Rattle.tb_mac.specs.Frames.{AsksAhead, AsksNext, Continues, Ends, Frame, Framed, FramedOutcome, Shows, allots, applies_to, carries_out, enters, fails, framed_fetched, framed_perform, gets, goes_to, halts, holds_word, makes, of_captured, of_cell, of_frame, of_number, of_procedure, of_register, requests, rest_number, words_of}
use Rattle.tb_mac.specs.Layout.{addresses}
use Rattle.tb_mac.specs.LiveWords.{frame_words}
use Rattle.tb_mac.specs.MacEvents.{with_stop}
use Rattle.tb_mac.specs.MacStep.{Elements, NoList, NoWord, Walked, captured_at, kept_ahead, list_at, list_words, next_taken, place_in, place_of, put_words, rest_after, walk_list}
use Rattle.tb_mac.specs.Objects.{cell_kind, cell_words, new_procedure, vector_tag}
use Rattle.tb_mac.specs.Words.{imm_word, is_undefined, on_some, same_word, unspecified, zero_word}
use Rattle.tb_mac.specs.declared.code.Instr.{Instr}
use Rattle.tb_mac.specs.declared.code.Instr.TheVariants.{Proc, Args, ArgsGe, Save, SetRtn, Load, Store, Pop, Return, Invoke, Jump, Brf, Imm, Stat, Move, GlobalGet, GlobalSet, GlobalDef, Cell, CellGet, CellSet, Clo, Capt, CaptSet, Apply, End, Op0, Op1, Op2, Op3}
use Rattle.tb_mac.specs.declared.word.Placed.{Placed}
use Rattle.tb_mac.specs.declared.word.Word.{Word}
use Rattle.tb_mac.specs.declared.word.Word.TheVariants.{Fix, Special, Char, Header, Pointer, Code, Raw}

-- the same state with more words in the gap, before those that are there
abbrev pub wider : List Word → Framed → Framed
wider pad m = record m { gap = pad ++ m.gap }

-- the words in use, and all words of the memory
abbrev pub used_words : Framed → ℕ
used_words m = length m.heap + frame_words m.frames

abbrev pub memory_size : Framed → ℕ
memory_size m = length m.heap + (length m.gap + frame_words m.frames)

-- the machine goes on with so many more words in use
abbrev pub Uses : ℕ → Framed → FramedOutcome → Type 0
Uses need m o = (n : Framed) × (o ≡ Continues n) × (used_words n ≡ used_words m + need)

-- what an instruction comes to in a memory with so many more words, and in this one
pub data Alike (extra : ℕ) (m : Framed) : FramedOutcome → FramedOutcome → Type 0 where
  goes : (n : Framed) (pad : List Word) → length pad ≡ extra → memory_size n ≡ memory_size m →
      Alike extra m (Continues (wider pad n)) (Continues n)
  shows : (e : Event) (n : Framed) (pad : List Word) → length pad ≡ extra → memory_size n ≡ memory_size m →
      Alike extra m (Shows e (wider pad n)) (Shows e n)
  next : (a : ℕ) → Alike extra m (AsksNext a) (AsksNext a)
  ahead : (a : ℕ) → Alike extra m (AsksAhead a) (AsksAhead a)
  ends : (s : Stop) → is_full_stop s ≡ false → Alike extra m (Ends s) (Ends s)
  fills : (large : FramedOutcome) (heap stack need : ℕ) → length m.gap < need → (need ≤ extra → Uses need m large) →
      Alike extra m large (Ends (Stop.Full heap stack need))

module _ (extra : ℕ) (c : Assembled) (m : Framed) (pad : List Word) (long : length pad ≡ extra) where
  abbrev W : Framed
  W = wider pad m

  abbrev A : FramedOutcome → FramedOutcome → Type 0
  A = Alike extra m

  some_alike : {X : Type 0} (o : Option X) (e f : FramedOutcome) (k l : X → FramedOutcome) → A e f →
      ((x : X) → A (k x) (l x)) → A (on_some o e k) (on_some o f l)
  some_alike None e f k l h g = h
  some_alike (Some x) e f k l h g = g x

  either_alike : (b : Bool) (o p q r : FramedOutcome) → A o q → A p r → A (cond b o p) (cond b q r)
  either_alike true o p q r h k = h
  either_alike false o p q r h k = k

  halts_alike : A (halts W) (halts m)
  halts_alike = ends (Stop.Stuck m.pc) refl

  fails_alike : (cause : Cause) → A (fails c W cause) (fails c m cause)
  fails_alike cause = some_alike (place_of c.places m.pc) _ _ _ _ halts_alike (λ p. ends (Stop.Fail cause p) refl)

  register_alike : (a : ℕ) (k l : Word → FramedOutcome) → ((w : Word) → A (k w) (l w)) → A (of_register W a k) (of_register m a l)
  register_alike a k l f = some_alike (slice_get m.registers a) (halts W) (halts m) k l halts_alike f

  heap_alike : (at : ℕ) (k l : Word → FramedOutcome) → ((w : Word) → A (k w) (l w)) →
      A (on_some (words_of W at) (halts W) k) (on_some (words_of m at) (halts m) l)
  heap_alike at k l f = some_alike (words_of m at) (halts W) (halts m) k l halts_alike f

  frame_alike : (k l : Frame → List Frame → FramedOutcome) →
      ((f : Frame) (fs : List Frame) → m.frames ≡ f ∷ fs → A (k f fs) (l f fs)) → A (of_frame W m.frames k) (of_frame m m.frames l)
  frame_alike k l g = by_frames m.frames refl
    where
      by_frames : (fs : List Frame) → m.frames ≡ fs → A (of_frame W fs k) (of_frame m fs l)
      by_frames [] e = halts_alike
      by_frames (f ∷ fs) e = g f fs e

  goes_on : (n : Framed) → memory_size n ≡ memory_size m → A (Continues (wider pad n)) (Continues n)
  goes_on n e = goes n pad long e

  requests_alike : (need : ℕ) (large small : Framed) →
      (need ≤ length m.gap → (p : List Word) × (length p ≡ extra) × (large ≡ wider p small)) →
      (need ≤ length m.gap → memory_size small ≡ memory_size m) →
      (need ≤ length (pad ++ m.gap) → used_words large ≡ used_words m + need) →
      A (requests need W large) (requests need m small)
  requests_alike need large small room same used = by_room (nat_lt (length m.gap) need) refl
    where
      enough : need ≤ length (pad ++ m.gap) → requests need W large ≡ Continues large
      enough le =
          ap (λ b. cond b (Ends (Stop.Full (length m.heap) (length m.heap + length (pad ++ m.gap)) need)) (Continues large))
          (le-ltb (length (pad ++ m.gap)) need le)

      by_room : (b : Bool) → nat_lt (length m.gap) need ≡ b → A (requests need W large)
          (cond b (Ends (Stop.Full (length m.heap) (length m.heap + length m.gap) need)) (Continues small))
      by_room true e =
          fills (requests need W large) (length m.heap) (length m.heap + length m.gap) need (ltb-true (length m.gap) need e)
          (λ le. let w = length-append pad m.gap in (large, enough (omega arith), used (omega arith)))
      by_room false e =
          let le = ltb-false (length m.gap) need e in let w = length-append pad m.gap in let r = room le in
          subst (λ o. A o (Continues small)) (sym (enough (omega arith) ∙ ap Continues r.2)) (goes small r.0 r.1 (same le))

  allots_alike : (ws : List Word) (a : ℕ) (w : Word) → A (allots ws a w W) (allots ws a w m)
  allots_alike ws a w =
      let k = length ws in
      let front = pad ++ take k m.gap in
      let small = record m { pc = m.pc + 1; registers = slice_set m.registers a w; heap = m.heap ++ ws; gap = drop k m.gap } in
      let h = length-append m.heap ws in
      let d = length-drop k m.gap in
      requests_alike k _ small
      (λ le.
      let f = length-append pad (take k m.gap) in let t = length-take-le k m.gap le in let g = length-drop k front in
      let split : drop k (pad ++ m.gap) ≡ drop k front ++ drop k m.gap =
      ap (λ g. drop k (pad ++ g)) (sym (take-append-drop k m.gap))
      ∙ ap (drop k) (sym (append_assoc pad (take k m.gap) (drop k m.gap)))
      ∙ drop-append-le k front (drop k m.gap) (omega arith) in
      (drop k front, omega arith, ap (λ g. record small { gap = g }) split))
      (λ le. omega arith)
      (λ le. omega arith)

  makes_alike : (tag : ℕ) (ws : List Word) (a : ℕ) → A (makes tag ws a W) (makes tag ws a m)
  makes_alike tag ws a = allots_alike ws a (Pointer tag (length m.heap))

  abbrev saved : List Word → List Word → Framed
  saved gap slots = record m { pc = m.pc + 1; gap = gap; frames = record { back = zero_word; slots = slots } ∷ m.frames }

  saves_alike : (x : ℕ) → A (framed_perform c W (Save x)) (framed_perform c m (Save x))
  saves_alike x =
      let n = length m.gap - (x + 2) in
      let all = pad ++ m.gap in
      let more = length all - (x + 2) in
      let w = length-append pad m.gap in
      let d = length-drop (n + 2) m.gap in
      let f = length-drop (more + 2) all in
      requests_alike (x + 2) (saved (take more all) (drop (more + 2) all)) (saved (take n m.gap) (drop (n + 2) m.gap))
      (λ le.
      let a : take more all ≡ pad ++ take n m.gap =
      ap (λ k. take k all) (let e : more ≡ length pad + n = omega arith in e) ∙ take-append-add pad m.gap n in
      let b : drop (more + 2) all ≡ drop (n + 2) m.gap =
      ap (λ k. drop k all) (let e : more + 2 ≡ length pad + (n + 2) = omega arith in e) ∙ drop-append-add pad m.gap (n + 2) in
      (pad, long, ap (λ g. saved g (drop (more + 2) all)) a ∙ ap (saved (pad ++ take n m.gap)) b))
      (λ le. let t = length-take-le n m.gap (omega arith) in omega arith)
      (λ le. omega arith)

  carries_alike : (a : ℕ) (e : Effect) → A (carries_out c a W e) (carries_out c a m e)
  carries_alike a (Gives w) = goes_on (gets a w m) refl
  carries_alike a (Makes tag ws) = makes_alike tag ws a
  carries_alike a (Changes at w) = heap_alike at _ _ (λ old. let l = length-set m.heap at w in
      goes_on (gets a unspecified (record m { heap = slice_set m.heap at w })) (omega arith))
  carries_alike a (Puts b) = shows (Event.Put b) (gets a unspecified m) pad long refl
  carries_alike a Takes = next a
  carries_alike a Peeks = ahead a
  carries_alike a (Fails cause) = fails_alike cause
  carries_alike a NoNextStep = halts_alike

  enters_alike : (o : Placed) (n : Framed) → memory_size n ≡ memory_size m → A (enters o W (wider pad n)) (enters o m n)
  enters_alike o n e =
      some_alike (place_in (words_of m (o.at + 1))) (halts W) (halts m) _ _ halts_alike (λ x. goes_on (goes_to x n) e)

  procedure_alike : (k l : Placed → FramedOutcome) → ((o : Placed) → A (k o) (l o)) → A (of_procedure c W k) (of_procedure c m l)
  procedure_alike k l f =
      register_alike 0 _ _ (λ w. some_alike (procedure_at (words_of m) w) _ _ k l (fails_alike Cause.NotProcedure) f)

  applies_alike : (o : Placed) (w : Walked) → A (applies_to c o W w) (applies_to c o m w)
  applies_alike o (Elements us) =
      enters_alike o (record m { registers = slice_set (put_words 1 us m.registers) 16 (Fix (pos (length us))) }) refl
  applies_alike o (NoList cause) = fails_alike cause
  applies_alike o NoWord = halts_alike

  cell_alike : (b : ℕ) (k l : ℕ → Word → FramedOutcome) → ((at : ℕ) (w : Word) → A (k at w) (l at w)) →
      A (of_cell W b k) (of_cell m b l)
  cell_alike b k l f =
      register_alike b _ _ (λ u. some_alike (object_at (words_of m) vector_tag cell_kind u) _ _ _ _ halts_alike
      (λ o. heap_alike (o.at + 1) _ _ (f (o.at + 1))))

  captured_alike : (b x : ℕ) (k l : ℕ → Word → FramedOutcome) → ((at : ℕ) (w : Word) → A (k at w) (l at w)) →
      A (of_captured W b x k) (of_captured m b x l)
  captured_alike b x k l f =
      register_alike b _ _ (λ u. some_alike (captured_at (words_of m) x u) _ _ _ _ halts_alike (λ at. heap_alike at _ _ (f at)))

  number_alike : (w : Word) (k l : ℤ → FramedOutcome) → ((n : ℤ) → A (k n) (l n)) → A (of_number w (halts W) k) (of_number w (halts m) l)
  number_alike (Fix n) k l f = f n
  number_alike (Special n) k l f = halts_alike
  number_alike (Char n) k l f = halts_alike
  number_alike (Header x n) k l f = halts_alike
  number_alike (Pointer x n) k l f = halts_alike
  number_alike (Code n) k l f = halts_alike
  number_alike (Raw n) k l f = halts_alike

  rest_alike : (a : ℕ) (n : ℤ) → A (rest_number c a n W) (rest_number c a n m)
  rest_alike a (pos n) =
      let us = take (n - a) (drop (a + 1) m.registers) in
      either_alike (nat_lt n a) _ _ _ _ (fails_alike Cause.WrongArgs)
      (either_alike (nat_lt 12 n) _ _ _ _ halts_alike
      (allots_alike (list_words (length m.heap) us) (a + 1) (list_at (length m.heap) us)))
  rest_alike a (negsuc n) = fails_alike Cause.WrongArgs

  -- a word of the heap is written
  holds_alike : (at a : ℕ) → A (of_register W a (λ u. Continues (holds_word at u W))) (of_register m a (λ u. Continues (holds_word at u m)))
  holds_alike at a = register_alike a _ _ (λ u. let l = length-set m.heap at u in goes_on (holds_word at u m) (omega arith))

  -- or read, unless it is the mark of a variable without a value
  read_alike : (w : Word) (large small : FramedOutcome) → A large small →
      A (cond (is_undefined w) (fails c W Cause.Undefined) large) (cond (is_undefined w) (fails c m Cause.Undefined) small)
  read_alike w large small h = either_alike (is_undefined w) _ _ _ _ (fails_alike Cause.Undefined) h

  pops_alike : (x : ℕ) → A (framed_perform c W (Pop x)) (framed_perform c m (Pop x))
  pops_alike x = frame_alike _ _ (λ f fs e.
      let back = f.back ∷ Fix (pos (length f.slots)) ∷ f.slots in
      let small = record m { pc = m.pc + 1; gap = m.gap ++ back; frames = fs } in
      let l = length-append m.gap back in let q = ap frame_words e in
      either_alike (length f.slots == x) _ _ _ _
      (subst (λ g. A (Continues (record small { gap = g })) (Continues small)) (sym (append_assoc pad m.gap back)) (goes_on small (omega arith)))
      halts_alike)

  performs : (i : Instr) → A (framed_perform c W i) (framed_perform c m i)
  performs (Proc x) = shows (Event.Enter x) (goes_to (m.pc + 1) m) pad long refl
  performs (Args a) =
      register_alike 16 _ _ (λ w. either_alike (same_word w (Fix (pos a))) _ _ _ _ (goes_on (goes_to (m.pc + 1) m) refl)
      (fails_alike Cause.WrongArgs))
  performs (ArgsGe a) = register_alike 16 _ _ (λ w. number_alike w _ _ (rest_alike a))
  performs (Save x) = saves_alike x
  performs (SetRtn x) = frame_alike _ _ (λ f fs e. let q = ap frame_words e in
      goes_on (record m { pc = m.pc + 1; frames = record f { back = Code x } ∷ fs }) (omega arith))
  performs (Load a x) = frame_alike _ _ (λ f fs e. some_alike (slice_get f.slots x) _ _ _ _ halts_alike (λ w. goes_on (gets a w m) refl))
  performs (Store a x) = frame_alike _ _ (λ f fs e. either_alike (nat_lt x (length f.slots)) _ _ _ _
      (register_alike a _ _ (λ w. let q = ap frame_words e in let l = length-set f.slots x w in
      goes_on (record m { pc = m.pc + 1; frames = record f { slots = slice_set f.slots x w } ∷ fs }) (omega arith)))
      halts_alike)
  performs (Pop x) = pops_alike x
  performs Return = frame_alike _ _ (λ f fs e.
      some_alike (place_in (Some f.back)) _ _ _ _ halts_alike (λ x. shows Event.Back (goes_to x m) pad long refl))
  performs (Invoke a) = procedure_alike _ _ (λ o. enters_alike o (record m { registers = slice_set m.registers 16 (Fix (pos a)) }) refl)
  performs (Jump x) = goes_on (goes_to x m) refl
  performs (Brf a x) = register_alike a _ _ (λ w. goes_on (goes_to _ m) refl)
  performs (Imm a x) = some_alike (imm_word x) _ _ _ _ halts_alike (λ w. goes_on (gets a w m) refl)
  performs (Stat a tag x) = some_alike (slice_get (addresses c.parts) x) _ _ _ _ halts_alike (λ at. goes_on (gets a (Pointer tag at) m) refl)
  performs (Move a b) = register_alike b _ _ (λ w. goes_on (gets a w m) refl)
  performs (GlobalGet a x) = heap_alike x _ _ (λ w. read_alike w _ _ (goes_on (gets a w m) refl))
  performs (GlobalSet a x) = heap_alike x _ _ (λ w. read_alike w _ _ (holds_alike x a))
  performs (GlobalDef a x) = heap_alike x _ _ (λ w. holds_alike x a)
  performs (Cell a b) = register_alike b _ _ (λ w. makes_alike vector_tag (cell_words w) a)
  performs (CellGet a b) = cell_alike b _ _ (λ at w. read_alike w _ _ (goes_on (gets a w m) refl))
  performs (CellSet a b) = cell_alike a _ _ (λ at w. holds_alike at b)
  performs (Clo a n x) = makes_alike _ (new_procedure n x) a
  performs (Capt a b x) = captured_alike b x _ _ (λ at w. goes_on (gets a w m) refl)
  performs (CaptSet a b x) = captured_alike a x _ _ (λ at w. holds_alike at b)
  performs Apply = procedure_alike _ _ (λ o. register_alike 1 _ _ (λ l. applies_alike o (walk_list (words_of m) l)))
  performs End = ends Stop.End refl
  performs (Op0 a x) = carries_alike a _
  performs (Op1 a b x) = register_alike b _ _ (λ u. carries_alike a _)
  performs (Op2 a b d x) = register_alike b _ _ (λ u. register_alike d _ _ (λ v. carries_alike a _))
  performs (Op3 a b d x) = register_alike a _ _ (λ u. register_alike b _ _ (λ v. register_alike d _ _ (λ w. carries_alike 16 _)))

  pub fetched-alike : A (framed_fetched c W) (framed_fetched c m)
  fetched-alike = some_alike (slice_get c.code m.pc) _ _ _ _ halts_alike performs

-- states of the two runs; the one in this memory is not full
pub data AlikeStates (extra : ℕ) : FramedState → FramedState → Type 0 where
  running : (m : Framed) (pad : List Word) (input : List ℕ) (es : List Event) → length pad ≡ extra →
      AlikeStates extra (Runs (wider pad m) input es) (Runs m input es)
  standing : (m : Framed) (pad : List Word) (s : Stop) (input : List ℕ) (es : List Event) → is_full_stop s ≡ false →
      AlikeStates extra (Stays (wider pad m) s input es) (Stays m s input es)

-- the next states are alike, in memories of the same size, or a request is refused
pub data Turn (extra : ℕ) (m : Framed) (input : List ℕ) (es : List Event) : FramedState → FramedState → Type 0 where
  on : (large small : FramedState) → AlikeStates extra large small → memory_size (framed_of small) ≡ memory_size m →
      Turn extra m input es large small
  full : (large : FramedState) (heap stack need : ℕ) → length m.gap < need →
      (need ≤ extra → (n : Framed) × (large ≡ Runs n input es) × (used_words n ≡ used_words m + need)) →
      Turn extra m input es large (Stays m (Stop.Full heap stack need) input es)

after_alike : (extra : ℕ) (m : Framed) (pad : List Word) (input : List ℕ) (es : List Event) → length pad ≡ extra →
    (large small : FramedOutcome) → Alike extra m large small →
    Turn extra m input es (framed_after (wider pad m) input es large) (framed_after m input es small)
after_alike extra m pad input es long _ _ (goes n p l e) = on _ _ (running n p input es l) e
after_alike extra m pad input es long _ _ (shows v n p l e) = on _ _ (running n p input (es ++ v ∷ []) l) e
after_alike extra m pad input es long _ _ (next a) =
    let t = next_taken m.ahead input in
    on _ _ (running (receives a t (kept_ahead t) m) pad (rest_after m.ahead input) (es ++ Event.Took t ∷ []) long) refl
after_alike extra m pad input es long _ _ (ahead a) =
    let t = next_taken m.ahead input in on _ _ (running (receives a t (Some t) m) pad (rest_after m.ahead input) es long) refl
after_alike extra m pad input es long _ _ (ends s q) = on _ _ (standing m pad s input (with_stop s es) q) refl
after_alike extra m pad input es long _ _ (fills large heap stack need lt f) =
    full (framed_after (wider pad m) input es large) heap stack need lt
    (λ le. let u = f le in (u.0, ap (framed_after (wider pad m) input es) u.1, u.2))

module _ (c : Assembled) where
  abbrev step : FramedState → FramedState
  step = framed_next (framed_fetched c)

  stands : (n : ℕ) (m : Framed) (s : Stop) (input : List ℕ) (es : List Event) → run step n (Stays m s input es) ≡ Stays m s input es
  stands zero m s input es = refl
  stands (suc n) m s input es = stands n m s input es

  -- the run comes to a state with these events, and with more words in use than so many
  abbrev pub GoesBeyond : ℕ → List ℕ → List Event → FramedState → Type 0
  GoesBeyond heap rest es s = (n : ℕ) × (b : Framed) × (run step n s ≡ Runs b rest es) × (heap < used_words b)

  module _ (extra heap h k need : ℕ) (last : Framed) (rest : List ℕ) (es : List Event) (enough : need ≤ extra) where
    abbrev Beyond : FramedState → Type 0
    Beyond = GoesBeyond heap rest es

    later : (s : FramedState) → Beyond (step s) → Beyond s
    later s r = (suc r.0, r.1, r.2, r.3)

    -- a run of n steps that comes to this stop
    abbrev Stops : ℕ → FramedState → Type 0
    Stops n s = run step n s ≡ Stays last (Stop.Full h k need) rest es

    turned : (n : ℕ) (m : Framed) (input : List ℕ) (fs : List Event) (large small : FramedState) → Turn extra m input fs large small →
        ((large small : FramedState) → AlikeStates extra large small → heap ≤ memory_size (framed_of small) → Stops n small → Beyond large) →
        heap ≤ memory_size m → Stops n small → Beyond large
    turned n m input fs _ _ (on large small a same) again room e = again large small a (omega arith) e
    turned n m input fs _ _ (full large heap2 stack need2 lt f) again room e =
        let s = sym (stands n m (Stop.Full heap2 stack need2) input fs) ∙ e in
        let a : need2 ≡ need = cc in let b : input ≡ rest = cc in let d : fs ≡ es = cc in
        let u = f (omega arith) in
        (0, u.0, u.1 ∙ ap (λ i. Runs u.0 i fs) b ∙ ap (Runs u.0 rest) d, let g = u.2 in omega arith)

    pub goes-beyond : (n : ℕ) (large small : FramedState) → AlikeStates extra large small → heap ≤ memory_size (framed_of small) →
        Stops n small → Beyond large
    goes-beyond zero _ _ (running m pad input fs l) room e = cc
    goes-beyond zero _ _ (standing m pad s input fs q) room e =
        let t : s ≡ Stop.Full h k need = cc in let f : true ≡ false = ap is_full_stop (sym t) ∙ q in cc
    goes-beyond (suc n) _ _ (running m pad input fs l) room e =
        later (Runs (wider pad m) input fs)
        (turned n m input fs _ _
        (after_alike extra m pad input fs l (framed_fetched c (wider pad m)) (framed_fetched c m) (fetched-alike extra c m pad l))
        (λ large small a r q. goes-beyond n large small a r q) room e)
    goes-beyond (suc n) _ _ (standing m pad s input fs q) room e =
        later (Stays (wider pad m) s input fs) (goes-beyond n _ _ (standing m pad s input fs q) room e)
