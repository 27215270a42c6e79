-- A step keeps a state within the bound of its code.
use Rattle.std.proofs.Common.{◌≡◌, refl, ap, subst, ℕ, zero, suc, ◌+◌, ◌-◌, ◌/◌, ◌%◌, ◌≤◌, ◌==◌, arith, ℤ, pos, negsuc, Bool, true, false, cond, nat_lt, List, [], ◌∷◌, length, take, drop, Option, None, Some, slice_get, slice_set}
use Rattle.std.proofs.lemmas.Bool.{ltb-false}
use Rattle.std.proofs.lemmas.List.{length-drop}
use Rattle.std.proofs.lemmas.Option.{same_Some}
use Rattle.tb_prim.specs.Primitives.{primitive_at}
use Rattle.tb_prim.specs.declared.event.Cause.{Cause}
use Rattle.tb_prim.specs.declared.event.Event.{Event}
use Rattle.tb_prim.specs.declared.event.Taken.{Taken}
use Rattle.tb_semantics.specs.Runs.{after, run}
use Rattle.tb_core.specs.Rules.{Every}
use Rattle.tb_mac.specs.Assembled.{Assembled}
use Rattle.tb_mac.specs.Bounds.{extent, frame_bound}
use Rattle.tb_mac.specs.Effects.{Effect, Gives, Makes, Changes, Puts, Takes, Peeks, Fails, NoNextStep, Heap, effect_0, object_at, pair_at, procedure_at}
use Rattle.tb_mac.specs.FramedRuns.{FramedState, Runs, Stays, framed_after, framed_machine, framed_next, framed_of, framed_start}
use Rattle.tb_mac.specs.Frames.{AsksAhead, AsksNext, Continues, Ends, Frame, Framed, FramedOutcome, Shows, allots, applies_to, carries_out, fails, framed_fetched, framed_perform, gets, goes_to, halts, holds_word, makes, of_captured, of_cell, of_frame, of_number, of_procedure, of_register, requests, rest_number, rest_of, words_of, enters}
use Rattle.tb_mac.specs.Layout.{addresses}
use Rattle.tb_mac.specs.MacStep.{Elements, NoList, NoWord, Walked, captured_at, ends_list, list_at, list_words, next_taken, place_in, place_of, put_words, taken_word, walk_list, walked, with_element}
use Rattle.tb_mac.specs.Objects.{cell_kind, cell_words, new_procedure, vector_tag}
use Rattle.tb_mac.specs.Words.{fixnum_of, imm_word, is_undefined, on_some, same_word, unspecified, zero_word, empty_list}
use Rattle.tb_mac.specs.declared.code.Instr.{Instr}
use Rattle.tb_mac.specs.declared.code.Instr.TheVariants.{Proc, Args, ArgsGe, Save, SetRtn, Load, Store, Pop, Return, Invoke, Jump, Brf, Imm, Stat, Move, GlobalGet, GlobalSet, GlobalDef, Cell, CellGet, CellSet, Clo, Capt, CaptSet, Apply, End, Op0, Op1, Op2, Op3}
use Rattle.tb_mac.specs.declared.word.Placed.{Placed}
use Rattle.tb_mac.specs.declared.word.Word.{Word}
use Rattle.tb_mac.specs.declared.word.Word.TheVariants.{Fix, Special, Char, Header, Pointer, Code, Raw}
use Rattle.tb_bounds.specs.Within.{IsNarrow, IsSmall, IsWithin}
use Rattle.tb_bounds.proofs.SmallEffects.{IsTame, TameHeap, effect-0, effect-1, effect-2, effect-3, numbered-tame}
use Rattle.tb_bounds.proofs.SmallWords.{Small, every-append, every-drop, every-get, every-replicate, every-set, every-take, start-small}

module _ (bound : ℕ) where
  -- what an instruction comes to is within the bound
  abbrev pub IsGood : FramedOutcome → Type 0
  IsGood (Continues m) = IsWithin bound m
  IsGood (Shows e m) = IsWithin bound m
  IsGood (AsksNext a) = Unit {0}
  IsGood (AsksAhead a) = Unit {0}
  IsGood (Ends s) = Unit {0}

  some_good : {A : Type 0} (o : Option A) (e : FramedOutcome) (k : A → FramedOutcome) → IsGood e →
      ((a : A) → o ≡ Some a → IsGood (k a)) → IsGood (on_some o e k)
  some_good None e k h f = h
  some_good (Some a) e k h f = f a refl

  either_good : (b : Bool) (e f : FramedOutcome) → (b ≡ true → IsGood e) → (b ≡ false → IsGood f) → IsGood (cond b e f)
  either_good true e f h k = h refl
  either_good false e f h k = k refl

  fails_good : (c : Assembled) (m : Framed) (cause : Cause) → IsGood (fails c m cause)
  fails_good c m cause = some_good (place_of c.places m.pc) (halts m) _ tt (λ p e. tt)

  -- words that an instruction can write
  abbrev SmallSome : Option Word → Type 0
  SmallSome None = Unit {0}
  SmallSome (Some w) = IsSmall bound w

  either_small : (b : Bool) (o q : Option Word) → SmallSome o → SmallSome q → SmallSome (cond b o q)
  either_small true o q h k = h
  either_small false o q h k = k

  written_small : (x : ℕ) → SmallSome (imm_word x)
  written_small x =
      either_small (x % 4 == 0) (Some (Fix (fixnum_of x)))
      (cond (x % 256 == 10) (cond (nat_lt (x / 256) 256) (Some (Char (x / 256))) None) (cond (x % 256 == 2) (cond (nat_lt (x / 256) 6) (Some (Special (x / 256))) None) None))
      tt
      (either_small (x % 256 == 10) (cond (nat_lt (x / 256) 256) (Some (Char (x / 256))) None) (cond (x % 256 == 2) (cond (nat_lt (x / 256) 6) (Some (Special (x / 256))) None) None)
      (either_small (nat_lt (x / 256) 256) (Some (Char (x / 256))) None tt tt)
      (either_small (x % 256 == 2) (cond (nat_lt (x / 256) 6) (Some (Special (x / 256))) None) None
      (either_small (nat_lt (x / 256) 6) (Some (Special (x / 256))) None tt tt) tt))

  some_small : (o : Option Word) (w : Word) → SmallSome o → o ≡ Some w → IsSmall bound w
  some_small None w h e = cc
  some_small (Some v) w h e = subst (IsSmall bound) (same_Some v w e) h

  list_small : (at : ℕ) (us : List Word) → IsSmall bound (list_at at us)
  list_small at [] = tt
  list_small at (u ∷ us) = tt

  pairs_small : (at : ℕ) (us : List Word) → Small bound us → Small bound (list_words at us)
  pairs_small at [] h = tt
  pairs_small at (u ∷ us) h = (h.0, (list_small (at + 2) us, pairs_small (at + 2) us h.1))

  put_small : (at : ℕ) (us ws : List Word) → Small bound us → Small bound ws → Small bound (put_words at us ws)
  put_small at [] ws h k = k
  put_small at (u ∷ us) ws h k = put_small (at + 1) us (slice_set ws at u) h.1 (every-set (IsSmall bound) ws at u k h.0)

  -- the elements of a list in the heap
  abbrev WalkSmall : Walked → Type 0
  WalkSmall (Elements us) = Small bound us
  WalkSmall (NoList c) = Unit {0}
  WalkSmall NoWord = Unit {0}

  module _ (heap : Heap) (tame : TameHeap bound heap) where
    with_small : (u : Word) (o : Walked) → IsSmall bound u → WalkSmall o → WalkSmall (with_element u o)
    with_small u (Elements us) h k = (h, k)
    with_small u (NoList c) h k = tt
    with_small u NoWord h k = tt

    ends_small : (w : Word) → WalkSmall (ends_list w)
    ends_small w = by_test (same_word w empty_list)
      where
        by_test : (b : Bool) → WalkSmall (cond b (Elements []) (NoList Cause.WrongType))
        by_test true = tt
        by_test false = tt

    walk_some : {A : Type 0} (o : Option A) (e : Walked) (k : A → Walked) → WalkSmall e →
        ((a : A) → o ≡ Some a → WalkSmall (k a)) → WalkSmall (on_some o e k)
    walk_some None e k h f = h
    walk_some (Some a) e k h f = f a refl

    walked_small : (n : ℕ) (w : Word) → WalkSmall (walked heap n w)
    walked_small zero w = walk_some (pair_at w) (ends_list w) _ (ends_small w) (λ a e. tt)
    walked_small (suc n) w =
        walk_some (pair_at w) (ends_list w) _ (ends_small w)
        (λ a e. walk_some (heap a) NoWord _ tt
        (λ u f. walk_some (heap (a + 1)) NoWord _ tt (λ v g. with_small u (walked heap n v) (tame a u f) (walked_small n v))))

    walk_small : (w : Word) → WalkSmall (walk_list heap w)
    unfolding walk_list
    walk_small w = walked_small 12 w

  module _ (c : Assembled) (m : Framed) (h : IsWithin bound m) where
    tame_heap : TameHeap bound (words_of m)
    tame_heap at w e = every-get (IsSmall bound) m.heap at w h.heap e

    register_good : (a : ℕ) (k : Word → FramedOutcome) → ((w : Word) → IsSmall bound w → IsGood (k w)) → IsGood (of_register m a k)
    register_good a k f =
        some_good (slice_get m.registers a) (halts m) k tt (λ w e. f w (every-get (IsSmall bound) m.registers a w h.registers e))

    heap_good : (at : ℕ) (k : Word → FramedOutcome) → ((w : Word) → IsSmall bound w → IsGood (k w)) →
        IsGood (on_some (words_of m at) (halts m) k)
    heap_good at k f = some_good (words_of m at) (halts m) k tt (λ w e. f w (tame_heap at w e))

    frame_good : (k : Frame → List Frame → FramedOutcome) →
        ((f : Frame) (fs : List Frame) → m.frames ≡ f ∷ fs → IsNarrow bound f → Every (IsNarrow bound) fs → IsGood (k f fs)) →
        IsGood (of_frame m m.frames k)
    frame_good k good = by_frames m.frames h.frames refl
      where
        by_frames : (fs : List Frame) → Every (IsNarrow bound) fs → m.frames ≡ fs → IsGood (of_frame m fs k)
        by_frames [] n e = tt
        by_frames (f ∷ fs) n e = good f fs e n.0 n.1

    goes_within : (x : ℕ) → IsWithin bound (goes_to x m)
    goes_within x = record { registers = h.registers; heap = h.heap; gap = h.gap; frames = h.frames }

    gets_within : (a : ℕ) (w : Word) → IsSmall bound w → IsWithin bound (gets a w m)
    gets_within a w s = record { registers = every-set (IsSmall bound) m.registers a w h.registers s; heap = h.heap; gap = h.gap; frames = h.frames }

    holds_within : (at : ℕ) (w : Word) → IsSmall bound w → IsWithin bound (holds_word at w m)
    holds_within at w s = record { registers = h.registers; heap = every-set (IsSmall bound) m.heap at w h.heap s; gap = h.gap; frames = h.frames }

    requests_good : (need : ℕ) (m' : Framed) → (need ≤ length m.gap → IsWithin bound m') → IsGood (requests need m m')
    requests_good need m' f =
        either_good (nat_lt (length m.gap) need) _ (Continues m') (λ e. tt) (λ e. f (ltb-false (length m.gap) need e))

    allots_good : (ws : List Word) (a : ℕ) (w : Word) → Small bound ws → IsSmall bound w → IsGood (allots ws a w m)
    allots_good ws a w k s = requests_good (length ws) _ (λ le. record {
      registers = every-set (IsSmall bound) m.registers a w h.registers s;
      heap = every-append (IsSmall bound) m.heap ws h.heap k;
      gap = every-drop (IsSmall bound) (length ws) m.gap h.gap;
      frames = h.frames;
    })

    makes_good : (tag : ℕ) (ws : List Word) (a : ℕ) → Small bound ws → IsGood (makes tag ws a m)
    makes_good tag ws a k = allots_good ws a (Pointer tag (length m.heap)) k tt

    carries_good : (a : ℕ) (e : Effect) → IsTame bound e → IsGood (carries_out c a m e)
    carries_good a (Gives w) t = gets_within a w t
    carries_good a (Makes tag ws) t = makes_good tag ws a t
    carries_good a (Changes at w) t = heap_good at _ (λ old s. record {
      registers = every-set (IsSmall bound) m.registers a unspecified h.registers tt;
      heap = every-set (IsSmall bound) m.heap at w h.heap t;
      gap = h.gap;
      frames = h.frames;
    })
    carries_good a (Puts b) t = gets_within a unspecified tt
    carries_good a Takes t = tt
    carries_good a Peeks t = tt
    carries_good a (Fails cause) t = fails_good c m cause
    carries_good a NoNextStep t = tt

    enters_good : (o : Placed) (m' : Framed) → IsWithin bound m' → IsGood (enters o m m')
    enters_good o m' w = some_good (place_in (words_of m (o.at + 1))) (halts m) _ tt
        (λ x e. record { registers = w.registers; heap = w.heap; gap = w.gap; frames = w.frames })

    procedure_good : (k : Placed → FramedOutcome) → ((o : Placed) → IsGood (k o)) → IsGood (of_procedure c m k)
    procedure_good k f =
        register_good 0 _ (λ w s. some_good (procedure_at (words_of m) w) (fails c m Cause.NotProcedure) k (fails_good c m _) (λ o e. f o))

    applies_good : (o : Placed) (w : Walked) → WalkSmall w → IsGood (applies_to c o m w)
    applies_good o (Elements us) s = enters_good o (record m { registers = slice_set (put_words 1 us m.registers) 16 (Fix (pos (length us))) }) (record {
      registers = every-set (IsSmall bound) (put_words 1 us m.registers) 16 (Fix (pos (length us))) (put_small 1 us m.registers s h.registers) tt;
      heap = h.heap;
      gap = h.gap;
      frames = h.frames;
    })
    applies_good o (NoList cause) s = fails_good c m cause
    applies_good o NoWord s = tt

    cell_good : (b : ℕ) (k : ℕ → Word → FramedOutcome) → ((at : ℕ) (w : Word) → IsSmall bound w → IsGood (k at w)) → IsGood (of_cell m b k)
    cell_good b k f =
        register_good b _ (λ u s. some_good (object_at (words_of m) vector_tag cell_kind u) (halts m) _ tt
        (λ o e. heap_good (o.at + 1) _ (f (o.at + 1))))

    captured_good : (b x : ℕ) (k : ℕ → Word → FramedOutcome) → ((at : ℕ) (w : Word) → IsSmall bound w → IsGood (k at w)) →
        IsGood (of_captured m b x k)
    captured_good b x k f =
        register_good b _ (λ u s. some_good (captured_at (words_of m) x u) (halts m) _ tt (λ at e. heap_good at _ (f at)))

    number_good : (w : Word) (e : FramedOutcome) (k : ℤ → FramedOutcome) → IsGood e → ((n : ℤ) → IsGood (k n)) → IsGood (of_number w e k)
    number_good (Fix n) e k g f = f n
    number_good (Special n) e k g f = g
    number_good (Char n) e k g f = g
    number_good (Header x n) e k g f = g
    number_good (Pointer x n) e k g f = g
    number_good (Code n) e k g f = g
    number_good (Raw n) e k g f = g

    rest_good : (a n : ℕ) → IsGood (rest_of a n m)
    rest_good a n =
        let us = take (n - a) (drop (a + 1) m.registers) in
        let s = every-take (IsSmall bound) (n - a) _ (every-drop (IsSmall bound) (a + 1) m.registers h.registers) in
        allots_good (list_words (length m.heap) us) (a + 1) (list_at (length m.heap) us) (pairs_small (length m.heap) us s)
        (list_small (length m.heap) us)

    rest_number_good : (a : ℕ) (n : ℤ) → IsGood (rest_number c a n m)
    rest_number_good a (pos n) =
        either_good (nat_lt n a) (fails c m Cause.WrongArgs) _ (λ e. fails_good c m _)
        (λ e. either_good (nat_lt 12 n) (halts m) (rest_of a n m) (λ f. tt) (λ f. rest_good a n))
    rest_number_good a (negsuc n) = fails_good c m _

    saves_good : (x : ℕ) → x ≤ bound → IsGood (framed_perform c m (Save x))
    saves_good x le = requests_good (x + 2) _ (λ room.
        let n = length m.gap - (x + 2) in let d = length-drop (n + 2) m.gap in record {
          registers = h.registers;
          heap = h.heap;
          gap = every-take (IsSmall bound) n m.gap h.gap;
          frames = (
            record { back = tt; slots = every-drop (IsSmall bound) (n + 2) m.gap h.gap; few = omega arith },
            h.frames,
          );
        })

    read_good : (a : ℕ) (w : Word) → IsSmall bound w → IsGood (cond (is_undefined w) (fails c m Cause.Undefined) (Continues (gets a w m)))
    read_good a w s =
        either_good (is_undefined w) (fails c m Cause.Undefined) (Continues (gets a w m)) (λ e. fails_good c m Cause.Undefined)
        (λ e. gets_within a w s)

    pub performs : (i : Instr) → extent i ≤ bound → IsGood (framed_perform c m i)
    performs (Proc x) le = goes_within (m.pc + 1)
    performs (Args a) le =
        register_good 16 _ (λ w s. either_good (same_word w (Fix (pos a))) (Continues (goes_to (m.pc + 1) m)) (fails c m Cause.WrongArgs)
        (λ e. goes_within (m.pc + 1)) (λ e. fails_good c m Cause.WrongArgs))
    performs (ArgsGe a) le = register_good 16 _ (λ w s. number_good w (halts m) _ tt (rest_number_good a))
    performs (Save x) le = saves_good x le
    performs (SetRtn x) le = frame_good _ (λ f fs e n ns. record {
      registers = h.registers;
      heap = h.heap;
      gap = h.gap;
      frames = (record { back = tt; slots = n.slots; few = n.few }, ns);
    })
    performs (Load a x) le = frame_good _ (λ f fs e n ns. some_good (slice_get f.slots x) (halts m) _ tt
        (λ w q. gets_within a w (every-get (IsSmall bound) f.slots x w n.slots q)))
    performs (Store a x) le = frame_good _ (λ f fs e n ns. either_good (nat_lt x (length f.slots)) _ (halts m)
        (λ t. register_good a _ (λ w s. let l = length_set f.slots x w in record {
          registers = h.registers;
          heap = h.heap;
          gap = h.gap;
          frames = (
            record { back = n.back; slots = every-set (IsSmall bound) f.slots x w n.slots s; few = (let k = n.few in omega arith) },
            ns,
          );
        })) (λ t. tt))
      where
        length_set : {X : Type 0} (xs : List X) (i : ℕ) (x : X) → length (slice_set xs i x) ≡ length xs
        length_set [] i x = refl
        length_set (y ∷ xs) zero x = refl
        length_set (y ∷ xs) (suc i) x = ap suc (length_set xs i x)
    performs (Pop x) le = frame_good _ (λ f fs e n ns. either_good (length f.slots == x) _ (halts m)
        (λ t. record {
          registers = h.registers;
          heap = h.heap;
          gap = every-append (IsSmall bound) m.gap _ h.gap (n.back, (tt, n.slots));
          frames = ns;
        }) (λ t. tt))
    performs Return le = frame_good _ (λ f fs e n ns. some_good (place_in (Some f.back)) (halts m) _ tt (λ x q. goes_within x))
    performs (Invoke a) le = procedure_good _ (λ o. enters_good o (record m { registers = slice_set m.registers 16 (Fix (pos a)) }) (record {
      registers = every-set (IsSmall bound) m.registers 16 (Fix (pos a)) h.registers tt;
      heap = h.heap;
      gap = h.gap;
      frames = h.frames;
    }))
    performs (Jump x) le = goes_within x
    performs (Brf a x) le = register_good a _ (λ w s. goes_within _)
    performs (Imm a x) le =
        some_good (imm_word x) (halts m) _ tt (λ w e. gets_within a w (some_small (imm_word x) w (written_small x) e))
    performs (Stat a tag x) le = some_good (slice_get (addresses c.parts) x) (halts m) _ tt (λ at e. gets_within a _ tt)
    performs (Move a b) le = register_good b _ (λ w s. gets_within a w s)
    performs (GlobalGet a x) le = heap_good x _ (λ w s. read_good a w s)
    performs (GlobalSet a x) le = heap_good x _ (λ w s.
        either_good (is_undefined w) (fails c m Cause.Undefined) (of_register m a (λ u. Continues (holds_word x u m)))
        (λ e. fails_good c m Cause.Undefined) (λ e. register_good a (λ u. Continues (holds_word x u m)) (λ u t. holds_within x u t)))
    performs (GlobalDef a x) le = heap_good x _ (λ w s. register_good a _ (λ u t. holds_within x u t))
    performs (Cell a b) le = register_good b _ (λ w s. makes_good vector_tag (cell_words w) a ((λ e. absurd (omega arith)), (s, tt)))
    performs (CellGet a b) le =
        cell_good b (λ at w. cond (is_undefined w) (fails c m Cause.Undefined) (Continues (gets a w m))) (λ at w s. read_good a w s)
    performs (CellSet a b) le =
        cell_good a (λ at w. of_register m b (λ u. Continues (holds_word at u m)))
        (λ at w s. register_good b (λ u. Continues (holds_word at u m)) (λ u t. holds_within at u t))
    performs (Clo a n x) le = makes_good _ (new_procedure n x) a ((λ e. le), (tt, every-replicate (IsSmall bound) _ zero_word tt))
    performs (Capt a b x) le = captured_good b x (λ at w. Continues (gets a w m)) (λ at w s. gets_within a w s)
    performs (CaptSet a b x) le =
        captured_good a x (λ at w. of_register m b (λ u. Continues (holds_word at u m)))
        (λ at w s. register_good b (λ u. Continues (holds_word at u m)) (λ u t. holds_within at u t))
    performs Apply le = procedure_good _ (λ o. register_good 1 _ (λ l s. applies_good o _ (walk_small (words_of m) tame_heap l)))
    performs End le = tt
    performs (Op0 a x) le = carries_good a _ (numbered-tame bound (primitive_at x) effect_0 (effect-0 bound))
    performs (Op1 a b x) le = register_good b _ (λ u s. carries_good a _ (numbered-tame bound (primitive_at x) _
        (λ p. effect-1 bound (words_of m) tame_heap p u s)))
    performs (Op2 a b d x) le = register_good b _ (λ u s. register_good d _ (λ v t. carries_good a _ (numbered-tame bound (primitive_at x) _
        (λ p. effect-2 bound (words_of m) tame_heap p u v s t))))
    performs (Op3 a b d x) le = register_good a _ (λ u s. register_good b _ (λ v t. register_good d _ (λ w r.
        carries_good 16 _ (numbered-tame bound (primitive_at x) _ (λ p. effect-3 bound (words_of m) tame_heap p u v w r)))))

-- an instruction of code is within the bound of the code
within_code : (code : List Instr) (n : ℕ) (i : Instr) → slice_get code n ≡ Some i → extent i ≤ frame_bound code
within_code [] n i e = cc
within_code (j ∷ code) zero i e =
    let s : extent j ≡ extent i = ap extent (same_Some j i e) in omega arith
within_code (j ∷ code) (suc n) i e = let h = within_code code n i e in omega arith

module _ (c : Assembled) where
  abbrev F : ℕ
  F = frame_bound c.code

  fetched_good : (m : Framed) → IsWithin F m → IsGood F (framed_fetched c m)
  fetched_good m h =
      some_good F (slice_get c.code m.pc) (halts m) (framed_perform c m) tt (λ i e. performs F c m h i (within_code c.code m.pc i e))

  taken_small : (t : Taken) → IsSmall F (taken_word t)
  taken_small (Taken.Byte b) = tt
  taken_small Taken.End = tt

  after_good : (m : Framed) (input : List ℕ) (es : List Event) (o : FramedOutcome) → IsWithin F m → IsGood F o →
      IsWithin F (framed_of (framed_after m input es o))
  after_good m input es (Continues m') h g = g
  after_good m input es (Shows e m') h g = g
  after_good m input es (AsksNext a) h g = record {
    registers = every-set (IsSmall F) m.registers a _ h.registers (taken_small (next_taken m.ahead input));
    heap = h.heap;
    gap = h.gap;
    frames = h.frames;
  }
  after_good m input es (AsksAhead a) h g = record {
    registers = every-set (IsSmall F) m.registers a _ h.registers (taken_small (next_taken m.ahead input));
    heap = h.heap;
    gap = h.gap;
    frames = h.frames;
  }
  after_good m input es (Ends s) h g = h

  next_good : (s : FramedState) → IsWithin F (framed_of s) → IsWithin F (framed_of (framed_next (framed_fetched c) s))
  next_good (Runs m input es) h = after_good m input es (framed_fetched c m) h (fetched_good m h)
  next_good (Stays m s input es) h = h

  run_good : (n : ℕ) (s : FramedState) → IsWithin F (framed_of s) → IsWithin F (framed_of (run (framed_next (framed_fetched c)) n s))
  run_good zero s h = h
  run_good (suc n) s h = run_good n (framed_next (framed_fetched c) s) (next_good s h)

  start_good : (heap : ℕ) → IsWithin F (framed_start c heap)
  start_good heap = record {
    registers = every-replicate (IsSmall F) 17 zero_word tt;
    heap = start-small F c.parts;
    gap = every-replicate (IsSmall F) _ zero_word tt;
    frames = tt;
  }

  pub runs-within : (heap : ℕ) (input : List ℕ) (n : ℕ) → IsWithin F (framed_of (after (framed_machine c heap input) n))
  runs-within heap input n = run_good n (Runs (framed_start c heap) input []) (start_good heap)
