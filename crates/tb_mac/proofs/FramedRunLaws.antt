-- A run of the framed machine is the run of the flat one.
use Rattle.std.proofs.Common.{◌≡◌, ℕ, zero, suc, ◌+◌, ◌-◌, ◌≤◌, List, [], ◌∷◌, ◌++◌, length, replicate, Option, Some, None, refl, sym, ap, ◌∙◌, arith, append-nil}
use Rattle.tb_prim.specs.declared.event.Event.{Event}
use Rattle.tb_semantics.specs.Runs.{run, after}
use Rattle.tb_mac.specs.declared.word.Word.{Word}
use Rattle.tb_mac.specs.Assembled.{Assembled}
use Rattle.tb_mac.specs.Words.{zero_word}
use Rattle.tb_mac.specs.Layout.{start_words}
use Rattle.tb_mac.specs.MacStep.{Mac, Outcome, with_input, fetched}
use Rattle.tb_mac.specs.MacEvents.{MacState, Going, Halted, mac_machine, mac_start, next, next_state}
use Rattle.tb_mac.specs.Frames.{Framed, FramedOutcome, Continues, Shows, AsksNext, AsksAhead, Ends, flat, flat_outcome, framed_fetched}
use Rattle.tb_mac.specs.FramedRuns.{FramedState, Runs, Stays, flat_state, framed_after, framed_machine, framed_next, framed_start}
use Rattle.tb_mac.proofs.FrameLaws.{framed_step}

after_flat : (m : Framed) (input : List ℕ) (es : List Event) (o : FramedOutcome) → flat_state (framed_after m input es o) ≡ next_state (flat m) input es (with_input (flat m) input (flat_outcome o))
after_flat m input es (Continues m') = refl
after_flat m input es (Shows e m') = refl
after_flat m input es (AsksNext a) = refl
after_flat m input es (AsksAhead a) = refl
after_flat m input es (Ends s) = refl

next_flat : (c : Assembled) (s : FramedState) → flat_state (framed_next (framed_fetched c) s) ≡ next c (flat_state s)
next_flat c (Runs m input es) = after_flat m input es (framed_fetched c m) ∙ ap (λ (o : Outcome). next_state (flat m) input es (with_input (flat m) input o)) (framed_step c m)
next_flat c (Stays m s input es) = refl

run_flat : (c : Assembled) (n : ℕ) (s : FramedState) → flat_state (run (framed_next (framed_fetched c)) n s) ≡ run (next c) n (flat_state s)
run_flat c zero s = refl
run_flat c (suc n) s = run_flat c n (framed_next (framed_fetched c) s) ∙ ap (run (next c) n) (next_flat c s)

length_copies : (n : ℕ) (w : Word) → length (replicate n w) ≡ n
length_copies zero w = refl
length_copies (suc n) w = ap (λ k. suc k) (length_copies n w)

start_flat : (c : Assembled) (heap : ℕ) → length (start_words c.parts) ≤ heap → flat (framed_start c heap) ≡ mac_start c heap
start_flat c heap h =
    let n = heap - length (start_words c.parts) in
    let e : start_words c.parts ++ (replicate n zero_word ++ []) ≡ start_words c.parts ++ replicate n zero_word = ap (λ (ws : List Word). start_words c.parts ++ ws) (append-nil (replicate n zero_word)) in
    let f : length (start_words c.parts) + length (replicate n zero_word) ≡ heap = omega (arith, h, length_copies n zero_word) in
    cc (e, f)

-- after so many steps
pub framed_run : (c : Assembled) (heap : ℕ) (input : List ℕ) (n : ℕ) → length (start_words c.parts) ≤ heap → flat_state (after (framed_machine c heap input) n) ≡ after (mac_machine c heap input) n
framed_run c heap input n h =
    run_flat c n (Runs (framed_start c heap) input []) ∙ ap (λ (m : Mac). run (next c) n (Going m input [])) (start_flat c heap h)
