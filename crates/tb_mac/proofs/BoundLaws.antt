-- The bounds of code, instruction by instruction.
use Rattle.std.proofs.Common.{◌≡◌, ℕ, zero, suc, ◌+◌, ◌≤◌, ◌<◌, max, List, [], ◌∷◌, length, drop, get_or, refl, sym, ap, ◌∙◌, arith}
use Rattle.std.proofs.Math.Seq.{drop-cons}
use Rattle.tb_mac.specs.declared.code.Instr.{Instr}
use Rattle.tb_mac.specs.declared.code.Instr.TheVariants.{Proc, Args, ArgsGe, Save, SetRtn, Load, Store, Pop, Return, Invoke, Jump, Brf, Imm, Stat, Move, GlobalGet, GlobalSet, GlobalDef, Cell, CellGet, CellSet, Clo, Capt, CaptSet, Apply, End, Op0, Op1, Op2, Op3}
use Rattle.tb_mac.specs.calls.Windows.{run_behind}
use Rattle.tb_mac.specs.Bounds.{extent, frame_bound, before_proc, longest_procedure, window_bound}

drop_all : {X : Type 0} (ws : List X) (k : ℕ) → k ≡ length ws → drop k ws ≡ []
drop_all [] zero e = refl
drop_all [] (suc k) e = refl
drop_all (w ∷ ws) zero e = absurd (omega (arith, e))
drop_all (w ∷ ws) (suc k) e = drop_all ws k (omega (arith, e))

drop_here : {X : Type 0} (ws : List X) (k : ℕ) (w : X) → k < length ws → w ≡ get_or ws k w → drop k ws ≡ w ∷ drop (k + 1) ws
drop_here ws k w lt h =
    let kk : suc k ≡ k + 1 = omega arith in
    drop-cons ws k w lt ∙ ap (λ x. x ∷ drop (suc k) ws) (sym h) ∙ ap (λ n. w ∷ drop n ws) kk

-- the largest extent before instruction k, of all
pub record Largest (largest k total : ℕ) (code : List Instr) : Type 0 where
  pub rest : max largest (frame_bound (drop k code)) ≡ total

pub largest_step : (largest k total e : ℕ) (code : List Instr) (i : Instr) → k < length code → i ≡ get_or code k i → e ≡ extent i → Largest largest k total code → Largest (max e largest) (k + 1) total code
largest_step largest k total e code i lt h x p =
    let f : frame_bound (drop k code) ≡ max (extent i) (frame_bound (drop (k + 1) code)) = ap frame_bound (drop_here code k i lt h) in
    let g : max largest (frame_bound (drop k code)) ≡ total = p.rest in
    record { rest = omega (arith, f, g, x) }

pub largest_end : (largest k total : ℕ) (code : List Instr) → k ≡ length code → Largest largest k total code → largest ≡ total
largest_end largest k total code e p =
    let f : frame_bound (drop k code) ≡ 0 = ap frame_bound (drop_all code k e) in
    let g : max largest (frame_bound (drop k code)) ≡ total = p.rest in
    omega (arith, f, g)

-- the longest run before instruction k, and the one that goes on there
pub record Longest (longest run k total : ℕ) (code : List Instr) : Type 0 where
  pub within : run ≤ longest
  pub few : run ≤ k
  pub rest : max longest (max (run + before_proc (drop k code)) (longest_procedure (drop k code))) ≡ total

-- what the bounds of a row of instructions come to, by the first
before_first : (i : Instr) (is : List Instr) (run longest : ℕ) → run ≤ longest → max (max (run_behind i run) longest) (max (run_behind i run + before_proc is) (longest_procedure is)) ≡ max longest (max (run + before_proc (i ∷ is)) (longest_procedure (i ∷ is)))
before_first (Proc x) is run longest h = omega (arith, h)
before_first (Args a) is run longest h = omega (arith, h)
before_first (ArgsGe a) is run longest h = omega (arith, h)
before_first (Save a) is run longest h = omega (arith, h)
before_first (SetRtn a) is run longest h = omega (arith, h)
before_first (Load a b) is run longest h = omega (arith, h)
before_first (Store a b) is run longest h = omega (arith, h)
before_first (Pop a) is run longest h = omega (arith, h)
before_first Return is run longest h = omega (arith, h)
before_first (Invoke a) is run longest h = omega (arith, h)
before_first (Jump a) is run longest h = omega (arith, h)
before_first (Brf a b) is run longest h = omega (arith, h)
before_first (Imm a b) is run longest h = omega (arith, h)
before_first (Stat a b c) is run longest h = omega (arith, h)
before_first (Move a b) is run longest h = omega (arith, h)
before_first (GlobalGet a b) is run longest h = omega (arith, h)
before_first (GlobalSet a b) is run longest h = omega (arith, h)
before_first (GlobalDef a b) is run longest h = omega (arith, h)
before_first (Cell a b) is run longest h = omega (arith, h)
before_first (CellGet a b) is run longest h = omega (arith, h)
before_first (CellSet a b) is run longest h = omega (arith, h)
before_first (Clo a b c) is run longest h = omega (arith, h)
before_first (Capt a b c) is run longest h = omega (arith, h)
before_first (CaptSet a b c) is run longest h = omega (arith, h)
before_first Apply is run longest h = omega (arith, h)
before_first End is run longest h = omega (arith, h)
before_first (Op0 a b) is run longest h = omega (arith, h)
before_first (Op1 a b c) is run longest h = omega (arith, h)
before_first (Op2 a b c d) is run longest h = omega (arith, h)
before_first (Op3 a b c d) is run longest h = omega (arith, h)

pub longest_step : (longest run k total r : ℕ) (code : List Instr) (i : Instr) → k < length code → i ≡ get_or code k i → r ≡ run_behind i run → r ≤ k + 1 → Longest longest run k total code → Longest (max r longest) r (k + 1) total code
longest_step longest run k total r code i lt h x few p =
    let is = drop (k + 1) code in
    let f : max longest (max (run + before_proc (drop k code)) (longest_procedure (drop k code))) ≡ max longest (max (run + before_proc (i ∷ is)) (longest_procedure (i ∷ is))) =
    ap (λ (js : List Instr). max longest (max (run + before_proc js) (longest_procedure js))) (drop_here code k i lt h) in
    let g : max (max (run_behind i run) longest) (max (run_behind i run + before_proc is) (longest_procedure is)) ≡ total = before_first i is run longest p.within ∙ sym f ∙ p.rest in
    record {
      within = omega arith;
      few = few;
      rest = ap (λ (n : ℕ). max (max n longest) (max (n + before_proc is) (longest_procedure is))) x ∙ g;
    }

pub longest_end : (longest run k total : ℕ) (code : List Instr) → k ≡ length code → Longest longest run k total code → longest ≡ total
longest_end longest run k total code e p =
    let f : max longest (max (run + before_proc (drop k code)) (longest_procedure (drop k code))) ≡ max longest (max (run + 0) 0) =
    ap (λ (js : List Instr). max longest (max (run + before_proc js) (longest_procedure js))) (drop_all code k e) in
    let g : max longest (max (run + 0) 0) ≡ total = sym f ∙ p.rest in
    omega (arith, g, p.within)
