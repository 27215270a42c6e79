-- Where a step of the machine comes to a value, or to a block, as the source does.
use Rattle.std.proofs.Common.{◌≡◌, refl, sym, ◌∙◌, subst, ap, ℕ, suc, ◌+◌, ◌<◌, inl, arith, List, [], ◌∷◌, ◌++◌, length}
use Rattle.std.proofs.Common.{append-nil}
use Rattle.tb_semantics.specs.Graph.{IsIn}
use Rattle.tb_semantics.specs.Runs.{run}
use Rattle.tb_semantics.proofs.RunLaws.{run-add}
use Rattle.tb_core.specs.FreeVariables.{without}
use Rattle.tb_core.specs.Store.{Value}
use Rattle.tb_ir.specs.AnfTree.{Block, CloseAll, AnfTree}
use Rattle.tb_ir.specs.AnfMachine.{AnfFrames, AnfState, InBlock}
use Rattle.tb_ir.specs.Machine.{Env, Empty, Eval, Val, gather}
use Rattle.tb_mac.specs.declared.word.Word.{Word}
use Rattle.tb_mac.specs.Frames.{Frame as MacFrame}
use Rattle.tb_codegen.specs.Notes.{Entry, Own, Note, Inside, AtBlock, AtValue, Waiting}
use Rattle.tb_codegen.specs.Generate.{settled}
use Rattle.tb_codegen.proofs.Envs.{gather-sub}
use Rattle.tb_codegen.proofs.Ok.{HasNote, Settles, s_more, s_group, s_bind, s_tail, free}
use Rattle.tb_codegen.proofs.Rel.{Closed, FsRel, Holds, JRel, Memory, OwnRel, at_block, at_value, Rel, World, r_inside, step_of}
use Rattle.tb_codegen.proofs.Sim.{Sim, Still, source, target}

without_none : (xs : List ℕ) → without [] xs ≡ xs
without_none [] = refl
without_none (x ∷ xs) = ap (λ ys. x ∷ ys) (without_none xs)

module _ (p : AnfTree) (notes : List Note) (limit : ℕ) where
  free_more : (b : Block) → free p (CloseAll [] [] b) ≡ free p b
  free_more b = without_none (free p b)

  -- the source passes over groups of no procedures
  pub settle : (k : Block) → Settles k → (r : Env) (y : Still) (gs : AnfFrames) → (n : ℕ) ×
      (run (step_of p notes) n (source p notes limit y (Eval (InBlock k) (gather (free p k) r)) gs)
      ≡ source p notes limit y (Eval (InBlock (settled k)) (gather (free p (settled k)) r)) gs)
  settle k (s_more {b = b} h) r y gs =
      let t = settle b h r y gs in
      let F = free p (CloseAll [] [] b) in
      let sub : gather (free p b) (gather F (gather F r)) ≡ gather (free p b) r =
      gather-sub (free p b) F (gather F r) (λ z i. subst (λ xs. IsIn z xs) (sym (free_more b)) i)
      ∙ gather-sub (free p b) F r (λ z i. subst (λ xs. IsIn z xs) (sym (free_more b)) i) in
      let nil : y.st ++ [] ≡ y.st = append-nil y.st in
      (suc (suc t.0), rw (sub, nil) t.1)
  settle k (s_group x xs ls b) r y gs = (0, refl)
  settle k (s_bind x op b) r y gs = (0, refl)
  settle k (s_tail op) r y gs = (0, refl)

  pub lands_block : (y : Still) {w : World} {own : Own} {map : List Entry} {js : Waiting} {rs : List Env} {gs fs : AnfFrames}
      {slots : List Word} {top ms : List MacFrame} (k : Block) (r : Env) (s : AnfState) (m j : ℕ) → Settles k →
      run (step_of p notes) m s ≡ source p notes limit y (Eval (InBlock k) (gather (free p k) r)) gs → 0 < m →
      HasNote p notes y.pc (Inside (AtBlock (settled k) js) own map) → JRel js rs gs fs →
      Holds p y.st w (gather (free p (settled k)) r ∷ rs) y.regs slots map → OwnRel own slots top ms → FsRel p notes w fs ms →
      Memory p notes w Closed y.heap y.st y.globals y.ahead y.input y.cin y.met → length y.regs ≡ 17 →
      Sim p notes limit (target p notes limit y top) j s
  lands_block y {w = w} {gs = gs} {top = top} k r s m j se e some n jr h o f mem len =
      let t = settle k se r y gs in
      let there : run (step_of p notes) (m + t.0) s ≡ source p notes limit y (Eval (InBlock (settled k)) (gather (free p (settled k)) r)) gs =
      run-add (step_of p notes) m t.0 s ∙ ap (run (step_of p notes) t.0) e ∙ t.1 in
      let rel : Rel p notes w (target p notes limit y top) (source p notes limit y (Eval (InBlock (settled k)) (gather (free p (settled k)) r)) gs) =
      r_inside y.es n (at_block (settled k) (gather (free p (settled k)) r) (record { whole = r; cut = refl }) jr) h o f mem len in
      (m + t.0, (w, subst (Rel p notes w (target p notes limit y top)) (sym there) rel), inl (omega arith))

  pub lands_value : (y : Still) {w : World} {own : Own} {map : List Entry} {js : Waiting} {rs : List Env} {gs fs : AnfFrames}
      {slots : List Word} {top ms : List MacFrame} (v : Value) (s : AnfState) (m j : ℕ) →
      run (step_of p notes) m s ≡ source p notes limit y (Val v) gs → 0 < m →
      HasNote p notes y.pc (Inside (AtValue js) own map) → JRel js rs gs fs →
      Holds p y.st w (Env.Bind 0 v Empty ∷ rs) y.regs slots map → OwnRel own slots top ms → FsRel p notes w fs ms →
      Memory p notes w Closed y.heap y.st y.globals y.ahead y.input y.cin y.met → length y.regs ≡ 17 →
      Sim p notes limit (target p notes limit y top) j s
  lands_value y {w = w} {gs = gs} {top = top} v s m j e some n jr h o f mem len =
      let rel : Rel p notes w (target p notes limit y top) (source p notes limit y (Val v) gs) = r_inside y.es n (at_value v jr) h o f mem len in
      (m, (w, subst (Rel p notes w (target p notes limit y top)) (sym e) rel), inl some)
