-- Steps by the decoded words.
use Rattle.std.proofs.Common.{◌≡◌, ℕ, zero, suc, ◌+◌, [], ◌∷◌, ◌<◌, ◌≤◌, false, List, length, Option, Some, None, IfSome, slice_get, get_or, ◌^◌, refl, sym, ap, subst, inl, ◌∙◌, arith}
use Rattle.std.proofs.Math.Logic.{∥∥₁_elim}
use Rattle.std.proofs.Props.{props}
use Rattle.std.specs.Prelude.{option_map, is_some}
use Rattle.tb_mac.specs.Assembled.{Assembled}
use Rattle.tb_mac.specs.Words.{on_some}
use Rattle.tb_macm.specs.declared.step.Step.{Step}
use Rattle.tb_macm.specs.Steps.{Faults}
use Rattle.tb_macm.proofs.Inputs.{rests_self}
use Rattle.tb_macm.proofs.StepLaws.{adds_nothing}
use Rattle.tb_sparc.specs.declared.code.SparcCode.{SparcCode}
use Rattle.tb_sparc.specs.declared.instr.SparcInstr.{SparcInstr}
use Rattle.tb_sparc.specs.Grouped.{Grouped, group_at}
use Rattle.tb_sparc.specs.GroupedOf.{grouped_of}
use Rattle.tb_sparc.specs.Range.{IsInRange}
use Rattle.tb_sparc.specs.SparcStep.{Sparc, Outcome, entered, fetched, perform, stuck}
use Rattle.tb_sparc.specs.Word.{instr_of}
use Rattle.tb_sparcm.specs.Steps.{StepDoes}
use Rattle.tb_sparcm.specs.calls.Cells.{cells_of}
use Rattle.tb_sparcm.specs.calls.Quiet.{Does, DoesAt, grouped, mark_of}
use Rattle.tb_sparcm.specs.declared.cell.Cell.{Cell}
use Rattle.std.proofs.lemmas.Option.{get_or_from_slice_get}
use Rattle.tb_sparc.proofs.Rows.{instr_of-in_range}
use Rattle.tb_sparcm.proofs.CellLaws.{cell_at, cell_of, no_group}

-- what a cell of the code tells
pub record Tells (g : Grouped) (word : ℕ) (cell : Cell) : Type 0 where
  pub bits : ℕ
  pub here : slice_get g.words word ≡ Some bits
  pub instr : cell.instr ≡ instr_of bits
  pub group : cell.group ≡ group_at g.starts word

tells_by : (g : Grouped) (word : ℕ) (cell : Cell) (o : Option ℕ) → slice_get g.words word ≡ o → Some cell ≡ option_map (cell_of g.starts (0 + word)) o → Tells g word cell
tells_by g word cell None e h = absurd (cc h)
tells_by g word cell (Some w) e h =
    let k : 0 + word ≡ word = omega arith in
    let q : cell ≡ cell_of g.starts (0 + word) w = cc h in
    record { bits = w; here = e; instr = ap (λ (c : Cell). c.instr) q; group = ap (λ (c : Cell). c.group) q ∙ ap (group_at g.starts) k }

pub tells : (g : Grouped) (cells : List Cell) (word : ℕ) (cell : Cell) → cells ≡ cells_of g → Some cell ≡ slice_get cells word → Tells g word cell
tells g cells word cell e h =
    tells_by g word cell (slice_get g.words word) refl (h ∙ ap (λ (cs : List Cell). slice_get cs word) e ∙ cell_at g.starts 0 word g.words)

no_word_by : (g : Grouped) (word : ℕ) (o : Option ℕ) → None ≡ option_map (cell_of g.starts (0 + word)) o → o ≡ None
no_word_by g word None h = refl
no_word_by g word (Some w) h = absurd (cc h)

pub no_word : (g : Grouped) (cells : List Cell) (word : ℕ) → cells ≡ cells_of g → None ≡ slice_get cells word → slice_get g.words word ≡ None
no_word g cells word e h =
    no_word_by g word (slice_get g.words word) (h ∙ ap (λ (cs : List Cell). slice_get cs word) e ∙ cell_at g.starts 0 word g.words)

-- no word, or no instruction
pub nothing_fetched : (c : Assembled) (g : Grouped) (s : Sparc) → slice_get g.words s.pc ≡ None → fetched c g s ≡ stuck s
nothing_fetched c g s h = ap (λ (o : Option ℕ). on_some o (stuck s) (λ w. on_some (instr_of w) (stuck s) (perform c (entered g s)))) h

pub no_instr_fetched : (c : Assembled) (g : Grouped) (s : Sparc) (cell : Cell) → Tells g s.pc cell → cell.instr ≡ None → fetched c g s ≡ stuck s
no_instr_fetched c g s cell t h =
    ap (λ (o : Option ℕ). on_some o (stuck s) (λ w. on_some (instr_of w) (stuck s) (perform c (entered g s)))) t.here
    ∙ ap (λ (o : Option SparcInstr). on_some o (stuck s) (perform c (entered g s))) (sym t.instr ∙ h)

pub instr_fetched : (c : Assembled) (g : Grouped) (s : Sparc) (cell : Cell) (i : SparcInstr) (group : Option ℕ) → Tells g s.pc cell → cell.instr ≡ Some i → cell.group ≡ group → fetched c g s ≡ perform c (grouped group s) i
instr_fetched c g s cell i group t h k =
    ap (λ (o : Option ℕ). on_some o (stuck s) (λ w. on_some (instr_of w) (stuck s) (perform c (entered g s)))) t.here
    ∙ ap (λ (o : Option SparcInstr). on_some o (stuck s) (perform c (entered g s))) (sym t.instr ∙ h)
    ∙ ap (λ (o : Option ℕ). perform c (grouped o s) i) (sym t.group ∙ k)

-- a step that cannot be made
pub stuck_step : (c : Assembled) (g : Grouped) (s : Sparc) (left held : Option (List ℕ)) (f f' : Faults) (r : Step) → fetched c g s ≡ stuck s → Does (stuck s) s s r → StepDoes c g s s left left held held f f' r
stuck_step c g s left held f f' (Step.Went None) e d = absurd (cc d)
stuck_step c g s left held f f' (Step.Went (Some v)) e d = absurd (cc d.0)
stuck_step c g s left held f f' (Step.Stopped stop) e d = (inl (e ∙ d.0), refl, rests_self left, adds_nothing held)

step_by : (c : Assembled) (g : Grouped) (s new : Sparc) (l l' h h' : Option (List ℕ)) (f f' : Faults) (r : Step) → DoesAt (mark_of c (group_at g.starts s.pc)) (fetched c g s) (entered g s) s new l l' h h' f f' r → StepDoes c g s new l l' h h' f f' r
step_by c g s new l l' h h' f f' (Step.Went e) d = let m = d.0 in (record { input = m.input; rest = m.rest; told = m.told; step = m.step }, d.1)
step_by c g s new l l' h h' f f' (Step.Stopped stop) d = d

-- the step of an instruction that was fetched
pub fetched_step : (c : Assembled) (g : Grouped) (s new : Sparc) (cell : Cell) (i : SparcInstr) (group : Option ℕ) (l l' h h' : Option (List ℕ)) (f f' : Faults) (r : Step) → Tells g s.pc cell → cell.instr ≡ Some i → cell.group ≡ group → DoesAt (mark_of c group) (perform c (grouped group s) i) (grouped group s) s new l l' h h' f f' r → StepDoes c g s new l l' h h' f f' r
fetched_step c g s new cell i group l l' h h' f f' r t n k d =
    let e : fetched c g s ≡ perform c (grouped group s) i = instr_fetched c g s cell i group t n k in
    let q : group ≡ group_at g.starts s.pc = sym k ∙ t.group in
    let a : DoesAt (mark_of c group) (fetched c g s) (grouped group s) s new l l' h h' f f' r = subst (λ (o : Outcome). DoesAt (mark_of c group) o (grouped group s) s new l l' h h' f f' r) (sym e) d in
    step_by c g s new l l' h h' f f' r (subst (λ (o : Option ℕ). DoesAt (mark_of c o) (fetched c g s) (grouped o s) s new l l' h h' f f' r) q a)

-- a cell tells whether a group starts
pub tells_start : (g : Grouped) (cells : List Cell) (word : ℕ) (cell : Cell) → cells ≡ cells_of g → Some cell ≡ slice_get cells word → is_some cell.group ≡ is_some (group_at g.starts word)
tells_start g cells word cell e h = ap is_some (tells g cells word cell e h).group

past : (words : List ℕ) (word : ℕ) → slice_get words word ≡ None → length words ≤ word
past [] word h = omega arith
past (w ∷ words) zero h = absurd (cc h)
past (w ∷ words) (suc word) h = let l = past words word h in omega (arith, l)

pub no_start : (sparc : SparcCode) (cells : List Cell) (word : ℕ) → cells ≡ cells_of (grouped_of sparc) → None ≡ slice_get cells word → false ≡ is_some (group_at sparc.starts word)
no_start sparc cells word e h =
    let l = past sparc.words word (no_word (grouped_of sparc) cells word e h) in
    ∥∥₁_elim sparc.rules (hlevel props) (λ rules. sym (ap is_some (no_group sparc.starts (length sparc.words) word rules.below l)))

-- the instruction of a cell has its fields in range
fits_by : (o : Option SparcInstr) (i : SparcInstr) → o ≡ Some i → IfSome o IsInRange → IsInRange i
fits_by None i e h = absurd (cc e)
fits_by (Some j) i e h = let q : j ≡ i = cc e in subst IsInRange q h

pub tells_fits : (g : Grouped) (word : ℕ) (cell : Cell) (i : SparcInstr) (words : List ℕ) → words ≡ g.words → ((k : ℕ) → get_or words k 0 < 2 ^ 32) → Tells g word cell → cell.instr ≡ Some i → IsInRange i
tells_fits g word cell i words e small t h =
    let at : slice_get words word ≡ Some t.bits = ap (λ (ws : List ℕ). slice_get ws word) e ∙ t.here in
    let lt : t.bits < 2 ^ 32 = subst (λ (n : ℕ). n < 2 ^ 32) (get_or_from_slice_get words word t.bits 0 at) (small word) in
    fits_by (instr_of t.bits) i (sym t.instr ∙ h) (instr_of-in_range t.bits lt)
