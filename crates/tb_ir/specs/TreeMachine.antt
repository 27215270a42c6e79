-- How the machine of values runs the core language with cells, and with lambda expressions that are lifted. The
-- rules are those of the reference machine, under any order of the operands.
use Rattle.std.specs.Prelude.{ℕ, zero, suc, ◌-◌, not, Bool, true, false, cond, ◌==◌, List, [], ◌∷◌, ◌++◌, filter, map, length, drop, Option, Some, None, slice_get}
use Rattle.tb_prim.specs.declared.place.Place.{Place}
use Rattle.tb_prim.specs.declared.event.Event.{Event}
use Rattle.tb_semantics.specs.Runs.{Machine}
use Rattle.tb_core.specs.FreeVariables.{without}
use Rattle.tb_core.specs.OperandOrder.{Line}
use Rattle.tb_core.specs.Store.{Value, value_of}
use Rattle.tb_core.specs.Effects.{is_false}
use Rattle.tb_core.specs.Reference.{arranged}
use Rattle.tb_ir.specs.Tree.{Tree, Node, Form, Quote, Local, Global, Lambda, If, NewCell, CellGet, CellSet, SetGlobal, DefGlobal, Let, Letrec, Seq, Call, Direct, PrimUse, Apply, Trees, none, more, count, tree_at, operands, LambdaTree, ProgramTree}
use Rattle.tb_ir.specs.FreeVariables.{free, free_form, free_all, inner_free, added_to, captured}
use Rattle.tb_ir.specs.Machine.{Env, Config, State, Lost, Frame, Val, Procedure, Language, lookup, gather, bind_all, go, push, read_value, give_value, make_closure, make_closures, new_cell, get_cell, set_cell, enter, enter_lifted, apply, use_primitive, assign_global, set_global, Eval, machine_of}

-- what waits for a value: the arms of an `if`; a global that is assigned or defined, with the place; the rest of
-- a sequence; a node with operands that are being evaluated, with the values so far in the order of its line
pub data TreeWork : Type 0 where
  Sel : Tree → Tree → Env → TreeWork
  SetGlo : ℕ → Bool → Place → TreeWork
  Rest : Trees → Env → TreeWork
  Args : Place → ℕ → Form → List Value → Env → TreeWork

-- what a step needs of the program: the free variables of its lambda expressions, and the order
pub record Context : Type 0 where
  pub inner : ℕ → List ℕ
  pub captured : ℕ → List ℕ
  pub line : ℕ → Option (List ℕ)

abbrev pub TreeConfig : Type 0
TreeConfig = Config Tree TreeWork

abbrev pub TreeState : Type 0
TreeState = State Tree TreeWork

abbrev pub Frames : Type 0
Frames = List (Frame TreeWork)

-- evaluate, with the environment cut to the expression
abbrev pub evaluate_cut : Context → TreeConfig → Tree → Env → Frames → List Event → TreeState
evaluate_cut x c e r fs es = go c (Eval e (gather (free x.inner e) r)) fs es

-- so many numbers, from one on
abbrev pub numbers_from : ℕ → ℕ → List ℕ
numbers_from i zero = []
numbers_from i (suc k) = i ∷ numbers_from (suc i) k

-- the operands of a direct call: number 0, the operator of the call that it was, is passed over, and the
-- variables that are added come last
abbrev pub direct_numbers : List ℕ → ℕ → List ℕ
direct_numbers line n =
    map (λ i. i - 1) (filter (λ i. not (i == 0)) line) ++ numbers_from (length line - 1) (n - (length line - 1))

-- the line of a node that may have none: then the operands go in written order
abbrev pub line_or_written : Option (List ℕ) → ℕ → List ℕ
line_or_written None n = numbers_from 0 n
line_or_written (Some line) n = line

abbrev pub direct_line : Option (List ℕ) → ℕ → List ℕ
direct_line None n = numbers_from 0 n
direct_line (Some line) n = direct_numbers line n

-- the numbers of the operands of a node in the order in which they are evaluated; those of cells go in written
-- order
abbrev pub numbers : Option (List ℕ) → Form → List ℕ
numbers line (NewCell e) = 0 ∷ []
numbers line (CellGet e) = 0 ∷ []
numbers line (CellSet c e) = 0 ∷ 1 ∷ []
numbers line (Direct l es) = direct_line line (count es)
numbers line f = line_or_written line (count (operands f))

-- a sequence: its first expression, above a frame for the rest where more than one is left
abbrev pub sequence : Context → TreeConfig → Trees → Env → Frames → List Event → TreeState
sequence x c none r fs es = Lost c es
sequence x c (more e none) r fs es = evaluate_cut x c e r fs es
sequence x c (more e (more d ds)) r fs es =
    evaluate_cut x c e r (push (Rest (more d ds) (gather (free_all x.inner (more d ds)) r)) fs) es

-- the free variables of the operands of these numbers
abbrev pub free_of_tree : Context → Option Tree → List ℕ
free_of_tree x None = []
free_of_tree x (Some e) = free x.inner e

abbrev pub free_of_numbers : Context → Trees → List ℕ → List ℕ
free_of_numbers x es [] = []
free_of_numbers x es (n ∷ ns) = free_of_tree x (tree_at es n) ++ free_of_numbers x es ns

-- the free variables of a `let` that are those of its body
abbrev pub free_of_body : Context → Form → List ℕ
free_of_body x (Let xs es e) = without xs (free x.inner e)
free_of_body x _ = []

-- a node whose operands have all been evaluated, with their values by number
abbrev pub complete : Context → TreeConfig → Place → Form → List Value → Env → Frames → List Event → TreeState
complete x c p (NewCell e) (v ∷ []) r fs es = new_cell c v fs es
complete x c p (CellGet e) (v ∷ []) r fs es = get_cell c p v fs es
complete x c p (CellSet d e) (v ∷ w ∷ []) r fs es = set_cell c v w fs es
complete x c p (Call f ds) (v ∷ vs) r fs es = enter c p v vs fs es
complete x c p (Direct l ds) vs r fs es = enter_lifted c l vs fs es
complete x c p (Apply f l) (v ∷ w ∷ []) r fs es = apply c p v w fs es
complete x c p (PrimUse q ds) vs r fs es = use_primitive c p q vs fs es
complete x c p (Let xs ds e) vs r fs es = evaluate_cut x c e (bind_all xs vs r) fs es
complete x c p _ vs r fs es = Lost c es

-- the next operand: its environment is cut to it, and that of the frame to the operands after it, and for a
-- `let` to the body also
abbrev pub operand : Context → TreeConfig → Place → ℕ → Form → List Value → Env → List ℕ → Option Tree → Frames →
    List Event → TreeState
operand x c p s f vs r ns None fs es = Lost c es
operand x c p s f vs r ns (Some e) fs es =
    evaluate_cut x c e r (push (Args p s f vs (gather (free_of_numbers x (operands f) ns ++ free_of_body x f) r)) fs) es

-- a node with some of its operands evaluated goes on with those that are left
abbrev pub operands_left : Context → TreeConfig → Place → ℕ → Form → List Value → Env → List ℕ → List ℕ → Frames →
    List Event → TreeState
operands_left x c p s f vs r all [] fs es = complete x c p f (arranged 0 (length all) all vs) r fs es
operands_left x c p s f vs r all (n ∷ ns) fs es = operand x c p s f vs r ns (tree_at (operands f) n) fs es

abbrev pub continue : Context → TreeConfig → Place → ℕ → Form → List Value → Env → Frames → List Event → TreeState
continue x c p s f vs r fs es =
    let all = numbers (x.line s) f in operands_left x c p s f vs r all (drop (length vs) all) fs es

-- the evaluation of each form
abbrev pub eval_form : Context → TreeConfig → Place → ℕ → Form → Env → List Event → TreeState
eval_form x c p s (Quote k) r es = go c (Val (value_of k)) c.frames es
eval_form x c p s (Local y) r es = give_value c (lookup r y) es
eval_form x c p s (Global g) r es = read_value c p (slice_get c.globals g) es
eval_form x c p s (Lambda l) r es = make_closure c l (x.captured l) r es
eval_form x c p s (If a b d) r es =
    evaluate_cut x c a r (push (Sel b d (gather (free x.inner b ++ free x.inner d) r)) c.frames) es
eval_form x c p s (SetGlobal g e) r es = evaluate_cut x c e r (push (SetGlo g false p) c.frames) es
eval_form x c p s (DefGlobal g e) r es = evaluate_cut x c e r (push (SetGlo g true p) c.frames) es
eval_form x c p s (Seq ds) r es = sequence x c ds r c.frames es
eval_form x c p s (Letrec xs ls e) r es =
    make_closures x.captured c xs ls e (gather (free_form x.inner (Letrec xs ls e)) r) es
eval_form x c p s f r es = continue x c p s f [] r c.frames es

abbrev pub evaluate : Context → TreeConfig → Tree → Env → List Event → TreeState
evaluate x c (Node p s f) r es = eval_form x c p s f r es

-- what a frame does with a value, above the frames below it
abbrev pub give : Context → TreeConfig → Value → TreeWork → Frames → List Event → TreeState
give x c v (Sel a b r) fs es = cond (is_false v) (evaluate_cut x c b r fs es) (evaluate_cut x c a r fs es)
give x c v (SetGlo g true p) fs es = assign_global c g v fs es
give x c v (SetGlo g false p) fs es = set_global c g p v fs es
give x c v (Rest ds r) fs es = sequence x c ds r fs es
give x c v (Args p s f vs r) fs es = continue x c p s f (vs ++ v ∷ []) r fs es

-- the values of an environment, and of what waits
abbrev pub env_values : Env → List Value
env_values Env.Empty = []
env_values (Env.Bind x v r) = v ∷ env_values r

abbrev pub work_values : TreeWork → List Value
work_values (Sel a b r) = env_values r
work_values (SetGlo g defines p) = []
work_values (Rest es r) = env_values r
work_values (Args p s f vs r) = vs ++ env_values r

-- the line of the node of this number, where it has one
abbrev pub line_of : List Line → ℕ → Option (List ℕ)
line_of [] s = None
line_of (l ∷ ls) s = cond (l.site == s) (Some l.order) (line_of ls s)

abbrev pub context_of : ProgramTree → List Line → Context
context_of p order = record { inner = inner_free p; captured = captured p; line = line_of order }

-- a lambda expression as a procedure
abbrev pub procedure_of : ProgramTree → ℕ → Option LambdaTree → Option (Procedure Tree)
procedure_of p l None = None
procedure_of p l (Some m) = Some (record {
  place = m.place;
  formals = m.formals;
  rest = m.rest;
  added = added_to p.set l;
  captured = captured p l;
  body = m.body;
})

abbrev pub language : ProgramTree → List Line → Language Tree TreeWork
language p order =
    let x = context_of p order in
    record {
      procedure = λ l. procedure_of p l (slice_get p.lambdas l);
      form = tree_at p.forms;
      free = free x.inner;
      evaluate = evaluate x;
      give = give x;
      values = work_values;
    }

-- the machine of a program with cells, or with lambda expressions that are lifted, under an order, with the input
abbrev pub tree_machine : ProgramTree → List Line → List ℕ → Machine Event TreeState
tree_machine p order input = machine_of (language p order) p.globals p.statics input
