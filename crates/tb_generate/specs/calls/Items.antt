-- The items of code, each with its live map as lists of bits. An operation has the slots that are live where it stands,
-- and those that are live where its value comes.
use Rattle.std.specs.Prelude.{ℕ, suc, ◌+◌, Bool, true, false, cond, List, [], ◌∷◌, ◌++◌, length, None}
use Rattle.tb_core.specs.FreeVariables.{without}
use Rattle.tb_ir.specs.AnfTree.{Operand, Block, Bind, CloseAll, Tail, Op, SetGlobal, DefGlobal, CellSet, Close, Branch}
use Rattle.tb_ir.specs.AnfMachine.{free_block}
use Rattle.tb_mac.specs.declared.code.Instr.TheVariants as I
use Rattle.tb_mac.specs.declared.item.Item.{Item}
use Rattle.tb_mac.specs.declared.item.Item.TheVariants.{Label}
use Rattle.tb_mac.specs.Words.{imm_bits, unspecified}
use Rattle.tb_codegen.specs.Generate.{settled, labels_in, labels_of}
use Rattle.tb_codegen.specs.Operations.{Body, result, load, operands, first_register, act, place, is_call}
use Rattle.tb_generate.specs.calls.Bits.{no_registers, one_register, with_bit, with_slots, here_item, away_item}
use Rattle.tb_generate.specs.declared.waiting.Ending.{Ending}
use Rattle.tb_generate.specs.declared.waiting.Ending.TheVariants.{ToCaller, ToTop, Then}

-- the values of atoms go to registers that follow one another
abbrev pub loads_items : Body → List Bool → List Bool → ℕ → List Operand → List Item
loads_items c ss rs a [] = []
loads_items c ss rs a (d ∷ ds) = here_item (load c a d) rs ss None ∷ loads_items c ss (with_bit rs a) (suc a) ds

abbrev pub loaded_bits : List Bool → ℕ → List Operand → List Bool
loaded_bits rs a [] = rs
loaded_bits rs a (d ∷ ds) = loaded_bits (with_bit rs a) (suc a) ds

abbrev pub operand_items : Body → List Bool → Op → List Item
operand_items c ss op = loads_items c ss no_registers (first_register op) (operands op)

abbrev pub operand_bits : Op → List Bool
operand_bits op = loaded_bits no_registers (first_register op) (operands op)

-- a captured word of the procedure in RESULT
abbrev pub one_word : Body → List Bool → ℕ → ℕ → List Item
one_word c ss j x =
    here_item (I.Load 1 (c.home x)) (one_register result) ss None ∷
    here_item (I.CaptSet result 1 j) (with_bit (one_register result) 1) ss None ∷ []

-- the captured words of a new procedure
abbrev pub fill_items : Body → List Bool → ℕ → List ℕ → List Item
fill_items c ws j [] = []
fill_items c ws j (x ∷ xs) = one_word c (with_slots c.home (x ∷ xs) 0 ws) j x ++ fill_items c ws (suc j) xs

abbrev pub unspecified_items : List Bool → List Item
unspecified_items ws = here_item (I.Imm result (imm_bits unspecified)) no_registers ws None ∷ []

abbrev pub behind_items : Body → List Bool → Op → List Item
behind_items c ws (SetGlobal g a p) = unspecified_items ws
behind_items c ws (DefGlobal g a) = unspecified_items ws
behind_items c ws (CellSet a b) = unspecified_items ws
behind_items c ws (Close m) = fill_items c ws 0 (c.captured m)
behind_items c ws op = []

-- an operation that is no call, a call that comes back to a label, and one in tail position
abbrev pub simple_items : Body → Op → List Bool → List Bool → List Item
simple_items c op ws ss =
    operand_items c ss op ++ (here_item (act c 0 op) (operand_bits op) ss (place op) ∷ behind_items c ws op)

abbrev pub returning_items : Body → Op → ℕ → List Bool → List Item
returning_items c op l ss =
    operand_items c ss op ++
    (here_item (I.SetRtn l) (operand_bits op) ss None ∷ here_item (act c l op) (operand_bits op) ss (place op) ∷ Label l ∷ [])

abbrev pub leaving_items : Body → Op → List Bool → List Item
leaving_items c op ss =
    operand_items c ss op ++
    (here_item (I.Pop c.size) (operand_bits op) ss None ∷ away_item (act c 0 op) (operand_bits op) (place op) ∷ [])

abbrev pub evaluated_items : Body → Op → List Bool → ℕ → List Bool → List Item
evaluated_items c op ws l ss = cond (is_call op) (returning_items c op l ss) (simple_items c op ws ss)

-- a value in RESULT goes to a slot, or to what waits for it
abbrev pub keep_items : ℕ → List Bool → List Item
keep_items h ws = here_item (I.Store result h) (one_register result) ws None ∷ []

abbrev pub given_items : Body → List Bool → Ending → List Item
given_items c ws ToCaller =
    here_item (I.Pop c.size) (one_register result) ws None ∷ away_item I.Return (one_register result) None ∷ []
given_items c ws ToTop = here_item (I.Pop c.size) (one_register result) ws None ∷ []
given_items c ws (Then h l next) = keep_items h ws ++ (here_item (I.Jump l) no_registers next None ∷ [])

abbrev pub is_caller : Ending → Bool
is_caller ToCaller = true
is_caller ToTop = false
is_caller (Then h l next) = false

abbrev pub last_items : Body → Op → List Bool → Ending → ℕ → List Bool → List Item
last_items c op ws ToCaller l ss =
    cond (is_call op) (leaving_items c op ss) (evaluated_items c op ws l ss ++ given_items c ws ToCaller)
last_items c op ws ToTop l ss = evaluated_items c op ws l ss ++ given_items c ws ToTop
last_items c op ws (Then h m next) l ss = evaluated_items c op ws l ss ++ given_items c ws (Then h m next)

-- procedures that are made together
abbrev pub make_items : Body → List Bool → List ℕ → List ℕ → List Item
make_items c ss (y ∷ ys) (m ∷ ms) =
    here_item (I.Clo result (length (c.captured m)) m) no_registers ss None ∷
    here_item (I.Store result (c.home y)) (one_register result) ss None ∷
    make_items c (with_slots c.home (y ∷ []) 0 ss) ys ms
make_items c ss ys [] = []
make_items c ss [] (m ∷ ms) = []

abbrev pub word_items : Body → List Bool → ℕ → List ℕ → List Item
word_items c ss j [] = []
word_items c ss j (x ∷ xs) = one_word c ss j x ++ word_items c ss (suc j) xs

abbrev pub all_word_items : Body → ℕ → List Bool → List ℕ → List Item
all_word_items c y ss [] = []
all_word_items c y ss (x ∷ xs) =
    here_item (I.Load result (c.home y)) no_registers ss None ∷ word_items c ss 0 (x ∷ xs)

abbrev pub write_items : Body → List Bool → List ℕ → List ℕ → List Item
write_items c ss (y ∷ ys) (m ∷ ms) = all_word_items c y ss (c.captured m) ++ write_items c ss ys ms
write_items c ss ys [] = []
write_items c ss [] (m ∷ ms) = []

abbrev pub block_slots : Body → List Bool → Block → List Bool
block_slots c ws b = with_slots c.home (free_block c.captured b) 0 ws

abbrev pub group_items : Body → List ℕ → List ℕ → List Bool → List Item
group_items c xs ls ss = make_items c ss xs ls ++ write_items c (with_slots c.home xs 0 ss) xs ls

-- where the first arm of a branch goes on at the top level
abbrev pub passing_items : Ending → ℕ → List Item
passing_items ToTop l = away_item (I.Jump l) no_registers None ∷ []
passing_items e l = []

abbrev pub passed_items : Ending → ℕ → List Item
passed_items ToTop l = Label l ∷ []
passed_items e l = []

-- the slots that are live where the value of an operation comes that x is bound to, and what waits for it
abbrev pub bound_slots : Body → List Bool → ℕ → Block → List Bool
bound_slots c ws x k = with_slots c.home (without (x ∷ []) (free_block c.captured k)) 0 ws

abbrev pub arm_ending : Body → List Bool → ℕ → Block → ℕ → Ending
arm_ending c ws x k l = Then (c.home x) l (block_slots c ws (settled k))

abbrev pub test_items : Body → List Bool → Operand → ℕ → List Item
test_items c ss a l =
    loads_items c ss no_registers 1 (a ∷ []) ++ (here_item (I.Brf 1 l) (loaded_bits no_registers 1 (a ∷ [])) ss None ∷ [])

-- an operation that is no branch, to whose value a variable is bound
abbrev pub plain_items : Body → Op → ℕ → List Bool → ℕ → List Bool → List Item
plain_items c op x vs l ss = evaluated_items c op vs l ss ++ keep_items (c.home x) vs

-- the code of a block, with the slots that are live where its value comes, what waits for that, and the first label
-- that is free
unfoldable mutual
  pub block_items : Body → Block → List Bool → Ending → ℕ → List Item
  block_items c (Bind x op b) ws e l =
      bound_items c op x b ws (block_slots c ws (Bind x op b)) l ++ block_items c b ws e (l + labels_of op)
  block_items c (CloseAll xs ls b) ws e l =
      group_items c xs ls (block_slots c ws (CloseAll xs ls b)) ++ block_items c b ws e l
  block_items c (Tail op) ws e l = tail_items c op ws (block_slots c ws (Tail op)) e l

  pub bound_items : Body → Op → ℕ → Block → List Bool → List Bool → ℕ → List Item
  bound_items c (Branch a b d) x k ws ss l =
      test_items c ss a (suc l) ++
      (block_items c b (bound_slots c ws x k) (arm_ending c ws x k l) (l + 2) ++
      (Label (suc l) ∷
      (block_items c d (bound_slots c ws x k) (arm_ending c ws x k l) (l + 2 + labels_in b) ++ (Label l ∷ []))))
  bound_items c op x k ws ss l = plain_items c op x (bound_slots c ws x k) l ss

  pub tail_items : Body → Op → List Bool → List Bool → Ending → ℕ → List Item
  tail_items c (Branch a b d) ws ss e l =
      test_items c ss a (suc l) ++
      (block_items c b ws e (l + 2) ++
      (passing_items e l ++ (Label (suc l) ∷ (block_items c d ws e (l + 2 + labels_in b) ++ passed_items e l))))
  tail_items c op ws ss e l = last_items c op ws e l ss
