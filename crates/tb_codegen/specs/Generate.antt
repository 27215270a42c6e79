-- Plain code: each procedure makes a frame at its entry, with a slot for each of its variables, and each top-level
-- form makes one at its start, which its end takes away. Labels are counted on from a first one.
use Rattle.std.specs.Prelude.{ℕ, suc, ◌+◌, Bool, true, false, cond, List, [], ◌∷◌, ◌++◌, length, Some, None}
use Rattle.tb_core.specs.FreeVariables.{is_in}
use Rattle.tb_ir.specs.AnfTree.{Block, Bind, CloseAll, Tail, Op, Branch, ProcTree, AnfTree}
use Rattle.tb_ir.specs.AnfMachine.{free_block, proc_of, captured_by, own_formals}
use Rattle.tb_ir.specs.AnfRules.{forms_of, lambdas_of}
use Rattle.tb_mac.specs.declared.code.Instr.{Instr}
use Rattle.tb_mac.specs.declared.code.Instr.TheVariants as I
use Rattle.tb_codegen.specs.Homes.{slot_of, frame_size}
use Rattle.tb_codegen.specs.Notes.{Reg, Variable, Itself, Entry, Stands, Waiting, ToCaller, ToTop, Then, Point, AtBlock, AtValue, AtAll, Away, Note, Inside, AtProc, AtArgs, AtLifted, Noted, Mark, Does}
use Rattle.tb_codegen.specs.Operations.{Body, result, variables, waiting_map, block_map, value_map, here, loads, loaded, is_call, leaving, evaluated}

-- no code stands for a group of no procedures
abbrev pub settled : Block → Block
settled (CloseAll [] ls b) = settled b
settled (CloseAll (x ∷ xs) ls b) = CloseAll (x ∷ xs) ls b
settled (Bind x op b) = Bind x op b
settled (Tail op) = Tail op

abbrev pub block_point : Block → Waiting → Point
block_point b js = AtBlock (settled b) js

abbrev pub block_note : Body → Block → Waiting → Note
block_note c b js = here c (block_point b js) (block_map c (settled b) js)

-- a value in RESULT goes to the slot of its variable
abbrev pub keep : Body → ℕ → Waiting → List Noted
keep c x js = Does (I.Store result (c.home x)) (here c (AtValue js) (value_map c js)) None ∷ []

-- a value in RESULT goes to what waits for it
abbrev pub given : Body → Waiting → List Noted
given c ToCaller =
    Does (I.Pop c.size) (here c (AtValue ToCaller) (value_map c ToCaller)) None ∷
    Does I.Return (Inside (AtValue ToCaller) Away (value_map c ToCaller)) None ∷ []
given c (ToTop k) = Does (I.Pop c.size) (here c (AtValue (ToTop k)) (value_map c (ToTop k))) None ∷ []
given c (Then x b l js) = keep c x (Then x b l js) ++ (Does (I.Jump l) (block_note c b js) None ∷ [])

-- an operation in tail position: a call there leaves the procedure, but not a form
abbrev pub last : Body → Op → Waiting → ℕ → List Noted
last c op ToCaller l =
    cond (is_call op) (leaving c op (AtBlock (Tail op) ToCaller) (block_map c (Tail op) ToCaller))
    (evaluated c op (AtBlock (Tail op) ToCaller) ToCaller l (block_map c (Tail op) ToCaller) ++ given c ToCaller)
last c op (ToTop k) l = evaluated c op (AtBlock (Tail op) (ToTop k)) (ToTop k) l (block_map c (Tail op) (ToTop k)) ++ given c (ToTop k)
last c op (Then x b m js) l =
    evaluated c op (AtBlock (Tail op) (Then x b m js)) (Then x b m js) l (block_map c (Tail op) (Then x b m js)) ++
    given c (Then x b m js)

-- procedures that are made together: each is made and stored, and then their captured words are written. The first
-- of them are `done`.
abbrev pub zeros : List ℕ → List ℕ
zeros [] = []
zeros (m ∷ ms) = 0 ∷ zeros ms

abbrev pub counts : Body → List ℕ → List ℕ
counts c [] = []
counts c (m ∷ ms) = length (c.captured m) ∷ counts c ms

abbrev pub group_map : Body → List ℕ → List ℕ → Block → Waiting → List ℕ → List Entry
group_map c xs ls b js done = variables c 0 (done ++ free_block c.captured (CloseAll xs ls b)) ++ waiting_map c 1 js

abbrev pub making_note : Body → List ℕ → List ℕ → Block → Waiting → List ℕ → Note
making_note c xs ls b js [] = here c (AtBlock (CloseAll xs ls b) js) (block_map c (CloseAll xs ls b) js)
making_note c xs ls b js (y ∷ ys) =
    here c (AtAll (length (y ∷ ys)) (zeros ls) xs ls b js) (group_map c xs ls b js (y ∷ ys))

abbrev pub makes : Body → List ℕ → List ℕ → Block → Waiting → List ℕ → List ℕ → List ℕ → List Noted
makes c xs ls b js done (y ∷ ys) (m ∷ ms) =
    Does (I.Clo result (length (c.captured m)) m) (making_note c xs ls b js done) None ∷
    Does (I.Store result (c.home y)) (here c (AtAll (suc (length done)) (zeros ls) xs ls b js)
    (Stands (Reg result) (Variable 0 y) ∷ group_map c xs ls b js done)) None ∷
    makes c xs ls b js (done ++ y ∷ []) ys ms
makes c xs ls b js done ys [] = []
makes c xs ls b js done [] (m ∷ ms) = []

-- the captured words of the procedure that y is bound to, at a point that knows how many are written
abbrev pub words : Body → ℕ → (ℕ → Point) → List Entry → ℕ → List ℕ → List Noted
words c y pt es j [] = []
words c y pt es j (x ∷ xs) =
    Does (I.Load 1 (c.home x)) (here c (pt j) (Stands (Reg result) (Variable 0 y) ∷ es)) None ∷
    Does (I.CaptSet result 1 j) (here c (pt j) (Stands (Reg 1) (Variable 0 x) ∷ Stands (Reg result) (Variable 0 y) ∷ es)) None ∷
    words c y pt es (suc j) xs

abbrev pub all_words : Body → ℕ → (ℕ → Point) → List Entry → List ℕ → List Noted
all_words c y pt es [] = []
all_words c y pt es (x ∷ xs) = Does (I.Load result (c.home y)) (here c (pt 0) es) None ∷ words c y pt es 0 (x ∷ xs)

abbrev pub writes : Body → List ℕ → List ℕ → Block → Waiting → List ℕ → List ℕ → List ℕ → List Noted
writes c xs ls b js done (y ∷ ys) (m ∷ ms) =
    all_words c y (λ j. AtAll (length xs) (counts c done ++ (j ∷ zeros ms)) xs ls b js) (group_map c xs ls b js xs) (c.captured m) ++
    writes c xs ls b js (done ++ m ∷ []) ys ms
writes c xs ls b js done ys [] = []
writes c xs ls b js done [] (m ∷ ms) = []

abbrev pub group : Body → List ℕ → List ℕ → Block → Waiting → List Noted
group c xs ls b js = makes c xs ls b js [] xs ls ++ writes c xs ls b js [] xs ls

-- the labels of a block: two for each branch and one for each other operation
abbrev mutual
  pub labels_in : Block → ℕ
  labels_in (Bind x op b) = labels_of op + labels_in b
  labels_in (CloseAll xs ls b) = labels_in b
  labels_in (Tail op) = labels_of op

  pub labels_of : Op → ℕ
  labels_of (Branch a b d) = 2 + (labels_in b + labels_in d)
  labels_of op = 1

-- at the top level the first arm of a branch in tail position goes on behind the second one, at this label
abbrev pub passing : Waiting → ℕ → List Noted
passing (ToTop k) l = Does (I.Jump l) (Inside (AtValue (ToTop k)) Away []) None ∷ []
passing js l = []

abbrev pub passed : Waiting → ℕ → List Noted
passed (ToTop k) l = Mark l (Inside (AtValue (ToTop k)) Away []) ∷ []
passed js l = []

-- the code of a block, with what waits for its value, and the first label that is free. A branch has first the
-- label behind it and then that of its second arm.
unfoldable mutual
  pub code_block : Body → Block → Waiting → ℕ → List Noted
  code_block c (Bind x op b) js l = code_bound c op x b js l ++ code_block c b js (l + labels_of op)
  code_block c (CloseAll xs ls b) js l = group c xs ls b js ++ code_block c b js l
  code_block c (Tail op) js l = code_last c op js l

  pub code_bound : Body → Op → ℕ → Block → Waiting → ℕ → List Noted
  code_bound c (Branch a b d) x k js l =
      let pt = AtBlock (Bind x (Branch a b d) k) js in
      let es = block_map c (Bind x (Branch a b d) k) js in
      let arm = Then x k l js in
      loads c pt 1 (a ∷ []) es ++
      (Does (I.Brf 1 (suc l)) (here c pt (loaded 1 (a ∷ []) es)) None ∷
      (code_block c b arm (l + 2) ++
      (Mark (suc l) (block_note c d arm) ∷
      (code_block c d arm (l + 2 + labels_in b) ++ (Mark l (block_note c k js) ∷ [])))))
  code_bound c op x k js l =
      evaluated c op (AtBlock (Bind x op k) js) (Then x k l js) l (block_map c (Bind x op k) js) ++
      keep c x (Then x k l js)

  pub code_last : Body → Op → Waiting → ℕ → List Noted
  code_last c (Branch a b d) js l =
      let pt = AtBlock (Tail (Branch a b d)) js in
      let es = block_map c (Tail (Branch a b d)) js in
      loads c pt 1 (a ∷ []) es ++
      (Does (I.Brf 1 (suc l)) (here c pt (loaded 1 (a ∷ []) es)) None ∷
      (code_block c b js (l + 2) ++
      (passing js l ++ (Mark (suc l) (block_note c d js) ∷ (code_block c d js (l + 2 + labels_in b) ++ passed js l)))))
  code_last c op js l = last c op js l

-- the parameters that a body names, in the registers of their operands
abbrev pub operands_map : List ℕ → ℕ → List ℕ → List Entry
operands_map us a [] = []
operands_map us a (y ∷ ys) =
    cond (is_in us y) (Stands (Reg a) (Variable 0 y) ∷ operands_map us (suc a) ys) (operands_map us (suc a) ys)

-- the procedure is needed while captured variables are left
abbrev pub itself_map : ℕ → List ℕ → List Entry
itself_map n [] = []
itself_map n (x ∷ xs) = Stands (Reg 0) (Itself n) ∷ []

-- captured variables go to their slots, from a number on; those before are there
abbrev pub stores_captured : Body → ℕ → Point → List Entry → ℕ → List ℕ → List ℕ → List Noted
stores_captured c n pt es j [] done = []
stores_captured c n pt es j (x ∷ xs) done =
    Does (I.Capt result 0 j) (here c pt (itself_map n (x ∷ xs) ++ (es ++ variables c 0 done))) None ∷
    Does (I.Store result (c.home x)) (here c pt (Stands (Reg result) (Variable 0 x) ∷ (itself_map n xs ++ (es ++ variables c 0 done)))) None ∷
    stores_captured c n pt es (suc j) xs (x ∷ done)

-- operands go to the slots of their parameters, where the body names them
abbrev pub stores_operands : Body → Point → List ℕ → ℕ → List ℕ → List ℕ → List Noted
stores_operands c pt us a [] done = []
stores_operands c pt us a (y ∷ ys) done =
    cond (is_in us y)
    (Does (I.Store a (c.home y)) (here c pt (operands_map us a (y ∷ ys) ++ variables c 0 done)) None ∷
    stores_operands c pt us (suc a) ys (y ∷ done))
    (stores_operands c pt us (suc a) ys done)

-- the frame is made, and captured variables and operands go to their slots
abbrev pub frame_made : Body → ℕ → Block → List ℕ → List ℕ → List Noted
frame_made c n b params captured =
    let us = free_block c.captured b in
    let pt = block_point b ToCaller in
    Does (I.Save c.size) (Inside pt Away (itself_map n captured ++ operands_map us 1 params)) None ∷
    (stores_captured c n pt (operands_map us 1 params) 0 captured [] ++ stores_operands c pt us 1 params captured)

-- the operands are counted
abbrev pub counting : Bool → List ℕ → Instr
counting false params = I.Args (length params)
counting true params = I.ArgsGe (length (own_formals true params))

-- the entry of lambda n
abbrev pub entry : Body → ℕ → ProcTree → List Noted
entry c n q =
    cond q.lifted
    (Does (I.Proc n) (AtLifted n (operands_map (free_block c.captured q.body) 1 q.params)) None ∷ [])
    (Does (I.Proc n) (AtProc n) None ∷ Does (counting q.rest q.params) (AtArgs n) (Some q.place) ∷ [])

abbrev pub captured_in : AnfTree → ℕ → List ℕ
captured_in p m = captured_by (proc_of p.procs m)

abbrev pub body_of : AnfTree → ProcTree → Body
body_of p q = record { captured = captured_in p; statics = p.statics; home = slot_of q; size = frame_size q }

-- the code of lambda n, whose entry has its number as its label
abbrev pub code_lambda : AnfTree → ℕ → ProcTree → ℕ → List Noted
code_lambda p n q l =
    let c = body_of p q in
    Mark n (cond q.lifted (AtLifted n (operands_map (free_block c.captured q.body) 1 q.params)) (AtProc n)) ∷
    (entry c n q ++ (frame_made c n q.body q.params q.captured ++ code_block c q.body ToCaller l))

-- the code of form k
abbrev pub code_form : AnfTree → ℕ → ProcTree → ℕ → List Noted
code_form p k q l =
    let c = body_of p q in
    Does (I.Save c.size) (Inside (AtValue (ToTop k)) Away []) None ∷ code_block c q.body (ToTop (suc k)) l

abbrev pub code_forms : AnfTree → ℕ → List ProcTree → ℕ → List Noted
code_forms p k [] l = []
code_forms p k (q ∷ qs) l = code_form p k q l ++ code_forms p (suc k) qs (l + labels_in q.body)

abbrev pub code_lambdas : AnfTree → ℕ → List ProcTree → ℕ → List Noted
code_lambdas p n [] l = []
code_lambdas p n (q ∷ qs) l = code_lambda p n q l ++ code_lambdas p (suc n) qs (l + labels_in q.body)

abbrev pub labels_within : List ProcTree → ℕ
labels_within [] = 0
labels_within (q ∷ qs) = labels_in q.body + labels_within qs

-- the code of a program: its forms, the end, and its lambdas
abbrev pub noted_items : AnfTree → List Noted
noted_items p =
    let forms = forms_of p in
    let lambdas = lambdas_of p in
    let l = length lambdas in
    code_forms p 0 forms l ++
    (Does I.End (Inside (AtValue (ToTop (length forms))) Away []) None ∷ code_lambdas p 0 lambdas (l + labels_within forms))
