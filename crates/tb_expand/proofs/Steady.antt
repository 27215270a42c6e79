-- Nodes whose marks stand for variables that are assigned, and whose `letrec` variables are not assigned.
use Rattle.std.proofs.Common.{◌≡◌, Bool, true, false, List, [], ◌∷◌}
use Rattle.tb_core.specs.Rules.{Every}
use Rattle.tb_expand.specs.Trees.{Var, Node, At, Core, Constant, Unspecified, Undefined, Local, Global, Lambda, If, SetLocal, SetGlobal, DefGlobal, Let, Letrec, Seq, Call, PrimUse, Apply, Nodes, nil, cons}

-- the mark of a variable without a value
abbrev pub marked : Node → Bool
marked (At p Undefined) = true
marked (At p c) = false

abbrev pub NoneMarked : Nodes → Type 0
NoneMarked nil = Unit {0}
NoneMarked (cons e es) = (marked e ≡ false) × NoneMarked es

-- among these values the mark stands for variables that pass a test alone
abbrev pub MarksPass : (Var → Bool) → List Var → Nodes → Type 0
MarksPass a xs nil = Unit {0}
MarksPass a [] (cons e es) = NoneMarked (cons e es)
MarksPass a (x ∷ xs) (cons e es) = (marked e ≡ true → a x ≡ true) × MarksPass a xs es

-- the test may go by the node that binds
abbrev mutual
  pub IsSteady : (Core → Var → Bool) → Node → Type 0
  IsSteady a (At p c) = IsSteadyIn a c

  pub IsSteadyIn : (Core → Var → Bool) → Core → Type 0
  IsSteadyIn a (Constant s) = Unit {0}
  IsSteadyIn a Unspecified = Unit {0}
  IsSteadyIn a Undefined = Unit {0}
  IsSteadyIn a (Local x) = Unit {0}
  IsSteadyIn a (Global g) = Unit {0}
  IsSteadyIn a (Lambda xs r b) = (marked b ≡ false) × IsSteady a b
  IsSteadyIn a (If b c d) = NoneMarked (cons b (cons c (cons d nil))) × IsSteady a b × IsSteady a c × IsSteady a d
  IsSteadyIn a (SetLocal x e) = (marked e ≡ false) × IsSteady a e
  IsSteadyIn a (SetGlobal q g e) = (marked e ≡ false) × IsSteady a e
  IsSteadyIn a (DefGlobal g e) = (marked e ≡ false) × IsSteady a e
  IsSteadyIn a (Let xs es e) = MarksPass (a (Let xs es e)) xs es × (marked e ≡ false) × AreSteady a es × IsSteady a e
  IsSteadyIn a (Letrec xs es e) = Every (λ x. a (Letrec xs es e) x ≡ false) xs × (marked e ≡ false) × AreSteady a es × IsSteady a e
  IsSteadyIn a (Seq es) = NoneMarked es × AreSteady a es
  IsSteadyIn a (Call f es) = NoneMarked (cons f es) × IsSteady a f × AreSteady a es
  IsSteadyIn a (PrimUse q es) = NoneMarked es × AreSteady a es
  IsSteadyIn a (Apply f l) = NoneMarked (cons f (cons l nil)) × IsSteady a f × IsSteady a l

  pub AreSteady : (Core → Var → Bool) → Nodes → Type 0
  AreSteady a nil = Unit {0}
  AreSteady a (cons e es) = IsSteady a e × AreSteady a es
