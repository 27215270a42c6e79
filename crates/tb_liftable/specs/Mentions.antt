-- Where the variables of a program stand: bound to lambda expressions, as operators of calls, and elsewhere.
use Rattle.std.specs.Prelude.{ℕ, List, [], ◌∷◌, ◌++◌}
use Rattle.tb_core.specs.Tree.{Tree, Node, Form, Quote, Local, Global, Lambda, If, SetLocal, SetGlobal, DefGlobal, Let, Letrec, Seq, Call, PrimUse, Apply, Trees, none, more, count, LambdaTree, ProgramTree}
use Rattle.tb_liftable.specs.declared.mentions.Mention.{Mention}

-- a variable of a `let` whose operand is a lambda expression
abbrev pub bound_to : ℕ → Tree → List Mention
bound_to x (Node p s (Lambda l)) = Mention.Binds x l ∷ []
bound_to x (Node p s _) = []

abbrev pub let_bound : List ℕ → Trees → List Mention
let_bound xs none = []
let_bound [] (more e es) = []
let_bound (x ∷ xs) (more e es) = bound_to x e ++ let_bound xs es

abbrev pub letrec_bound : List ℕ → List ℕ → List Mention
letrec_bound [] ls = []
letrec_bound (x ∷ xs) [] = []
letrec_bound (x ∷ xs) (l ∷ ls) = Mention.Binds x l ∷ letrec_bound xs ls

-- the operator of a call with so many operands; `others` are the mentions in one that is no variable
abbrev pub operator : Tree → ℕ → List Mention → List Mention
operator (Node p s (Local x)) n others = Mention.Calls x n ∷ []
operator (Node p s _) n others = others

-- those in an expression in written order, inner lambdas apart
abbrev mutual
  pub mentions : Tree → List Mention
  mentions (Node p s f) = mentions_form f

  pub mentions_form : Form → List Mention
  mentions_form (Quote c) = []
  mentions_form (Local x) = Mention.Uses x ∷ []
  mentions_form (Global g) = []
  mentions_form (Lambda l) = []
  mentions_form (If a b c) = mentions a ++ (mentions b ++ mentions c)
  mentions_form (SetLocal x e) = Mention.Uses x ∷ mentions e
  mentions_form (SetGlobal g e) = mentions e
  mentions_form (DefGlobal g e) = mentions e
  mentions_form (Let xs es e) = let_bound xs es ++ (mentions_all es ++ mentions e)
  mentions_form (Letrec xs ls e) = letrec_bound xs ls ++ mentions e
  mentions_form (Seq es) = mentions_all es
  mentions_form (Call f es) = operator f (count es) (mentions f) ++ mentions_all es
  mentions_form (PrimUse p es) = mentions_all es
  mentions_form (Apply f l) = mentions f ++ mentions l

  pub mentions_all : Trees → List Mention
  mentions_all none = []
  mentions_all (more e es) = mentions e ++ mentions_all es

abbrev pub mentions_of_lambdas : List LambdaTree → List Mention
mentions_of_lambdas [] = []
mentions_of_lambdas (l ∷ ls) = mentions l.body ++ mentions_of_lambdas ls

-- those in a program
abbrev pub mentions_of : ProgramTree → List Mention
mentions_of p = mentions_all p.forms ++ mentions_of_lambdas p.lambdas
