-- The rules of a `syntax-rules` form: its literals, and the pattern and the template of each rule (R5RS 4.3.2).
use Rattle.std.specs.Prelude.{List, [], ◌∷◌, ◌++◌, Option, Some, None}
use Rattle.tb_sexp.specs.Tree.{Tree, At, Shape, Nil, Truth, Fixnum, Character, String, Name, Proper, Dotted, Vector, Trees, none, more}

pub record Rule : Type 0 where
  pub pattern : Tree
  pub template : Tree

pub record Rules : Type 0 where
  pub literals : Trees
  pub rules : List Rule

-- the elements of a list that is not dotted
abbrev pub elements_at : Shape → Option Trees
elements_at Nil = Some none
elements_at (Truth b) = None
elements_at (Fixnum n) = None
elements_at (Character c) = None
elements_at (String s) = None
elements_at (Name s a) = None
elements_at (Proper ds) = Some ds
elements_at (Dotted ds d) = None
elements_at (Vector ds) = None

abbrev pub elements_of : Tree → Option Trees
elements_of (At p s) = elements_at s

-- a rule is a list of a pattern and a template
abbrev pub rule_in : Option Trees → Option Rule
rule_in None = None
rule_in (Some none) = None
rule_in (Some (more a none)) = None
rule_in (Some (more a (more b none))) = Some (record { pattern = a; template = b })
rule_in (Some (more a (more b (more c ds)))) = None

abbrev pub rule_of : Tree → Option Rule
rule_of d = rule_in (elements_of d)

abbrev pub one_rule : Option Rule → List Rule
one_rule None = []
one_rule (Some r) = r ∷ []

-- the rules among data
abbrev pub rules_of : Trees → List Rule
rules_of none = []
rules_of (more d ds) = one_rule (rule_of d) ++ rules_of ds

-- what stands behind the first name of a list: the elements, and the tail of a dotted list
pub record Rest : Type 0 where
  pub elements : Trees
  pub tail : Option Tree
