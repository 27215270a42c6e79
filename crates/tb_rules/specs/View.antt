-- The plain rules and variables that the types are seen as.
use Rattle.std.specs.Prelude.{◌≡◌, List, map, Option, Some, None, Result, Ok, Err}
use Rattle.tb_sexp.specs.declared.datum.Datum.{Datum}
use Rattle.tb_sexp.specs.Tree.{Tree, Trees}
use Rattle.tb_sexp.specs.View.{trees, view}
use Rattle.tb_rules.specs.declared.names.Variable.{Variable as VariableCode}
use Rattle.tb_rules.specs.declared.rules.Rule.{Rule as RuleCode}
use Rattle.tb_rules.specs.declared.rules.Rules.{Rules as RulesCode}
use Rattle.tb_rules.specs.declared.parts.RuleParts.{RuleParts}
use Rattle.tb_rules.specs.declared.parts.FormParts.{FormParts}
use Rattle.tb_rules.specs.declared.parts.RestParts.{RestParts}
use Rattle.tb_rules.specs.declared.refusal.RulesRefusal.{RulesRefusal}
use Rattle.tb_rules.specs.declared.refusal.RulesRefusal.TheVariants.{BadRules, NotInProfile, NoMemory}
use Rattle.tb_rules.specs.Names.{Variable}
use Rattle.tb_rules.specs.Rules.{Rule, Rules, Rest}
use Rattle.tb_rules.specs.Compiled.{Outcome, Made, Bad, Outside, Parts}
use Rattle.std.specs.Borrow.{Bor}

-- a row of data as data of its own
abbrev pub data_of : List Datum → Trees
data_of ds = trees (map view ds)

abbrev pub view_variable : VariableCode → Variable
view_variable v = record { text = v.text.now; alias = v.alias; depth = v.depth }

abbrev pub view_rule : RuleCode → Rule
view_rule r = record { pattern = view r.pattern; template = view r.template }

abbrev pub view_rules : RulesCode → Rules
view_rules r = record { literals = data_of r.literals; rules = map view_rule r.rules }

abbrev pub view_tail : Option (Bor Datum) → Option Tree
view_tail None = None
view_tail (Some d) = Some (view d.now)

abbrev pub view_rest : RestParts → Rest
view_rest r = record { elements = data_of r.elements.now; tail = view_tail r.tail }

abbrev pub view_rule_parts : RuleParts → Rule
view_rule_parts r = record { pattern = view r.pattern.now; template = view r.template.now }

abbrev pub view_form : FormParts → Parts
view_form f = record { literals = data_of f.literals.now; rules = data_of f.rules.now }

-- an answer of this outcome, or want of memory
abbrev pub IsAnswer : Outcome → Result RulesCode RulesRefusal → Type 0
IsAnswer o (Ok r) = o ≡ Made (view_rules r)
IsAnswer o (Err (BadRules p)) = o ≡ Bad p
IsAnswer o (Err (NotInProfile p)) = o ≡ Outside p
IsAnswer o (Err NoMemory) = Unit {0}
