-- The numbered program of a text keeps the rules of a program.
use Rattle.std.proofs.Common.{◌≡◌, sym, ap, subst, ℕ, ◌<◌, ◌≤◌, ⊎_elim, arith, Bool, false, List, [], ◌∷◌, length}
use Rattle.std.proofs.lemmas.Bool.{cases_Bool}
use Rattle.tb_core.specs.Tree as core
use Rattle.tb_core.specs.Tree.{Form, Tree, Trees, LambdaTree, ProgramTree, none, more}
use Rattle.tb_core.specs.FreeVariables.{is_assigned}
use Rattle.tb_core.specs.Rules.{Every, Each, EachForm, EachAll, IsInRange, IsShaped, BindsForGood, MarksAreOperands, is_mark, NoMark, NodeKeeps, LambdaKeeps, StaticsKeep, KeepsRules}
use Rattle.tb_sexp.specs.Tree as datum
use Rattle.tb_expand.specs.Trees.{Var, same_var, Nodes}
use Rattle.tb_expand.specs.Numbers.{variable_number, tables_of, none_before, nodes_of_all, program_of}
use Rattle.tb_expand.specs.Texts.{MeansText}
use Rattle.tb_expand.specs.Constants.{ConstantIn, HaveShort}
use Rattle.tb_expand.specs.Ranges.{GlobalIn, LambdaIn}
use Rattle.tb_expand.specs.Closed.{binders_of_all, one_if}
use Rattle.tb_expand.proofs.FirstOccurrences.{HasNumber, have_numbers, same_var_true}
use Rattle.tb_expand.proofs.NamedVariables.{count, all_binders_keep}
use Rattle.tb_expand.proofs.StaticObjects.{statics_keep_all}
use Rattle.tb_expand.proofs.ShapedMeanings.{text_shaped}
use Rattle.tb_expand.proofs.ShortMeanings.{text_short}
use Rattle.tb_expand.proofs.ClosedMeanings.{text_closed}
use Rattle.tb_expand.proofs.BoundMeanings.{text_once}
use Rattle.tb_expand.proofs.SteadyMeanings.{text_steady}
use Rattle.tb_expand.proofs.CountedMeanings.{few_nodes, few_variables}
use Rattle.tb_expand.proofs.ShapedNumbers.{forms_keep_shape, lambdas_keep_shape}
use Rattle.tb_expand.proofs.NodeCounts.{program_counted}
use Rattle.tb_expand.proofs.SiteRanges.{forms_below, all_lambdas_below}
use Rattle.tb_expand.proofs.GlobalRanges.{forms_in_range, all_lambdas_in_range}
use Rattle.tb_expand.proofs.ConstantRanges.{forms_within, all_lambdas_within}
use Rattle.tb_expand.proofs.StandingNumbers.{at_most_once, at_least_once, inner_greater, forms_name, bodies_name}
use Rattle.tb_expand.proofs.SitesApart.{sites_apart}
use Rattle.tb_expand.proofs.FreeNumbers.{in_scope}
use Rattle.tb_expand.proofs.BoundNumbers.{bound_once, small_variables}
use Rattle.tb_expand.proofs.AssignedNumbers.{assigned_same}
use Rattle.tb_expand.proofs.Steady.{AreSteady}
use Rattle.tb_expand.proofs.SteadyPrograms.{keeps_all}
use Rattle.tb_expand.proofs.SteadyNumbers.{all_rule, all_lambdas, all_plain}

-- two facts about each node are one
module _ (P Q R : ℕ → Form → Type 0) (both : (s : ℕ) (f : Form) → P s f → Q s f → R s f) where
  mutual
    each_both : (e : Tree) → Each P e → Each Q e → Each R e
    each_both (core.Node p s f) h k = (both s f h.0 k.0, form_both f h.1 k.1)

    form_both : (f : Form) → EachForm P f → EachForm Q f → EachForm R f
    form_both (core.Quote c) h k = tt
    form_both (core.Local x) h k = tt
    form_both (core.Global g) h k = tt
    form_both (core.Lambda l) h k = tt
    form_both (core.If a b c) h k = (each_both a h.0 k.0, each_both b h.1 k.1, each_both c h.2 k.2)
    form_both (core.SetLocal x e) h k = each_both e h k
    form_both (core.SetGlobal g e) h k = each_both e h k
    form_both (core.DefGlobal g e) h k = each_both e h k
    form_both (core.Let xs es e) h k = (all_both es h.0 k.0, each_both e h.1 k.1)
    form_both (core.Letrec xs ls e) h k = each_both e h k
    form_both (core.Seq es) h k = all_both es h k
    form_both (core.Call f es) h k = (each_both f h.0 k.0, all_both es h.1 k.1)
    form_both (core.PrimUse p es) h k = all_both es h k
    form_both (core.Apply f l) h k = (each_both f h.0 k.0, each_both l h.1 k.1)

    all_both : (es : Trees) → EachAll P es → EachAll Q es → EachAll R es
    all_both none h k = tt
    all_both (more e es) h k = (each_both e h.0 k.0, all_both es h.1 k.1)

  bodies_both : (ls : List LambdaTree) → Every (λ l. Each P l.body) ls → Every (λ l. Each Q l.body) ls → Every (λ l. Each R l.body) ls
  bodies_both [] h k = tt
  bodies_both (l ∷ ls) h k = (each_both l.body h.0 k.0, bodies_both ls h.1 k.1)

in_range : (p : ProgramTree) (f : Form) → ConstantIn (length p.statics) f → GlobalIn (length p.globals) f → LambdaIn (length p.lambdas) f → IsInRange p f
in_range p (core.Quote c) k g l = k
in_range p (core.Local x) k g l = tt
in_range p (core.Global v) k g l = g
in_range p (core.Lambda m) k g l = l
in_range p (core.If a b c) k g l = tt
in_range p (core.SetLocal x e) k g l = tt
in_range p (core.SetGlobal v e) k g l = g
in_range p (core.DefGlobal v e) k g l = g
in_range p (core.Let xs es e) k g l = tt
in_range p (core.Letrec xs ls e) k g l = l
in_range p (core.Seq es) k g l = tt
in_range p (core.Call f es) k g l = tt
in_range p (core.PrimUse q es) k g l = tt
in_range p (core.Apply f m) k g l = tt

-- the rules of a node, one after another
module _ (p : ProgramTree) (n : ℕ) where
  abbrev Small : ℕ → Form → Type 0
  Small s f = s < n

  abbrev Consts : ℕ → Form → Type 0
  Consts s f = ConstantIn (length p.statics) f

  abbrev Globals : ℕ → Form → Type 0
  Globals s f = GlobalIn (length p.globals) f

  abbrev Lambdas : ℕ → Form → Type 0
  Lambdas s f = LambdaIn (length p.lambdas) f

  abbrev Shaped : ℕ → Form → Type 0
  Shaped s f = IsShaped f

  abbrev Marked : ℕ → Form → Type 0
  Marked s f = BindsForGood (is_assigned p) f × MarksAreOperands (is_assigned p) f

  abbrev First : ℕ → Form → Type 0
  First s f = Small s f × Consts s f

  abbrev Second : ℕ → Form → Type 0
  Second s f = Globals s f × Lambdas s f

  abbrev Third : ℕ → Form → Type 0
  Third s f = (s < n) × IsInRange p f

  abbrev Fourth : ℕ → Form → Type 0
  Fourth s f = IsShaped f × Marked s f

  third : (s : ℕ) (f : Form) → First s f → Second s f → Third s f
  third s f h k = (h.0, in_range p f h.1 k.0 k.1)

  keeps : n ≤ 1000000 → (s : ℕ) (f : Form) → Third s f → Fourth s f → NodeKeeps p s f
  keeps le s f h k = let lt : s < n = h.0 in record { small_site = omega arith; in_range = h.1; shaped = k.0; letrec_for_good = k.1.0; marks_are_operands = k.1.1 }

  forms_keep : n ≤ 1000000 → EachAll Small p.forms → EachAll Consts p.forms → EachAll Globals p.forms → EachAll Lambdas p.forms → EachAll Shaped p.forms → EachAll Marked p.forms → EachAll (NodeKeeps p) p.forms
  forms_keep le a b c d e f =
      let first = all_both Small Consts First (λ s g h k. (h, k)) p.forms a b in
      let second = all_both Globals Lambdas Second (λ s g h k. (h, k)) p.forms c d in
      let fourth = all_both Shaped Marked Fourth (λ s g h k. (h, k)) p.forms e f in
      all_both Third Fourth (NodeKeeps p) (keeps le) p.forms (all_both First Second Third third p.forms first second) fourth

  bodies_keep : n ≤ 1000000 → Every (λ l. Each Small l.body) p.lambdas → Every (λ l. Each Consts l.body) p.lambdas → Every (λ l. Each Globals l.body) p.lambdas → Every (λ l. Each Lambdas l.body) p.lambdas → Every (λ l. Each Shaped l.body) p.lambdas → Every (λ l. Each Marked l.body) p.lambdas → Every (λ l. Each (NodeKeeps p) l.body) p.lambdas
  bodies_keep le a b c d e f =
      let first = bodies_both Small Consts First (λ s g h k. (h, k)) p.lambdas a b in
      let second = bodies_both Globals Lambdas Second (λ s g h k. (h, k)) p.lambdas c d in
      let fourth = bodies_both Shaped Marked Fourth (λ s g h k. (h, k)) p.lambdas e f in
      bodies_both Third Fourth (NodeKeeps p) (keeps le) p.lambdas (bodies_both First Second Third third p.lambdas first second) fourth

  abbrev MarkedLambda : LambdaTree → Type 0
  MarkedLambda l = Each Marked l.body × (is_mark l.body ≡ false)

  bodies_marked : (ls : List LambdaTree) → Every MarkedLambda ls → Every (λ l. Each Marked l.body) ls
  bodies_marked [] h = tt
  bodies_marked (l ∷ ls) h = (h.0.0, bodies_marked ls h.1)

  lambdas_keep : (ls : List LambdaTree) → Every (λ l. Each (NodeKeeps p) l.body) ls → Every MarkedLambda ls → Every (LambdaKeeps p) ls
  lambdas_keep [] h k = tt
  lambdas_keep (l ∷ ls) h k = (record { nodes = h.0; value = k.0.1 }, lambdas_keep ls h.1 k.1)

-- what the whole text assigns
counted_keeps : (P : Var → Type 0) (xs : List Var) (y : Var) → Every P xs → 1 ≤ count y xs → P y
counted_keeps P [] y h k = absurd (omega arith)
counted_keeps P (x ∷ xs) y h k =
    ⊎_elim (λ e. subst P (sym (same_var_true y x e)) h.0)
    (λ e. let o : one_if (same_var y x) ≡ 0 = ap one_if e in counted_keeps P xs y h.1 (omega arith))
    (cases_Bool (same_var y x))

whole_steady : (library : Bool) (ds : datum.Trees) (es : Nodes) → MeansText library ds es → AreSteady (λ c x. is_assigned (program_of library es) (variable_number (tables_of es) x)) es
whole_steady library ds es m =
    let t = tables_of es in
    let known = all_binders_keep (HasNumber t) es (have_numbers es) in
    keeps_all (λ x. is_assigned (program_of library es) (variable_number t x)) [] es (text_closed library ds es m)
    (λ y. let o = text_once library ds es m y in omega arith)
    (λ y k. ap one_if (assigned_same library es y (text_shaped library ds es m) (counted_keeps (HasNumber t) (binders_of_all es) y known k)))
    (text_steady library ds es m).steady

forms_marked : (library : Bool) (ds : datum.Trees) (es : Nodes) → MeansText library ds es → EachAll (Marked (program_of library es) 0) (program_of library es).forms
unfolding program_of
forms_marked library ds es m = all_rule (is_assigned (program_of library es)) (tables_of es) none_before es (whole_steady library ds es m)

lambdas_marked : (library : Bool) (ds : datum.Trees) (es : Nodes) → MeansText library ds es → Every (MarkedLambda (program_of library es) 0) (program_of library es).lambdas
unfolding program_of
lambdas_marked library ds es m = all_lambdas (is_assigned (program_of library es)) (tables_of es) none_before es (whole_steady library ds es m)

no_marks : (library : Bool) (ds : datum.Trees) (es : Nodes) → MeansText library ds es → NoMark (program_of library es).forms
unfolding program_of
no_marks library ds es m = all_plain (tables_of es) none_before es (text_steady library ds es m).plain

statics_keep : (library : Bool) (es : Nodes) → HaveShort es → StaticsKeep 0 (program_of library es).statics
unfolding program_of
statics_keep library es h = statics_keep_all [] es tt h

pub text_keeps : (library : Bool) (ds : datum.Trees) (es : Nodes) → MeansText library ds es → KeepsRules (program_of library es)
text_keeps library ds es m =
    let p = program_of library es in
    let n = nodes_of_all es in
    let shape = text_shaped library ds es m in
    let short = text_short library ds es m in
    let closed = text_closed library ds es m in
    let few = few_nodes library ds es m in
    let counted = program_counted library es shape in
    let marked = lambdas_marked library ds es m in
    record {
      bound_once = bound_once library es shape (text_once library ds es m);
      small_variables = small_variables library es shape closed (few_variables library ds es m);
      in_scope = in_scope library es shape closed;
      lambdas_at_most_once = at_most_once library es shape;
      lambdas_at_least_once = at_least_once library es shape;
      inner_greater = inner_greater library es;
      sites_apart = sites_apart library es shape;
      few_nodes = omega (arith, counted, few);
      statics = statics_keep library es short;
      forms = forms_keep p n few (forms_below library es) (forms_within library es short) (forms_in_range library es) (forms_name library es shape) (forms_keep_shape library es shape) (forms_marked library ds es m);
      values = no_marks library ds es m;
      lambdas = lambdas_keep p 0 p.lambdas
          (bodies_keep p n few (all_lambdas_below library es) (all_lambdas_within library es short) (all_lambdas_in_range library es) (bodies_name library es shape) (lambdas_keep_shape library es shape) (bodies_marked p 0 p.lambdas marked)) marked;
    }
