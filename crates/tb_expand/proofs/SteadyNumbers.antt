-- The nodes of a numbered program keep the rules on marks and on the variables of a `letrec`.
use Rattle.std.proofs.Common.{◌≡◌, refl, sym, ◌∙◌, ℕ, Bool, true, false, List, [], ◌∷◌}
use Rattle.std.specs.List.{list_any}
use Rattle.tb_prim.specs.declared.place.Place.{Place}
use Rattle.tb_prim.specs.declared.constant.Const.{Const}
use Rattle.tb_prim.specs.declared.constant.Static.{Static}
use Rattle.tb_sexp.specs.Tree as datum
use Rattle.tb_core.specs.Tree as core
use Rattle.tb_core.specs.Tree.{Form, LambdaTree}
use Rattle.tb_core.specs.Rules.{Every, Each, EachForm, EachAll, BindsForGood, is_mark, NoMark, MarksAssigned, MarksAreOperands}
use Rattle.tb_expand.specs.Trees.{Var, Node, At, Core, Constant, Unspecified, Undefined, Local, Global, Lambda, If, SetLocal, SetGlobal, DefGlobal, Let, Letrec, Seq, Call, PrimUse, Apply, Nodes, nil, cons}
use Rattle.tb_expand.specs.Numbers.{Tables, Before, Placed, unplaced, is_symbol, placed_symbol, placed, placed_in, placed_pairs, variable_number, variable_numbers, behind_node, behind_nodes, behind_values, one_node, one_closure, numbered, numbered_in, numbered_all, lambdas_of, lambdas_in, lambdas_of_all, lambdas_of_values}
use Rattle.tb_expand.proofs.ShapedNumbers.{every_joined}
use Rattle.tb_expand.proofs.Steady.{marked, NoneMarked, MarksPass, IsSteady, IsSteadyIn, AreSteady}

-- no quoted datum is the mark
abbrev IsDefined : Const → Type 0
IsDefined (Const.Fix n) = Unit {0}
IsDefined (Const.Char c) = Unit {0}
IsDefined (Const.Bool b) = Unit {0}
IsDefined Const.Nil = Unit {0}
IsDefined Const.Unspecified = Unit {0}
IsDefined Const.Undefined = ⊥
IsDefined (Const.Stat n) = Unit {0}

symbol_defined : (b : Bool) (o : List Static) (x : List ℕ) → IsDefined (placed_symbol b o x).constant
symbol_defined true o x = tt
symbol_defined false o x = tt

mutual
  datum_defined : (o : List Static) (d : datum.Tree) → IsDefined (placed o d).constant
  datum_defined o (datum.At p s) = shape_defined o s

  shape_defined : (o : List Static) (s : datum.Shape) → IsDefined (placed_in o s).constant
  shape_defined o datum.Nil = tt
  shape_defined o (datum.Truth b) = tt
  shape_defined o (datum.Fixnum n) = tt
  shape_defined o (datum.Character c) = tt
  shape_defined o (datum.String s) = tt
  shape_defined o (datum.Name s alias) = symbol_defined (list_any (is_symbol s) o) o s
  shape_defined o (datum.Proper ds) = pairs_defined o ds (λ r. unplaced r Const.Nil) (λ r. tt)
  shape_defined o (datum.Dotted ds d) = pairs_defined o ds (λ r. placed r d) (λ r. datum_defined r d)
  shape_defined o (datum.Vector ds) = tt

  pairs_defined : (o : List Static) (ds : datum.Trees) (tail : List Static → Placed) → ((r : List Static) → IsDefined (tail r).constant) → IsDefined (placed_pairs o ds tail).constant
  pairs_defined o datum.none tail h = h o
  pairs_defined o (datum.more d ds) tail h = tt

constant_mark : (p : Place) (n : ℕ) (k : Const) → IsDefined k → is_mark (core.Node p n (core.Quote k)) ≡ false
constant_mark p n (Const.Fix z) h = refl
constant_mark p n (Const.Char c) h = refl
constant_mark p n (Const.Bool b) h = refl
constant_mark p n Const.Nil h = refl
constant_mark p n Const.Unspecified h = refl
constant_mark p n Const.Undefined h = absurd h
constant_mark p n (Const.Stat m) h = refl

mark_numbered : (t : Tables) (b : Before) (e : Node) → is_mark (numbered t b e) ≡ marked e
mark_numbered t b (At p (Constant s)) = constant_mark p b.nodes (placed_in b.statics s).constant (shape_defined b.statics s)
mark_numbered t b (At p Unspecified) = refl
mark_numbered t b (At p Undefined) = refl
mark_numbered t b (At p (Local x)) = refl
mark_numbered t b (At p (Global g)) = refl
mark_numbered t b (At p (Lambda xs r e)) = refl
mark_numbered t b (At p (If c d e)) = refl
mark_numbered t b (At p (SetLocal x e)) = refl
mark_numbered t b (At p (SetGlobal q g e)) = refl
mark_numbered t b (At p (DefGlobal g e)) = refl
mark_numbered t b (At p (Let xs es e)) = refl
mark_numbered t b (At p (Letrec xs es e)) = refl
mark_numbered t b (At p (Seq es)) = refl
mark_numbered t b (At p (Call f es)) = refl
mark_numbered t b (At p (PrimUse q es)) = refl
mark_numbered t b (At p (Apply f l)) = refl

plain : (t : Tables) (b : Before) (e : Node) → marked e ≡ false → is_mark (numbered t b e) ≡ false
plain t b e h = mark_numbered t b e ∙ h

pub all_plain : (t : Tables) (b : Before) (es : Nodes) → NoneMarked es → NoMark (numbered_all t b es)
all_plain t b nil h = tt
all_plain t b (cons e es) h = (plain t b e h.0, all_plain t (behind_node b e) es h.1)

module _ (a : ℕ → Bool) (t : Tables) where
  -- the test of variables by their numbers
  abbrev by_number : Core → Var → Bool
  by_number c x = a (variable_number t x)

  -- the rules on marks and on the variables of a `letrec`
  abbrev Rule : ℕ → Form → Type 0
  Rule s f = BindsForGood a f × MarksAreOperands a f

  abbrev LambdaRule : LambdaTree → Type 0
  LambdaRule l = Each Rule l.body × (is_mark l.body ≡ false)

  marks_numbered : (b : Before) (xs : List Var) (es : Nodes) → MarksPass (λ x. a (variable_number t x)) xs es → MarksAssigned a (variable_numbers t xs) (numbered_all t b es)
  marks_numbered b xs nil h = tt
  marks_numbered b [] (cons e es) h = all_plain t b (cons e es) h
  marks_numbered b (x ∷ xs) (cons e es) h = (λ m. h.0 (sym (mark_numbered t b e) ∙ m), marks_numbered (behind_node b e) xs es h.1)

  for_good : (xs : List Var) → Every (λ x. a (variable_number t x) ≡ false) xs → Every (λ n. a n ≡ false) (variable_numbers t xs)
  for_good [] h = tt
  for_good (x ∷ xs) h = (h.0, for_good xs h.1)

  own_rule : (b : Before) (c : Core) → IsSteadyIn by_number c → Rule 0 (numbered_in t b c)
  own_rule b (Constant s) h = (tt, tt)
  own_rule b Unspecified h = (tt, tt)
  own_rule b Undefined h = (tt, tt)
  own_rule b (Local x) h = (tt, tt)
  own_rule b (Global g) h = (tt, tt)
  own_rule b (Lambda xs r e) h = (tt, tt)
  own_rule b (If c d e) h = (tt, (plain t b c h.0.0, (plain t (behind_node b c) d h.0.1.0, (plain t (behind_node (behind_node b c) d) e h.0.1.1.0, tt))))
  own_rule b (SetLocal x e) h = (tt, plain t b e h.0)
  own_rule b (SetGlobal q g e) h = (tt, plain t b e h.0)
  own_rule b (DefGlobal g e) h = (tt, plain t b e h.0)
  own_rule b (Let xs es e) h = (tt, (marks_numbered b xs es h.0, plain t (behind_nodes b es) e h.1))
  own_rule b (Letrec xs es e) h = (for_good xs h.0, plain t (behind_values b es) e h.1)
  own_rule b (Seq es) h = (tt, all_plain t b es h.0)
  own_rule b (Call f es) h = (tt, (plain t b f h.0.0, all_plain t (behind_node b f) es h.0.1))
  own_rule b (PrimUse q es) h = (tt, all_plain t b es h.0)
  own_rule b (Apply f l) h = (tt, (plain t b f h.0.0, (plain t (behind_node b f) l h.0.1.0, tt)))

  mutual
    node_rule : (b : Before) (e : Node) → IsSteady by_number e → Each Rule (numbered t b e)
    node_rule b (At p c) h = (own_rule (one_node b) c h, parts_rule (one_node b) c h)

    parts_rule : (b : Before) (c : Core) → IsSteadyIn by_number c → EachForm Rule (numbered_in t b c)
    parts_rule b (Constant s) h = tt
    parts_rule b Unspecified h = tt
    parts_rule b Undefined h = tt
    parts_rule b (Local x) h = tt
    parts_rule b (Global g) h = tt
    parts_rule b (Lambda xs r e) h = tt
    parts_rule b (If c d e) h = (node_rule b c h.1, node_rule (behind_node b c) d h.2, node_rule (behind_node (behind_node b c) d) e h.3)
    parts_rule b (SetLocal x e) h = node_rule b e h.1
    parts_rule b (SetGlobal q g e) h = node_rule b e h.1
    parts_rule b (DefGlobal g e) h = node_rule b e h.1
    parts_rule b (Let xs es e) h = (all_rule b es h.2, node_rule (behind_nodes b es) e h.3)
    parts_rule b (Letrec xs es e) h = node_rule (behind_values b es) e h.3
    parts_rule b (Seq es) h = all_rule b es h.1
    parts_rule b (Call f es) h = (node_rule b f h.1, all_rule (behind_node b f) es h.2)
    parts_rule b (PrimUse q es) h = all_rule b es h.1
    parts_rule b (Apply f l) h = (node_rule b f h.1, node_rule (behind_node b f) l h.2)

    pub all_rule : (b : Before) (es : Nodes) → AreSteady by_number es → EachAll Rule (numbered_all t b es)
    all_rule b nil h = tt
    all_rule b (cons e es) h = (node_rule b e h.0, all_rule (behind_node b e) es h.1)

  mutual
    lambdas_rule : (b : Before) (e : Node) → IsSteady by_number e → Every LambdaRule (lambdas_of t b e)
    lambdas_rule b (At p c) h = form_lambdas (one_node b) p c h

    form_lambdas : (b : Before) (p : Place) (c : Core) → IsSteadyIn by_number c → Every LambdaRule (lambdas_in t b p c)
    form_lambdas b p (Constant s) h = tt
    form_lambdas b p Unspecified h = tt
    form_lambdas b p Undefined h = tt
    form_lambdas b p (Local x) h = tt
    form_lambdas b p (Global g) h = tt
    form_lambdas b p (Lambda xs r e) h = ((node_rule (one_closure b) e h.1, plain t (one_closure b) e h.0), lambdas_rule (one_closure b) e h.1)
    form_lambdas b p (If c d e) h =
        every_joined LambdaRule _ _ (lambdas_rule b c h.1) (every_joined LambdaRule _ _ (lambdas_rule (behind_node b c) d h.2) (lambdas_rule (behind_node (behind_node b c) d) e h.3))
    form_lambdas b p (SetLocal x e) h = lambdas_rule b e h.1
    form_lambdas b p (SetGlobal q g e) h = lambdas_rule b e h.1
    form_lambdas b p (DefGlobal g e) h = lambdas_rule b e h.1
    form_lambdas b p (Let xs es e) h = every_joined LambdaRule _ _ (all_lambdas b es h.2) (lambdas_rule (behind_nodes b es) e h.3)
    form_lambdas b p (Letrec xs es e) h = every_joined LambdaRule _ _ (values_lambdas b es h.2) (lambdas_rule (behind_values b es) e h.3)
    form_lambdas b p (Seq es) h = all_lambdas b es h.1
    form_lambdas b p (Call f es) h = every_joined LambdaRule _ _ (lambdas_rule b f h.1) (all_lambdas (behind_node b f) es h.2)
    form_lambdas b p (PrimUse q es) h = all_lambdas b es h.1
    form_lambdas b p (Apply f l) h = every_joined LambdaRule _ _ (lambdas_rule b f h.1) (lambdas_rule (behind_node b f) l h.2)

    pub all_lambdas : (b : Before) (es : Nodes) → AreSteady by_number es → Every LambdaRule (lambdas_of_all t b es)
    all_lambdas b nil h = tt
    all_lambdas b (cons e es) h = every_joined LambdaRule _ _ (lambdas_rule b e h.0) (all_lambdas (behind_node b e) es h.1)

    values_lambdas : (b : Before) (es : Nodes) → AreSteady by_number es → Every LambdaRule (lambdas_of_values t b es)
    values_lambdas b nil h = tt
    values_lambdas b (cons (At p c) es) h = every_joined LambdaRule _ _ (form_lambdas b p c h.0) (values_lambdas (behind_values b (cons (At p c) nil)) es h.1)
