-- How much there is to expand in what a datum is and in what a body defines.
use Rattle.std.proofs.Common.{◌≡◌, refl, ap, subst, ℕ, ◌+◌, ◌≤◌, zero, suc, arith, List, [], ◌∷◌, ◌++◌, Option, Some, map, length, get_or}
use Rattle.tb_sexp.specs.Tree as datum
use Rattle.tb_expand.specs.declared.context.Context.{Context}
use Rattle.tb_expand.specs.declared.definition.Defined.{Defined as DefinedCode}
use Rattle.tb_expand.specs.Scopes.{State}
use Rattle.tb_expand.specs.Shapes.{Defined, Value, Procedure, Definition, definition_of}
use Rattle.tb_expand.specs.Expressions as expr
use Rattle.tb_expand.specs.Expressions.{Expression, Wrong, Constantly, Naming, Operands, Sequence, Procedural, Recursion, expression}
use Rattle.tb_expand.specs.Bodies.{Found, Scans, scanned, expressions, a_definition, a_begin}
use Rattle.tb_expand.specs.View.{view_defined}
use Rattle.tb_expand.specs.calls.Expanded.{IsSuited, as_values}
use Rattle.tb_expand.proofs.Sizes.{size, size_all, some_size, Fits, expression_fits, ValueFits, DefinitionFits, definition_fits, KindFits, kind_fits}

-- what an expression leaves to expand
abbrev pub work : Expression → ℕ
work (Wrong r) = 0
work (Constantly s) = 0
work (Naming e) = 0
work (Operands k ds) = size_all ds
work (Sequence ds) = size_all ds
work (Procedural f b) = size_all b + 2
work (expr.Binding ps b) = size_all ps.values + (size_all b + 2)
work (Recursion ps b) = size_all ps.values + (size_all b + 2)

fitting_work : (n : ℕ) (x : Expression) → 1 ≤ n → Fits n x → work x + 1 ≤ n
fitting_work n (Wrong r) le f = omega arith
fitting_work n (Constantly s) le f = omega arith
fitting_work n (Naming e) le f = omega arith
fitting_work n (Operands k ds) le f = f.0
fitting_work n (Sequence ds) le f = f
fitting_work n (Procedural g b) le f = omega arith
fitting_work n (expr.Binding ps b) le f = omega arith
fitting_work n (Recursion ps b) le f = omega arith

fitting_suits : (n : ℕ) (x : Expression) → Fits n x → IsSuited x
fitting_suits n (Wrong r) f = tt
fitting_suits n (Constantly s) f = tt
fitting_suits n (Naming e) f = tt
fitting_suits n (Operands k ds) f = f.1
fitting_suits n (Sequence ds) f = tt
fitting_suits n (Procedural g b) f = tt
fitting_suits n (expr.Binding ps b) f = tt
fitting_suits n (Recursion ps b) f = tt

pub work_smaller : (st : State) (c : Context) (d : datum.Tree) (x : Expression) → expression st c d ≡ x → work x + 1 ≤ size d
work_smaller st c d x e = fitting_work (size d) x (some_size d) (subst (Fits (size d)) e (expression_fits st c d))

pub is_suited : (st : State) (c : Context) (d : datum.Tree) (x : Expression) → expression st c d ≡ x → IsSuited x
is_suited st c d x e = fitting_suits (size d) x (subst (Fits (size d)) e (expression_fits st c d))

-- what a definition leaves to expand
abbrev pub weight : Defined → ℕ
weight (Value d) = size d
weight (Procedure p f b) = size_all b + 2

abbrev pub weight_all : List Defined → ℕ
weight_all [] = 0
weight_all (v ∷ vs) = weight v + weight_all vs

pub values_weigh : (ds : datum.Trees) → weight_all (as_values ds) ≡ size_all ds
values_weigh datum.none = refl
values_weigh (datum.more d ds) = ap (λ n. size d + n) (values_weigh ds)

weight_joined : (vs ws : List Defined) → weight_all (vs ++ ws) ≡ weight_all vs + weight_all ws
weight_joined [] ws = omega arith
weight_joined (v ∷ vs) ws = let h = weight_joined vs ws in omega arith

value_weighs : (n : ℕ) (v : Defined) → ValueFits n v → weight v ≤ n + 1
value_weighs n (Value d) h = omega arith
value_weighs n (Procedure p f b) h = omega arith

definition_weighs : (n : ℕ) (i : Definition) (o : Option Definition) → o ≡ Some i → DefinitionFits n o → weight i.value ≤ n + 1
definition_weighs n i o e f = value_weighs n i.value (subst (DefinitionFits n) e f)

pub found_weighs : {st : State} {c : Context} {ds : datum.Trees} {f : Found} {st' : State} → Scans st c ds f st' → weight_all f.values + size_all f.rest ≤ size_all ds
found_weighs scanned = omega arith
found_weighs (expressions k) = omega arith
found_weighs (a_definition {st = st} {c = c} {d = d} {ds = ds} {es = es} {p = p} {e = e} k i s) =
    let h = found_weighs s in
    let a : size_all es + 2 ≤ size d = subst (KindFits (size d)) k (kind_fits st c d) in
    let w = definition_weighs (size_all es) e (definition_of p es) i (definition_fits p es) in
    omega arith
found_weighs (a_begin {st = st} {c = c} {d = d} {ds = ds} {es = es} {p = p} {e = e} {f = f} k s q t) =
    let g = found_weighs s in
    let h = found_weighs t in
    let a : size_all es + 2 ≤ size d = subst (KindFits (size d)) k (kind_fits st c d) in
    let w = weight_joined e.values f.values in
    omega arith

pub value_smaller : (vs : List DefinedCode) (i : ℕ) (v : DefinedCode) → i + 1 ≤ length vs → v ≡ get_or vs i v → weight (view_defined v) ≤ weight_all (map view_defined vs)
value_smaller [] i v lt is = absurd (omega arith)
value_smaller (x ∷ vs) zero v lt is = let e = ap (λ v. weight (view_defined v)) is in omega arith
value_smaller (x ∷ vs) (suc i) v lt is = let h = value_smaller vs i v (omega arith) is in omega arith
