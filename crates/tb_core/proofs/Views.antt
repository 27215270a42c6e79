-- The plain data of an expression, by its form.
use Rattle.std.proofs.Common.{◌≡◌, refl, sym, ap, ◌∙◌, ℕ, List, [], ◌∷◌, map, length, arith}
use Rattle.std.proofs.lemmas.Grind.{common_steps}
use Rattle.tb_prim.specs.declared.constant.Const.{Const}
use Rattle.tb_prim.specs.declared.primitive.Primitive.{Primitive}
use Rattle.tb_core.specs.declared.expr.Core.TheOpen.{Core-F}
use Rattle.tb_core.specs.declared.expr.Core.TheVariants as code
use Rattle.tb_core.specs.declared.expr.Core.TheVariants.{rolls-Quote, rolls-Local, rolls-Global, rolls-Lambda, rolls-If, rolls-SetLocal, rolls-SetGlobal, rolls-DefGlobal, rolls-Let, rolls-Letrec, rolls-Seq, rolls-Call, rolls-Prim, rolls-Apply}
use Rattle.tb_core.specs.declared.expr.Core.TheFolds.{fold-roll-Core, fold_out-Expr}
use Rattle.tb_core.specs.declared.expr.Expr.{Expr}
use Rattle.tb_core.specs.Plain.{view, view_core, view_in, view_at, trees}
use Rattle.tb_core.specs.Tree.{Tree, Node, Form, Quote, Local, Global, Lambda, If, SetLocal, SetGlobal, DefGlobal, Let, Letrec, Seq, Call, PrimUse, Apply, count}

pub view_node : (e : Expr) → view e ≡ Node e.place e.site (view_core e.core)
view_node e = fold_out-Expr Form Tree view_in view_at e

pub view_quote : (c : Const) → view_core (code.Quote c) ≡ Quote c
view_quote c = ap view_core (sym (rolls-Quote c)) ∙ fold-roll-Core Form Tree view_in view_at (Core-F.Quote c)

pub view_local : (x : ℕ) → view_core (code.Local x) ≡ Local x
view_local x = ap view_core (sym (rolls-Local x)) ∙ fold-roll-Core Form Tree view_in view_at (Core-F.Local x)

pub view_global : (g : ℕ) → view_core (code.Global g) ≡ Global g
view_global g = ap view_core (sym (rolls-Global g)) ∙ fold-roll-Core Form Tree view_in view_at (Core-F.Global g)

pub view_lambda : (l : ℕ) → view_core (code.Lambda l) ≡ Lambda l
view_lambda l = ap view_core (sym (rolls-Lambda l)) ∙ fold-roll-Core Form Tree view_in view_at (Core-F.Lambda l)

pub view_if : (a b c : Expr) → view_core (code.If a b c) ≡ If (view a) (view b) (view c)
view_if a b c = ap view_core (sym (rolls-If a b c)) ∙ fold-roll-Core Form Tree view_in view_at (Core-F.If a b c)

pub view_set_local : (x : ℕ) (e : Expr) → view_core (code.SetLocal x e) ≡ SetLocal x (view e)
view_set_local x e = ap view_core (sym (rolls-SetLocal x e)) ∙ fold-roll-Core Form Tree view_in view_at (Core-F.SetLocal x e)

pub view_set_global : (g : ℕ) (e : Expr) → view_core (code.SetGlobal g e) ≡ SetGlobal g (view e)
view_set_global g e = ap view_core (sym (rolls-SetGlobal g e)) ∙ fold-roll-Core Form Tree view_in view_at (Core-F.SetGlobal g e)

pub view_def_global : (g : ℕ) (e : Expr) → view_core (code.DefGlobal g e) ≡ DefGlobal g (view e)
view_def_global g e = ap view_core (sym (rolls-DefGlobal g e)) ∙ fold-roll-Core Form Tree view_in view_at (Core-F.DefGlobal g e)

pub view_let : (xs : List ℕ) (es : List Expr) (e : Expr) → view_core (code.Let xs es e) ≡ Let xs (trees (map view es)) (view e)
view_let xs es e = ap view_core (sym (rolls-Let xs es e)) ∙ fold-roll-Core Form Tree view_in view_at (Core-F.Let xs es e)

pub view_letrec : (xs ls : List ℕ) (e : Expr) → view_core (code.Letrec xs ls e) ≡ Letrec xs ls (view e)
view_letrec xs ls e = ap view_core (sym (rolls-Letrec xs ls e)) ∙ fold-roll-Core Form Tree view_in view_at (Core-F.Letrec xs ls e)

pub view_seq : (es : List Expr) → view_core (code.Seq es) ≡ Seq (trees (map view es))
view_seq es = ap view_core (sym (rolls-Seq es)) ∙ fold-roll-Core Form Tree view_in view_at (Core-F.Seq es)

pub view_call : (f : Expr) (es : List Expr) → view_core (code.Call f es) ≡ Call (view f) (trees (map view es))
view_call f es = ap view_core (sym (rolls-Call f es)) ∙ fold-roll-Core Form Tree view_in view_at (Core-F.Call f es)

pub view_prim : (p : Primitive) (es : List Expr) → view_core (code.Prim p es) ≡ PrimUse p (trees (map view es))
view_prim p es = ap view_core (sym (rolls-Prim p es)) ∙ fold-roll-Core Form Tree view_in view_at (Core-F.Prim p es)

pub view_apply : (f l : Expr) → view_core (code.Apply f l) ≡ Apply (view f) (view l)
view_apply f l = ap view_core (sym (rolls-Apply f l)) ∙ fold-roll-Core Form Tree view_in view_at (Core-F.Apply f l)

pub count_view : (es : List Expr) → count (trees (map view es)) ≡ length es
count_view [] = refl
count_view (e ∷ es) = let h = count_view es in omega arith

-- a `letrec` as a tree
pub letrec_tree : (e : Expr) (xs ls : List ℕ) (b : Expr) → e.core ≡ code.Letrec xs ls b → view e ≡ Node e.place e.site (Letrec xs ls (view b))
letrec_tree e xs ls b h = view_node e ∙ ap (Node e.place e.site) (ap view_core h ∙ view_letrec xs ls b)

pub ruleset viewed = (view_node, view_quote, view_local, view_global, view_lambda, view_if, view_set_local, view_set_global, view_def_global, view_let, view_letrec, view_seq, view_call, view_prim, view_apply, count_view)

pub ruleset viewing = (common_steps, arith, viewed)
