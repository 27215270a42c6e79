-- Items of bodies by their elements.
use Rattle.std.proofs.Common.{◌≡◌, refl, sym, ap, ◌+◌, ◌≤◌, arith, false, Option, Some, None}
use Rattle.tb_sexp.specs.Tree as datum
use Rattle.tb_expand.specs.declared.context.Context.{Context}
use Rattle.tb_expand.specs.Scopes.{State}
use Rattle.tb_expand.specs.Shapes.{elements_of}
use Rattle.tb_expand.specs.Bodies.{defines, defines_in}
use Rattle.tb_expand.proofs.Sizes.{size, size_all}

abbrev elements_or : datum.Trees → Option datum.Trees → datum.Trees
elements_or ds None = ds
elements_or ds (Some es) = es

pub elements_define : (st : State) (c : Context) (d : datum.Tree) (ds : datum.Trees) → elements_of d ≡ Some ds → defines_in st c ds ≡ defines st c d
elements_define st c (datum.At p datum.Nil) ds e = ap (λ o. defines_in st c (elements_or ds o)) (sym e)
elements_define st c (datum.At p (datum.Proper es)) ds e = ap (λ o. defines_in st c (elements_or ds o)) (sym e)
elements_define st c (datum.At p (datum.Truth b)) ds e = cc
elements_define st c (datum.At p (datum.Fixnum n)) ds e = cc
elements_define st c (datum.At p (datum.Character n)) ds e = cc
elements_define st c (datum.At p (datum.String s)) ds e = cc
elements_define st c (datum.At p (datum.Name s alias)) ds e = cc
elements_define st c (datum.At p (datum.Dotted es d)) ds e = cc
elements_define st c (datum.At p (datum.Vector es)) ds e = cc

pub nothing_defines : (st : State) (c : Context) (d : datum.Tree) → elements_of d ≡ None → false ≡ defines st c d
nothing_defines st c (datum.At p datum.Nil) e = cc
nothing_defines st c (datum.At p (datum.Proper es)) e = cc
nothing_defines st c (datum.At p (datum.Truth b)) e = refl
nothing_defines st c (datum.At p (datum.Fixnum n)) e = refl
nothing_defines st c (datum.At p (datum.Character n)) e = refl
nothing_defines st c (datum.At p (datum.String s)) e = refl
nothing_defines st c (datum.At p (datum.Name s alias)) e = refl
nothing_defines st c (datum.At p (datum.Dotted es d)) e = refl
nothing_defines st c (datum.At p (datum.Vector es)) e = refl

pub elements_smaller : (d : datum.Tree) (ds : datum.Trees) → elements_of d ≡ Some ds → size_all ds + 1 ≤ size d
elements_smaller (datum.At p datum.Nil) ds e = let t = ap (λ o. size_all (elements_or ds o)) e in omega arith
elements_smaller (datum.At p (datum.Proper es)) ds e = let t = ap (λ o. size_all (elements_or ds o)) e in omega arith
elements_smaller (datum.At p (datum.Truth b)) ds e = cc
elements_smaller (datum.At p (datum.Fixnum n)) ds e = cc
elements_smaller (datum.At p (datum.Character n)) ds e = cc
elements_smaller (datum.At p (datum.String s)) ds e = cc
elements_smaller (datum.At p (datum.Name s alias)) ds e = cc
elements_smaller (datum.At p (datum.Dotted es d)) ds e = cc
elements_smaller (datum.At p (datum.Vector es)) ds e = cc
