-- The A-normal form of a program that has code fits.
use Rattle.std.proofs.Common.{◌≡◌, ap, subst, ℕ, zero, suc, ◌+◌, ◌≤◌, arith, true, List, [], ◌∷◌, ◌++◌, length, Some, slice_get}
use Rattle.std.proofs.lemmas.Bool.{ltb-true}
use Rattle.std.proofs.lemmas.Option.{same_Some}
use Rattle.tb_prim.specs.declared.constant.Const.{Const}
use Rattle.tb_core.specs.Rules.{Every}
use Rattle.tb_ir.specs.AnfRules.{atoms, of_each}
use Rattle.tb_ir.specs.AnfTree.{Op, Operand, Quote, Var}
use Rattle.tb_ir.specs.FreeVariables.{added_to, parameters}
use Rattle.tb_ir.specs.Rules.{IsLambda}
use Rattle.tb_ir.specs.Tree.{LambdaTree, ProgramTree}
use Rattle.tb_anf.specs.Constants.{constant, constants}
use Rattle.tb_codegen.specs.Fits.{IsByte}
use Rattle.tb_passes.specs.Compilable.{is_byte}

every_left : {X : Type 0} (P : X → Type 0) (xs ys : List X) → Every P (xs ++ ys) → Every P xs
every_left P [] ys h = tt
every_left P (x ∷ xs) ys h = (h.0, every_left P xs ys h.1)

every_right : {X : Type 0} (P : X → Type 0) (xs ys : List X) → Every P (xs ++ ys) → Every P ys
every_right P [] ys h = h
every_right P (x ∷ xs) ys h = every_right P xs ys h.1

pub every-at : {X : Type 0} (P : X → Type 0) (xs : List X) (n : ℕ) (x : X) → Every P xs → slice_get xs n ≡ Some x → P x
every-at P [] n x h e = cc
every-at P (y ∷ xs) zero x h e = subst P (same_Some y x e) h.0
every-at P (y ∷ xs) (suc n) x h e = every-at P xs n x h.1 e

abbrev Passes : Const → Type 0
Passes c = is_byte c ≡ true

a_byte : (a : Operand) → Every Passes (constant a) → IsByte a
a_byte (Quote (Const.Char c)) h = ltb-true c 256 h.0
a_byte (Quote (Const.Fix n)) h = tt
a_byte (Quote (Const.Bool b)) h = tt
a_byte (Quote Const.Nil) h = tt
a_byte (Quote Const.Unspecified) h = tt
a_byte (Quote Const.Undefined) h = tt
a_byte (Quote (Const.Stat n)) h = tt
a_byte (Var x) h = tt

atoms_bytes : (as' : List Operand) → Every Passes (of_each constant as') → Every IsByte as'
atoms_bytes [] h = tt
atoms_bytes (a ∷ as') h = (a_byte a (every_left Passes (constant a) _ h), atoms_bytes as' (every_right Passes (constant a) _ h))

pub all-bytes : (ops : List Op) → Every Passes (of_each constants ops) → Every (λ op. Every IsByte (atoms op)) ops
all-bytes [] h = tt
all-bytes (op ∷ ops) h =
    (atoms_bytes (atoms op) (every_left Passes (constants op) _ h), all-bytes ops (every_right Passes (constants op) _ h))

-- parameters with those that are added, where no lambda expression is lifted
pub parameters-few : (p : ProgramTree) → p.set ≡ [] → Every (λ (l : LambdaTree). length (parameters l) ≤ 12) p.lambdas →
    (l : ℕ) (m : LambdaTree) → IsLambda p l m → length (parameters m) + length (added_to p.set l) ≤ 12
parameters-few p e h l m i =
    let few : length (parameters m) ≤ 12 = every-at (λ (k : LambdaTree). length (parameters k) ≤ 12) p.lambdas l m h i in
    let none : length (added_to p.set l) ≡ 0 = ap (λ s. length (added_to s l)) e in omega arith
