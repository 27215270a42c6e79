-- Items of the machine of values, and what was made.
use Rattle.std.proofs.Common.{◌≡◌, ◌≤◌, sym, ap, ◌∙◌, ℕ, zero, suc, ◌+◌, arith, List, [], ◌∷◌, ◌++◌, Option, Some, None, slice_get, slice_set}
use Rattle.std.proofs.lemmas.Option.{same_Some}
use Rattle.tb_core.specs.Store.{Object, Holds}
use Rattle.tb_ir.specs.Machine.{Item, Cell, Obj, Clo, content_of}
use Rattle.tb_ir.specs.Space.{closures_in, words_in, made}

-- where the primitives see an object stands its item
pub content-object : (i : Option Item) (o : Object) → content_of i ≡ Holds o → i ≡ Some (Obj o)
content-object None o e = cc
content-object (Some (Cell v)) o e = cc
content-object (Some (Obj n)) o e = let h : n ≡ o = cc in ap (λ x. Some (Obj x)) h
content-object (Some (Clo m r)) o e = cc

pub made-append : (st is : List Item) → made st ≤ made (st ++ is)
made-append [] is = omega arith
made-append (i ∷ st) is = let h = made-append st is in omega arith

-- an item that is changed into another of its size
pub made-set : (st : List Item) (l : ℕ) (old i : Item) → slice_get st l ≡ Some old →
    closures_in old + words_in old ≡ closures_in i + words_in i → made (slice_set st l i) ≡ made st
made-set [] l old i e s = cc
made-set (x ∷ st) zero old i e s = ap (λ n. n + made st)
    (sym s ∙ sym (ap (λ j. closures_in j + words_in j) (same_Some x old e)))
made-set (x ∷ st) (suc l) old i e s = ap (λ n. (closures_in x + words_in x) + n) (made-set st l old i e s)
