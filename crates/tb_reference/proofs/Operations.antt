-- What primitives and walks of lists give of locations that are there is there: their part of two alike stores, where each
-- location is its own partner.
use Rattle.std.proofs.Common.{◌≡◌, refl, ap, ◌∙◌, subst, ℕ, ◌<◌, ◌==◌, List, [], ◌∷◌, Option, Some, None, slice_get}
use Rattle.tb_prim.specs.declared.primitive.Primitive.{Primitive}
use Rattle.tb_core.specs.Tree.{ProgramTree}
use Rattle.tb_core.specs.Store.{Value, Fix, Char, Truth, Nil, Unspecified, Undefined, EndObject, At, Object, Pair, Vec, Str, Sym, Item, Var, Obj, Clo, content_of, contents}
use Rattle.tb_core.specs.Effects.{effect_of}
use Rattle.tb_core.specs.Lists.{walked}
use Rattle.tb_core.specs.Partners.{AlikeValues, fix, char, truth, nil, unspecified, undefined, end_object, at, AlikeLists, nothing, further, AlikeObjects, pair, vec, str, sym, AlikeContents, holds, procedure, other, AlikeEffects, AlikeWalks, Partnered}
use Rattle.tb_core.specs.Rules.{Every}
use Rattle.tb_core.proofs.Partners.{same-effect, same-walk}
use Rattle.tb_reference.proofs.Everies.{IfThere, every-at}
use Rattle.tb_reference.proofs.Named.{ValueIn, ObjectIn, ItemIn}

-- a location that is there is its own partner
abbrev pub Own : ℕ → ℕ → ℕ → Type 0
Own n a b = (a ≡ b) × (a < n)

own_value : (n : ℕ) (v : Value) → ValueIn n v → AlikeValues (Own n) (Unit {0}) v v
own_value n (Fix k) h = fix
own_value n (Char k) h = char
own_value n (Truth b) h = truth
own_value n Nil h = nil
own_value n Unspecified h = unspecified
own_value n Undefined h = undefined tt
own_value n EndObject h = end_object
own_value n (At l) h = at (refl, h)

own_values : (n : ℕ) (vs : List Value) → Every (ValueIn n) vs → AlikeLists (Own n) (Unit {0}) vs vs
own_values n [] h = nothing
own_values n (v ∷ vs) h = further (own_value n v h.0) (own_values n vs h.1)

own_object : (n : ℕ) (o : Object) → ObjectIn n o → AlikeObjects (Own n) (Unit {0}) o o
own_object n (Pair a b) h = pair (own_value n a h.0) (own_value n b h.1)
own_object n (Vec vs) h = vec (own_values n vs h)
own_object n (Str cs) h = str
own_object n (Sym cs) h = sym

own_content : (p : ProgramTree) (n : ℕ) (o : Option Item) → IfThere (ItemIn p n) o →
    AlikeContents (Own n) (Unit {0}) (content_of o) (content_of o)
own_content p n None h = other
own_content p n (Some (Var v)) h = other
own_content p n (Some (Obj o)) h = holds (own_object n o h)
own_content p n (Some (Clo m r)) h = procedure

own_store : (p : ProgramTree) (n : ℕ) (st : List Item) → Every (ItemIn p n) st →
    Partnered (Own n) (Unit {0}) (contents st) (contents st)
own_store p n st h = record {
  one_to_one = λ a b c d q r. ap (λ x. x == b) q.0 ∙ ap (λ x. c == x) r.0;
  alike = λ a c q. subst (λ x. AlikeContents (Own n) (Unit {0}) (contents st a) (contents st x)) q.0
      (own_content p n (slice_get st a) (every-at (ItemIn p n) st a h));
}

pub own-effect : (p : ProgramTree) (n : ℕ) (st : List Item) (q : Primitive) (vs : List Value) → Every (ItemIn p n) st →
    Every (ValueIn n) vs →
    AlikeEffects (Own n) (Unit {0}) (effect_of (contents st) q vs) (effect_of (contents st) q vs)
own-effect p n st q vs h k = same-effect (Own n) (Unit {0}) (contents st) (contents st) (own_store p n st h) q (own_values n vs k)

pub own-walk : (p : ProgramTree) (n : ℕ) (st : List Item) (k : ℕ) (v : Value) → Every (ItemIn p n) st → ValueIn n v →
    AlikeWalks (Own n) (Unit {0}) (walked (contents st) k v) (walked (contents st) k v)
own-walk p n st k v h i = same-walk (Own n) (Unit {0}) (contents st) (contents st) (own_store p n st h) k (own_value n v i)

-- what has a partner is there
pub value-there : (n : ℕ) {v w : Value} → AlikeValues (Own n) (Unit {0}) v w → ValueIn n v
value-there n (at h) = h.1
value-there n _ = tt

pub values-there : (n : ℕ) {vs ws : List Value} → AlikeLists (Own n) (Unit {0}) vs ws → Every (ValueIn n) vs
values-there n nothing = tt
values-there n (further r rs) = (value-there n r, values-there n rs)

pub object-there : (n : ℕ) {o w : Object} → AlikeObjects (Own n) (Unit {0}) o w → ObjectIn n o
object-there n (pair r s) = (value-there n r, value-there n s)
object-there n (vec rs) = values-there n rs
object-there n str = tt
object-there n sym = tt
