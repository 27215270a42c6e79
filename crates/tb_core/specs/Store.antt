-- The store: locations map to items. A value takes one word.
use Rattle.std.specs.Prelude.{ℕ, ◌+◌, suc, ℤ, Bool, cond, ◌==◌, List, [], ◌∷◌, length, map, Option, Some, None, slice_get}
use Rattle.tb_prim.specs.declared.constant.Const.{Const}
use Rattle.tb_prim.specs.declared.constant.Static.{Static}
use Rattle.tb_core.specs.FreeVariables.{is_in}

-- a value: a constant, or a location
pub data Value : Type 0 where
  Fix : ℤ → Value
  Char : ℕ → Value
  Truth : Bool → Value
  Nil : Value
  Unspecified : Value
  Undefined : Value
  EndObject : Value
  At : ℕ → Value

-- an object: a pair, a vector, a string or a symbol
pub data Object : Type 0 where
  Pair : Value → Value → Object
  Vec : List Value → Object
  Str : List ℕ → Object
  Sym : List ℕ → Object

-- what a store has at a location, as the primitives see it: an object, a procedure, or what no value names
pub data Content : Type 0 where
  Holds : Object → Content
  Procedure : Content
  Other : Content

-- an environment maps variables to locations, the newest first
pub data Env : Type 0 where
  Empty : Env
  Bind : ℕ → ℕ → Env → Env

-- an item: a variable with what it holds, an object, or a procedure
pub data Item : Type 0 where
  Var : Value → Item
  Obj : Object → Item
  Clo : ℕ → Env → Item

-- what the items of a store are to the primitives
abbrev pub content_of : Option Item → Content
content_of None = Other
content_of (Some (Var v)) = Other
content_of (Some (Obj o)) = Holds o
content_of (Some (Clo l r)) = Procedure

abbrev pub contents : List Item → ℕ → Content
contents st l = content_of (slice_get st l)

-- the location of a variable
abbrev pub lookup : Env → ℕ → Option ℕ
lookup Empty x = None
lookup (Bind y l r) x = cond (y == x) (Some l) (lookup r x)

-- an environment with the variables of the list alone
abbrev pub cut : List ℕ → Env → Env
cut xs Empty = Empty
cut xs (Bind y l r) = cond (is_in xs y) (Bind y l (cut xs r)) (cut xs r)

-- the variables, bound to locations that follow one another
abbrev pub bind_from : List ℕ → ℕ → Env → Env
bind_from [] l r = r
bind_from (x ∷ xs) l r = Bind x l (bind_from xs (suc l) r)

-- how many variables an environment has
abbrev pub env_size : Env → ℕ
env_size Empty = 0
env_size (Bind x l r) = suc (env_size r)

-- the flat size of an item, in words (Clinger 1998, for flat closures)
abbrev pub object_size : Object → ℕ
object_size (Pair a b) = 3
object_size (Vec vs) = length vs + 1
object_size (Str cs) = length cs + 1
object_size (Sym cs) = length cs + 1

abbrev pub flat_size : Item → ℕ
flat_size (Var v) = 2
flat_size (Obj o) = object_size o
flat_size (Clo l r) = 1 + env_size r

-- the value of a constant; the static objects have the first locations
abbrev pub value_of : Const → Value
value_of (Const.Fix n) = Fix n
value_of (Const.Char c) = Char c
value_of (Const.Bool b) = Truth b
value_of Const.Nil = Nil
value_of Const.Unspecified = Unspecified
value_of Const.Undefined = Undefined
value_of (Const.Stat n) = At n

-- a static object, and its item
abbrev pub static_object : Static → Object
static_object (Static.Pair a b) = Pair (value_of a) (value_of b)
static_object (Static.Vector cs) = Vec (map value_of cs)
static_object (Static.Str bs) = Str bs
static_object (Static.Sym bs) = Sym bs

abbrev pub static_item : Static → Item
static_item s = Obj (static_object s)
