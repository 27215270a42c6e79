-- Lists in a store that tells what it has at a location: the list that an `apply` walks, and the new list of a
-- rest parameter.
use Rattle.std.specs.Prelude.{ℕ, zero, suc, List, [], ◌∷◌}
use Rattle.tb_core.specs.Store.{Value, Nil, At, Object, Pair, Content, Holds, Other}

-- the list that an `apply` walks: its elements, or a list past twelve elements, or no list
pub data Walked : Type 0 where
  Elements : List Value → Walked
  TooLong : Walked
  NoList : Walked

abbrev pub with_element : Value → Walked → Walked
with_element v (Elements vs) = Elements (v ∷ vs)
with_element v TooLong = TooLong
with_element v NoList = NoList

abbrev pub ends_list : Value → Walked
ends_list Nil = Elements []
ends_list _ = NoList

-- where no more elements are allowed: a further pair is one too many
abbrev pub walked_at_limit : Value → Content → Walked
walked_at_limit v (Holds (Pair a b)) = TooLong
walked_at_limit v _ = ends_list v

abbrev pub content_at : (ℕ → Content) → Value → Content
content_at st (At l) = st l
content_at st _ = Other

-- a pair is an element and what `rest` finds in its cdr
abbrev pub walked_pair : (Value → Walked) → Value → Content → Walked
walked_pair rest v (Holds (Pair a b)) = with_element a (rest b)
walked_pair rest v _ = ends_list v

-- the walk of a list that may have so many more elements
abbrev pub walked : (ℕ → Content) → ℕ → Value → Walked
walked st zero v = walked_at_limit v (content_at st v)
walked st (suc n) v = walked_pair (walked st n) v (content_at st v)

-- the pairs of a list that is newly made, at locations that follow one another, and the list
abbrev pub list_objects : List Value → ℕ → List Object
list_objects [] l = []
list_objects (v ∷ []) l = Pair v Nil ∷ []
list_objects (v ∷ w ∷ ws) l = Pair v (At (suc l)) ∷ list_objects (w ∷ ws) (suc l)

abbrev pub list_value : List Value → ℕ → Value
list_value [] l = Nil
list_value (v ∷ vs) l = At l
