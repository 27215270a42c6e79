-- The limits while expanding (this project's own): 1,000,000 nodes, 1,000 levels of them, 2^24 variables, 1,000,000
-- static objects of 4,194,304 words.
use Rattle.std.specs.Prelude.{ℕ, ◌+◌, ◌-◌, ◌/◌, ◌%◌, ◌^◌, ◌==◌, ◌&&◌, nat_le, Bool, true, false, cond, List, [], ◌∷◌, ◌++◌, length, bytes_eq}
use Rattle.std.specs.List.{list_any}
use Rattle.tb_prim.specs.declared.place.Place.{Place}
use Rattle.tb_sexp.specs.Tree as datum
use Rattle.tb_expand.specs.Refusals.{Refusal, Budget, TooDeep}
use Rattle.tb_expand.specs.declared.context.Context.{Context}
use Rattle.tb_expand.specs.Scopes.{State}

-- what was made stays within the limits, or the refusal
pub data Limited : Type 0 where
  Within : State → Limited
  Past : Refusal → Limited

-- so many nodes and variables more, at this place
unfoldable pub counted : Place → ℕ → ℕ → State → Limited
counted p n v st =
    cond (nat_le (st.nodes + n) 1000000 && nat_le (st.variables + v) (2 ^ 24))
    (Within (record st { nodes = st.nodes + n; variables = st.variables + v })) (Past (Budget p))

-- the same at an expression that makes a node, so that a level is needed
unfoldable pub opened : Place → ℕ → ℕ → State → Context → Limited
opened p n v st c = cond (c.levels == 0) (Past (TooDeep p)) (counted p n v st)

-- the context of the parts of a node
abbrev pub inner : Context → Context
inner c = record { library = c.library; scope = c.scope; levels = c.levels - 1; is_value = false }

-- the same context in another scope, and as a value or not
abbrev pub within : ℕ → Context → Context
within s c = record { library = c.library; scope = s; levels = c.levels; is_value = c.is_value }

abbrev pub valued : Bool → Context → Context
valued b c = record { library = c.library; scope = c.scope; levels = c.levels; is_value = b }

-- objects start at even words: words with padding
abbrev pub even : ℕ → ℕ
even n = n + n % 2

-- a string or a symbol: a header and four bytes a word
abbrev pub byte_words : List ℕ → ℕ
byte_words s = even (1 + (length s + 3) / 4)

-- one static object more, of so many words
abbrev pub one_object : ℕ → State → State
one_object w st = record st { objects = st.objects + 1; words = st.words + w }

-- a symbol is an object once
abbrev pub symbol_object : Bool → List ℕ → State → State
symbol_object true s st = st
symbol_object false s st = record (one_object (byte_words s) st) { symbols = st.symbols ++ (s ∷ []) }

abbrev pub how_many_data : datum.Trees → ℕ
how_many_data datum.none = 0
how_many_data (datum.more d ds) = how_many_data ds + 1

abbrev mutual
  -- the static objects of a quoted datum: strings, symbols, pairs and vectors
  pub with_objects : datum.Tree → State → State
  with_objects (datum.At p s) st = with_objects_of s st

  pub with_objects_of : datum.Shape → State → State
  with_objects_of datum.Nil st = st
  with_objects_of (datum.Truth b) st = st
  with_objects_of (datum.Fixnum n) st = st
  with_objects_of (datum.Character c) st = st
  with_objects_of (datum.String s) st = one_object (byte_words s) st
  with_objects_of (datum.Name s alias) st = symbol_object (list_any (bytes_eq s) st.symbols) s st
  with_objects_of (datum.Proper ds) st = with_pairs ds st
  with_objects_of (datum.Dotted ds d) st = with_objects d (with_pairs ds st)
  with_objects_of (datum.Vector ds) st = with_each ds (one_object (even (1 + how_many_data ds)) st)

  -- a pair for each element
  pub with_pairs : datum.Trees → State → State
  with_pairs datum.none st = st
  with_pairs (datum.more d ds) st = with_pairs ds (with_objects d (one_object 2 st))

  pub with_each : datum.Trees → State → State
  with_each datum.none st = st
  with_each (datum.more d ds) st = with_each ds (with_objects d st)

-- whether the static objects and their words are within the limits
abbrev pub has_room : State → Bool
has_room st = nat_le st.objects 1000000 && nat_le st.words 4194304

-- the objects of a constant at this place
unfoldable pub with_constant : Place → datum.Shape → State → Limited
with_constant p s st =
    let new = with_objects_of s st in
    cond (has_room new) (Within new) (Past (Budget p))
