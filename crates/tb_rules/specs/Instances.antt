-- What a template makes of the parts of a binding (R5RS 4.3.2): parts stand for variables, an element with an ellipsis
-- is repeated once for each part, and each other name gets an alias of its own.
use Rattle.std.specs.Prelude.{ℕ, zero, suc, ◌+◌, ◌==◌, ◌&&◌, ◌||◌, Bool, true, false, cond, List, [], ◌∷◌, ◌++◌, Option, Some, None}
use Rattle.tb_prim.specs.declared.place.Place.{Place}
use Rattle.tb_sexp.specs.Tree.{Tree, At, Shape, Nil, Truth, Fixnum, Character, String, Name, Proper, Dotted, Vector, Trees, none, more}
use Rattle.tb_sexp.specs.ListShapes.{list_of, dotted}
use Rattle.tb_rules.specs.Names.{Variable, same_name, is_ellipsis, begin_with_ellipsis}
use Rattle.tb_rules.specs.Parts.{Part, One, Many, Parts, nothing, part}

-- a variable and its part
pub record Value : Type 0 where
  pub text : List ℕ
  pub alias : ℕ
  pub bound : Part

abbrev pub values : List Variable → Parts → List Value
values [] xs = []
values (v ∷ vs) nothing = []
values (v ∷ vs) (part x xs) = record { text = v.text; alias = v.alias; bound = x } ∷ values vs xs

abbrev pub bound_of : List Value → List ℕ → ℕ → Option Part
bound_of [] s a = None
bound_of (v ∷ vs) s a = cond (same_name s a v.text v.alias) (Some v.bound) (bound_of vs s a)

-- whether a name stands in a datum
abbrev mutual
  pub holds : List ℕ → ℕ → Tree → Bool
  holds s a (At p t) = shape_holds s a t

  pub shape_holds : List ℕ → ℕ → Shape → Bool
  shape_holds s a Nil = false
  shape_holds s a (Truth b) = false
  shape_holds s a (Fixnum z) = false
  shape_holds s a (Character c) = false
  shape_holds s a (String t) = false
  shape_holds s a (Name t b) = same_name s a t b
  shape_holds s a (Proper ds) = some_holds s a ds
  shape_holds s a (Dotted ds d) = some_holds s a ds || holds s a d
  shape_holds s a (Vector ds) = false

  pub some_holds : List ℕ → ℕ → Trees → Bool
  some_holds s a none = false
  some_holds s a (more d ds) = holds s a d || some_holds s a ds

-- the values of the variables that stand in a part of a template
abbrev pub used_in : Tree → List Value → List Value
used_in t [] = []
used_in t (v ∷ vs) = cond (holds v.text v.alias t) (v ∷ used_in t vs) (used_in t vs)

abbrev pub count : Parts → ℕ
count nothing = 0
count (part x xs) = count xs + 1

abbrev pub part_count : Part → ℕ
part_count (One d) = 0
part_count (Many xs) = count xs

abbrev pub have_count : ℕ → List Value → Bool
have_count n [] = true
have_count n (v ∷ vs) = (part_count v.bound == n) && have_count n vs

-- how many times an element with these variables is repeated: None where their counts differ
abbrev pub times : List Value → Option ℕ
times [] = Some 0
times (v ∷ vs) = cond (have_count (part_count v.bound) vs) (Some (part_count v.bound)) None

abbrev pub first_of : Part → Part
first_of (One d) = One d
first_of (Many nothing) = Many nothing
first_of (Many (part x xs)) = x

abbrev pub others_of : Part → Part
others_of (One d) = One d
others_of (Many nothing) = Many nothing
others_of (Many (part x xs)) = Many xs

abbrev pub each_value : (Part → Part) → List Value → List Value
each_value f [] = []
each_value f (v ∷ vs) = record { text = v.text; alias = v.alias; bound = f v.bound } ∷ each_value f vs

abbrev pub put : Option Tree → Option (List Tree) → Option (List Tree)
put None ds = None
put (Some d) None = None
put (Some d) (Some ds) = Some (d ∷ ds)

abbrev pub join : Option (List Tree) → Option (List Tree) → Option (List Tree)
join None es = None
join (Some ds) None = None
join (Some ds) (Some es) = Some (ds ++ es)

-- an element so many times, each time with the next parts
abbrev pub repeated : ℕ → (List Value → Option Tree) → List Value → Option (List Tree)
repeated zero f vs = Some []
repeated (suc n) f vs = put (f (each_value first_of vs)) (repeated n f (each_value others_of vs))

abbrev pub repeated_times : Option ℕ → (List Value → Option Tree) → List Value → Option (List Tree)
repeated_times None f vs = None
repeated_times (Some n) f vs = repeated n f vs

abbrev pub in_list : Place → Option (List Tree) → Option Tree
in_list q None = None
in_list q (Some ds) = Some (At q (list_of ds))

-- in front of a tail; where there is nothing in front, the tail itself
abbrev pub in_front_of : Place → List Tree → Tree → Tree
in_front_of q [] t = t
in_front_of q (d ∷ ds) t = At q (dotted (d ∷ ds) t)

abbrev pub in_dotted : Place → Option (List Tree) → Option Tree → Option Tree
in_dotted q None t = None
in_dotted q (Some ds) None = None
in_dotted q (Some ds) (Some t) = Some (in_front_of q ds t)

abbrev pub datum_of : Option Part → Tree → Option Tree
datum_of None d = Some d
datum_of (Some (One d)) e = Some d
datum_of (Some (Many xs)) e = None

-- what a template makes at a place, with `alias` for the names that it inserts; None where counts under one ellipsis
-- differ
abbrev mutual
  pub made : (List ℕ → ℕ → ℕ) → Place → Tree → List Value → Option Tree
  made alias q (At p s) vs = shape_made alias q s vs

  pub shape_made : (List ℕ → ℕ → ℕ) → Place → Shape → List Value → Option Tree
  shape_made alias q Nil vs = Some (At q Nil)
  shape_made alias q (Truth b) vs = Some (At q (Truth b))
  shape_made alias q (Fixnum z) vs = Some (At q (Fixnum z))
  shape_made alias q (Character c) vs = Some (At q (Character c))
  shape_made alias q (String t) vs = Some (At q (String t))
  shape_made alias q (Name t a) vs = datum_of (bound_of vs t a) (At q (Name t (alias t a)))
  shape_made alias q (Proper ts) vs = in_list q (all_made alias q ts vs)
  shape_made alias q (Dotted ts t) vs = in_dotted q (all_made alias q ts vs) (made alias q t vs)
  shape_made alias q (Vector ts) vs = None

  pub all_made : (List ℕ → ℕ → ℕ) → Place → Trees → List Value → Option (List Tree)
  all_made alias q none vs = Some []
  all_made alias q (more t ts) vs = cond (is_ellipsis t) (all_made alias q ts vs)
      (join (cond (begin_with_ellipsis ts)
      (repeated_times (times (used_in t vs)) (λ ws. made alias q t ws) (used_in t vs))
      (put (made alias q t vs) (Some [])))
      (all_made alias q ts vs))

-- a name that stands in a template
pub record Word : Type 0 where
  pub text : List ℕ
  pub alias : ℕ

-- the names in a template, in written order
abbrev mutual
  pub words : Tree → List Word
  words (At p s) = shape_words s

  pub shape_words : Shape → List Word
  shape_words Nil = []
  shape_words (Truth b) = []
  shape_words (Fixnum z) = []
  shape_words (Character c) = []
  shape_words (String t) = []
  shape_words (Name t a) = record { text = t; alias = a } ∷ []
  shape_words (Proper ds) = all_words ds
  shape_words (Dotted ds d) = all_words ds ++ words d
  shape_words (Vector ds) = []

  pub all_words : Trees → List Word
  all_words none = []
  all_words (more d ds) = words d ++ all_words ds
